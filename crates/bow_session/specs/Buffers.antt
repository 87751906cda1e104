-- The buffers of requests: what is kept of an answered one, and what a lane lends to its writes.
use Rattle.std.specs.Prelude.{◌≡◌, ◌≢◌, ℕ, ◌*◌, ◌≤◌, List, [], length, slice_get, slice_set, Option, None, Some}
use Rattle.bow_units.specs.declared.sizes.Geometry.{Geometry}
use Rattle.bow_units.specs.declared.requests.Op.{Op}
use Rattle.bow_units.specs.declared.requests.Op.TheVariants.{Read, Write, Discard, Flush, Prepare, Commit}
use Rattle.bow_machine.specs.MemoryIsSound.{IsAdmissible}

-- what is kept of a request: the buffer of a read
abbrev pub kept_of : Op → Option (List ℕ)
kept_of (Read e bytes) = Some bytes
kept_of (Write e bytes) = None
kept_of (Discard e) = None
kept_of Flush = None
kept_of Prepare = None
kept_of Commit = None

-- the request that is asked for, a read with this buffer
abbrev pub with_buffer : Op → Option (List ℕ) → Op
with_buffer (Read e bytes) (Some buffer) = Read e buffer
with_buffer asked buffer = asked

-- a read has a buffer of its length, and no other request has one
abbrev pub IsKeptFor : Geometry → Op → Option (List ℕ) → Type 0
IsKeptFor g (Read e bytes) (Some buffer) = length buffer ≡ e.count * g.block_size
IsKeptFor g (Read e bytes) None = ⊥
IsKeptFor g asked (Some buffer) = ⊥
IsKeptFor g asked None = Unit {0}

-- the device takes it in, a read once it has its buffer
abbrev pub IsAskable : Geometry → Op → Type 0
IsAskable g (Read e bytes) = (1 ≤ e.count) × (e.count ≤ 16)
IsAskable g asked = IsAdmissible g asked

-- what stands in the buffer of an answered request: what a write was asked to write, and what a read has read
abbrev pub buffer_kept : Option Op → Option (Option (List ℕ)) → List ℕ
buffer_kept asked None = []
buffer_kept (Some (Write e bytes)) (Some kept) = bytes
buffer_kept asked (Some None) = []
buffer_kept asked (Some (Some bytes)) = bytes

-- how many blocks are lent to a request: those of a write
abbrev pub lent_to : Op → ℕ
lent_to (Write e bytes) = e.count
lent_to (Read e bytes) = 0
lent_to (Discard e) = 0
lent_to Flush = 0
lent_to Prepare = 0
lent_to Commit = 0

-- a buffer of this length is there
abbrev pub IsThere : ℕ → Option (Option (List ℕ)) → Type 0
IsThere len (Some (Some bytes)) = length bytes ≡ len
IsThere len (Some None) = ⊥
IsThere len None = ⊥

-- A lane has a buffer for a write of each number of blocks, but for the number that is lent.
pub record HasBuffers (size lent : ℕ) (buffers : List (Option (List ℕ))) : Type 0 where
  pub many : length buffers ≡ 17
  pub each : (count : ℕ) → 1 ≤ count → count ≤ 16 → count ≢ lent → IsThere (count * size) (slice_get buffers count)

-- the buffers once that of a write is lent
abbrev pub without_lent : Op → List (Option (List ℕ)) → List (Option (List ℕ))
without_lent (Write e bytes) buffers = slice_set buffers e.count None
without_lent (Read e bytes) buffers = buffers
without_lent (Discard e) buffers = buffers
without_lent Flush buffers = buffers
without_lent Prepare buffers = buffers
without_lent Commit buffers = buffers

-- the buffers once a write's buffer was handed back
abbrev pub given_back : Op → List (Option (List ℕ)) → List (Option (List ℕ))
given_back (Write e bytes) buffers = slice_set buffers e.count (Some bytes)
given_back (Read e bytes) buffers = buffers
given_back (Discard e) buffers = buffers
given_back Flush buffers = buffers
given_back Prepare buffers = buffers
given_back Commit buffers = buffers
