-- The tests that each request has to pass. The requests that wait are the queue's.
use Rattle.std.specs.Prelude.{ℕ, ◌==◌, ◌&&◌, ◌||◌, Bool, true, false, if◌then◌else◌, List, [], ◌∷◌, Option, Some, None}
use Rattle.bow_units.specs.declared.sizes.Geometry.{Geometry}
use Rattle.bow_units.specs.declared.sizes.Extent.{Extent}
use Rattle.bow_units.specs.declared.requests.Op.{Op}
use Rattle.bow_units.specs.declared.requests.Op.TheVariants.{Read, Write, Discard, Flush, Prepare, Commit}
use Rattle.bow_units.specs.declared.requests.Phase.{Phase}
use Rattle.bow_units.specs.declared.requests.Phase.TheVariants.{Trim, Arming, Checkpoint, Deciding, Committed}
use Rattle.bow_units.specs.declared.requests.Outcome.{Outcome}
use Rattle.bow_units.specs.declared.requests.Outcome.TheVariants.{OutOfRange, ReservedMagic, Unsettled}
use Rattle.bow_units.specs.Magics.{log_magic, restoring_magic}
use Rattle.bow_queue.specs.Extents.{is_on_device}
pub use Rattle.bow_queue.specs.declared.requests.Request.{Request}
pub use Rattle.bow_queue.specs.Requests.{request_of, without_request, with_request, filled, payload_of, with_read, first_of}

-- the bytes begin so
abbrev pub begins : List ℕ → List ℕ → Bool
begins [] bytes = true
begins (x ∷ xs) [] = false
begins (x ∷ xs) (y ∷ ys) = x == y && begins xs ys

-- the bytes begin with one of the two magics
abbrev pub has_magic : List ℕ → Bool
has_magic bytes = begins log_magic bytes || begins restoring_magic bytes

-- a write of block 0 that begins with a magic
abbrev pub is_reserved : Extent → List ℕ → Bool
is_reserved e payload = e.first == 0 && has_magic payload

-- in Arming and Deciding nothing but a read or a command is done
abbrev pub unsettled : Phase → Option Outcome
unsettled Trim = None
unsettled Arming = Some (Unsettled Arming)
unsettled Checkpoint = None
unsettled Deciding = Some (Unsettled Deciding)
unsettled Committed = None

-- The three tests, in their order: a block that is not on the device, a reserved magic, an unsettled phase. A read is
-- tested for the first alone, and a command for none.
abbrev pub refusal : Geometry → Phase → Op → Option Outcome
refusal g phase (Read e p) = if is_on_device g.blocks e then None else Some OutOfRange
refusal g phase (Write e p) =
    if is_on_device g.blocks e then (if is_reserved e p then Some ReservedMagic else unsettled phase)
    else Some OutOfRange
refusal g phase (Discard e) = if is_on_device g.blocks e then unsettled phase else Some OutOfRange
refusal g phase Flush = unsettled phase
refusal g phase Prepare = None
refusal g phase Commit = None
