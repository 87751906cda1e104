-- A reader of the checkpoint, as callers see it.
use Rattle.std.specs.Prelude.{◌≡◌, ℕ, zero, suc, ◌+◌, ◌-◌, ◌&&◌, nat_le, nat_lt, Bool, true, false, if◌then◌else◌, List, [], ◌∷◌, ◌++◌}
use Rattle.std.specs.Prelude.{length, slice_get, Option, None, Some}
use Rattle.bow_units.specs.declared.sizes.Extent.{Extent}
use Rattle.bow_units.specs.declared.sizes.Geometry.{Geometry}
use Rattle.bow_units.specs.declared.requests.Phase.{Phase}
use Rattle.bow_units.specs.declared.requests.Phase.TheVariants.{Trim, Arming, Checkpoint, Deciding, Committed}
use Rattle.bow_flat.specs.Flat.{put}
use Rattle.bow_log.specs.Generations.{Generation, generation_of}
use Rattle.bow_log.specs.Spelling.{Fields}
use Rattle.bow_chain.specs.Places.{pass}
use Rattle.bow_past.specs.declared.ended.Ended.{Ended}
use Rattle.bow_past.specs.declared.ended.Ended.TheVariants.{Got, Failed, Strange}

-- A reader: the sizes of the device, the blocks that it is to read, for each sequence the older log that it keeps, if
-- it keeps it, and what became of the first blocks, in their order.
pub record Reading : Type 0 where
  pub geometry : Geometry
  pub extent : Extent
  pub kept : List (Option Fields)
  pub ended : List Ended

-- the log in a place for one, if there is one
abbrev pub log_there : Option (Option Fields) → Option Fields
log_there None = None
log_there (Some log) = log

-- the kept log of each sequence
abbrev pub kept_of : Reading → ℕ → Option Fields
kept_of p n = log_there (slice_get p.kept n)

-- the next block
abbrev pub next_block : Reading → ℕ
next_block p = p.extent.first + length p.ended

-- the checkpoint stands, undecided
abbrev pub is_checkpoint : Phase → Bool
is_checkpoint Trim = false
is_checkpoint Arming = false
is_checkpoint Checkpoint = true
is_checkpoint Deciding = false
is_checkpoint Committed = false

-- the reader makes a step: in this phase, and with a block left
abbrev pub can_read : Reading → Phase → Bool
can_read p phase = is_checkpoint phase && nat_lt (length p.ended) p.extent.count

-- what was got of a block
abbrev pub bytes_got : Option Ended → Option (List ℕ)
bytes_got None = None
bytes_got (Some (Got bytes)) = Some bytes
bytes_got (Some Failed) = None
bytes_got (Some Strange) = None

-- what the reader has of a block of the device, if it got it
abbrev pub bytes_of : Reading → ℕ → Option (List ℕ)
bytes_of p block = if nat_le p.extent.first block then bytes_got (slice_get p.ended (block - p.extent.first)) else None

-- one block more has ended
abbrev pub with_ended : Reading → Ended → Reading
with_ended p e = record p { ended = p.ended ++ e ∷ [] }

-- From one reader to the next one log more is kept, of this sequence.
abbrev pub KeepsLog : Reading → ℕ → Fields → Reading → Type 0
KeepsLog p n log q = (q ≡ record p { kept = q.kept }) × (kept_of q ≡ put (kept_of p) n (Some log))

-- the greatest sequence below this one of which no log is kept
abbrev pub missing_below : (ℕ → Option Fields) → ℕ → Option ℕ
missing_below kept zero = None
missing_below kept (suc n) = missing_by (kept n) n (missing_below kept n)
  where
    missing_by : Option Fields → ℕ → Option ℕ → Option ℕ
    missing_by None n below = Some n
    missing_by (Some log) n below = below

-- where a log puts a block, if it is kept
abbrev pub past_log : Geometry → Option Fields → ℕ → ℕ
past_log g None x = x
past_log g (Some log) x = pass (generation_of g log).entries x

-- where the n kept logs from this sequence on put a block, the oldest first
abbrev pub past_logs : Geometry → (ℕ → Option Fields) → ℕ → ℕ → ℕ → ℕ
past_logs g kept low zero x = x
past_logs g kept low (suc n) x = past_log g (kept (low + n)) (past_logs g kept low n x)

-- where the kept logs from this sequence on, and then the log in memory, put a block
abbrev pub place_by : Geometry → (ℕ → Option Fields) → Generation → ℕ → ℕ → ℕ
place_by g kept log low x = pass log.entries (past_logs g kept low (log.sequence - low) x)
