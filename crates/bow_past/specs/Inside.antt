-- How the parts of a reader are seen, and what holds of them.
use Rattle.std.specs.Prelude.{◌≡◌, ℕ, ◌+◌, ◌≤◌, List, length, map, slice_get, Option, None, Some, Result, Ok, Err, Box}
use Rattle.std.specs.List.{AllByRecursion as Each}
use Rattle.std.specs.declared.alloc.Global.{Global}
use Rattle.bow_units.specs.declared.sizes.Extent.{Extent}
use Rattle.bow_units.specs.declared.sizes.Geometry.{Geometry}
use Rattle.bow_units.specs.Sizes.{IsValid}
use Rattle.bow_log.specs.Rules.{IsLog}
use Rattle.bow_log.specs.Spelling.{Fields}
use Rattle.bow_units.specs.declared.failures.NoMemory.{NoMemory}
use Rattle.bow_disk.specs.Disk.{Content}
use Rattle.bow_units.specs.declared.failures.Failed.{Failed as FailedError}
use Rattle.bow_machine.specs.Calls.{Failed as FailedReply, Gave}
use Rattle.bow_session.specs.Sessions.{Run}
use Rattle.bow_past.specs.Reach.{IsWanted}
use Rattle.bow_past.specs.Readings.{Reading, KeepsLog, next_block, with_ended}
use Rattle.bow_past.specs.Steps.{FailsBlock, ReadsBeside}
use Rattle.bow_past.specs.declared.ended.Ended.TheVariants.{Got, Failed, Strange}
use Rattle.bow_past.specs.declared.ended.PastStep.{PastStep}
use Rattle.bow_past.specs.declared.ended.PastStep.TheVariants as steps
use Rattle.bow_past.specs.declared.ended.Ended.{Ended}

-- a log out of its box
abbrev pub unboxed : Option (Box Fields Global) → Option Fields
unboxed None = None
unboxed (Some log) = Some log.value

-- what callers see of them
abbrev pub reading_of : Geometry → Extent → List (Option (Box Fields Global)) → List Ended → Reading
reading_of g extent logs ended = record { geometry = g; extent = extent; kept = map unboxed logs; ended = ended }

-- of a block that was got there are so many bytes
abbrev pub IsOfBlock : ℕ → Ended → Type 0
IsOfBlock size (Got bytes) = length bytes ≡ size
IsOfBlock size Failed = Unit {0}
IsOfBlock size Strange = Unit {0}

-- The blocks are on a valid device, at most 4096; what is kept are logs; there is a buffer for each block that has not
-- ended, with room for what becomes of it; and a buffer is of one block, as is what was got of one.
pub record IsReader (g : Geometry) (extent : Extent) (logs : List (Option (Box Fields Global)))
    (buffers : List (List ℕ)) (ended : List Ended) (room : ℕ) (block : List ℕ) : Type 0 where
  pub valid : IsValid g
  pub inside : extent.first + extent.count ≤ g.blocks
  pub are_logs : (n : ℕ) (log : Fields) → slice_get (map unboxed logs) n ≡ Some (Some log) → IsLog g log
  pub of_a_block : Each (λ bytes. length bytes ≡ g.block_size) buffers
  pub many : length buffers + length ended ≡ extent.count
  pub with_room : length buffers + length ended ≤ room
  pub one : length block ≡ g.block_size
  pub sized : (i : ℕ) (e : Ended) → slice_get ended i ≡ Some e → IsOfBlock g.block_size e

-- what was found at this place, where the log of this sequence was looked for
abbrev pub FoundBy : {D : Type 0} (stated : D → Option Geometry) (content : D → Option Content) (moment : D → ℕ)
    (left : D → ℕ → List (List ℕ) → Type 0) (faults : D → ℕ) → Geometry → ℕ → ℕ → Run D
    → Result (Option Fields) FailedError → Run D → Type 0
FoundBy stated content moment left faults g wanted at old (Ok (Some log)) new = (block : List ℕ)
    × ReadsBeside stated content moment left faults at (Gave block) old new × IsWanted g block wanted log
FoundBy stated content moment left faults g wanted at old (Ok None) new = (block : List ℕ)
    × ReadsBeside stated content moment left faults at (Gave block) old new
    × ((log : Fields) → ¬ IsWanted g block wanted log)
FoundBy stated content moment left faults g wanted at old (Err failed) new =
    ReadsBeside stated content moment left faults at FailedReply old new

-- what came of looking for the log of this sequence at this place
abbrev pub LooksBy : {D : Type 0} (stated : D → Option Geometry) (content : D → Option Content) (moment : D → ℕ)
    (left : D → ℕ → List (List ℕ) → Type 0) (faults : D → ℕ) → Reading → ℕ → ℕ → Run D → Result PastStep NoMemory
    → Reading → Run D → Type 0
LooksBy stated content moment left faults p wanted at old (Ok steps.Working) q new = (block : List ℕ) × (log : Fields)
    × ReadsBeside stated content moment left faults at (Gave block) old new × IsWanted p.geometry block wanted log
    × KeepsLog p wanted log q
LooksBy stated content moment left faults p wanted at old (Ok (steps.Failed block)) q new =
    FailsBlock stated content moment left faults p at block old q new
LooksBy stated content moment left faults p wanted at old (Ok (steps.Strange block)) q new = (block ≡ next_block p)
    × (read : List ℕ) × ReadsBeside stated content moment left faults at (Gave read) old new
    × ((log : Fields) → ¬ IsWanted p.geometry read wanted log) × (q ≡ with_ended p Strange)
LooksBy stated content moment left faults p wanted at old (Ok other) q new = ⊥
LooksBy stated content moment left faults p wanted at old (Err none) q new = (q ≡ p) × (new ≡ old)

-- what came of reading the next block at this place
abbrev pub ReadsBy : {D : Type 0} (stated : D → Option Geometry) (content : D → Option Content) (moment : D → ℕ)
    (left : D → ℕ → List (List ℕ) → Type 0) (faults : D → ℕ) → Reading → ℕ → Run D → PastStep → Reading → Run D → Type 0
ReadsBy stated content moment left faults p at old (steps.Got block) q new = (block ≡ next_block p)
    × (bytes : List ℕ) × ReadsBeside stated content moment left faults at (Gave bytes) old new
    × (q ≡ with_ended p (Got bytes))
ReadsBy stated content moment left faults p at old (steps.Failed block) q new =
    FailsBlock stated content moment left faults p at block old q new
ReadsBy stated content moment left faults p at old other q new = ⊥
