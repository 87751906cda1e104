-- The lines of a reader.
use Rattle.std.specs.Prelude.{ℕ, ◌+◌, List, [], ◌∷◌, ◌++◌, codes, length}
use Rattle.std.specs.List.{sum_by}
use Rattle.std.specs.Fmt.{decimal}
use Rattle.bow_units.specs.Contents.{content_text}
use Rattle.bow_units.specs.Sizes.{IsBlockSize}
use Rattle.bow_past.specs.Readings.{Reading}
use Rattle.bow_past.specs.declared.ended.Ended.{Ended}
use Rattle.bow_past.specs.declared.ended.Ended.TheVariants.{Got, Failed, Strange}

-- what became of a block, as its line has it
abbrev pub ended_text : Ended → List ℕ
ended_text (Got bytes) = content_text bytes
ended_text Failed = codes "disk fault"
ended_text Strange = codes "bad log"

-- the line of a block that ended, with its line feed
abbrev pub ended_line : ℕ → Ended → List ℕ
ended_line b e = codes "past " ++ decimal b ++ codes " " ++ ended_text e ++ codes "\n"

-- one line for each block that ended, from this one on
abbrev pub ended_lines : ℕ → List Ended → List ℕ
ended_lines b [] = []
ended_lines b (e ∷ ended) = ended_line b e ++ ended_lines (b + 1) ended

-- what was got of a block is of a block's size
abbrev pub IsWhole : Ended → Type 0
IsWhole (Got bytes) = IsBlockSize (length bytes)
IsWhole Failed = Unit {0}
IsWhole Strange = Unit {0}

-- a block that was got counts as one
abbrev pub is_got : Ended → ℕ
is_got (Got bytes) = 1
is_got Failed = 0
is_got Strange = 0

-- the lines of a reader: one for each block that ended, in order, and how many were got of how many
abbrev pub reading_text : Reading → List ℕ
reading_text p = ended_lines p.extent.first p.ended ++ codes "past read " ++ decimal (sum_by is_got p.ended)
    ++ codes " of " ++ decimal p.extent.count ++ codes "\n"
