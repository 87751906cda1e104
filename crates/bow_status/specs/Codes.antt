-- The numbers of the phases in the cell.
use Rattle.std.specs.Prelude.{ℕ}
use Rattle.bow_units.specs.declared.requests.Phase.{Phase}
use Rattle.bow_units.specs.declared.requests.Phase.TheVariants.{Trim, Arming, Checkpoint, Deciding, Committed}

-- the number that stands for a phase in its word
abbrev pub code : Phase → ℕ
code Trim = 0
code Arming = 1
code Checkpoint = 2
code Deciding = 3
code Committed = 4
