use Rattle.std.proofs.Common.{◌≡◌, ◌<◌, ◌≤◌, ℕ}
use Rattle.bow_tool.specs.Drills.{HoldsPattern}
use Rattle.bow_tool.proofs.drill_lines.count_kept.Given as goal

abbrev pub invariant-loop-number : goal.invariant-loop-number
invariant-loop-number l = record { few : l.kept ≤ l.number; all : ((b : ℕ) → b < l.number → HoldsPattern l.image b) → l.kept ≡ l.number }
