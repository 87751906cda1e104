use Rattle.std.proofs.Common.{◌≡◌, ◌≤◌, length, drop, true}
use Rattle.bow_units.specs.Blocks.{are_zero}
use Rattle.bow_units.proofs.contents.trimmed.Given as goal

abbrev pub invariant-loop-end : goal.invariant-loop-end
invariant-loop-end l = record { low : l.end ≤ length l.bytes; zeros : are_zero (drop l.end l.bytes) ≡ true }

abbrev pub decreases-loop-end : goal.decreases-loop-end
decreases-loop-end l = l.end
