use Rattle.std.proofs.Common.{◌≡◌, length}
use Rattle.bow_ranges.proofs.tests.alternate.Given as goal

abbrev pub invariant-loop-block : goal.invariant-loop-block
invariant-loop-block g l = length (g.R.Ranges.kinds l.table) ≡ l.blocks
