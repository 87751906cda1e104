use Rattle.std.proofs.Common.{◌≡◌, ◌≤◌}
use Rattle.bow_tree.specs.Rows.{put}
use Rattle.bow_tree.proofs.writes.put.Given as goal

abbrev pub invariant-loop-block : goal.invariant-loop-block
invariant-loop-block l = record {
  from : l.from ≤ l.block;
  to : l.block ≤ l.to;
  told : l.kinds ≡ put l.from l.block l.kind l.fn.kinds;
}
