use Rattle.std.proofs.Common.{◌≡◌, ◌+◌, ◌<◌, ◌≤◌}
use Rattle.bow_ranges.specs.Kinds.{kind_at}
use Rattle.bow_tree.specs.Trees.{blocks_of, kinds_in, IsTree}
use Rattle.bow_tree.proofs.reads.kind_in.Given as goal

abbrev pub invariant-descent : goal.invariant-descent
invariant-descent g l = record {
  height : l.height ≤ 5;
  tree : IsTree l.height l.known l.tree;
  inside : l.block < blocks_of l.height;
  told : kind_at (kinds_in l.height l.known l.tree) l.block ≡ kind_at (kinds_in l.fn.height l.fn.known l.fn.tree) l.fn.block;
  visits : l.steps + l.height ≤ l.fn.steps + l.fn.height;
}

abbrev pub decreases-descent : goal.decreases-descent
decreases-descent g l = l.height
