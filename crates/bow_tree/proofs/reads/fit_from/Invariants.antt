use Rattle.std.proofs.Common.{◌≡◌, ◌+◌, ◌≤◌}
use Rattle.bow_tree.specs.Rows.{fit}
use Rattle.bow_tree.specs.Trees.{blocks_of, kinds_in, IsTree}
use Rattle.bow_tree.proofs.reads.fit_from.Given as goal

abbrev pub invariant-descent : goal.invariant-descent
invariant-descent g l = record {
  height : l.height ≤ 5;
  is_tree : IsTree l.height l.known l.tree;
  fits : l.count ≤ l.known.longest;
  inside : l.first + blocks_of l.height ≤ 1048576;
  told : fit l.count (kinds_in l.fn.height l.fn.known l.fn.tree) ≡ l.first + fit l.count (kinds_in l.height l.known l.tree);
  visits : l.steps + l.height ≤ l.fn.steps + l.fn.height;
}

abbrev pub decreases-descent : goal.decreases-descent
decreases-descent g l = l.height
