use Rattle.std.proofs.Common.{◌≡◌, ◌+◌, ◌<◌, ◌≤◌, ◌++◌, List, length}
use Rattle.bow_units.specs.declared.statuses.Kind.{Kind}
use Rattle.bow_tree.specs.Parts.{IsFront, IsBack}
use Rattle.bow_tree.specs.Trees.{blocks_of, kinds_in, IsTree}
use Rattle.bow_tree.proofs.reads.run_in.Given as goal

abbrev pub invariant-descent : goal.invariant-descent
invariant-descent g l = record {
  height : l.height ≤ 5;
  is_tree : IsTree l.height l.known l.tree;
  inside : l.block < blocks_of l.height;
  at : l.first + l.block ≡ l.fn.block;
  pre : List Kind;
  post : List Kind;
  parts : kinds_in l.fn.height l.fn.known l.fn.tree ≡ pre ++ (kinds_in l.height l.known l.tree ++ post);
  sized : length pre ≡ l.first;
  low : IsBack pre l.before;
  high : IsFront post l.after;
}

abbrev pub decreases-descent : goal.decreases-descent
decreases-descent g l = l.height
