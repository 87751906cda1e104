use Rattle.std.proofs.Common.{◌≡◌, ◌+◌, ◌≤◌}
use Rattle.bow_tree.specs.Trees.{blocks_of}
use Rattle.bow_tree.specs.Rooms.{room_for}
use Rattle.bow_tree.proofs.nodes.parts_for.Given as goal

abbrev pub invariant-loop-blocks : goal.invariant-loop-blocks
invariant-loop-blocks l = record {
  tall : l.height ≤ 5;
  inside : l.blocks ≤ blocks_of l.height;
  told : l.count + room_for l.height l.blocks ≡ room_for l.fn.height l.fn.blocks;
}

abbrev pub decreases-loop-blocks : goal.decreases-loop-blocks
decreases-loop-blocks l = l.height
