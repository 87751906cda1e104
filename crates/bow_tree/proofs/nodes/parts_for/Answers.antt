use Rattle.std.proofs.Common.{◌≡◌, ◌-◌, ap, arith}
use Rattle.std.proofs.Math.Nat.{mod-lt}
use Rattle.bow_tree.specs.Trees.{blocks_of}
use Rattle.bow_tree.specs.Rooms.{room_for}
use Rattle.bow_tree.proofs.Descents.{blocks_some}
use Rattle.bow_tree.proofs.Rooms.{room_none, room_opened, room_bound, rooms_few}
use Rattle.bow_tree.proofs.nodes.parts_for.Goals as goal

pub overflow_add-count-in-loop-blocks : goal.overflow_add-count-in-loop-blocks
overflow_add-count-in-loop-blocks c =
    let inv = c.loop-blocks.invariant in
    let here = room_opened c.loop-blocks.height c.loop-blocks.blocks c.if-height-gt0.true c.loop-blocks-test.true in
    let bound = room_bound c.args.height c.args.blocks c.requires.inside in
    rw (c.size_of-size.ensures.size, c.width_of.ensures.width, c.parts_of.ensures.room) (omega (arith, inv.told, here, bound, rooms_few c.args.height c.requires.height))

pub loop-blocks-preserved : goal.loop-blocks-preserved
loop-blocks-preserved c =
    let inv = c.loop-blocks.invariant in
    let g = c.loop-blocks.height - 1 in
    let here = room_opened c.loop-blocks.height c.loop-blocks.blocks c.if-height-gt0.true c.loop-blocks-test.true in
    rw (c.size_of-size.ensures.size, c.width_of.ensures.width, c.parts_of.ensures.room)
    record {
      tall = omega (arith, inv.tall);
      inside = omega (arith, mod-lt c.loop-blocks.blocks {m = blocks_of g} (blocks_some g));
      told = omega (arith, inv.told, here);
    }

pub returns-after-loop-blocks : goal.returns-after-loop-blocks
returns-after-loop-blocks c =
    let inv = c.loop-blocks.invariant in
    let none : c.loop-blocks.blocks ≡ 0 = omega (arith, c.loop-blocks-test.false) in
    let room = ap (room_for c.loop-blocks.height) none in
    omega (arith, inv.told, room, room_none c.loop-blocks.height)
