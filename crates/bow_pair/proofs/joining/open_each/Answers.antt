use Rattle.std.proofs.Common.{◌∷◌, [], List, length, ap, ◌∙◌, arith, length-append}
use Rattle.bow_core.specs.Views.{View}
use Rattle.bow_pair.proofs.Joins.{one_more_opened}
use Rattle.bow_pair.proofs.joining.open_each.Goals as goal

pub loop-device-preserved : goal.loop-device-preserved
loop-device-preserved g c =
    let D = g.D.Disk in
    let i = c.loop-device.invariant in
    let next = c.in_default.ensures.opened in
    record {
      opened = one_more_opened D.stated D.content D.moment D.left_since D.faults c.args.disks.now.items c.loop-device.disks.items c.open_next.new.disks.items c.loop-device.cores.items c.open_next.new.cores.items i.opened next;
      so_many = ap (λ (l : List (View g.row.D.Denot)). length l) next.added ∙ (let more = length-append c.loop-device.cores.items (next.core ∷ []) in let many = i.so_many in omega (arith, more, many));
      count = i.count;
      room = c.open_next.ensures.room ∙ i.room;
    }
