use Rattle.std.proofs.Common.{◌≡◌, length}
use Rattle.std.specs.Prelude.{vec_capacity}
use Rattle.bow_pair.specs.Joining.{AreOpenedOver}
use Rattle.bow_pair.proofs.joining.open_each.Given as goal

abbrev pub invariant-loop-device : goal.invariant-loop-device
invariant-loop-device g l = record {
  opened : AreOpenedOver g.D.Disk.stated g.D.Disk.content g.D.Disk.moment g.D.Disk.left_since g.D.Disk.faults l.fn.disks.items l.disks.items l.cores.items;
  so_many : length l.cores.items ≡ l.device;
  count : l.count ≡ length l.fn.disks.items;
  room : vec_capacity l.cores ≡ vec_capacity l.fn.cores;
}
