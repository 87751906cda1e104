use Rattle.std.proofs.Common.{◌≡◌, ◌≤◌, length}
use Rattle.std.specs.Prelude.{vec_capacity}
use Rattle.bow_pair.specs.Settling.{AreStated, AreValid}
use Rattle.bow_pair.proofs.Loops.{SoFar}
use Rattle.bow_tool.specs.Outside.{disk_view}
use Rattle.bow_tool.specs.Sizes.{OnlySizes}
use Rattle.bow_tool.proofs.PairBooting.{AnyTwo}
use Rattle.bow_tool.proofs.pair_boots.all_sizes.Given as goal

abbrev pub invariant-loop-device : goal.invariant-loop-device
invariant-loop-device g l = record {
  asked : SoFar (OnlySizes (disk_view g.D.Disk.stated g.D.Disk.content g.D.Disk.moment g.D.Disk.left_since g.D.Disk.faults)) AnyTwo l.fn.disks l.disks l.device;
  stated : AreStated g.D.Disk.stated l.geometries.items l.disks;
  valid : AreValid l.geometries.items;
  many : length l.geometries.items ≡ l.device;
  room : length l.fn.disks ≤ vec_capacity l.geometries;
}
