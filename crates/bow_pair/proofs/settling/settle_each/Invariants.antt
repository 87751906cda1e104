use Rattle.bow_pair.proofs.Stages.{SoFar}
use Rattle.bow_pair.proofs.settling.settle_each.Given as goal

abbrev pub invariant-loop-device : goal.invariant-loop-device
invariant-loop-device g l =
    SoFar g.D.Disk.stated g.D.Disk.content g.D.Disk.faults l.fn.committed l.fn.geometries l.fn.disks l.disks l.device l.logged
