use Rattle.bow_pair.specs.Deciding.{StillHolds, WasFlushed}
use Rattle.bow_pair.proofs.Loops.{SoFar}
use Rattle.bow_pair.proofs.deciding.flush_each.Given as goal

abbrev pub invariant-loop-device : goal.invariant-loop-device
invariant-loop-device g l = SoFar (StillHolds g.D.Disk.stated g.D.Disk.content g.D.Disk.faults) (WasFlushed g.D.Disk.content) l.fn.cores l.cores l.device
