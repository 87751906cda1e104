use Rattle.bow_pair.specs.Deciding.{StillForward, WasCommitted}
use Rattle.bow_pair.proofs.Loops.{SoFar}
use Rattle.bow_pair.proofs.deciding.commit_each.Given as goal

abbrev pub invariant-loop-device : goal.invariant-loop-device
invariant-loop-device g l = SoFar (StillForward g.D.Disk.stated g.D.Disk.content g.D.Disk.faults) (WasCommitted g.D.Disk.content) l.fn.cores l.cores l.device
