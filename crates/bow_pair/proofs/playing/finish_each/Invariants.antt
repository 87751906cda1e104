use Rattle.std.proofs.Common.{◌≡◌, length}
use Rattle.std.specs.List.{sum_by}
use Rattle.bow_pair.specs.Deciding.{EachPair}
use Rattle.bow_pair.specs.Playing.{GoesOn}
use Rattle.bow_pair.proofs.Sessions.{turns_of}
use Rattle.bow_pair.proofs.playing.finish_each.Given as goal

abbrev pub invariant-loop-device : goal.invariant-loop-device
invariant-loop-device g l = record {
  goes : EachPair (GoesOn g.D.Disk.stated g.D.Disk.content g.D.Disk.moment g.D.Disk.left_since g.D.Disk.faults) l.fn.sessions l.sessions;
  many : length l.sessions ≡ length l.fn.sessions;
}

abbrev pub decreases-loop-device : goal.decreases-loop-device
decreases-loop-device g l = sum_by turns_of l.sessions
