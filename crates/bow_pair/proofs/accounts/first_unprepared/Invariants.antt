use Rattle.bow_pair.specs.Playing.{EachBelow, EndsPrepared}
use Rattle.bow_pair.proofs.accounts.first_unprepared.Given as goal

abbrev pub invariant-loop-device : goal.invariant-loop-device
invariant-loop-device l = EachBelow EndsPrepared l.accounts l.device
