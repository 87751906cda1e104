use Rattle.bow_pair.specs.Playing.{EachBelow, EndsClean}
use Rattle.bow_pair.proofs.accounts.first_faulty.Given as goal

abbrev pub invariant-loop-device : goal.invariant-loop-device
invariant-loop-device l = EachBelow EndsClean l.accounts l.device
