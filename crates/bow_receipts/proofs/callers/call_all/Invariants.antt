use Rattle.bow_receipts.specs.Called.{GoesOn}
use Rattle.bow_receipts.proofs.callers.call_all.Given as goal

abbrev pub invariant-loop-i : goal.invariant-loop-i
invariant-loop-i g l = GoesOn g.J.Naming.sizes l.script l.initial.pass l.pass
