use Rattle.std.proofs.Common.{◌≡◌, length}
use Rattle.bow_receipts.specs.Openings.{may_of}
use Rattle.bow_receipts.proofs.tests.two_callers.Given as goal

-- the desk is over this device, with these callers
abbrev pub ghosts-by_two : goal.ghosts-by_two
ghosts-by_two g a = record {
  begins = λ first. first ≡ a.core;
  sizes = a.core.geometry;
  callers = length a.callers.calls;
  allowed = may_of a.callers.calls;
  section = λ lane number. 0;
  table = a.callers.table;
}
