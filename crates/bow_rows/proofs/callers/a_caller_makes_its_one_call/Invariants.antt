use Rattle.std.proofs.Common.{◌≡◌, length}
use Rattle.bow_receipts.specs.Openings.{may_of}
use Rattle.bow_rows.proofs.callers.a_caller_makes_its_one_call.Given as goal

-- the desk is over this device, with this caller
abbrev pub ghosts-by_one : goal.ghosts-by_one
ghosts-by_one g a = record {
  begins = λ first. first ≡ a.core;
  sizes = a.core.geometry;
  callers = length a.callers.calls;
  allowed = may_of a.callers.calls;
  section = λ lane number. 0;
  table = a.callers.table;
}
