use Rattle.std.proofs.Common.{◌≡◌}
use Rattle.bow_session.specs.Requests.{lanes_of, section_of}
use Rattle.bow_receipts.specs.Openings.{may_of}
use Rattle.bow_receipts.proofs.runs.run_callers.Given as goal

-- the desk is over this device, with these callers, who make the calls of this script
abbrev pub ghosts-run_named : goal.ghosts-run_named
ghosts-run_named g a = record {
  begins = λ first. first ≡ a.core;
  sizes = a.core.geometry;
  callers = lanes_of a.script.now;
  allowed = may_of a.callers.calls;
  section = section_of a.script.now;
  table = a.callers.table;
}
