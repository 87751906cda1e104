use Rattle.std.proofs.Common.{◌≡◌, drop}
use Rattle.std.specs.Prelude.{max}
use Rattle.bow_session.specs.Requests.{lanes_of}
use Rattle.bow_tool.proofs.callers.lanes_of.Given as goal

abbrev pub invariant-loop-section : goal.invariant-loop-section
invariant-loop-section l = max l.lanes (lanes_of (drop l.section-index l.section-items)) ≡ lanes_of l.section-items
