use Rattle.std.proofs.Common.{◌≡◌}
use Rattle.bow_receipts.specs.Called.{requests_before}
use Rattle.bow_receipts.proofs.runs.requests_in.Given as goal

abbrev pub invariant-loop-section : goal.invariant-loop-section
invariant-loop-section l = l.total ≡ requests_before l.section-items l.section-index l.lane
