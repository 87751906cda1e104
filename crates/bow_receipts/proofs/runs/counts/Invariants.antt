use Rattle.std.proofs.Common.{◌≡◌, ◌<◌, ℕ, length}
use Rattle.std.specs.Prelude.{slice_index_or}
use Rattle.bow_session.specs.Requests.{requests_in}
use Rattle.bow_receipts.proofs.runs.counts.Given as goal

abbrev pub invariant-loop-lane : goal.invariant-loop-lane
invariant-loop-lane l = (length l.calls.items ≡ l.lane)
    × ((i : ℕ) → i < length l.calls.items → slice_index_or l.calls.items i 0 ≡ requests_in l.script i)
