use Rattle.std.proofs.Common.{◌≡◌, ◌-◌, ◌++◌, ℕ, length, replicate, None}
use Rattle.bow_past.proofs.readers.make_places.Given as goal

abbrev pub invariant-loop-logs : goal.invariant-loop-logs
invariant-loop-logs l = (n : ℕ) × (l.logs.items ≡ l.initial.logs.items ++ replicate n None)

abbrev pub decreases-loop-logs : goal.decreases-loop-logs
decreases-loop-logs l = l.count - length l.logs.items
