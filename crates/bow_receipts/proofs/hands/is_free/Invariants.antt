use Rattle.std.proofs.Common.{◌≡◌, ℕ, ◌<◌, None}
use Rattle.bow_receipts.specs.Hands.{hand_at}
use Rattle.bow_receipts.proofs.hands.is_free.Given as goal

abbrev pub invariant-loop-hand : goal.invariant-loop-hand
invariant-loop-hand l = (lane : ℕ) → lane < l.hand-index → hand_at l.hands lane ≡ None
