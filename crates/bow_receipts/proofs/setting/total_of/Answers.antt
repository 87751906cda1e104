use Rattle.std.proofs.Common.{ℕ, arith}
use Rattle.std.proofs.lemmas.List.Sums.{sum_by_more_le}
use Rattle.bow_receipts.proofs.setting.total_of.Goals as goal

pub overflow_add-total : goal.overflow_add-total
overflow_add-total c = omega (arith, c.loop-may.invariant, c.requires, sum_by_more_le (λ (n : ℕ). n) c.args.calls.now c.loop-may.may-index 0 c.loop-may-test.true)
