use Rattle.std.proofs.Common.{sym, ◌∙◌}
use Rattle.bow_copy.proofs.ActsInOrder.{copy_moves, copy_flushes}
use Rattle.bow_copy.proofs.batches.act_before_log.Goals as goal

pub returns-then-place-count : goal.returns-then-place-count
returns-then-place-count c = rw c.in-Copy.is (c.copying.ensures ∙ sym (copy_moves _ _ _ _ c.if-place-count.true))

pub returns-else-place-count : goal.returns-else-place-count
returns-else-place-count c =
    let within = rw c.in-Copy.is at c.requires.within in
    rw c.in-Copy.is (sym (copy_flushes _ _ _ _ c.if-place-count.false within))
