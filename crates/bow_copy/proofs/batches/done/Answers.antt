use Rattle.std.proofs.Common.{◌<◌, length, sym, ap, arith}
use Rattle.bow_copy.proofs.ActsInOrder.{log_tried_from, goes_on}
use Rattle.bow_copy.specs.Acts.{acts_before_log}
use Rattle.bow_copy.specs.declared.jobs.After.TheVariants.{Failed}
use Rattle.bow_copy.proofs.batches.done.Goals as goal

pub returns-then-not-ok-clause-after : goal.returns-then-not-ok-clause-after
returns-then-not-ok-clause-after c =
    rw (← c.batch.view_is, c.if-not-ok.true, c.count_before_log-lead.ensures.count) (ap Failed (sym (log_tried_from c.batch.inside.job c.batch.inside.acts_done)))

pub returns-then-place-lead-clause-after : goal.returns-then-place-lead-clause-after
returns-then-place-lead-clause-after c =
    let before : c.batch.inside.acts_done < length (acts_before_log c.batch.inside.job) = omega arith in
    let not_over = rw (← c.batch.view_is) at c.requires in
    rw (← c.batch.view_is, c.if-not-ok.false) (sym (goes_on _ not_over before))
