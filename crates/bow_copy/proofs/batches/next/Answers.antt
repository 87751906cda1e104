use Rattle.std.proofs.Common.{◌<◌, length, sym, ◌∙◌, arith, inl, inr}
use Rattle.std.proofs.lemmas.Bool.{false≢true}
use Rattle.bow_copy.proofs.ActsInOrder.{act_some, length-acts}
use Rattle.bow_copy.specs.Acts.{acts_before_log}
use Rattle.bow_copy.proofs.batches.next.Goals as goal

pub returns-then-batch-lead-clause-end : goal.returns-then-batch-lead-clause-end
returns-then-batch-lead-clause-end c =
    let before : c.batch.inside.acts_done < length (acts_before_log c.batch.inside.job) = omega arith in
    rw (← c.batch.view_is) (
      λ is_end. absurd ((act_some c.batch.inside.job c.batch.inside.acts_done before).0 (sym c.act_before_log.ensures ∙ is_end)),
      λ over. elim over [ inl failed ↦ absurd (false≢true (sym c.if-batch.false ∙ failed)) | inr all ↦ absurd (omega (arith, length-acts c.batch.inside.job, all)) ],
    )
