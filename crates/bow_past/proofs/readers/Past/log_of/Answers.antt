use Rattle.std.proofs.Common.{arith, Some, sym, ap, ◌∙◌, subst}
use Rattle.bow_log.specs.Rules.{IsLog}
use Rattle.bow_units.specs.declared.sizes.Geometry.{Geometry}
use Rattle.bow_past.specs.Inside.{unboxed}
use Rattle.bow_past.specs.Readings.{Reading, kept_of, log_there}
use Rattle.bow_past.proofs.Kept.{kept_at}
use Rattle.bow_past.proofs.readers.Past.log_of.Goals as goal

pub returns-in-Some-clause-log : goal.returns-in-Some-clause-log
returns-in-Some-clause-log c =
    let at = kept_at c.self.inside.logs.items c.args.sequence c.index.result.now (omega (arith, c.if-index-len.false, c.len.ensures, c.self.inside.logs.ok)) in
    subst (λ (g : Geometry). IsLog g c.deref.result.now) (ap (λ (p : Reading). p.geometry) c.self.view_is)
    (c.self.invariant.are_logs c.args.sequence c.deref.result.now (at ∙ ap (λ z. Some (unboxed z)) (sym c.index.ensures ∙ c.in-Some.is) ∙ ap (λ z. Some (Some z)) (sym c.deref.ensures)))

pub returns-in-None-clause-is : goal.returns-in-None-clause-is
returns-in-None-clause-is c =
    let at = kept_at c.self.inside.logs.items c.args.sequence c.index.result.now (omega (arith, c.if-index-len.false, c.len.ensures, c.self.inside.logs.ok)) in
    sym (ap (λ (p : Reading). kept_of p c.args.sequence) (sym c.self.view_is) ∙ ap log_there (at ∙ ap (λ z. Some (unboxed z)) (sym c.index.ensures ∙ c.in-None.is)))
