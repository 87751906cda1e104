use Rattle.std.proofs.Common.{◌≤◌, ◌∙◌, ℕ, List, length, arith, refl, sym, ap, subst}
use Rattle.std.specs.Prelude.{sum}
use Rattle.bow_session.proofs.Loads.{few_lanes}
use Rattle.bow_receipts.proofs.Calling.{counts_few}
use Rattle.bow_receipts.proofs.runs.run_callers.Goals as goal

pub new-requires-clause-few : goal.new-requires-clause-few
new-requires-clause-few g c =
    let is = ap (λ (l : List ℕ). length l) c.deref.ensures.value in
    let many = c.in-Ok.ensures.many in
    let few = few_lanes c.args.script c.requires.limits in
    omega (arith, is, many, few)

pub new-requires-clause-total : goal.new-requires-clause-total
new-requires-clause-total g c = subst (λ (l : List ℕ). sum l ≤ 65536) (sym c.deref.ensures.value) (counts_few c.args.script c.in-Ok.calls.items c.requires.limits c.in-Ok.ensures)

pub run_named-requires-clause-named : goal.run_named-requires-clause-named
run_named-requires-clause-named g c κs within = (refl, refl, sym c.in-Ok.ensures.many ∙ sym (ap (λ (l : List ℕ). length l) (c.in-Ok-new.ensures.calls ∙ c.deref.ensures.value)), refl)
