use Rattle.std.proofs.Common.{◌≡◌, ◌∙◌, None, inl, inr, arith, sym, subst}
use Rattle.std.specs.Option.{is_some}
use Rattle.std.proofs.lemmas.Bool.{cases_eq, cases_lt}
use Rattle.std.specs.Prelude.{length}
use Rattle.bow_receipts.specs.Hands.{hand_at}
use Rattle.bow_receipts.proofs.Lists.{index_any, index_within}
use Rattle.bow_receipts.proofs.Sectioning.{is_none_of}
use Rattle.bow_receipts.proofs.hands.is_free.Goals as goal

pub returns : goal.returns
returns c = λ yes lane. elim (cases_lt lane (length c.args.hands.now)) [
  | inl less ↦ c.loop-hand.invariant lane (omega (arith, less, c.loop-hand-test.false))
  | inr past ↦ index_within c.args.hands.now lane None (omega (arith, past))
]

pub loop-hand-preserved : goal.loop-hand-preserved
loop-hand-preserved c = λ lane less. elim (cases_eq lane c.loop-hand.hand-index) [
  | inl is ↦ subst (λ z. hand_at c.args.hands.now z ≡ None) (sym is)
      (index_any c.args.hands.now c.loop-hand.hand-index None c.hand-item.result c.loop-hand-test.true ∙ sym c.hand-item.is ∙ is_none_of c.hand-item.result (sym c.is_some.ensures ∙ c.if-is_some.false))
  | inr apart ↦ c.loop-hand.invariant lane (omega (arith, less, apart))
]
