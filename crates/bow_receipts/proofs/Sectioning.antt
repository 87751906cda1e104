-- The items come section by section.
use Rattle.std.proofs.Common.{◌≡◌, inl, inr, ℕ, ◌+◌, ◌<◌, ◌≤◌, ◌++◌, false, List, [], ◌∷◌, length, Option, Some, None, arith, refl, sym, ap, ◌∙◌, subst}
use Rattle.std.specs.Prelude.{replicate, slice_set}
use Rattle.std.specs.Option.{is_some}
use Rattle.std.proofs.lemmas.Bool.{cases_eq}
use Rattle.bow_core.specs.declared.turns.Step.{Step}
use Rattle.bow_core.specs.declared.turns.Step.TheVariants.{Idle, Moved, Wrote, Got, Answered}
use Rattle.bow_history.specs.declared.items.Item.{Item}
use Rattle.bow_history.specs.declared.items.Item.TheVariants as items
use Rattle.bow_receipts.specs.declared.hands.Hand.{Hand}
use Rattle.bow_receipts.specs.declared.service.Service.{Service}
use Rattle.bow_receipts.specs.Hands.{hand_at, lane_with}
use Rattle.bow_receipts.specs.Noted.{IsNoted, IsOfHand}
use Rattle.bow_receipts.specs.Sectioned.{Between, GoesBySections, MayBegin, section_in}
use Rattle.bow_receipts.proofs.Lists.{clash, index_set_here, index_set_there, one_of}
use Rattle.bow_receipts.proofs.Sums.{no_hand_at}

module _ (section : ℕ → ℕ → ℕ) where
  -- up to a later section
  pub between_up : (low : ℕ) (items : List Item) (high later : ℕ) → Between section low items high → high ≤ later → Between section low items later
  between_up low [] high later h up = omega (arith, h, up)
  between_up low (item ∷ items) high later h up = (h.0, between_up (section_in section item) items high later h.1 up)

  -- with one item more
  pub between_more : (low : ℕ) (items : List Item) (high : ℕ) (item : Item) → Between section low items high → section_in section item ≡ high → Between section low (items ++ item ∷ []) high
  between_more low [] high item h is = (omega (arith, h, is), omega (arith, is))
  between_more low (x ∷ items) high item h is = (h.0, between_more (section_in section x) items high item h.1 is)

  pub sectioned_first : (hands : List (Option Hand)) (n : ℕ) (journal : List Item) → hands ≡ replicate n None → journal ≡ [] → GoesBySections section hands journal 0
  sectioned_first hands n journal none empty = record {
    present = λ lane h at. clash (hand_at hands lane) h (ap (λ (hs : List (Option Hand)). hand_at hs lane) none ∙ no_hand_at n lane) at;
    between = subst (λ (js : List Item). Between section 0 js 0) (sym empty) (omega arith);
  }

  -- a request is taken in
  pub sectioned_admitted : (hands : List (Option Hand)) (journal : List Item) (low now lane : ℕ) (h : Hand) → GoesBySections section hands journal low → MayBegin hands low now → lane < length hands → section h.job.lane h.job.number ≡ now
      → GoesBySections section (slice_set hands lane (Some h)) journal now
  sectioned_admitted hands journal low now lane h k may inside is = record {
    present = λ l x at. elim (cases_eq l lane) [
      | inl here ↦
          let same : h ≡ x = one_of (hand_at (slice_set hands lane (Some h)) lane) h x (index_set_here hands lane None (Some h) inside) (subst (λ z. hand_at (slice_set hands lane (Some h)) z ≡ Some x) here at) in
          ap (λ (z : Hand). section z.job.lane z.job.number) (sym same) ∙ is
      | inr apart ↦
          let before : hand_at hands l ≡ Some x = sym (index_set_there hands lane l None (Some h) apart) ∙ at in
          elim may [
            | inl same ↦ k.present l x before ∙ sym same
            | inr new ↦ clash (hand_at hands l) x (new.1 l) before
          ]
    ];
    between = elim may [
      | inl same ↦ subst (Between section 0 journal) (sym same) k.between
      | inr new ↦ between_up 0 journal low now k.between (omega (arith, new.0))
    ];
  }

  module _ {D R : Type 0} (old new : Service D R) (k : GoesBySections section old.hands.items old.journal.items old.low) where
    by_parts : (extra : List Item) → ((lane : ℕ) (h : Hand) → hand_at new.hands.items lane ≡ Some h → hand_at old.hands.items lane ≡ Some h) → new.low ≡ old.low
        → Between section 0 new.journal.items old.low → GoesBySections section new.hands.items new.journal.items new.low
    by_parts extra hands low between = record {
      present = λ lane h at. k.present lane h (hands lane h at) ∙ sym low;
      between = subst (Between section 0 new.journal.items) (sym low) between;
    }

    same_hands : new.hands.items ≡ old.hands.items → (lane : ℕ) (h : Hand) → hand_at new.hands.items lane ≡ Some h → hand_at old.hands.items lane ≡ Some h
    same_hands is lane h at = ap (λ (hs : List (Option Hand)). hand_at hs lane) (sym is) ∙ at

    -- a step is noted
    pub sectioned_noted : (tells : Step) → IsOfHand tells old → IsNoted tells old new → GoesBySections section new.hands.items new.journal.items new.low
    sectioned_noted Idle w n = by_parts [] (same_hands (n.0).hands) (n.0).low (subst (λ (js : List Item). Between section 0 js old.low) (sym n.1) k.between)
    sectioned_noted Moved w n = by_parts [] (same_hands (n.0).hands) (n.0).low (subst (λ (js : List Item). Between section 0 js old.low) (sym n.1) k.between)
    sectioned_noted (Wrote t i) w n =
        let h = w.0 in
        by_parts [] (same_hands (n.0).hands) (n.0).low (subst (λ (js : List Item). Between section 0 js old.low) (sym (n.1 h (w.1).here))
        (between_more 0 old.journal.items old.low (items.Wrote h.job.lane h.job.number (h.first + i)) k.between (k.present (lane_with old.hands.items t) h (w.1).here)))
    sectioned_noted (Got t i) w n =
        let h = w.0 in
        by_parts [] (same_hands (n.0).hands) (n.0).low (subst (λ (js : List Item). Between section 0 js old.low) (sym (n.1 h (w.1).here))
        (between_more 0 old.journal.items old.low (items.Got h.job.lane h.job.number (h.first + i)) k.between (k.present (lane_with old.hands.items t) h (w.1).here)))
    sectioned_noted (Answered t op outcome) w noted =
        let h = w.0 in
        let n = noted h (w.1).here in
        by_parts [] (λ lane x at. elim (cases_eq lane (lane_with old.hands.items t)) [
          | inl here ↦ clash (hand_at (slice_set old.hands.items (lane_with old.hands.items t) None) (lane_with old.hands.items t)) x (index_set_here old.hands.items (lane_with old.hands.items t) None None (w.1).inside)
              (subst (λ z. hand_at (slice_set old.hands.items (lane_with old.hands.items t) None) z ≡ Some x) here (ap (λ (hs : List (Option Hand)). hand_at hs lane) (sym n.hands) ∙ at))
          | inr apart ↦ sym (index_set_there old.hands.items (lane_with old.hands.items t) lane None None apart) ∙ ap (λ (hs : List (Option Hand)). hand_at hs lane) (sym n.hands) ∙ at
        ]) n.low (subst (λ (js : List Item). Between section 0 js old.low) (sym n.journal)
        (between_more 0 old.journal.items old.low (items.Answered h.job.lane h.job.number outcome) k.between (k.present (lane_with old.hands.items t) h (w.1).here)))

pub is_none_of : (o : Option Hand) → is_some o ≡ false → o ≡ None
is_none_of None no_hand = refl
is_none_of (Some h) no_hand = absurd (grind arith)
