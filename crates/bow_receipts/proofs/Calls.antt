-- The calls of a journal stand in it.
use Rattle.std.proofs.Common.{◌≡◌, ℕ, zero, suc, ◌+◌, ◌≤◌, ◌++◌, List, [], ◌∷◌, length, Some, arith, subst, sym, refl, ap, ◌∙◌}
use Rattle.std.specs.Prelude.{slice_get}
use Rattle.std.proofs.lemmas.Option.{none-some}
use Rattle.bow_units.specs.declared.requests.Op.{Op}
use Rattle.bow_units.specs.declared.requests.Outcome.{Outcome}
use Rattle.bow_history.specs.declared.items.Item.{Item}
use Rattle.bow_history.specs.declared.items.Item.TheVariants.{Wrote, Got, Answered}
use Rattle.bow_tags.specs.declared.view.Entry.{Entry}
use Rattle.bow_receipts.specs.declared.asks.Answer.{Answer}
use Rattle.bow_receipts.specs.Calls.{AreCallsFrom, CallsStand, PlacesRise, CallsRise}

same_call : (a b : Entry Op Answer) → Some a ≡ Some b → a ≡ b
same_call a b e = cc

-- the call is that of item k of the journal, behind so many items
abbrev StandsAt : ℕ → List Item → Entry Op Answer → Type 0
StandsAt before journal x = (k : ℕ) × (x.answer.place ≡ before + k)
    × (slice_get journal k ≡ Some (Answered x.lane x.number x.answer.outcome))

behind : (before : ℕ) (item : Item) (items : List Item) (x : Entry Op Answer) → StandsAt (suc before) items x
    → StandsAt before (item ∷ items) x
behind before item items x (k, place, at) = (suc k, omega arith, at)

stands_from : (before : ℕ) (journal : List Item) (calls : List (Entry Op Answer)) → AreCallsFrom before journal calls
    → (i : ℕ) (x : Entry Op Answer) → slice_get calls i ≡ Some x → StandsAt before journal x
stands_from before [] [] h i x at = absurd (none-some x at)
stands_from before [] (y ∷ calls) h i x at = absurd h
stands_from before (Wrote l n b ∷ items) calls h i x at = behind before (Wrote l n b) items x (stands_from (suc before) items calls h i x at)
stands_from before (Got l n b ∷ items) calls h i x at = behind before (Got l n b) items x (stands_from (suc before) items calls h i x at)
stands_from before (Answered l n outcome ∷ items) [] h i x at = absurd h
stands_from before (Answered l n outcome ∷ items) (y ∷ calls) h zero x at =
    subst (StandsAt before (Answered l n outcome ∷ items)) (same_call y x at) (
      0,
      (let place = h.3 in omega arith),
      ap (λ (k : ℕ). Some (Answered k n outcome)) (sym h.0) ∙ ap (λ (k : ℕ). Some (Answered y.lane k outcome)) (sym h.1)
          ∙ ap (λ (o : Outcome). Some (Answered y.lane y.number o)) (sym h.2),
    )
stands_from before (Answered l n outcome ∷ items) (y ∷ calls) h (suc i) x at =
    behind before (Answered l n outcome) items x (stands_from (suc before) items calls h.4 i x at)

pub calls_stand : CallsStand
calls_stand journal calls h i x at =
    let r = stands_from 0 journal calls h i x at in
    let place : x.answer.place ≡ r.0 = let e = r.1 in omega arith in
    subst (λ (k : ℕ). slice_get journal k ≡ Some (Answered x.lane x.number x.answer.outcome)) (sym place) r.2

-- the call of an answer
pub record CallOf (calls : List (Entry Op Answer)) (lane n : ℕ) (outcome : Outcome) : Type 0 where
  pub at : ℕ
  pub call : Entry Op Answer
  pub is : slice_get calls at ≡ Some call
  pub lane_is : call.lane ≡ lane
  pub number_is : call.number ≡ n
  pub outcome_is : call.answer.outcome ≡ outcome

later : (x : Entry Op Answer) (calls : List (Entry Op Answer)) (lane n : ℕ) (outcome : Outcome) → CallOf calls lane n outcome → CallOf (x ∷ calls) lane n outcome
later x calls lane n outcome c = record { at = suc c.at; call = c.call; is = c.is; lane_is = c.lane_is; number_is = c.number_is; outcome_is = c.outcome_is }

same_item : (a b : Item) → Some a ≡ Some b → a ≡ b
same_item a b e = cc

-- each answer of a journal has its call
pub answer_of : (before : ℕ) (journal : List Item) (calls : List (Entry Op Answer)) → AreCallsFrom before journal calls
    → (k lane n : ℕ) (outcome : Outcome) → slice_get journal k ≡ Some (Answered lane n outcome) → CallOf calls lane n outcome
answer_of before [] [] h k lane n outcome at = absurd (none-some (Answered lane n outcome) at)
answer_of before [] (x ∷ calls) h k lane n outcome at = absurd h
answer_of before (Wrote l m b ∷ items) calls h zero lane n outcome at = absurd (let e = same_item (Wrote l m b) (Answered lane n outcome) at in grind (arith, e))
answer_of before (Wrote l m b ∷ items) calls h (suc k) lane n outcome at = answer_of (suc before) items calls h k lane n outcome at
answer_of before (Got l m b ∷ items) calls h zero lane n outcome at = absurd (let e = same_item (Got l m b) (Answered lane n outcome) at in grind (arith, e))
answer_of before (Got l m b ∷ items) calls h (suc k) lane n outcome at = answer_of (suc before) items calls h k lane n outcome at
answer_of before (Answered l m o ∷ items) [] h k lane n outcome at = absurd h
answer_of before (Answered l m o ∷ items) (x ∷ calls) h zero lane n outcome at =
    let e = same_item (Answered l m o) (Answered lane n outcome) at in
    let lanes : l ≡ lane = cc e in
    let numbers : m ≡ n = cc e in
    let outcomes : o ≡ outcome = cc e in
    record { at = 0; call = x; is = refl; lane_is = h.0 ∙ lanes; number_is = h.1 ∙ numbers; outcome_is = h.2 ∙ outcomes }
answer_of before (Answered l m o ∷ items) (x ∷ calls) h (suc k) lane n outcome at = later x calls lane n outcome (answer_of (suc before) items calls h.4 k lane n outcome at)

rise_from : (before low : ℕ) (journal : List Item) (calls : List (Entry Op Answer)) → AreCallsFrom before journal calls
    → low ≤ before → PlacesRise low calls
rise_from before low [] [] h less = tt
rise_from before low [] (x ∷ calls) h less = absurd h
rise_from before low (Wrote l n b ∷ items) calls h less = rise_from (suc before) low items calls h (omega arith)
rise_from before low (Got l n b ∷ items) calls h less = rise_from (suc before) low items calls h (omega arith)
rise_from before low (Answered l n outcome ∷ items) [] h less = absurd h
rise_from before low (Answered l n outcome ∷ items) (x ∷ calls) h less =
    let place = h.3 in (omega arith, rise_from (suc before) (suc x.answer.place) items calls h.4 (omega arith))

pub calls_rise : CallsRise
calls_rise journal calls h = rise_from 0 0 journal calls h (omega arith)

-- an item that is no answer adds no call
still_more : (before : ℕ) (journal : List Item) (calls : List (Entry Op Answer)) (item : Item) → ((at : ℕ) → AreCallsFrom at (item ∷ []) []) → AreCallsFrom before journal calls
    → AreCallsFrom before (journal ++ item ∷ []) calls
still_more before [] [] item none h = none before
still_more before [] (x ∷ calls) item none h = absurd h
still_more before (Wrote x y z ∷ items) calls item none h = still_more (suc before) items calls item none h
still_more before (Got x y z ∷ items) calls item none h = still_more (suc before) items calls item none h
still_more before (Answered x y o ∷ items) [] item none h = absurd h
still_more before (Answered x y o ∷ items) (c ∷ calls) item none h = (h.0, h.1, h.2, h.3, still_more (suc before) items calls item none h.4)

pub wrote_more : (before : ℕ) (journal : List Item) (calls : List (Entry Op Answer)) (l n b : ℕ) → AreCallsFrom before journal calls
    → AreCallsFrom before (journal ++ Wrote l n b ∷ []) calls
wrote_more before journal calls l n b h = still_more before journal calls (Wrote l n b) (λ at. tt) h

pub got_more : (before : ℕ) (journal : List Item) (calls : List (Entry Op Answer)) (l n b : ℕ) → AreCallsFrom before journal calls
    → AreCallsFrom before (journal ++ Got l n b ∷ []) calls
got_more before journal calls l n b h = still_more before journal calls (Got l n b) (λ at. tt) h

-- an answer adds one, at its place
pub answered_more : (before : ℕ) (journal : List Item) (calls : List (Entry Op Answer)) (x : Entry Op Answer) → AreCallsFrom before journal calls
    → x.answer.place ≡ before + length journal
    → AreCallsFrom before (journal ++ Answered x.lane x.number x.answer.outcome ∷ []) (calls ++ x ∷ [])
answered_more before [] [] x h place = (refl, refl, refl, omega arith, tt)
answered_more before [] (y ∷ calls) x h place = absurd h
answered_more before (Wrote l n b ∷ items) calls x h place = answered_more (suc before) items calls x h (omega arith)
answered_more before (Got l n b ∷ items) calls x h place = answered_more (suc before) items calls x h (omega arith)
answered_more before (Answered l n o ∷ items) [] x h place = absurd h
answered_more before (Answered l n o ∷ items) (y ∷ calls) x h place = (h.0, h.1, h.2, h.3, answered_more (suc before) items calls x h.4 (omega arith))
