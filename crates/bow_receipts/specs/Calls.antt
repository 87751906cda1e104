-- The calls of a journal.
use Rattle.std.specs.Prelude.{◌≡◌, ℕ, suc, ◌≤◌, List, [], ◌∷◌, slice_get, Some}
use Rattle.bow_units.specs.declared.requests.Op.{Op}
use Rattle.bow_history.specs.declared.items.Item.{Item}
use Rattle.bow_history.specs.declared.items.Item.TheVariants.{Wrote, Got, Answered}
use Rattle.bow_tags.specs.declared.view.Entry.{Entry}
use Rattle.bow_receipts.specs.declared.asks.Answer.{Answer}

-- These are the answers of a journal, in order, where so many items come before it: each has its caller, its number
-- among that caller's, and its place.
abbrev pub AreCallsFrom : ℕ → List Item → List (Entry Op Answer) → Type 0
AreCallsFrom before [] [] = Unit {0}
AreCallsFrom before [] (x ∷ calls) = ⊥
AreCallsFrom before (Wrote caller n b ∷ items) calls = AreCallsFrom (suc before) items calls
AreCallsFrom before (Got caller n b ∷ items) calls = AreCallsFrom (suc before) items calls
AreCallsFrom before (Answered caller n outcome ∷ items) [] = ⊥
AreCallsFrom before (Answered caller n outcome ∷ items) (x ∷ calls) = (x.lane ≡ caller) × (x.number ≡ n)
    × (x.answer.outcome ≡ outcome) × (x.answer.place ≡ before) × AreCallsFrom (suc before) items calls

-- the calls of a journal
abbrev pub AreCalls : List Item → List (Entry Op Answer) → Type 0
AreCalls journal calls = AreCallsFrom 0 journal calls

-- A call stands where it says: the journal's item there is its answer.
abbrev pub CallsStand : Type 0
CallsStand = (journal : List Item) (calls : List (Entry Op Answer)) → AreCalls journal calls
    → (i : ℕ) (x : Entry Op Answer) → slice_get calls i ≡ Some x
    → slice_get journal x.answer.place ≡ Some (Answered x.lane x.number x.answer.outcome)

-- the places rise from one call to the next, from this one on
abbrev pub PlacesRise : ℕ → List (Entry Op Answer) → Type 0
PlacesRise low [] = Unit {0}
PlacesRise low (x ∷ calls) = (low ≤ x.answer.place) × PlacesRise (suc x.answer.place) calls

-- The calls of a journal stand in its order.
abbrev pub CallsRise : Type 0
CallsRise = (journal : List Item) (calls : List (Entry Op Answer)) → AreCalls journal calls → PlacesRise 0 calls
