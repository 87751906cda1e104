-- The sections of a journal.
use Rattle.std.specs.Prelude.{ℕ, suc, ◌≡◌, ◌≤◌, List, [], ◌∷◌, Some, None}
use Rattle.bow_units.specs.declared.requests.Op.{Op}
use Rattle.bow_history.specs.declared.items.Item.{Item}
use Rattle.bow_history.specs.declared.items.Item.TheVariants.{Wrote, Got, Answered}
use Rattle.bow_history.specs.Journal.{Plan}
use Rattle.bow_history.specs.Sessions.{Session, IsPresent}

-- the section of an item's request
abbrev pub section_of : Plan → Item → ℕ
section_of plan (Wrote lane n b) = plan.section lane n
section_of plan (Got lane n b) = plan.section lane n
section_of plan (Answered lane n outcome) = plan.section lane n

-- the items come section by section, from section `low` on
abbrev pub BySections : Plan → ℕ → List Item → Type 0
BySections plan low [] = Unit {0}
BySections plan low (item ∷ items) = (low ≤ section_of plan item) × BySections plan (section_of plan item) items

-- a lane's later requests stand in no earlier section
abbrev pub SectionsRise : Plan → Type 0
SectionsRise plan = (lane n : ℕ) → plan.section lane n ≤ plan.section lane (suc n)

-- each lane with a request in hand is in the present section
abbrev pub InSections : Plan → Session → Type 0
InSections plan s = (lane : ℕ) → (s.hand lane ≡ None → ⊥) → IsPresent plan s lane

-- no unanswered request stands in an earlier section
abbrev pub IsFrom : Plan → Session → ℕ → Type 0
IsFrom plan s low = (lane : ℕ) (op : Op) → plan.request lane (s.number lane) ≡ Some op
    → low ≤ plan.section lane (s.number lane)
