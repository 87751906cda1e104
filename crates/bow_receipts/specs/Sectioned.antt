-- The sections of a journal whose requests come one by one.
use Rattle.std.specs.Prelude.{◌≡◌, ◌⊎◌, ℕ, ◌<◌, ◌≤◌, List, [], ◌∷◌, Option, None, Some}
use Rattle.bow_history.specs.declared.items.Item.{Item}
use Rattle.bow_history.specs.declared.items.Item.TheVariants.{Wrote, Got, Answered}
use Rattle.bow_receipts.specs.declared.hands.Hand.{Hand}
use Rattle.bow_receipts.specs.Hands.{hand_at}

-- the section of an item's request
abbrev pub section_in : (ℕ → ℕ → ℕ) → Item → ℕ
section_in section (Wrote lane n b) = section lane n
section_in section (Got lane n b) = section lane n
section_in section (Answered lane n outcome) = section lane n

-- the items come section by section, from one section to another
abbrev pub Between : (ℕ → ℕ → ℕ) → ℕ → List Item → ℕ → Type 0
Between section low [] high = low ≤ high
Between section low (item ∷ items) high =
    (low ≤ section_in section item) × Between section (section_in section item) items high

-- Each request in hand is of the last section so far, and the items come section by section up to it.
pub record GoesBySections (section : ℕ → ℕ → ℕ) (hands : List (Option Hand)) (journal : List Item) (low : ℕ)
    : Type 0 where
  pub present : (lane : ℕ) (h : Hand) → hand_at hands lane ≡ Some h → section h.job.lane h.job.number ≡ low
  pub between : Between section 0 journal low

-- a request of this section may be taken in
abbrev pub MayBegin : List (Option Hand) → ℕ → ℕ → Type 0
MayBegin hands low section = (section ≡ low) ⊎ ((low < section) × ((lane : ℕ) → hand_at hands lane ≡ None))
