-- What follows from the rule, of all seats together.
use Rattle.std.specs.Prelude.{◌≡◌, ℕ, ◌<◌, List}
use mathlib.Core.Option.{some}
use lib.ListN.{get_elem?}
use Rattle.atomic_table.specs.Table.{State}
use Rattle.bow_tags.specs.declared.view.Slot.{Slot}
use Rattle.bow_tags.specs.declared.view.Held.{Held}
use Rattle.bow_tags.specs.declared.view.Entry.{Entry}
use Rattle.bow_tags.specs.declared.view.View.{View}

module _ {P Q : Type 0} where
  -- x stands at place i in this list of seat j
  abbrev pub Stands : {A : Type 0} → (View P Q → List A) → State (Slot P Q) (View P Q) → ℕ → ℕ → A → Type 0
  Stands part s j i x = (v : View P Q) × (get_elem? s.views j ≡ some v) × (get_elem? (part v) i ≡ some x)

  -- no two seats hold a job of one lane, and none holds two
  abbrev pub HeldOnce : State (Slot P Q) (View P Q) → Type 0
  HeldOnce s = (j i k m : ℕ) (x y : Held P) → Stands (λ v. v.jobs) s j i x → Stands (λ v. v.jobs) s k m y
      → x.lane ≡ y.lane → (j ≡ k) × (i ≡ m)

  -- no job is held whose number was answered, nor one before such a number
  abbrev pub NeverTakenAgain : State (Slot P Q) (View P Q) → Type 0
  NeverTakenAgain s = (j i k m : ℕ) (x : Held P) (y : Entry P Q)
      → Stands (λ v. v.jobs) s j i x → Stands (λ v. v.given) s k m y → x.lane ≡ y.lane → y.number < x.number

  -- no two entries that were given, by one seat or by two, are of one lane and number
  abbrev pub GivenOnce : State (Slot P Q) (View P Q) → Type 0
  GivenOnce s = (j i k m : ℕ) (x y : Entry P Q) → Stands (λ v. v.given) s j i x → Stands (λ v. v.given) s k m y
      → x.lane ≡ y.lane → x.number ≡ y.number → (j ≡ k) × (i ≡ m)

  -- what was got was given, with the same ask and the same answer
  abbrev pub GotWasGiven : State (Slot P Q) (View P Q) → Type 0
  GotWasGiven s = (j i : ℕ) (x : Entry P Q) → Stands (λ v. v.got) s j i x
      → (k : ℕ) × (m : ℕ) × Stands (λ v. v.given) s k m x
