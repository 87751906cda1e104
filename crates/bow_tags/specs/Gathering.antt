-- The seats are put together when the tags are closed.
use Rattle.std.specs.Prelude.{◌≡◌, ◌≢◌, ℕ, ◌+◌, ◌⊎◌, true, List, []}
use mathlib.Core.Option.{some}
use lib.ListN.{get_elem?}
use Rattle.atomic_table.specs.Seated.{TableId}
use Rattle.bow_tags.specs.declared.view.View.{View}
use Rattle.bow_tags.specs.Rule.{In, given_times}
use Rattle.bow_tags.specs.declared.view.Stance.TheVariants.{Holding}
use Rattle.bow_tags.specs.Steps.{lane_of}
use Rattle.bow_tags.specs.Seats.{Sitting, times_given}

module _ {P Q : Type 0} where
  -- the seat is one of this table
  abbrev pub AtTable : TableId → Sitting P Q → Type 0
  AtTable z s = s.table ≡ z

  -- x stands in this list of one of the seats
  abbrev pub Among : {A : Type 0} → (View P Q → List A) → A → List (Sitting P Q) → Type 0
  Among part x ss = (i : ℕ) × (s : Sitting P Q) × (get_elem? ss i ≡ some s) × In x (part s.view)

  -- the view v has in this list all that u and these seats have in theirs
  abbrev pub KeepsMembers : {A : Type 0} → (View P Q → List A) → View P Q → List (Sitting P Q) → View P Q → Type 0
  KeepsMembers {A} part u ss v = (x : A) → In x (part u) ⊎ Among part x ss → In x (part v)

  -- the view v has the lane of this seat, which is not in the middle of a post
  abbrev pub HasLane : View P Q → Sitting P Q → Type 0
  HasLane v s = In (lane_of s.view) v.lanes × ((lane_of s.view).stance ≢ Holding)

  -- the view v has the lanes of all these seats
  pub record HasLanes (ss : List (Sitting P Q)) (v : View P Q) : Type 0 where
    pub each : (i : ℕ) (s : Sitting P Q) → get_elem? ss i ≡ some s → HasLane v s

  -- a seat with the view u and these seats were put together, which left the view v
  pub record Gathers (u : View P Q) (ss : List (Sitting P Q)) (v : View P Q) : Type 0 where
    pub live : v.live ≡ true
    pub bare : v.hand ≡ []
    pub lanes : KeepsMembers (λ w. w.lanes) u ss v
    pub jobs : KeepsMembers (λ w. w.jobs) u ss v
    pub got : KeepsMembers (λ w. w.got) u ss v
    pub given : KeepsMembers (λ w. w.given) u ss v
    pub speaks : KeepsMembers (λ w. w.speaks) u ss v

  -- each entry stands among what v has given as often as in u and these seats together
  abbrev pub CountsGiven : View P Q → List (Sitting P Q) → View P Q → Type 0
  CountsGiven u ss v = (l k : ℕ) → given_times l k v.given ≡ given_times l k u.given + times_given l k ss
