-- The rule of the status cell: versions rise, and nobody has seen a newer value than the cell's.
use Rattle.std.specs.Prelude.{◌≡◌, ℕ, ◌+◌, ◌<◌, ◌⊎◌, true, false, List, [], ◌∷◌, ◌++◌}
use mathlib.Core.Option.{some}
use lib.ListN.{get_elem?}
use Rattle.atomic_table.specs.Seated.{TableId}
use Rattle.bow_units.specs.declared.requests.Phase.TheVariants.{Trim}
use Rattle.bow_units.specs.declared.statuses.Seen.{Seen}
use Rattle.bow_status.specs.declared.view.View.{View}
use Rattle.bow_status.specs.declared.shown.Shown.{Shown}

-- what the cell contains before anything is published
abbrev pub opening_value : Seen
opening_value = record { version = 0; status = record { phase = Trim; free = 0; sequence = 0; entries = 0 } }

-- the last of these, or what stood before them
abbrev pub last_of : Seen → List Seen → Seen
last_of s [] = s
last_of s (x ∷ xs) = last_of x xs

-- what was sent last, or the opening value
abbrev pub newest : List Seen → Seen
newest sent = last_of opening_value sent

-- each version is above the one before it, and the first is above n
abbrev pub VersionsRise : ℕ → List Seen → Type 0
VersionsRise n [] = Unit {0}
VersionsRise n (x ∷ xs) = (n < x.version) × VersionsRise x.version xs

-- the opening value, or one that was sent
abbrev pub WasShown : List Seen → Seen → Type 0
WasShown sent s = (s ≡ opening_value) ⊎ ((i : ℕ) × (get_elem? sent i ≡ some s))

-- the same value, or one of a larger version
abbrev pub IsSameOrNewer : Seen → Seen → Type 0
IsSameOrNewer old new = (old ≡ new) ⊎ (old.version < new.version)

-- the status that the cell's words spell
abbrev pub seen_of : Shown → Seen
seen_of x = record {
  version = x.version;
  status = record { phase = x.phase; free = x.free; sequence = x.sequence; entries = x.entries };
}

-- of a pass with this view: if it publishes, it is the publisher's and knows all that was sent
abbrev pub PublishesAlone : ℕ → List Seen → ℕ → View → Type 0
PublishesAlone publisher sent pass v = v.publishes ≡ true → (pass ≡ publisher) × (v.sent ≡ sent)

-- what the pass saw last was shown, and the cell's value is the same or newer; and one pass alone publishes
abbrev pub PassOk : ℕ → List Seen → Seen → ℕ → View → Type 0
PassOk publisher sent now pass v =
    PublishesAlone publisher sent pass v × WasShown sent v.last × IsSameOrNewer v.last now

-- the cell spells the newest of what was sent, whose versions rise, and what each pass knows is true of it
pub record StatusRule (shown : Shown) (views : List View) : Type 0 where
  pub publisher : ℕ
  pub sent : List Seen
  pub rises : VersionsRise 0 sent
  pub spells : seen_of shown ≡ newest sent
  pub each : (pass : ℕ) (v : View) → get_elem? views pass ≡ some v → PassOk publisher sent (seen_of shown) pass v

-- the view of one that publishes and has sent these, before any look
abbrev pub publishing : List Seen → View
publishing sent = record { publishes = true; sent = sent; looks = 0; last = opening_value }

-- the view of one that looks: how often it did, and what it saw last
abbrev pub watching : ℕ → Seen → View
watching looks last = record { publishes = false; sent = []; looks = looks; last = last }

-- the swap of a publish: the new value is added to what was sent
abbrev pub publishes : View → Shown → Shown → View → Type 0
publishes v old new w = w ≡ record v { sent = v.sent ++ seen_of new ∷ [] }

-- the load of a look: it counts, and what the cell spells is kept
abbrev pub looks : View → Shown → Shown → View → Type 0
looks v old new w = IsSameOrNewer v.last (seen_of new) × (w ≡ record v { looks = v.looks + 1; last = seen_of new })

-- a load of the publisher's: the cell spells the newest of what it sent
abbrev pub reads : View → Shown → Shown → View → Type 0
reads v old new w = (seen_of new ≡ newest v.sent) × VersionsRise 0 v.sent × (w ≡ v)

-- a publisher as contracts see it
pub record Publishing : Type 0 where
  pub cell : TableId
  pub sent : List Seen

-- a watcher as contracts see it
pub record Watching : Type 0 where
  pub cell : TableId
  pub looks : ℕ
  pub last : Seen

-- of this cell, before its first look
abbrev pub IsFirstWatcher : TableId → Watching → Type 0
IsFirstWatcher cell w = (w.cell ≡ cell) × (w.looks ≡ 0) × (w.last ≡ opening_value)

-- whatever two holders of passes saw last, equal versions are the same value
abbrev pub EqualVersionsAreOne : List View → Type 0
EqualVersionsAreOne views = (i j : ℕ) (v w : View) → get_elem? views i ≡ some v → get_elem? views j ≡ some w
    → v.last.version ≡ w.last.version → v.last ≡ w.last

-- what anyone saw last is the opening value or was sent by the publisher
abbrev pub SeenWasSent : List View → Type 0
SeenWasSent views = (i j : ℕ) (v w : View) → get_elem? views i ≡ some v → get_elem? views j ≡ some w
    → w.publishes ≡ true → WasShown w.sent v.last
