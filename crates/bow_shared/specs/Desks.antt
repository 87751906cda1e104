-- What lies under the lock.
use Rattle.std.specs.Prelude.{◌≡◌, ℕ, ◌-◌, ◌^◌, ◌<◌, ◌≤◌, List, ◌++◌, length, slice_get, Option, Some}
use Rattle.bow_units.specs.declared.requests.Outcome.{Outcome}
use Rattle.bow_units.specs.declared.sizes.Geometry.{Geometry}
use Rattle.bow_units.specs.declared.statuses.Seen.{Seen}
use Rattle.bow_disk.specs.Disk.{Content}
use Rattle.bow_machine.specs.Shown.{status_of}
use Rattle.bow_core.specs.Views.{View}
use Rattle.bow_script.specs.declared.scripts.Line.{Line}
use Rattle.bow_history.specs.declared.items.Item.{Item}
use Rattle.bow_history.specs.declared.items.Item.TheVariants.{Answered}
use Rattle.bow_history.specs.Promises.{held}
use Rattle.bow_history.specs.Sessions.{Turned}
use Rattle.bow_status.specs.Rising.{newest}
use Rattle.bow_session.specs.Leads.{WasLoaded}
use Rattle.bow_session.specs.Runs.{IsRun}
use Rattle.bow_session.specs.Sessions.{Run}

-- The session has the script and the sizes with which its run began, and over whatever device it was loaded before
-- then, it is still a run since that loading.
pub record GoesOnFrom {D : Type 0} (stated : D → Option Geometry) (content : D → Option Content) (moment : D → ℕ)
    (left : D → ℕ → List (List ℕ) → Type 0) (faults : D → ℕ) (loaded : View D → Type 0)
    (script : List (List (List Line))) (sizes : Geometry) (v : Run D) : Type 0 where
  pub run : (first : View D) → loaded first → WasLoaded stated content moment left faults first v
  pub same : v.script ≡ script
  pub fits : v.core.geometry ≡ sizes

-- So many turns were made since the run began, whatever turns the session had made before then; the count stays at its
-- last value.
abbrev pub IsCounted : {D : Type 0} → (D → Option Geometry) → (D → Option Content) → (D → ℕ)
    → (View D → List Turned → Type 0) → ℕ → Run D → Type 0
IsCounted {D} stated content faults begun steps v = (first : View D) (turns : List Turned) → begun first turns
    → (more : List Turned) × (steps ≡ held (length more)) × IsRun stated content faults first (turns ++ more) v

-- What was published last is the number of steps, with the present status; the last number of all is not published.
pub record IsPublished {D : Type 0} (v : Run D) (steps : ℕ) (sent : List Seen) : Type 0 where
  pub below : (newest sent).version ≤ steps
  pub last : 0 < steps → steps < 2 ^ 64 - 1
      → newest sent ≡ record { version = steps; status = status_of v.core.memory }

-- the journal tells this outcome of request n of the lane
abbrev pub HasAnswer : List Item → ℕ → ℕ → Outcome → Type 0
HasAnswer journal lane n outcome = (i : ℕ) × (slice_get journal i ≡ Some (Answered lane n outcome))
