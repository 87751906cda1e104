-- The end of a run.
use Rattle.std.specs.Prelude.{◌≡◌, ℕ, List, [], Option}
use Rattle.bow_units.specs.declared.sizes.Geometry.{Geometry}
use Rattle.bow_disk.specs.Disk.{Content}
use Rattle.bow_flat.specs.Flat.{Flat}
use Rattle.bow_guard.specs.Standing.{StandsFor}
use Rattle.bow_core.specs.Further.{LedIn}
use Rattle.bow_core.specs.Views.{View}
use Rattle.bow_history.specs.Complete.{IsComplete}
use Rattle.bow_history.specs.DiskCuts.{StandsAheadToo}
use Rattle.bow_history.specs.Fits.{Agrees}
use Rattle.bow_session.specs.Leads.{BeginsAt, FaultsAreCounted, LeadsFrom, StaysBelow, WasLoaded}
use Rattle.bow_session.specs.Sessions.{Run, IsOver, plan_in, state_in}

-- The session is over, and what is then said of it by any device over which it was loaded: its journal is complete, its
-- faults are counted, and it leads from each state with which it began; where no call failed, ahead too.
pub record IsPlayedOut {D : Type 0} (stated : D → Option Geometry) (content : D → Option Content) (moment : D → ℕ)
    (left : D → ℕ → List (List ℕ) → Type 0) (faults : D → ℕ) (v : Run D) : Type 0 where
  pub over : IsOver v
  pub idle : v.core.memory.requests ≡ []
  pub buffers : Agrees (plan_in v) (state_in v) (state_in v).kept
  pub complete : (first : View D) → WasLoaded stated content moment left faults first v
      → IsComplete (plan_in v) v.journal
  pub counted : (first : View D) → WasLoaded stated content moment left faults first v
      → FaultsAreCounted faults first v
  pub leads : (first : View D) (f : Flat) → WasLoaded stated content moment left faults first v
      → BeginsAt content (plan_in v) first f → LeadsFrom content moment left (StandsFor v.core.geometry) first f v
  pub ahead : (first : View D) (f : Flat) → WasLoaded stated content moment left faults first v
      → BeginsAt content (plan_in v) first f → LedIn content first f
      → StaysBelow (faults first.disk) (faults v.core.disk)
      → LeadsFrom content moment left (StandsAheadToo v.core.geometry) first f v
