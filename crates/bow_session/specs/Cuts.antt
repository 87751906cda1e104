-- What cuts of a session leave, and where its run leads.
use Rattle.std.specs.Prelude.{◌≡◌, ℕ, List, [], ◌++◌, Option, Some}
use Rattle.bow_units.specs.declared.sizes.Geometry.{Geometry}
use Rattle.bow_disk.specs.Disk.{Content}
use Rattle.bow_chain.specs.Contents.{contents_of}
use Rattle.bow_flat.specs.Flat.{Flat}
use Rattle.bow_guard.specs.Cuts.{candidates_of}
use Rattle.bow_guard.specs.Standing.{StandsFor}
use Rattle.bow_machine.specs.Ahead.{IsLed}
use Rattle.bow_machine.specs.MemoryIsSound.{MemoryIsSound}
use Rattle.bow_core.specs.Views.{View}
use Rattle.bow_history.specs.Complete.{IsComplete}
use Rattle.bow_history.specs.Cuts.{NoneFails}
use Rattle.bow_history.specs.DiskCuts.{disk_of, HasCuts, DiskLeads, StandsAheadToo}
use Rattle.bow_history.specs.Journal.{beginning}
use Rattle.bow_history.specs.Legality.{IsReadyFor}
use Rattle.bow_history.specs.Sessions.{Turned}
use Rattle.bow_session.specs.Runs.{IsRun, begun_over}
use Rattle.bow_session.specs.Sessions.{Run, IsOver, plan_in}

-- Where the disk told its content when the session was loaded: the turns are a run over it, and what a cut might have
-- left since then, it might have left of that run.
abbrev pub CutsAreOfRun : {D : Type 0} → (D → Option Content) → (D → ℕ) → (D → ℕ → List (List ℕ) → Type 0) → View D
    → List Turned → Run D → Type 0
CutsAreOfRun content moment left first turns v = (c : Content) → content first.disk ≡ Some c
    → HasCuts content moment left first.disk v.core.disk (plan_in v) (begun_over first) turns (disk_of c)

-- Over a disk that states the device's sizes a session that is loaded has such cuts.
abbrev pub LoadedHasCutsOfRun : {D : Type 0} → (D → Option Geometry) → (D → Option Content) → (D → ℕ) → (D → ℕ
    → List (List ℕ) → Type 0) → Type 0
LoadedHasCutsOfRun {D} stated content moment left = (v : Run D) → stated v.core.disk ≡ Some v.core.geometry
    → CutsAreOfRun content moment left v.core [] v

-- A session that made the turns goes on by some more, to a run by all of them, whose cuts are still those of its run.
pub record GoesOn {D : Type 0} (stated : D → Option Geometry) (content : D → Option Content) (moment : D → ℕ)
    (left : D → ℕ → List (List ℕ) → Type 0) (faults : D → ℕ) (first : View D) (turns more : List Turned)
    (old new : Run D) : Type 0 where
  pub run : IsRun stated content faults first (turns ++ more) new
  pub cuts : CutsAreOfRun content moment left first turns old
      → CutsAreOfRun content moment left first (turns ++ more) new

-- Where such a run leads from each state for which the device stood when the session was loaded: its journal is legal,
-- and what cuts leave stands for a state on its way; since the moment of an item, for one that has the item; and at the
-- end, where no request waits, for the last one.
abbrev pub RunsLead : {D : Type 0} → (D → Option Content) → (D → ℕ) → (D → ℕ → List (List ℕ) → Type 0) → Type 0
RunsLead {D} content moment left = (first : View D) (turns : List Turned) (v : Run D) (c : Content) (f : Flat)
    → CutsAreOfRun content moment left first turns v → content first.disk ≡ Some c
    → IsReadyFor (plan_in v) first.memory (disk_of c) f
    → DiskLeads content moment left (StandsFor v.core.geometry) first.disk v.core.disk (plan_in v) (begun_over first)
    turns (beginning f)

-- Where no call failed, and the device was led when the session was loaded, what cuts leave is ahead for them too.
abbrev pub RunsLeadAhead : {D : Type 0} → (D → Option Geometry) → (D → Option Content) → (D → ℕ) → (D → ℕ
    → List (List ℕ) → Type 0) → (D → ℕ) → Type 0
RunsLeadAhead {D} stated content moment left faults = (first : View D) (turns : List Turned) (v : Run D) (c : Content)
    (f : Flat) → IsRun stated content faults first turns v → CutsAreOfRun content moment left first turns v
    → content first.disk ≡ Some c → IsReadyFor (plan_in v) first.memory (disk_of c) f
    → IsLed v.core.geometry first.memory (contents_of c.now) (candidates_of c.candidates) f
    → NoneFails (plan_in v) (begun_over first) turns
    → DiskLeads content moment left (StandsAheadToo v.core.geometry) first.disk v.core.disk (plan_in v)
    (begun_over first) turns (beginning f)

-- Over any disk: the journal of a run that is over, from sound memory in which no request waited, is complete.
abbrev pub OverIsComplete : {D : Type 0} → (D → Option Geometry) → (D → Option Content) → (D → ℕ) → Type 0
OverIsComplete {D} stated content faults = (first : View D) (turns : List Turned) (v : Run D)
    → IsRun stated content faults first turns v → IsOver v → MemoryIsSound v.core.geometry first.memory
    → first.memory.requests ≡ [] → IsComplete (plan_in v) v.journal

-- And then no request waits.
abbrev pub OverIsIdle : {D : Type 0} → (D → Option Geometry) → (D → Option Content) → (D → ℕ) → Type 0
OverIsIdle {D} stated content faults = (first : View D) (turns : List Turned) (v : Run D)
    → IsRun stated content faults first turns v → IsOver v → v.core.memory.requests ≡ []
