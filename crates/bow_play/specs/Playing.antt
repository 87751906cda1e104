-- A play, and why there was none.
use Rattle.std.specs.Prelude.{◌≡◌, ℕ, List, Option}
use Rattle.bow_units.specs.declared.sizes.Geometry.{Geometry}
use Rattle.bow_units.specs.Causes.{Rose}
use Rattle.bow_disk.specs.Disk.{Content}
use Rattle.bow_machine.specs.Laws.{opened}
use Rattle.bow_core.specs.declared.device.OpenFault.{OpenFault}
use Rattle.bow_core.specs.declared.device.OpenFault.TheVariants as opens
use Rattle.bow_core.specs.Openings.{KeepsImage, OpenCause}
use Rattle.bow_core.specs.Views.{View}
use Rattle.bow_script.specs.declared.scripts.Line.{Line}
use Rattle.bow_history.specs.Schedule.{FollowsDraws}
use Rattle.bow_history.specs.Sessions.{Turned}
use Rattle.bow_session.specs.Runs.{IsRun, begun_over}
use Rattle.bow_session.specs.Sessions.{Run, plan_in}
use Rattle.bow_play.specs.Reading.{Taken, GaveScript, GaveNoScript}
use Rattle.bow_play.specs.declared.faults.PlayFault.{PlayFault}
use Rattle.bow_play.specs.declared.faults.PlayFault.TheVariants.{BadScript, SourceFault, BadGeometry, DiskFault}
use Rattle.bow_play.specs.declared.faults.PlayFault.TheVariants.{NeedsRestore, NoMemory}

-- a device of 16 places that was just opened: nothing waits, and it has made the two calls of its opening
pub record IsFresh {D : Type 0} (v : View D) : Type 0 where
  pub memory : v.memory ≡ opened v.geometry.blocks
  pub places : v.places ≡ 16
  pub admitted : v.admitted ≡ 0
  pub calls : v.calls ≡ 2

-- The session is a run over a device that was just opened on this disk, whose image the opening kept, of the same
-- sizes: since then it made turns, and all that it keeps follows from them.
pub record IsRunOn {D : Type 0} (stated : D → Option Geometry) (content : D → Option Content) (moment : D → ℕ)
    (left : D → ℕ → List (List ℕ) → Type 0) (faults : D → ℕ) (old : D) (s : Run D) : Type 0 where
  pub first : View D
  pub turns : List Turned
  pub fresh : IsFresh first
  pub opened : KeepsImage stated content moment left faults old first.disk
  pub sizes : first.geometry ≡ s.core.geometry
  pub run : IsRun stated content faults first turns s

-- and each turn is of the actor who was drawn for it, by this number
pub record IsPlay {D : Type 0} (stated : D → Option Geometry) (content : D → Option Content) (moment : D → ℕ)
    (left : D → ℕ → List (List ℕ) → Type 0) (faults : D → ℕ) (number : ℕ) (old : D) (s : Run D) : Type 0 where
  pub ran : IsRunOn stated content moment left faults old s
  pub drawn : FollowsDraws (plan_in s) (begun_over ran.first) number ran.turns

-- why a device is not opened, as a fault of a play
abbrev pub fault_for : OpenFault → PlayFault
fault_for (opens.BadGeometry g) = BadGeometry g
fault_for opens.NeedsRestore = NeedsRestore
fault_for opens.DiskFault = DiskFault
fault_for opens.NoMemory = NoMemory

-- the source gave a script
abbrev pub GaveSome : Taken → Type 0
GaveSome t = (script : List (List (List Line))) × GaveScript t script

-- Why no device was played over, by the disk before and after: its opening's cause. Want of memory has none, and may
-- come after the opening.
abbrev pub DiskCause : {D : Type 0} → (D → Option Geometry) → (D → Option Content) → (D → ℕ) → (D → ℕ) → D → D
    → PlayFault → Type 0
DiskCause stated content moment faults old new (BadGeometry g) =
    OpenCause stated content moment faults old new (opens.BadGeometry g)
DiskCause stated content moment faults old new NeedsRestore =
    OpenCause stated content moment faults old new opens.NeedsRestore
DiskCause stated content moment faults old new DiskFault =
    OpenCause stated content moment faults old new opens.DiskFault
DiskCause stated content moment faults old new NoMemory = Unit {0}
DiskCause stated content moment faults old new fault = ⊥

-- Why a script is not played, by what was taken from the source, its count of faults before and after, and the disk: no
-- script, and then the disk is the one that was given; or a script, and no device. Want of memory has no cause.
abbrev pub PlayCause : {D : Type 0} → (D → Option Geometry) → (D → Option Content) → (D → ℕ) → (D → ℕ)
    → Taken → ℕ → ℕ → D → D → PlayFault → Type 0
PlayCause stated content moment faults t before now old new SourceFault = Rose before now × (new ≡ old)
PlayCause stated content moment faults t before now old new (BadScript line) = GaveNoScript t line
    × (new ≡ old)
PlayCause stated content moment faults t before now old new NoMemory = Unit {0}
PlayCause stated content moment faults t before now old new fault = GaveSome t
    × DiskCause stated content moment faults old new fault
