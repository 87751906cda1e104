-- A session as a run: the turns that it made since it was loaded, and what follows from them.
use Rattle.std.specs.Prelude.{◌≡◌, ℕ, List, Option, Some}
use Rattle.std.specs.Option.{option_map}
use Rattle.bow_units.specs.declared.sizes.Geometry.{Geometry}
use Rattle.bow_disk.specs.Disk.{Content}
use Rattle.bow_core.specs.Views.{View}
use Rattle.bow_history.specs.Sessions.{Session, Turned, begun}
use Rattle.bow_history.specs.Histories.{session_after}
use Rattle.bow_history.specs.Promises.{Core, IsSession}
use Rattle.bow_history.specs.Promises as promised
use Rattle.bow_history.specs.DiskCuts.{disk_of}
use Rattle.bow_session.specs.Sessions.{Run, plan_in, state_in}

-- the device as the theory of histories has it
abbrev pub core_of : {D : Type 0} → (D → Option Content) → (D → ℕ) → View D → Core
core_of content faults v = record {
  sizes = v.geometry;
  memory = v.memory;
  admitted = v.admitted;
  calls = v.calls;
  content = option_map disk_of (content v.disk);
  faults = faults v.disk;
}

-- the session as the theory has it, with its device as it was at first, and the turns since then
abbrev pub view_of : {D : Type 0} → (D → Option Content) → (D → ℕ) → View D → List Turned → Run D → promised.View
view_of content faults first turns v = record {
  plan = plan_in v;
  core = core_of content faults v.core;
  first = core_of content faults first;
  turns = turns;
  journal = v.journal;
  moments = v.moments;
}

-- before the first turn, over this device
abbrev pub begun_over : {D : Type 0} → View D → Session
begun_over first = begun first.memory first.admitted

-- The session made these turns since it was loaded over that device, and all that it keeps follows from them: it is a
-- session of the theory, whose turns are a run over its disk.
pub record IsRun {D : Type 0} (stated : D → Option Geometry) (content : D → Option Content) (faults : D → ℕ)
    (first : View D) (turns : List Turned) (v : Run D) : Type 0 where
  pub session : IsSession (view_of content faults first turns v)
  pub state : session_after (plan_in v) (begun_over first) turns ≡ state_in v
  pub sizes : stated v.core.disk ≡ Some v.core.geometry
