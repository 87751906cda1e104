-- The session of a play before its first step.
use Rattle.std.specs.Prelude.{◌≡◌, ℕ, List, [], slice_index_or, Option, Some}
use Rattle.bow_units.specs.declared.sizes.Geometry.{Geometry}
use Rattle.bow_units.specs.Magics.{IsPlain}
use Rattle.bow_units.specs.Sizes.{IsValid}
use Rattle.bow_disk.specs.Disk.{Content, IsImage}
use Rattle.bow_flat.specs.Flat.{opening}
use Rattle.bow_core.specs.Calls.{Counted}
use Rattle.bow_core.specs.Further.{LedIn}
use Rattle.bow_core.specs.Openings.{KeepsImage}
use Rattle.bow_core.specs.Standing.{StandsIn}
use Rattle.bow_core.specs.Views.{View}
use Rattle.bow_session.specs.Leads.{WasLoaded}
use Rattle.bow_session.specs.Loading.{loaded}
use Rattle.bow_session.specs.Runs.{IsRun}
use Rattle.bow_session.specs.Sessions.{Run}
use Rattle.bow_play.specs.Playing.{IsFresh}

-- The device was opened on a disk that told this content: block 0 began with no magic, the opening made two calls, and
-- the device stands for the opening state of the image and is led for it.
pub record OpenedOn {D : Type 0} (content : D → Option Content) (moment : D → ℕ) (old : D) (c : Content)
    (first : View D) : Type 0 where
  pub plain : IsPlain (slice_index_or c.now 0 [])
  pub image : IsImage first.geometry.block_size first.geometry.blocks c.now
  pub counted : Counted 2 (moment old) (moment first.disk)
  pub stands : StandsIn content first (opening c.now)
  pub led : LedIn content first (opening c.now)

-- The device was just opened on this disk, whose image the opening kept.
pub record HasOpened {D : Type 0} (stated : D → Option Geometry) (content : D → Option Content) (moment : D → ℕ)
    (left : D → ℕ → List (List ℕ) → Type 0) (faults : D → ℕ) (old : D) (first : View D) : Type 0 where
  pub fresh : IsFresh first
  pub valid : IsValid first.geometry
  pub sizes : stated first.disk ≡ Some first.geometry
  pub opened : KeepsImage stated content moment left faults old first.disk
  pub found : (c : Content) → content old ≡ Some c → OpenedOn content moment old c first

-- The session was loaded over a device that was just opened on this disk, whose image the opening kept, and has made no
-- step.
pub record HasBegun {D : Type 0} (stated : D → Option Geometry) (content : D → Option Content) (moment : D → ℕ)
    (left : D → ℕ → List (List ℕ) → Type 0) (faults : D → ℕ) (old : D) (s : Run D) : Type 0 where
  pub first : View D
  pub is : s ≡ loaded first s.script
  pub fresh : IsFresh first
  pub valid : IsValid first.geometry
  pub opened : KeepsImage stated content moment left faults old first.disk
  pub found : (c : Content) → content old ≡ Some c → OpenedOn content moment old c first
  pub run : IsRun stated content faults first [] s
  pub loaded_over : WasLoaded stated content moment left faults first s
