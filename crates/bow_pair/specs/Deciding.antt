-- Deciding over several devices: they are flushed one after the other, the decision is kept, they are committed one
-- after the other, and the text is removed.
use Rattle.std.specs.Prelude.{◌≡◌, ◌⊎◌, ℕ, ◌<◌, ◌≤◌, true, false, List, map, slice_get, length, Option, None, Some}
use Rattle.bow_units.specs.Causes.{Rose}
use Rattle.bow_units.specs.declared.sizes.Geometry.{Geometry}
use Rattle.bow_disk.specs.Disk.{Content}
use Rattle.bow_flat.specs.Flat.{Flat, after}
use Rattle.bow_flat.specs.Flat.Event.{Flushes}
use Rattle.vold_meta.specs.Decisions.{text_of_decision}
use Rattle.bow_core.specs.Forward.{AreForwardable}
use Rattle.bow_core.specs.Further.{LedIn}
use Rattle.bow_core.specs.Standing.{StandsIn}
use Rattle.bow_core.specs.Views.{IsOpened, View}
use Rattle.bow_pair.specs.Committing.{AreCurrent, IsAtRest, IsFlushedFor}
use Rattle.bow_pair.specs.Joint.{Agreed, AgreesOn, Member}
use Rattle.bow_pair.specs.declared.deciding.Decided.{Decided}
use Rattle.bow_pair.specs.declared.deciding.Decided.TheVariants.{Committed, NotCommitted, Unfinished, KeeperFault}

-- each device is at rest in the checkpoint
abbrev pub AreAtRest : {D : Type 0} → (D → Option Geometry) → ℕ → List (View D) → Type 0
AreAtRest {D} stated more cores = (k : ℕ) (v : View D) → slice_get cores k ≡ Some v → IsAtRest stated more v

-- so of each device, before a call and after it
abbrev pub EachPair : {V : Type 0} → (V → V → Type 0) → List V → List V → Type 0
EachPair {V} R old new = (k : ℕ) (v w : V) → slice_get old k ≡ Some v → slice_get new k ≡ Some w → R v w

-- A device may have been flushed, or a flush of it failed: it is at rest, and stands for the state that it stood for,
-- or for that state flushed.
pub record StillHolds {D : Type 0} (stated : D → Option Geometry) (content : D → Option Content) (faults : D → ℕ)
    (v w : View D) : Type 0 where
  pub rests : IsAtRest stated 1 w
  pub geometry : w.geometry ≡ v.geometry
  pub later : faults v.disk ≤ faults w.disk
  pub stands : (f : Flat) → StandsIn content v f → LedIn content v f → StandsIn content w f
      ⊎ StandsIn content w (after v.geometry.blocks Flushes f)

-- it was flushed
abbrev pub WasFlushed : {D : Type 0} → (D → Option Content) → View D → View D → Type 0
WasFlushed content v w = (f : Flat) → StandsIn content v f → LedIn content v f
    → IsFlushedFor content w (after v.geometry.blocks Flushes f)

-- A device that was flushed may have been committed, or a commit of it failed: whatever a cut leaves may be given up
-- forward.
pub record StillForward {D : Type 0} (stated : D → Option Geometry) (content : D → Option Content) (faults : D → ℕ)
    (v w : View D) : Type 0 where
  pub opened : IsOpened stated w
  pub geometry : w.geometry ≡ v.geometry
  pub later : faults v.disk ≤ faults w.disk
  pub images : (f : Flat) → IsFlushedFor content v f → AreForwardable content w f

-- it was committed
abbrev pub WasCommitted : {D : Type 0} → (D → Option Content) → View D → View D → Type 0
WasCommitted content v w = (f : Flat) → IsFlushedFor content v f → AreCurrent content w f

-- the count of faults of this device's disk rose
abbrev pub RoseAt : {D : Type 0} → (D → ℕ) → ℕ → List (View D) → List (View D) → Type 0
RoseAt {D} faults device old new = (v : View D) × (w : View D) × (slice_get old device ≡ Some v)
    × (slice_get new device ≡ Some w) × Rose (faults v.disk) (faults w.disk)

-- it stopped at this device, whose disk failed, and those behind it were not touched
pub record FailsAt {D : Type 0} (faults : D → ℕ) (device : ℕ) (old new : List (View D)) : Type 0 where
  pub on : device < length old
  pub rose : RoseAt faults device old new
  pub behind : (k : ℕ) → device < k → slice_get new k ≡ slice_get old k

-- a fault of a device or of the keeper is answered only where that count rose
abbrev pub IsDecidedCaused : {D : Type 0} → ℕ → ℕ → (D → ℕ) → List (View D) → List (View D) → Decided → Type 0
IsDecidedCaused before now faults old new Committed = Unit {0}
IsDecidedCaused before now faults old new (NotCommitted device) = FailsAt faults device old new
IsDecidedCaused before now faults old new (Unfinished device) = RoseAt faults device old new
IsDecidedCaused before now faults old new KeeperFault = Rose before now

-- as many devices as before, and of none the disk's count of faults fell
pub record NoneFell {D : Type 0} (faults : D → ℕ) (old new : List (View D)) : Type 0 where
  pub many : length new ≡ length old
  pub later : EachPair (λ v w. faults v.disk ≤ faults w.disk) old new

-- A device that takes part: it stands and is led for a state, and the member is that state flushed.
pub record TakesPart {D : Type 0} (content : D → Option Content) (v : View D) (m : Member) : Type 0 where
  pub before : Flat
  pub sizes : m.sizes ≡ v.geometry
  pub state : m.state ≡ after v.geometry.blocks Flushes before
  pub stands : StandsIn content v before
  pub led : LedIn content v before

-- these are the members, by the devices' numbers
abbrev pub TakePart : {D : Type 0} → (D → Option Content) → List (View D) → List Member → Type 0
TakePart {D} content cores members = (k : ℕ) (m : Member) → slice_get members k ≡ Some m
    → (v : View D) × (slice_get cores k ≡ Some v) × TakesPart content v m

-- What each joint cut agrees on with the text that is left, by the answer: on committing once all devices were
-- committed, or one was not but the decision is kept; on rolling back where a device was not flushed; and after a fault
-- of the keeper on the one or the other.
abbrev pub AgreesBy : Decided → Option (List ℕ) → List Member → (ℕ → List (List ℕ)) → Type 0
AgreesBy Committed left members images = (left ≡ None) × AgreesOn true left members images
AgreesBy (NotCommitted device) left members images = (left ≡ None) × AgreesOn false left members images
AgreesBy (Unfinished device) left members images = (left ≡ text_of_decision true) × AgreesOn true left members images
AgreesBy KeeperFault left members images = Agreed left members images

-- the disks of devices
abbrev pub disks_of : {D : Type 0} → List (View D) → List D
disks_of cores = map (λ v. v.disk) cores
