-- Joining disks: a device is opened on each, in order.
use Rattle.std.specs.Prelude.{◌≡◌, ◌⊎◌, ℕ, ◌+◌, ◌<◌, List, [], ◌∷◌, ◌++◌, drop, length, slice_get, slice_index_or, Option, Some}
use Rattle.bow_units.specs.declared.sizes.Geometry.{Geometry}
use Rattle.bow_units.specs.Magics.{IsPlain}
use Rattle.bow_units.specs.Sizes.{IsValid}
use Rattle.bow_disk.specs.Disk.{Content}
use Rattle.bow_flat.specs.Flat.{opening}
use Rattle.bow_machine.specs.Laws.{opened}
use Rattle.bow_core.specs.Further.{LedIn}
use Rattle.bow_core.specs.Openings.{KeepsImage, OpenCause}
use Rattle.bow_core.specs.Standing.{StandsIn}
use Rattle.bow_core.specs.Views.{IsOpened, View}
use Rattle.bow_core.specs.declared.device.OpenFault.{OpenFault}
use Rattle.bow_core.specs.declared.device.OpenFault.TheVariants as open_faults
use Rattle.bow_pair.specs.Pairs.{IsReady}
use Rattle.bow_pair.specs.declared.joining.PairFault.{PairFault}
use Rattle.bow_pair.specs.declared.joining.PairFault.TheVariants.{BadGeometry, NeedsRestore, DiskFault, NoMemory}

-- A device was opened on a disk, whose image the opening kept; where the disk told it, the device stands for its
-- opening state, and is led for it.
pub record OpenedOver {D : Type 0} (stated : D → Option Geometry) (content : D → Option Content) (moment : D → ℕ)
    (left : D → ℕ → List (List ℕ) → Type 0) (faults : D → ℕ) (old : D) (v : View D) : Type 0 where
  pub valid : IsValid v.geometry
  pub whole : IsOpened stated v
  pub fresh : v.memory ≡ opened v.geometry.blocks
  pub ready : IsReady 0 v
  pub kept : KeepsImage stated content moment left faults old v.disk
  pub plain : (c : Content) → content old ≡ Some c → IsPlain (slice_index_or c.now 0 [])
  pub stands : (c : Content) → content old ≡ Some c → StandsIn content v (opening c.now)
  pub led : (c : Content) → content old ≡ Some c → LedIn content v (opening c.now)

-- one is opened on each of the first disks, and the others are left
pub record AreOpenedOver {D : Type 0} (stated : D → Option Geometry) (content : D → Option Content) (moment : D → ℕ)
    (left : D → ℕ → List (List ℕ) → Type 0) (faults : D → ℕ) (disks rest : List D) (cores : List (View D)) :
    Type 0 where
  pub split : drop (length cores) disks ≡ rest
  pub within : length cores + length rest ≡ length disks
  pub each : (k : ℕ) (d : D) (v : View D) → slice_get disks k ≡ Some d → slice_get cores k ≡ Some v
      → OpenedOver stated content moment left faults d v

-- what a device's fault of opening is for the pair
abbrev pub fault_at : ℕ → OpenFault → PairFault
fault_at device (open_faults.BadGeometry g) = BadGeometry device g
fault_at device open_faults.NeedsRestore = NeedsRestore device
fault_at device open_faults.DiskFault = DiskFault
fault_at device open_faults.NoMemory = NoMemory

-- Opening stopped at this device, for this cause; those before it could be opened, and those behind it were not
-- touched.
pub record StopsOpening {D : Type 0} (stated : D → Option Geometry) (content : D → Option Content) (moment : D → ℕ)
    (left : D → ℕ → List (List ℕ) → Type 0) (faults : D → ℕ) (old new : List D) (device : ℕ) (fault : OpenFault) :
    Type 0 where
  pub before : (k : ℕ) (d e : D) → k < device → slice_get old k ≡ Some d → slice_get new k ≡ Some e
      → KeepsImage stated content moment left faults d e × ((c : Content) → content d ≡ Some c
      → IsPlain (slice_index_or c.now 0 []))
  pub here : (d : D) × (e : D) × (slice_get old device ≡ Some d) × (slice_get new device ≡ Some e)
      × KeepsImage stated content moment left faults d e × OpenCause stated content moment faults d e fault
  pub behind : (k : ℕ) → device < k → slice_get new k ≡ slice_get old k

-- Why devices are not joined: for want of memory, with all disks as they were; or the first device that can't be opened
-- has a fault.
abbrev pub JoinsNot : {D : Type 0} (stated : D → Option Geometry) (content : D → Option Content) (moment : D → ℕ)
    (left : D → ℕ → List (List ℕ) → Type 0) (faults : D → ℕ) → List D → List D → PairFault → Type 0
JoinsNot stated content moment left faults old new fault = ((fault ≡ NoMemory) × (new ≡ old))
    ⊎ ((device : ℕ) × (why : OpenFault) × (fault ≡ fault_at device why)
    × StopsOpening stated content moment left faults old new device why)

-- a device was opened on the next disk
pub record OpensNext {D : Type 0} (stated : D → Option Geometry) (content : D → Option Content) (moment : D → ℕ)
    (left : D → ℕ → List (List ℕ) → Type 0) (faults : D → ℕ) (old rest : List D) (before after : List (View D)) :
    Type 0 where
  pub disk : D
  pub core : View D
  pub opened : OpenedOver stated content moment left faults disk core
  pub taken : old ≡ disk ∷ rest
  pub added : after ≡ before ++ core ∷ []

-- none can be opened on it, for this cause, and it is left apart
pub record FailsNext {D : Type 0} (stated : D → Option Geometry) (content : D → Option Content) (moment : D → ℕ)
    (left : D → ℕ → List (List ℕ) → Type 0) (faults : D → ℕ) (old rest : List D) (refused : D) (fault : OpenFault) :
    Type 0 where
  pub disk : D
  pub taken : old ≡ disk ∷ rest
  pub kept : KeepsImage stated content moment left faults disk refused
  pub cause : OpenCause stated content moment faults disk refused fault

-- devices were opened on the first disks, and on the one behind them none can be
pub record StopsAfter {D : Type 0} (stated : D → Option Geometry) (content : D → Option Content) (moment : D → ℕ)
    (left : D → ℕ → List (List ℕ) → Type 0) (faults : D → ℕ) (disks rest : List D) (cores : List (View D))
    (refused : D) (fault : PairFault) : Type 0 where
  pub why : OpenFault
  pub from : List D
  pub opened : AreOpenedOver stated content moment left faults disks from cores
  pub fails : FailsNext stated content moment left faults from rest refused why
  pub told : fault ≡ fault_at (length cores) why
