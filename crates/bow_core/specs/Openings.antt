-- What an opening finds and leaves.
use Rattle.std.specs.Prelude.{◌≡◌, ◌⊎◌, ℕ, ◌≤◌, List, [], slice_index_or, Option, None, Some, Result, OnOk, IfErr}
use Rattle.std.specs.Prelude.{◌+◌}
use Rattle.bow_machine.specs.Calls.{ReadCall, FlushCall, Succeeded, Gave}
use Rattle.bow_core.specs.Calls.{Counted}
use Rattle.bow_core.specs.Ports.{Makes}
use Rattle.bow_units.specs.declared.sizes.Geometry.{Geometry}
use Rattle.bow_units.specs.Sizes.{IsValid}
use Rattle.bow_units.specs.Causes.{Rose}
use Rattle.bow_units.specs.Magics.{HasMagic, IsPlain}
use Rattle.bow_disk.specs.Disk.{Content, Goes, Same, Flushed, KeepsSizes}
use Rattle.bow_disk.specs.Moments.{AddsNoCut}
use Rattle.bow_core.specs.declared.device.OpenFault.{OpenFault}
use Rattle.bow_core.specs.declared.device.OpenFault.TheVariants as faults

-- From one disk to another: it keeps its image and its sizes, and goes on telling it or telling nothing; what a cut
-- leaves meanwhile it might have left before; and faults are never forgotten.
pub record KeepsImage {D : Type 0} (stated : D → Option Geometry) (content : D → Option Content) (moment : D → ℕ)
    (left : D → ℕ → List (List ℕ) → Type 0) (faults_of : D → ℕ) (old new : D) : Type 0 where
  pub sizes : KeepsSizes (stated old) (stated new)
  pub image : Goes (λ c d. d.now ≡ c.now) (content old) (content new)
  pub cuts : AddsNoCut content moment left old new
  pub later : faults_of old ≤ faults_of new

-- no read, write or flush was made: the clock stands, and so does all that the disk tells
abbrev pub IsUntouched : {D : Type 0} → (D → Option Content) → (D → ℕ) → D → D → Type 0
IsUntouched content moment old new = (moment new ≡ moment old) × Goes Same (content old) (content new)

-- the first block of what the disk tells begins with a magic
abbrev pub BeginsMagic : Option Content → Type 0
BeginsMagic None = Unit {0}
BeginsMagic (Some c) = HasMagic (slice_index_or c.now 0 [])

-- the sizes that the disk states are a device's
abbrev pub StatesValid : Option Geometry → Type 0
StatesValid None = ⊥
StatesValid (Some g) = IsValid g

-- Why a device is not opened: invalid sizes, before any read, write or flush; a magic in block 0 of a disk of valid
-- sizes; or a fault of the disk, before any of these or where its sizes are valid.
abbrev pub OpenCause : {D : Type 0} → (D → Option Geometry) → (D → Option Content) → (D → ℕ) → (D → ℕ) → D → D
    → OpenFault → Type 0
OpenCause stated content moment faults_of old new (faults.BadGeometry g) = (stated new ≡ Some g) × (IsValid g → ⊥)
    × IsUntouched content moment old new
OpenCause stated content moment faults_of old new faults.NeedsRestore = StatesValid (stated new)
    × BeginsMagic (content new)
OpenCause stated content moment faults_of old new faults.DiskFault = Rose (faults_of old) (faults_of new)
    × (IsUntouched content moment old new ⊎ StatesValid (stated new))
OpenCause stated content moment faults_of old new faults.NoMemory = Unit {0}

-- what a call of the disk left behind, by its result: where both calls succeeded, its image is settled and block 0
-- begins with no magic
abbrev pub SettledBy : Option Content → Option Content → ℕ → ℕ → Type 0
SettledBy None new before now = Unit {0}
SettledBy (Some c) None before now = ⊥
SettledBy (Some c) (Some d) before now = Flushed c d × IsPlain (slice_index_or c.now 0 []) × Counted 2 before now

-- why these calls open no device: a magic in block 0, or a fault
abbrev pub OpenedNot : Option Content → ℕ → ℕ → OpenFault → Type 0
OpenedNot content before now faults.NeedsRestore = BeginsMagic content
OpenedNot content before now faults.DiskFault = Rose before now
OpenedNot content before now fault = ⊥

-- Both calls of an opening were done: a flush, and then a read of block 0.
pub record BothDone {D : Type 0} (stated : D → Option Geometry) (content : D → Option Content) (moment : D → ℕ)
    (left : D → ℕ → List (List ℕ) → Type 0) (faults_of : D → ℕ) (g : Geometry) (old new : D) : Type 0 where
  pub between : D
  pub block : List ℕ
  pub first : ℕ
  pub second : ℕ
  pub third : ℕ
  pub flush : Makes stated content moment left faults_of g (Some FlushCall) Succeeded old between first second
  pub read : Makes stated content moment left faults_of g (Some (ReadCall 0)) (Gave block) between new second third

-- An opening that went so had no failed call: it asked the sizes, which changed nothing, and did both calls.
pub record OpenedBy {D : Type 0} (stated : D → Option Geometry) (content : D → Option Content) (moment : D → ℕ)
    (left : D → ℕ → List (List ℕ) → Type 0) (faults_of : D → ℕ) (g : Geometry) (old new : D) : Type 0 where
  pub asked : D
  pub sizes : stated asked ≡ Some g
  pub same : IsUntouched content moment old asked
  pub done : BothDone stated content moment left faults_of g asked new

-- the flush and the read of block 0 of an opening, by their result
pub record LeftBy {D : Type 0} {T : Type 0} (stated : D → Option Geometry) (content : D → Option Content)
    (moment : D → ℕ) (left : D → ℕ → List (List ℕ) → Type 0) (faults_of : D → ℕ) (g : Geometry)
    (result : Result T OpenFault) (old new : D) : Type 0 where
  pub sizes : stated new ≡ Some g
  pub kept : KeepsImage stated content moment left faults_of old new
  pub settled : OnOk result (SettledBy (content old) (content new) (moment old) (moment new))
  pub done : OnOk result (BothDone stated content moment left faults_of g old new)
  pub clock : (c : Content) → content old ≡ Some c → moment new ≤ moment old + 2
  pub cause : IfErr result (OpenedNot (content new) (faults_of old) (faults_of new))
