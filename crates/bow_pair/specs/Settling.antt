-- Settling one device, and several one after the other: what is answered, and what is left.
use Rattle.std.specs.Prelude.{◌≡◌, ◌⊎◌, ℕ, ◌<◌, Bool, true, false, List, slice_get, length, Option, None, Some}
use Rattle.bow_units.specs.declared.sizes.Geometry.{Geometry}
use Rattle.bow_units.specs.Causes.{Rose}
use Rattle.bow_units.specs.Sizes.{IsValid}
use Rattle.bow_units.specs.Magics.{HasMagic}
use Rattle.bow_log.specs.Faults.{header_fault, IsOfHeader}
use Rattle.bow_disk.specs.Disk.{Content, IsCrash}
use Rattle.bow_disk.specs.Moments.{Tells}
use Rattle.bow_chain.specs.Contents.{contents_of}
use Rattle.bow_chain.specs.Faults.{IsFirstFault}
use Rattle.bow_restore.specs.Answers.{IsOfChain}
use Rattle.bow_restore.specs.Forwarding.{named_by}
use Rattle.bow_restore.specs.Replaying.{IsFlushed}
use Rattle.vold_commands.specs.Boot.{StaysFlushed}
use Rattle.vold_commands.specs.Boots.{IsLogged}
use Rattle.bow_pair.specs.Boots.{WholeBy, CutBy}
use Rattle.bow_pair.specs.Joint.{IsCutOf}
use Rattle.bow_pair.specs.declared.boots.PairBootFault.{PairBootFault}
use Rattle.bow_pair.specs.declared.boots.PairBootFault.TheVariants.{KeeperFault, BadDecision, BadChain, BadHeader, Reserved, DiskFault, NoMemory}

-- whether a log was in block 0
abbrev pub Logged : Bool → List (List ℕ) → Type 0
Logged true image = IsLogged image
Logged false image = IsLogged image → ⊥

-- a device was settled whole, and all is flushed
abbrev pub IsSettled : {D : Type 0} → (D → Option Content) → Bool → Geometry → D → D → Type 0
IsSettled content committed g old new = (c : Content) → content old ≡ Some c
    → Tells content (λ now. IsFlushed now × WholeBy committed g c.now now.now) new

-- and so it was told whether a log was in its block 0
abbrev pub TellsLogged : {D : Type 0} → (D → Option Content) → D → Bool → Type 0
TellsLogged content old logged = (c : Content) → content old ≡ Some c → Logged logged c.now

-- whatever a cut leaves now it might have left before, or it is what a cut in settling leaves
abbrev pub IsLeft : {D : Type 0} → (D → Option Content) → Bool → Geometry → D → D → Type 0
IsLeft content committed g old new = (c : Content) → content old ≡ Some c → (image : List (List ℕ))
    → IsCutOf content new image → IsCrash c.candidates image ⊎ CutBy committed g c.now image

-- Why a device was not settled, and what was then left of it: a fault of its chain, its header or its current block 0
-- is the one that it has, and nothing was changed; a fault of the disk comes only where its count rose.
abbrev pub IsRefused : {D : Type 0} → (D → Option Content) → (D → ℕ) → Bool → ℕ → Geometry → D → D → PairBootFault
    → Type 0
IsRefused content faults committed device g old new (BadChain at fault) =
    (committed ≡ false) × (at ≡ device) × IsOfChain fault × ((c : Content) → content old ≡ Some c → IsLogged c.now
    × IsFirstFault g (contents_of c.now) fault × Tells content (StaysFlushed c) new)
IsRefused content faults committed device g old new (BadHeader at fault) =
    (committed ≡ true) × (at ≡ device) × IsOfHeader fault × ((c : Content) → content old ≡ Some c → IsLogged c.now
    × (header_fault g (contents_of c.now 0) ≡ Some fault) × Tells content (StaysFlushed c) new)
IsRefused content faults committed device g old new (Reserved at) =
    (committed ≡ true) × (at ≡ device) × ((c : Content) → content old ≡ Some c
    → (header_fault g (contents_of c.now 0) ≡ None) × HasMagic (named_by g (contents_of c.now))
    × Tells content (StaysFlushed c) new)
IsRefused content faults committed device g old new DiskFault = Rose (faults old) (faults new)
IsRefused content faults committed device g old new NoMemory = (c : Content) → content old ≡ Some c
    → Tells content (λ now. now.now ≡ c.now) new
IsRefused content faults committed device g old new KeeperFault = ⊥
IsRefused content faults committed device g old new BadDecision = ⊥

-- so of each disk, by its number and sizes, before a call and after it
abbrev pub EachDisk : {D : Type 0} → (ℕ → Geometry → D → D → Type 0) → List Geometry → List D → List D → Type 0
EachDisk {D} R sizes old new = (k : ℕ) (g : Geometry) (before now : D) → slice_get sizes k ≡ Some g
    → slice_get old k ≡ Some before → slice_get new k ≡ Some now → R k g before now

-- Settling stopped at a device: those before it were settled whole, those behind it were not touched, and this is why.
pub record StopsAt {D : Type 0} (content : D → Option Content) (faults : D → ℕ) (committed : Bool)
    (sizes : List Geometry) (old new : List D) (fault : PairBootFault) : Type 0 where
  pub device : ℕ
  pub on : device < length sizes
  pub before : EachDisk (λ k g a b. k < device → IsSettled content committed g a b) sizes old new
  pub refused : EachDisk (λ k g a b. k ≡ device → IsRefused content faults committed device g a b fault) sizes old new
  pub behind : (k : ℕ) → device < k → slice_get new k ≡ slice_get old k

-- whether a log was in some block 0, as it was told
abbrev pub TellsSome : {D : Type 0} → (D → Option Content) → List D → Bool → Type 0
TellsSome {D} content disks true =
    (k : ℕ) × (disk : D) × (slice_get disks k ≡ Some disk) × TellsLogged content disk true
TellsSome {D} content disks false =
    (k : ℕ) (disk : D) → slice_get disks k ≡ Some disk → TellsLogged content disk false

-- each disk states its sizes
abbrev pub AreStated : {D : Type 0} → (D → Option Geometry) → List Geometry → List D → Type 0
AreStated {D} stated sizes disks = (k : ℕ) (g : Geometry) (disk : D) → slice_get sizes k ≡ Some g
    → slice_get disks k ≡ Some disk → stated disk ≡ Some g

-- these are sizes of devices
abbrev pub AreValid : List Geometry → Type 0
AreValid sizes = (k : ℕ) (g : Geometry) → slice_get sizes k ≡ Some g → IsValid g
