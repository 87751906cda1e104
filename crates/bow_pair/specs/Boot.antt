-- The call `pair_boot`: what it answers by the text and the disks, and what it leaves.
use Rattle.std.specs.Prelude.{◌≡◌, ◌⊎◌, ℕ, Bool, true, List, slice_get, Option, None, Some, Result, Ok, Err}
use Rattle.bow_units.specs.declared.sizes.Geometry.{Geometry}
use Rattle.bow_units.specs.Causes.{Rose}
use Rattle.bow_disk.specs.Disk.{Content}
use Rattle.bow_restore.specs.Answers.{IsOfChain}
use Rattle.bow_restore.specs.Replaying.{IsFlushed}
use Rattle.bow_log.specs.Faults.{IsOfHeader}
use Rattle.vold_meta.specs.Decisions.{text_of_decision}
use Rattle.bow_pair.specs.Joint.{Member, AreMembers, Agreed, AgreesOn, Each, IsJointCut, Settled}
use Rattle.bow_pair.specs.Boots.{EndedBoot}
use Rattle.bow_pair.specs.BootLaws.{AreSizesOf}
use Rattle.bow_pair.specs.Settling.{EachDisk, IsSettled, StopsAt}
use Rattle.bow_pair.specs.declared.boots.PairBooted.{PairBooted}
use Rattle.bow_pair.specs.declared.boots.PairBootFault.{PairBootFault}
use Rattle.bow_pair.specs.declared.boots.PairBootFault.TheVariants.{KeeperFault, BadDecision, BadChain, BadHeader, Reserved, DiskFault, NoMemory}

-- some disk's count of faults rose
abbrev pub SomeRose : {D : Type 0} → (D → ℕ) → List D → List D → Type 0
SomeRose {D} faults old new = (k : ℕ) × (before : D) × (now : D) × (slice_get old k ≡ Some before)
    × (slice_get new k ≡ Some now) × Rose (faults before) (faults now)

-- over any disks and keeper: a fault of the keeper or of a disk comes only where its count rose, and a refusal names a
-- fault of the chain or of the header
abbrev pub IsCaused : {D : Type 0} → ℕ → ℕ → (D → ℕ) → List D → List D → Result PairBooted PairBootFault → Type 0
IsCaused before now faults old new (Ok answer) = Unit {0}
IsCaused before now faults old new (Err KeeperFault) = Rose before now
IsCaused before now faults old new (Err BadDecision) = Unit {0}
IsCaused before now faults old new (Err (BadChain device fault)) = IsOfChain fault
IsCaused before now faults old new (Err (BadHeader device fault)) = IsOfHeader fault
IsCaused before now faults old new (Err (Reserved device)) = Unit {0}
IsCaused before now faults old new (Err DiskFault) = SomeRose faults old new
IsCaused before now faults old new (Err NoMemory) = Unit {0}

-- the disks tell these contents
abbrev pub AreTold : {D : Type 0} → (D → Option Content) → List D → (ℕ → Content) → Type 0
AreTold {D} content disks told = (k : ℕ) (disk : D) → slice_get disks k ≡ Some disk → content disk ≡ Some (told k)

-- What the call left that answered a fault, by the text at its entry. A text that is no decision: nothing was done. A
-- fault of the keeper: nothing was done, or each checkpoint was given up and the text was not removed for certain. Any
-- other: it stopped at a device, and the text is as it was.
abbrev pub StopsBy : {D : Type 0} → (D → Option Content) → (D → ℕ) → List Geometry → List D → List D
    → Option (List ℕ) → Option (List ℕ) → PairBootFault → Type 0
StopsBy content faults sizes old new text left BadDecision =
    ((committed : Bool) → text ≡ text_of_decision committed → ⊥) × (left ≡ text) × (new ≡ old)
StopsBy content faults sizes old new text left KeeperFault = ((left ≡ text) × (new ≡ old))
    ⊎ ((text ≡ text_of_decision true) × ((left ≡ text) ⊎ (left ≡ None))
    × EachDisk (λ k g a b. IsSettled content true g a b) sizes old new)
StopsBy content faults sizes old new text left fault = (committed : Bool) × (text ≡ text_of_decision committed)
    × (left ≡ text) × StopsAt content faults committed sizes old new fault

-- The call ended well, over disks that told these contents: it is a boot that ended, and all is flushed.
pub record Ends {D : Type 0} (content : D → Option Content) (sizes : List Geometry) (new : List D) (told : ℕ → Content)
    (text left : Option (List ℕ)) (answer : PairBooted) : Type 0 where
  pub now : ℕ → Content
  pub tells : AreTold content new now
  pub flushed : (k : ℕ) (disk : D) → slice_get new k ≡ Some disk → IsFlushed (now k)
  pub boot : EndedBoot sizes (λ k. (told k).now) text answer (λ k. (now k).now) left

-- Each joint cut before the call agreed so with the text: so does each joint cut after it with the text that is left.
abbrev pub StaysAgreed : {D : Type 0} → (D → Option Content) → List Geometry → List D → List D → Option (List ℕ)
    → Option (List ℕ) → Type 0
StaysAgreed content sizes old new text left = (members : List Member) → AreMembers members → AreSizesOf members sizes
    → ((images : ℕ → List (List ℕ)) → IsJointCut content old images → Agreed text members images)
    → (images : ℕ → List (List ℕ)) → IsJointCut content new images → Agreed left members images

-- And where they agreed on committing, or on rolling back, each device is settled so once the call ended well.
abbrev pub SettlesAs : {D : Type 0} → (D → Option Content) → List Geometry → List D → List D → Option (List ℕ) → Type 0
SettlesAs content sizes old new text = (members : List Member) → AreMembers members → AreSizesOf members sizes
    → (committed : Bool) → ((images : ℕ → List (List ℕ)) → IsJointCut content old images
    → AgreesOn committed text members images)
    → (images : ℕ → List (List ℕ)) → IsJointCut content new images → Each (Settled committed) members images
