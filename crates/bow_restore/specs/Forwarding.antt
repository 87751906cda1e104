-- What giving the checkpoint up answers, and what it leaves.
use Rattle.std.specs.Prelude.{ℕ, ◌≡◌, List, None, Some, slice_set, Option}
use Rattle.bow_units.specs.declared.sizes.Geometry.{Geometry}
use Rattle.bow_units.specs.Causes.{Rose}
use Rattle.bow_units.specs.Magics.{HasMagic}
use Rattle.bow_log.specs.Faults.{header_fault, current_in, IsOfHeader}
use Rattle.bow_log.specs.declared.faults.LogFault.{LogFault}
use Rattle.bow_log.specs.declared.faults.LogFault.TheVariants.{NoMagic}
use Rattle.bow_disk.specs.Disk.{Content}
use Rattle.bow_disk.specs.Moments.{Tells}
use Rattle.bow_chain.specs.Contents.{Contents, contents_of}
use Rattle.bow_chain.specs.Kept.{IsPlain}
use Rattle.bow_restore.specs.Replaying.{IsFlushed, IsHeadCut}
use Rattle.bow_restore.specs.declared.answers.Forwarded.{Forwarded}
use Rattle.bow_restore.specs.declared.answers.Forwarded.TheVariants.{Nothing, Done, BadHeader, Reserved, DiskFault, NoMemory}

-- what the block holds at which the header of block 0 says that the current block 0 lies
abbrev pub named_by : Geometry → Contents → List ℕ
named_by g image = image (current_in g (image 0))

-- over any disk: a disk fault comes only where the count of faults rose, and a refusal names a fault of the header
abbrev pub HasReason : ℕ → ℕ → Forwarded → Type 0
HasReason before now (BadHeader fault) = IsOfHeader fault
HasReason before now DiskFault = Rose before now
HasReason before now answer = Unit {0}

-- each answer, exactly by the image at entry, unless the disk fails or memory is wanting
abbrev pub TellsForward : Geometry → Contents → Forwarded → Type 0
TellsForward g image Nothing = IsPlain (image 0)
TellsForward g image (BadHeader fault) = HasMagic (image 0) × (header_fault g (image 0) ≡ Some fault)
TellsForward g image Reserved = (header_fault g (image 0) ≡ None) × HasMagic (named_by g image)
TellsForward g image Done = (header_fault g (image 0) ≡ None) × IsPlain (named_by g image)
TellsForward g image answer = Unit {0}

-- what stands after it: after Done block 0 holds what it named, and all else is as it was; else nothing is changed
abbrev pub LeftForward : Geometry → Forwarded → Content → Content → Type 0
LeftForward g Done old new = (new.now ≡ slice_set old.now 0 (named_by g (contents_of old.now))) × IsFlushed new
LeftForward g NoMemory old new = new.now ≡ old.now
LeftForward g DiskFault old new = Unit {0}
LeftForward g answer old new = (new.now ≡ old.now) × IsFlushed new

-- what a cut may leave that was none before: the image at entry, with what block 0 named put there or not; that is
-- written only where the header is good and it begins with no magic
pub record IsForwardCut (g : Geometry) (now image : List (List ℕ)) : Type 0 where
  pub header : header_fault g (contents_of now 0) ≡ None
  pub plain : IsPlain (named_by g (contents_of now))
  pub left : IsHeadCut g (named_by g (contents_of now)) now image

-- the same, of a disk that tells its content; after a fault of the disk the clause on cuts says what may stand
abbrev pub LeftAtForward : {T : Type 0} → Geometry → (T → Option Content) → T → Content → Forwarded → Type 0
LeftAtForward g content disk old DiskFault = Unit {0}
LeftAtForward g content disk old answer = Tells content (LeftForward g answer old) disk

-- what is answered where the header has this fault
abbrev pub IsHeaderRefusal : LogFault → Forwarded → Type 0
IsHeaderRefusal NoMagic answer = answer ≡ Nothing
IsHeaderRefusal fault answer = answer ≡ BadHeader fault
