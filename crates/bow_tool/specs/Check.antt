-- What a check did: what it says, and why it was refused.
use Rattle.std.specs.Prelude.{◌≡◌, ◌⊎◌, ℕ, List, ◌∷◌, ◌++◌, map, codes, Option, Some}
use Rattle.bow_units.specs.declared.sizes.Geometry.{Geometry}
use Rattle.bow_units.specs.Sizes.{IsValid}
use Rattle.bow_units.specs.Causes.{Rose}
use Rattle.bow_units.specs.Magics.{HasMagic}
use Rattle.bow_disk.specs.Disk.{Content, Goes, Same}
use Rattle.bow_log.specs.Generations.{Generation, fields_of}
use Rattle.bow_chain.specs.Contents.{Contents, contents_of}
use Rattle.bow_chain.specs.Sound.{IsSound}
use Rattle.bow_chain.specs.Faults.{IsFirstFault}
use Rattle.bow_chain.specs.declared.faults.ChainFault.{ChainFault}
use Rattle.bow_chain.specs.declared.faults.ChainFault.TheVariants as chains
use Rattle.bow_report.specs.Chains.{chain_text}
use Rattle.bow_tool.specs.declared.refusals.Refusal.{Refusal}
use Rattle.bow_tool.specs.declared.refusals.Refusal.TheVariants.{DiskFault, BadChain, NoMemory, BadGeometry}
use Rattle.bow_disk.specs.Moments.{AddsNoCut}
use Rattle.bow_tool.specs.Outside.{Call, SourceLeft, KeeperLeft}

-- Nothing but the disk was asked, and of it nothing but its sizes and reads: what it tells is the same, and a cut
-- leaves nothing that it might not have left before.
pub record OnlyReads (c : Call) : Type 0 where
  pub source : SourceLeft c
  pub keeper : KeeperLeft c
  pub content : Goes Same (c.disks.content c.disk) (c.disks.content c.disk_after)
  pub cuts : AddsNoCut c.disks.content c.disks.moment c.disks.left_since c.disk c.disk_after

-- the lines of these logs, the newest first, and `sound`
abbrev pub sound_text : Geometry → List Generation → List ℕ
sound_text g logs = chain_text (map (fields_of g) logs) ++ codes "sound\n"

-- the image is sound, and the text is the lines of its logs and `sound`
pub record TellsSound (g : Geometry) (image : Contents) (text : List ℕ) : Type 0 where
  pub log : Generation
  pub older : List Generation
  pub sound : IsSound g image log older
  pub lines : text ≡ sound_text g (log ∷ older)

-- block 0 begins with neither magic, and the text is `no log`
pub record TellsNoLog (image : Contents) (text : List ℕ) : Type 0 where
  pub none : HasMagic (image 0) → ⊥
  pub line : text ≡ codes "no log\n"

-- what is told of an image of which nothing is wrong
abbrev pub TellsChain : Geometry → Contents → List ℕ → Type 0
TellsChain g image text = TellsSound g image text ⊎ TellsNoLog image text

-- block 0 begins with a magic, and this is the first fault of the image
pub record TellsFault (g : Geometry) (image : Contents) (fault : ChainFault) : Type 0 where
  pub begins : HasMagic (image 0)
  pub first : IsFirstFault g image fault

-- it speaks of a chain that is wrong, and not of the want of one, of the disk or of memory
abbrev pub IsOfChain : ChainFault → Type 0
IsOfChain chains.NoLog = ⊥
IsOfChain chains.DiskFault = ⊥
IsOfChain chains.NoMemory = ⊥
IsOfChain fault = Unit {0}

-- The disk states valid sizes, and where it tells its content this holds of its image, on a device of these sizes.
abbrev pub OfImage : Option Geometry → Option Content → (Geometry → Contents → Type 0) → Type 0
OfImage stated content P = (g : Geometry) × (stated ≡ Some g) × IsValid g
    × ((c : Content) → content ≡ Some c → P g (contents_of c.now))

-- What stands in the way of an answer: the sizes that the disk states, what it told, and its count of faults before and
-- after. Sizes that no device has and a fault of the chain exclude each other and a text; a call of the disk that fails
-- before they are found takes their place, and want of memory that of any.
abbrev pub Finds : Option Geometry → Option Content → ℕ → ℕ → Refusal → Type 0
Finds stated content before now (BadGeometry g) = (stated ≡ Some g) × (IsValid g → ⊥)
Finds stated content before now DiskFault = Rose before now
Finds stated content before now (BadChain fault) = IsOfChain fault
    × OfImage stated content (λ g image. TellsFault g image fault)
Finds stated content before now NoMemory = Unit {0}
Finds stated content before now refusal = ⊥

-- a check that was made, with this text
abbrev pub CheckText : Call → List ℕ → Type 0
CheckText c text = OnlyReads c × OfImage (c.disks.stated c.disk_after) (c.disks.content c.disk)
    (λ g image. TellsChain g image text)

-- why a check that was asked for is refused
abbrev pub CheckCause : Call → Refusal → Type 0
CheckCause c refusal = OnlyReads c × Finds (c.disks.stated c.disk_after) (c.disks.content c.disk)
    (c.disks.faults c.disk) (c.disks.faults c.disk_after) refusal

-- the image is sound, or block 0 begins with neither magic
abbrev pub IsFine : Geometry → Contents → Type 0
IsFine g image = ((log : Generation) × (older : List Generation) × IsSound g image log older) ⊎ (HasMagic (image 0) → ⊥)

-- Nothing outside stands in the way of a check or a restoration: the disk tells its content, states valid sizes, and no
-- call of it fails; and the image is sound or holds no log.
pub record ImageInOrder (c : Call) : Type 0 where
  pub content : Content
  pub told : c.disks.content c.disk ≡ Some content
  pub sizes : (g : Geometry) → c.disks.stated c.disk_after ≡ Some g → IsValid g
  pub fine : (g : Geometry) → c.disks.stated c.disk_after ≡ Some g → IsFine g (contents_of content.now)
  pub disk : Rose (c.disks.faults c.disk) (c.disks.faults c.disk_after) → ⊥
