-- What a restoration answers, and what it leaves.
use Rattle.std.specs.Prelude.{ℕ, ◌≡◌, ◌<◌, ◌-◌, Bool, List, Option, Some}
use Rattle.bow_units.specs.declared.sizes.Geometry.{Geometry}
use Rattle.bow_units.specs.Causes.{Rose}
use Rattle.bow_units.specs.Magics.{HasMagic}
use Rattle.bow_log.specs.Generations.{Generation}
use Rattle.bow_disk.specs.Disk.{Content, IsCrash}
use Rattle.bow_chain.specs.Contents.{Contents, contents_of}
use Rattle.bow_chain.specs.Sound.{IsSound}
use Rattle.bow_chain.specs.Faults.{IsFirstFault}
use Rattle.bow_chain.specs.Kept.{IsPlain, Holds}
use Rattle.bow_chain.specs.Counting.{InUse}
use Rattle.bow_chain.specs.declared.faults.ChainFault.{ChainFault}
use Rattle.bow_chain.specs.declared.faults.ChainFault.TheVariants.{NoLog, BadLog, BadSequence, BadSum, DiskFault as ChainDiskFault, NoMemory as ChainNoMemory}
use Rattle.bow_restore.specs.Marks.{entries_of, marks_of}
use Rattle.bow_restore.specs.Copies.{chain_copies, writes_of}
use Rattle.bow_restore.specs.Limits.{GoesOn}
use Rattle.bow_disk.specs.Moments.{Tells}
use Rattle.bow_restore.specs.Replaying.{IsFlushed, ChainReplayed, AreMade}
use Rattle.bow_restore.specs.declared.answers.Restored.{Restored}
use Rattle.bow_restore.specs.declared.answers.Restored.TheVariants.{Nothing, Done, Stopped, BadChain, DiskFault, NoMemory}

-- so of a disk that tells a sound image: its content, the newest log and the older ones
abbrev pub FromSound : {T : Type 0} → Geometry → (T → Option Content) → T
    → (Content → Generation → List Generation → Type 0) → Type 0
FromSound g content disk P = (c : Content) → content disk ≡ Some c → (log : Generation) (older : List Generation)
    → IsSound g (contents_of c.now) log older → P c log older

-- so of a disk that tells an image with this first fault
abbrev pub FromFault : {T : Type 0} → Geometry → (T → Option Content) → T → (Content → ChainFault → Type 0) → Type 0
FromFault g content disk P = (c : Content) → content disk ≡ Some c → (first : ChainFault)
    → IsFirstFault g (contents_of c.now) first → P c first

-- so where whatever a cut may leave of a disk holds this checkpoint: the blocks in use, and what was saved of each, a
-- plain block 0
abbrev pub FromHeld : {T : Type 0} → Geometry → (T → Option Content) → T → ((ℕ → Bool) → Contents → Type 0) → Type 0
FromHeld g content disk P = (c : Content) → content disk ≡ Some c → (used : ℕ → Bool) (saved : Contents)
    → IsPlain (saved 0)
    → ((image : List (List ℕ)) → IsCrash c.candidates image → Holds g used saved (contents_of image)) → P used saved

-- what cuts of a call leave holds the checkpoint too
abbrev pub CutsHold : {T : Type 0} → Geometry → (T → ℕ) → (T → ℕ → List (List ℕ) → Type 0) → T → T → (ℕ → Bool)
    → Contents → Type 0
CutsHold g moment left_since old new used saved = (cut : List (List ℕ)) → left_since new (moment old) cut
    → Holds g used saved (contents_of cut)

-- it is a fault of the chain that an image has
abbrev pub IsOfChain : ChainFault → Type 0
IsOfChain (BadLog depth fault) = Unit {0}
IsOfChain (BadSequence depth found wanted) = Unit {0}
IsOfChain (BadSum depth index found stated) = Unit {0}
IsOfChain fault = ⊥

-- Over any disk: a disk fault comes only where the count of faults rose, a stop only at the limit, and a refusal
-- names a fault of the chain.
abbrev pub IsCaused : Option ℕ → ℕ → ℕ → Restored → Type 0
IsCaused limit before now (Stopped writes) = limit ≡ Some writes
IsCaused limit before now (BadChain fault) = IsOfChain fault
IsCaused limit before now DiskFault = Rose before now
IsCaused limit before now answer = Unit {0}

-- there is nothing to restore exactly where block 0 has no magic
abbrev pub TellsHead : List ℕ → Restored → Type 0
TellsHead block Nothing = IsPlain block
TellsHead block DiskFault = Unit {0}
TellsHead block NoMemory = Unit {0}
TellsHead block answer = HasMagic block

-- of a sound image with these logs: all is done, with both counts, or it is stopped, exactly where the limit is below
-- the number of writes; unless the disk fails or memory is wanting
abbrev pub TellsSound : Option ℕ → List Generation → Restored → Type 0
TellsSound limit logs (Done entries marks) = (entries ≡ entries_of logs) × (marks ≡ marks_of logs)
    × GoesOn limit (writes_of logs - 1)
TellsSound limit logs (Stopped writes) = (limit ≡ Some writes) × (writes < writes_of logs)
TellsSound limit logs DiskFault = Unit {0}
TellsSound limit logs NoMemory = Unit {0}
TellsSound limit logs answer = ⊥

-- of an image that is not sound: its first fault is told, unless the disk fails or memory is wanting
abbrev pub TellsFault : ChainFault → Restored → Type 0
TellsFault first Nothing = first ≡ NoLog
TellsFault first (BadChain fault) = fault ≡ first
TellsFault first DiskFault = Unit {0}
TellsFault first NoMemory = Unit {0}
TellsFault first answer = ⊥

-- what stands after the answer, of a flushed disk that held a sound image with these logs; after a fault of the disk
-- the clause on cuts says what may stand
abbrev pub LeftBy : {T : Type 0} → Geometry → List Generation → (T → Option Content) → T → Content → Restored → Type 0
LeftBy g logs content disk old (Done entries marks) = Tells content (ChainReplayed g logs old) disk
LeftBy g logs content disk old (Stopped writes) = Tells content (AreMade g (chain_copies logs) writes old) disk
LeftBy g logs content disk old NoMemory = Tells content (λ new. (new.now ≡ old.now) × IsFlushed new) disk
LeftBy g logs content disk old answer = Unit {0}

-- nothing was changed, and but after a fault all is flushed
abbrev pub Untouched : Restored → Content → Content → Type 0
Untouched DiskFault old new = new.now ≡ old.now
Untouched answer old new = (new.now ≡ old.now) × IsFlushed new

-- the checkpoint is back: each block in use is as it was saved, block 0 has no magic, and all is flushed
pub record IsBack (g : Geometry) (used : ℕ → Bool) (saved : Contents) (c : Content) : Type 0 where
  pub flushed : IsFlushed c
  pub plain : IsPlain (contents_of c.now 0)
  pub blocks : (x : ℕ) → x < g.blocks → InUse used x → contents_of c.now x ≡ saved x

-- so it is after a restoration that ends well
abbrev pub EndsBack : {T : Type 0} → Geometry → (ℕ → Bool) → Contents → (T → Option Content) → T → Restored → Type 0
EndsBack g used saved content disk Nothing = Tells content (IsBack g used saved) disk
EndsBack g used saved content disk (Done entries marks) = Tells content (IsBack g used saved) disk
EndsBack g used saved content disk answer = Unit {0}

-- what is answered where no chain was loaded
abbrev pub IsRefusal : ChainFault → Restored → Type 0
IsRefusal NoLog answer = answer ≡ Nothing
IsRefusal ChainDiskFault answer = answer ≡ DiskFault
IsRefusal ChainNoMemory answer = answer ≡ NoMemory
IsRefusal fault answer = answer ≡ BadChain fault
