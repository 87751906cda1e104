-- The first fault of an image. Parts are tested from depth 0 on, the depth of the log in block 0; at one depth the
-- fields of the log, then its sequence, then its sums from the last entry to the first.
use Rattle.std.specs.Prelude.{ℕ, suc, ◌+◌, ◌<◌, ◌≡◌, ◌≢◌, ◌&&◌, false, nat_lt, if◌then◌else◌, List, [], ◌∷◌, ◌++◌, length, Option, Some}
use Rattle.bow_units.specs.declared.sizes.Geometry.{Geometry}
use Rattle.bow_log.specs.declared.logs.Magic.TheVariants.{Restoring}
use Rattle.bow_log.specs.declared.faults.LogFault.{LogFault}
use Rattle.bow_log.specs.declared.faults.LogFault.TheVariants.{NoMagic}
use Rattle.bow_log.specs.Generations.{Backup, Generation}
use Rattle.bow_log.specs.Faults.{fault_of, begins_with}
use Rattle.bow_chain.specs.Contents.{Contents, run_of}
use Rattle.bow_chain.specs.Places.{pass, base}
use Rattle.bow_chain.specs.Sound.{log_in, sum_at, SumsHold}
use Rattle.bow_chain.specs.declared.faults.ChainFault.{ChainFault}
use Rattle.bow_chain.specs.declared.faults.ChainFault.TheVariants.{NoLog, BadLog, BadSequence, BadSum, DiskFault, NoMemory}

-- the block spells this log, as one at this depth: at depth 0 alone may it be under restoration
abbrev pub SpellsAt : Geometry → ℕ → List ℕ → Generation → Type 0
SpellsAt g depth block log = (log_in g block ≡ Some log) × (0 < depth → log.restoring ≡ false)

-- These logs, the newest first, pass every test where `route` leads, the first of them at this depth: each is spelled
-- where its successor has put block 0, has a sequence that leaves the others and so many more behind it, and its sums
-- hold.
abbrev pub PassTests : Geometry → Contents → ℕ → (ℕ → ℕ) → List Generation → ℕ → Type 0
PassTests g image depth route [] left = Unit {0}
PassTests g image depth route (log ∷ older) left =
    SpellsAt g depth (image (route 0)) log × (log.sequence ≡ length older + left) × SumsHold image route log.entries
    × PassTests g image (suc depth) (λ x. route (pass log.entries x)) older left

-- the logs from block 0 down to some depth, the newest first, pass every test, and so many more are to come
abbrev pub AreAbove : Geometry → Contents → List Generation → ℕ → Type 0
AreAbove g image logs left = PassTests g image 0 (λ x. x) logs left

-- the first fault in the fields of the log at this depth, or none: below depth 0 a log under restoration has no magic
unfoldable pub fields_fault : Geometry → ℕ → List ℕ → Option LogFault
fields_fault g depth block = if nat_lt 0 depth && begins_with Restoring block then Some NoMagic else fault_of g block

-- the block behind these logs spells this log, as one at this depth
pub record IsBehind (g : Geometry) (image : Contents) (above : List Generation) (depth : ℕ)
    (log : Generation) : Type 0 where
  pub at_depth : depth ≡ length above
  pub spelled : SpellsAt g depth (image (base above 0)) log

-- there is no log at all
pub record IsNoLog (g : Geometry) (image : Contents) (above : List Generation) : Type 0 where
  pub none_above : length above ≡ 0
  pub first : fault_of g (image 0) ≡ Some NoMagic

-- the block behind these logs has this fault in the fields of a log; in block 0 the want of a magic is none of these
pub record IsBadLog (g : Geometry) (image : Contents) (above : List Generation) (depth : ℕ)
    (fault : LogFault) : Type 0 where
  pub at_depth : depth ≡ length above
  pub first : fields_fault g depth (image (base above 0)) ≡ Some fault
  pub begins : depth ≡ 0 → fault ≢ NoMagic

-- the log behind these has this sequence, and the one above it wants another
pub record IsBadSequence (g : Geometry) (image : Contents) (above : List Generation)
    (left depth found wanted : ℕ) : Type 0 where
  pub log : Generation
  pub behind : IsBehind g image above depth log
  pub deeper : 0 < depth
  pub found_is : found ≡ log.sequence
  pub wanted_is : wanted ≡ left
  pub wrong : found ≢ wanted

-- of these backups the one of this index states another sum than is found, and the sums of the later ones hold
pub record IsLastBadSum (image : Contents) (route : ℕ → ℕ) (backups : List Backup)
    (index found stated : ℕ) : Type 0 where
  pub before : List Backup
  pub backup : Backup
  pub later : List Backup
  pub all : backups ≡ before ++ backup ∷ later
  pub at_index : index ≡ length before
  pub hold : SumsHold image route later
  pub found_is : found ≡ sum_at backup.source (run_of (λ x. image (route (pass later x))) backup.dest backup.count)
  pub stated_is : stated ≡ backup.sum
  pub wrong : found ≢ stated

-- the entry of this index, in the log behind these, states another sum than is found
pub record IsBadSum (g : Geometry) (image : Contents) (above : List Generation)
    (left depth index found stated : ℕ) : Type 0 where
  pub log : Generation
  pub behind : IsBehind g image above depth log
  pub sequence : log.sequence ≡ left
  pub sum : IsLastBadSum image (base above) log.entries index found stated

-- what is wrong behind these logs, where so many more are to come behind the next one
abbrev pub IsFaultBehind : Geometry → Contents → List Generation → ℕ → ChainFault → Type 0
IsFaultBehind g image above left NoLog = IsNoLog g image above
IsFaultBehind g image above left (BadLog depth fault) = IsBadLog g image above depth fault
IsFaultBehind g image above left (BadSequence depth found wanted) = IsBadSequence g image above left depth found wanted
IsFaultBehind g image above left (BadSum depth index found stated) =
    IsBadSum g image above left depth index found stated
IsFaultBehind g image above left DiskFault = ⊥
IsFaultBehind g image above left NoMemory = ⊥

-- this is the first fault of the image: the logs above it pass every test, and one more is to come
pub record IsFirstFault (g : Geometry) (image : Contents) (fault : ChainFault) : Type 0 where
  pub above : List Generation
  pub left : ℕ
  pub tested : AreAbove g image above (suc left)
  pub here : IsFaultBehind g image above left fault
