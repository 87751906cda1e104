-- What lies outside a call of the program.
use Rattle.std.specs.Prelude.{◌≡◌, ℕ, List, Option}
use Rattle.bow_units.specs.declared.sizes.Geometry.{Geometry}
use Rattle.bow_disk.specs.Disk.{Content}
use Rattle.bow_play.specs.Reading.{Taken, taken_from}

-- what a source of this type tells: the bytes that it has left, what it gave from one state to another, whether it has
-- ended, and its count of faults
pub record SourceView (S : Type 0) : Type 1 where
  pub left : S → Option (List ℕ)
  pub gave : S → S → List ℕ → Type 0
  pub ended : S → Type 0
  pub faults : S → ℕ

-- what a disk of this type tells: its sizes, its content, its count of calls, what a cut since a moment might have
-- left, and its count of faults
pub record DiskView (D : Type 0) : Type 1 where
  pub stated : D → Option Geometry
  pub content : D → Option Content
  pub moment : D → ℕ
  pub left_since : D → ℕ → List (List ℕ) → Type 0
  pub faults : D → ℕ

-- what a keeper of this type tells: what it keeps, its count of calls, what a cut since a moment might have left, and
-- its count of faults
pub record KeeperView (K : Type 0) : Type 1 where
  pub kept : K → Option (Option (List ℕ))
  pub moment : K → ℕ
  pub left_since : K → ℕ → Option (List ℕ) → Type 0
  pub faults : K → ℕ

-- the view of a source by these meanings, in this order
abbrev pub source_view : {S : Type 0} → (S → Option (List ℕ)) → (S → S → List ℕ → Type 0) → (S → Type 0) → (S → ℕ)
    → SourceView S
source_view left gave ended faults = record { left = left; gave = gave; ended = ended; faults = faults }

-- the view of a disk by these meanings
abbrev pub disk_view : {D : Type 0} → (D → Option Geometry) → (D → Option Content) → (D → ℕ)
    → (D → ℕ → List (List ℕ) → Type 0) → (D → ℕ) → DiskView D
disk_view stated content moment left_since faults =
    record { stated = stated; content = content; moment = moment; left_since = left_since; faults = faults }

-- the view of a keeper by these meanings
abbrev pub keeper_view : {K : Type 0} → (K → Option (Option (List ℕ))) → (K → ℕ)
    → (K → ℕ → Option (List ℕ) → Type 0) → (K → ℕ) → KeeperView K
keeper_view kept moment left_since faults =
    record { kept = kept; moment = moment; left_since = left_since; faults = faults }

-- a call of the program, seen from outside: the source, the disk and the keeper before it and after it
pub record Call : Type 1 where
  pub Source : Type 0
  pub Disk : Type 0
  pub Keeper : Type 0
  pub sources : SourceView Source
  pub disks : DiskView Disk
  pub keepers : KeeperView Keeper
  pub source : Source
  pub source_after : Source
  pub disk : Disk
  pub disk_after : Disk
  pub keeper : Keeper
  pub keeper_after : Keeper

-- the call that had these views, and each object before it and after it
abbrev pub call_of : {S D K : Type 0} → SourceView S → DiskView D → KeeperView K → S → S → D → D → K → K → Call
call_of {S} {D} {K} sources disks keepers source source_after disk disk_after keeper keeper_after =
    record {
      Source = S;
      Disk = D;
      Keeper = K;
      sources = sources;
      disks = disks;
      keepers = keepers;
      source = source;
      source_after = source_after;
      disk = disk;
      disk_after = disk_after;
      keeper = keeper;
      keeper_after = keeper_after;
    }

-- what the call took from the source
abbrev pub from_source : Call → Taken
from_source c = taken_from c.sources.left c.sources.gave c.sources.ended c.source c.source_after

-- the source is left as it was given
abbrev pub SourceLeft : Call → Type 0
SourceLeft c = c.source_after ≡ c.source

-- the disk is left as it was given
abbrev pub DiskLeft : Call → Type 0
DiskLeft c = c.disk_after ≡ c.disk

-- the keeper is left as it was given
abbrev pub KeeperLeft : Call → Type 0
KeeperLeft c = c.keeper_after ≡ c.keeper

-- nothing outside was touched
abbrev pub AllLeft : Call → Type 0
AllLeft c = SourceLeft c × DiskLeft c × KeeperLeft c
