-- What lies outside a call of the program over several devices.
use Rattle.std.specs.Prelude.{◌≡◌, ℕ, ◌≤◌, List, length, slice_get, Some}
use Rattle.bow_units.specs.Causes.{Rose}
use Rattle.vold_meta.specs.Keeper.{Goes, Nothing, Same, TimeGoes}
use Rattle.bow_play.specs.Reading.{Taken, taken_from}
use Rattle.bow_tool.specs.Outside.{DiskView, KeeperView, SourceView}
use Rattle.bow_tool.specs.Sizes.{OnlySizes}

-- a call of the program over several devices, seen from outside: the source, the disks and the keeper before it and
-- after it
pub record PairCall : Type 1 where
  pub Source : Type 0
  pub Disk : Type 0
  pub Keeper : Type 0
  pub sources : SourceView Source
  pub views : DiskView Disk
  pub keepers : KeeperView Keeper
  pub source : Source
  pub source_after : Source
  pub disks : List Disk
  pub disks_after : List Disk
  pub keeper : Keeper
  pub keeper_after : Keeper

-- the call that had these views, and each object before it and after it
abbrev pub pair_call_of : {S D K : Type 0} → SourceView S → DiskView D → KeeperView K → S → S → List D → List D → K → K
    → PairCall
pair_call_of {S} {D} {K} sources views keepers source source_after disks disks_after keeper keeper_after =
    record {
      Source = S;
      Disk = D;
      Keeper = K;
      sources = sources;
      views = views;
      keepers = keepers;
      source = source;
      source_after = source_after;
      disks = disks;
      disks_after = disks_after;
      keeper = keeper;
      keeper_after = keeper_after;
    }

-- what the call took from the source
abbrev pub pair_source : PairCall → Taken
pair_source c = taken_from c.sources.left c.sources.gave c.sources.ended c.source c.source_after

-- the disks are left as they were given
abbrev pub DisksLeft : PairCall → Type 0
DisksLeft c = c.disks_after ≡ c.disks

-- the source is left as it was given
abbrev pub PairSourceLeft : PairCall → Type 0
PairSourceLeft c = c.source_after ≡ c.source

-- nothing outside was touched
abbrev pub NoneTouched : PairCall → Type 0
NoneTouched c = PairSourceLeft c × DisksLeft c × (c.keeper_after ≡ c.keeper)

-- the keeper was asked once for what it keeps, and nothing changed
pub record OnlyRead {K : Type 0} (w : KeeperView K) (old new : K) : Type 0 where
  pub kept : Goes Same (w.kept old) (w.kept new)
  pub time : TimeGoes (w.kept new) 1 (w.moment old) (w.moment new) (w.left_since old) (w.left_since new) Nothing
  pub faults : w.faults old ≤ w.faults new

-- the sizes of disks were asked, of each once at most, and nothing else: no call that may change anything was made
pub record OnlyAsked {D : Type 0} (v : DiskView D) (old new : List D) : Type 0 where
  pub many : length new ≡ length old
  pub each : (k : ℕ) (d e : D) → slice_get old k ≡ Some d → slice_get new k ≡ Some e → OnlySizes v d e

-- no call of a disk or of the keeper failed
pub record NoneFails (c : PairCall) : Type 0 where
  pub disks : (k : ℕ) (d e : c.Disk) → slice_get c.disks k ≡ Some d → slice_get c.disks_after k ≡ Some e
      → Rose (c.views.faults d) (c.views.faults e) → ⊥
  pub keeper : Rose (c.keepers.faults c.keeper) (c.keepers.faults c.keeper_after) → ⊥
