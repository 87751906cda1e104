-- What holds of the device's memory as it is kept.
use Rattle.std.specs.Prelude.{ℕ, ◌+◌, ◌*◌, ◌<◌, ◌≤◌, ◌≡◌, Bool, true, false, List, length, Option, Some, None}
use Rattle.bow_units.specs.declared.sizes.Geometry.{Geometry}
use Rattle.bow_units.specs.declared.sizes.Extent.{Extent}
use Rattle.bow_units.specs.Sizes.{IsValid}
use Rattle.bow_units.specs.declared.statuses.Kind.{Kind}
use Rattle.bow_units.specs.declared.statuses.Kind.TheVariants as kinds
use Rattle.bow_log.specs.Spelling.{Fields}
use Rattle.bow_log.specs.Rules.{IsLog}
use Rattle.bow_ranges.specs.Kinds.{kind_at, holds}

-- the log in memory, if there is one, is one for this device
abbrev pub LogFits : Geometry → Option Fields → Type 0
LogFits g None = Unit {0}
LogFits g (Some log) = IsLog g log

-- a block that was backed up by a log that is not yet known to be durable
abbrev pub is_saved : Kind → Bool
is_saved kinds.Saved = true
is_saved kinds.Sector0 = false
is_saved kinds.Current = false
is_saved kinds.Unchanged = false
is_saved kinds.Free = false
is_saved kinds.Changed = false
is_saved kinds.Backup = false

-- the blocks that are saved are those of this extent
pub record SavedIs (table : List Kind) (saved : Extent) : Type 0 where
  pub inside : saved.first + saved.count ≤ length table
  pub each : (b : ℕ) → b < length table → is_saved (kind_at table b) ≡ holds saved b

-- The sizes are a device's, and the table and the queue have its blocks; the buffer has eight blocks, and the other one
-- has one; the log is one for the device; and the saved blocks are known.
pub record IsKept (g : Geometry) (table : List Kind) (queued : ℕ) (buffer block : List ℕ) (kept : Option Fields)
    (extent : Extent) : Type 0 where
  pub valid : IsValid g
  pub whole : length table ≡ g.blocks
  pub blocks : queued ≡ g.blocks
  pub eight : length buffer ≡ 8 * g.block_size
  pub one : length block ≡ g.block_size
  pub log : LogFits g kept
  pub saved : SavedIs table extent
