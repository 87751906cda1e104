-- Where the loop over the entries of a log stands.
use Rattle.std.specs.Prelude.{ℕ, ◌+◌, ◌-◌, ◌≡◌, ◌⊎◌, true, false, List, take, drop, map, slice_index_or}
use Rattle.bow_units.specs.declared.sizes.Geometry.{Geometry}
use Rattle.bow_log.specs.Spelling.{Fields}
use Rattle.bow_log.specs.Generations.{Backup, backup_of}
use Rattle.bow_restore.specs.Marks.{overlaps}
use Rattle.bow_restore.specs.declared.generations.Marks.{Marks}

-- the backups of these entries of the log: from this index on, up to that one
abbrev pub since_in : Geometry → Fields → ℕ → ℕ → List Backup
since_in g log from end = map (backup_of g) (take (end - from) (drop from log.entries))

-- the backup of the entry of this index
abbrev pub source_at : Geometry → Fields → ℕ → Backup
source_at g log index = backup_of g (slice_index_or log.entries index (record {
  source = 0;
  dest = 0;
  size = 0;
  sum =
      0;
}))

-- a mark was made before the entry of this index, exactly where one was due
abbrev pub MarkedWhereDue : Geometry → Fields → ℕ → Marks → Marks → Type 0
MarkedWhereDue g log index old new =
    ((overlaps (source_at g log index) (since_in g log (index + 1) old.end) ≡ true) × (new.end ≡ index + 1)
    × (new.made ≡ old.made + 1))
    ⊎ ((overlaps (source_at g log index) (since_in g log (index + 1) old.end) ≡ false) × (new.end ≡ old.end)
    × (new.made ≡ old.made))
