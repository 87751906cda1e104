-- A log as the generations of a chain see it: in blocks.
use Rattle.std.specs.Prelude.{ℕ, ◌+◌, ◌-◌, ◌*◌, ◌/◌, ◌^◌, ◌<◌, ◌≤◌, ◌≡◌, ◌⊎◌, Bool, true, false, List, [], ◌∷◌, ◌++◌, length, map}
use Rattle.std.specs.List.{AllByRecursion as Each}
use Rattle.bow_units.specs.declared.sizes.Geometry.{Geometry}
pub use Rattle.bow_units.specs.Sizes.{sectors}
use Rattle.bow_log.specs.declared.entries.Entry.{Entry}
use Rattle.bow_log.specs.declared.logs.Magic.{Magic}
use Rattle.bow_log.specs.declared.logs.Magic.TheVariants.{Log as LogMagic, Restoring}
use Rattle.bow_log.specs.Spelling.{Fields}

-- a backup: a run of `count` blocks from the block `source` on, whose content was put at the blocks from
-- `dest` on, and the sum of that content by the numbers of the source
pub record Backup : Type 0 where
  pub source : ℕ
  pub dest : ℕ
  pub count : ℕ
  pub sum : ℕ

-- a generation, which one log keeps: whether it is under restoration, its number in the chain, the block
-- at which the content that block 0 has for users lies, and its backups, the oldest first
pub record Generation : Type 0 where
  pub restoring : Bool
  pub sequence : ℕ
  pub current : ℕ
  pub entries : List Backup

-- how many entries a block of this size has room for
abbrev pub room : ℕ → ℕ
room block_size = (block_size - 28) / 24

-- the backup that an entry says, in blocks
abbrev pub backup_of : Geometry → Entry → Backup
backup_of g e = record {
  source = e.source / sectors g;
  dest = e.dest / sectors g;
  count = e.size / g.block_size;
  sum = e.sum;
}

-- the entry that says a backup, in sectors and bytes
abbrev pub entry_of : Geometry → Backup → Entry
entry_of g b = record {
  source = b.source * sectors g;
  dest = b.dest * sectors g;
  size = b.count * g.block_size;
  sum = b.sum;
}

-- whether this magic is that of a log under restoration
abbrev pub is_restoring : Magic → Bool
is_restoring LogMagic = false
is_restoring Restoring = true

-- the magic of a log that is under restoration, or is not
abbrev pub magic_of : Bool → Magic
magic_of false = LogMagic
magic_of true = Restoring

-- the generation that a log keeps
abbrev pub generation_of : Geometry → Fields → Generation
generation_of g log = record {
  restoring = is_restoring log.magic;
  sequence = log.sequence;
  current = log.sector0 / sectors g;
  entries = map (backup_of g) log.entries;
}

-- the log that keeps a generation
abbrev pub fields_of : Geometry → Generation → Fields
fields_of g x = record {
  magic = magic_of x.restoring;
  block_size = g.block_size;
  sequence = x.sequence;
  sector0 = x.current * sectors g;
  entries = map (entry_of g) x.entries;
}

-- a backup of at least one block, on the device, whose two runs have no block in common, and not onto block 0
pub record IsBackup (g : Geometry) (b : Backup) : Type 0 where
  pub some : 0 < b.count
  pub source_inside : b.source + b.count ≤ g.blocks
  pub dest_inside : b.dest + b.count ≤ g.blocks
  pub apart : (b.source + b.count ≤ b.dest) ⊎ (b.dest + b.count ≤ b.source)
  pub dest_not_0 : 0 < b.dest

-- an entry is a backup on this device, and nothing else is the same one
pub record IsEntry (g : Geometry) (e : Entry) : Type 0 where
  pub backup : IsBackup g (backup_of g e)
  pub whole : entry_of g (backup_of g e) ≡ e

-- the first backup is of block 0 alone, and no other is of block 0
abbrev pub StartsWith0 : List Backup → Type 0
StartsWith0 [] = ⊥
StartsWith0 (b ∷ bs) = (b.source ≡ 0) × (b.count ≡ 1) × Each (λ other. 0 < other.source) bs

-- a generation of this device, which its block 0 has room for: the current block 0 lies on the device and
-- not at block 0, and each backup keeps the rules
pub record IsGeneration (g : Geometry) (x : Generation) : Type 0 where
  pub few : length x.entries ≤ room g.block_size
  pub current_not_0 : 0 < x.current
  pub current_inside : x.current < g.blocks
  pub each : Each (IsBackup g) x.entries
  pub start : StartsWith0 x.entries

-- its sequence and its sums fit their places in a log
pub record GenerationFits (x : Generation) : Type 0 where
  pub sequence : x.sequence < 2 ^ 32
  pub sums : Each (λ b. b.sum < 2 ^ 32) x.entries

-- a log with one more backup, the last
abbrev pub with_backup : Generation → Backup → Generation
with_backup log b = record log { entries = log.entries ++ b ∷ [] }

-- the log after a full one: it has this backup, of the block that holds the full one, and the same current block 0
abbrev pub next_log : Generation → Backup → Generation
next_log log b = record { restoring = false; sequence = log.sequence + 1; current = log.current; entries = b ∷ [] }
