-- The rules that a log keeps on a device.
use Rattle.std.specs.Prelude.{ℕ, ◌+◌, ◌*◌, ◌/◌, ◌%◌, ◌<◌, ◌≤◌, ◌≡◌, ◌==◌, ◌&&◌, ◌||◌, Bool, IsTrue, if◌then◌else◌, nat_lt, nat_le, List, [], ◌∷◌, length, Option, Some, None}
use Rattle.bow_units.specs.declared.sizes.Geometry.{Geometry}
use Rattle.bow_units.specs.Sizes.{IsValid}
use Rattle.bow_log.specs.declared.entries.Entry.{Entry}
use Rattle.bow_log.specs.declared.faults.LogFault.{LogFault}
use Rattle.bow_log.specs.declared.faults.LogFault.TheVariants.{Entry as BadEntry}
use Rattle.bow_log.specs.declared.logs.Magic.TheVariants.{Log as LogMagic}
use Rattle.bow_log.specs.Spelling.{Fields}
use Rattle.bow_log.specs.Generations.{Backup, room, sectors, backup_of}

-- this sector begins a block
abbrev pub begins_block : Geometry → ℕ → Bool
begins_block g sector = sector % sectors g == 0

-- this sector begins a block of the device other than block 0
abbrev pub is_current : Geometry → ℕ → Bool
is_current g sector = nat_lt 0 sector && begins_block g sector && nat_lt (sector / sectors g) g.blocks

-- these blocks are on the device
abbrev pub is_inside : Geometry → ℕ → ℕ → Bool
is_inside g first count = nat_le (first + count) g.blocks

-- these runs of blocks have no block in common
abbrev pub are_apart : ℕ → ℕ → ℕ → Bool
are_apart source dest count = nat_le (source + count) dest || nat_le (dest + count) source

-- entry 0 has block 0 alone as its source, and no other entry has block 0 there
abbrev pub has_own_source : ℕ → Backup → Bool
has_own_source index b = if index == 0 then b.source == 0 && b.count == 1 else nat_lt 0 b.source

-- what holds of the blocks of the entry of this index
abbrev pub is_backup : Geometry → ℕ → Backup → Bool
is_backup g index b =
    nat_lt 0 b.count && is_inside g b.source b.count && is_inside g b.dest b.count
    && are_apart b.source b.dest b.count && has_own_source index b && nat_lt 0 b.dest

-- the entry of this index keeps the rules: it is of whole blocks too
abbrev pub keeps_rules : Geometry → ℕ → Entry → Bool
keeps_rules g index e = begins_block g e.source && begins_block g e.dest && (e.size % g.block_size == 0)
    && is_backup g index (backup_of g e)

-- the lowest entry, counted from this index on, that breaks a rule
abbrev pub entry_fault : Geometry → ℕ → List Entry → Option LogFault
entry_fault g index [] = None
entry_fault g index (e ∷ es) = if keeps_rules g index e then entry_fault g (index + 1) es else Some (BadEntry index)

-- the log is one for this device, which is valid
pub record IsLog (g : Geometry) (log : Fields) : Type 0 where
  pub device : IsValid g
  pub block_size : log.block_size ≡ g.block_size
  pub some : 0 < length log.entries
  pub few : length log.entries ≤ room g.block_size
  pub sector0 : IsTrue (is_current g log.sector0)
  pub entries : entry_fault g 0 log.entries ≡ None

-- the first log of a checkpoint, with the current block 0 at this block
abbrev pub first_log : Geometry → ℕ → Entry → Fields
first_log g current entry = record {
  magic = LogMagic;
  block_size = g.block_size;
  sequence = 0;
  sector0 = current * sectors g;
  entries = entry ∷ [];
}
