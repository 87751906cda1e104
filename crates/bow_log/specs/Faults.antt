-- What a block spells, and its first fault where it spells no log.
use Rattle.std.specs.Prelude.{ℕ, zero, suc, ◌+◌, ◌*◌, ◌/◌, ◌==◌, ◌||◌, Bool, not, nat_lt, if◌then◌else◌, List, [], ◌∷◌, take, drop, Option, Some, None, is_none}
use Rattle.std.specs.Int.{Width, w16, w32, w64, byte_len, from_le_bytes}
use Rattle.bow_units.specs.declared.sizes.Geometry.{Geometry}
use Rattle.bow_units.specs.Blocks.{are_zero}
use Rattle.bow_log.specs.declared.entries.Entry.{Entry}
use Rattle.bow_log.specs.declared.logs.Magic.{Magic}
use Rattle.bow_log.specs.declared.logs.Magic.TheVariants.{Log as LogMagic, Restoring}
use Rattle.bow_log.specs.declared.faults.LogFault.{LogFault}
use Rattle.bow_log.specs.declared.faults.LogFault.TheVariants.{NoMagic, Version, HeaderSize, BlockSize, Count, Tail, Sector0}
use Rattle.bow_log.specs.Spelling.{Fields, magic_number}
use Rattle.bow_log.specs.Generations.{room, sectors}
use Rattle.bow_log.specs.Rules.{is_current, entry_fault}

-- the little-endian number of this width that begins at this byte
unfoldable pub number_at : Width → ℕ → List ℕ → ℕ
number_at w at block = from_le_bytes w (take (byte_len w) (drop at block))

-- the entry whose 24 bytes begin at this byte
abbrev pub entry_at : ℕ → List ℕ → Entry
entry_at at block = record {
  source = number_at w64 at block;
  dest = number_at w64 (at + 8) block;
  size = number_at w32 (at + 16) block;
  sum = number_at w32 (at + 20) block;
}

-- so many entries from this byte on
abbrev pub entries_at : ℕ → ℕ → List ℕ → List Entry
entries_at zero at block = []
entries_at (suc n) at block = entry_at at block ∷ entries_at n (at + 24) block

-- how many entries the block says that it has
abbrev pub count_in : List ℕ → ℕ
count_in block = number_at w32 12 block

-- its first four bytes are this magic
abbrev pub begins_with : Magic → List ℕ → Bool
begins_with magic block = number_at w32 0 block == magic_number magic

-- what stands in the places of a log's fields, whatever faults the block has
abbrev pub parts_of : List ℕ → Fields
parts_of block = record {
  magic = if begins_with Restoring block then Restoring else LogMagic;
  block_size = number_at w32 8 block;
  sequence = number_at w32 16 block;
  sector0 = number_at w64 20 block;
  entries = entries_at (count_in block) 28 block;
}

-- the first fault of version, sizes and count; where these have none, `rest`
abbrev pub sizes_fault : Geometry → List ℕ → Option LogFault → Option LogFault
sizes_fault g block rest =
    if not (number_at w16 4 block == 0x0100) then Some Version
    else if not (number_at w16 6 block == 28) then Some HeaderSize
    else if not (number_at w32 8 block == g.block_size) then Some BlockSize
    else if count_in block == 0 || nat_lt (room g.block_size) (count_in block) then Some Count
    else rest

-- the first fault of a block, in the order of the faults, or none
unfoldable pub fault_of : Geometry → List ℕ → Option LogFault
fault_of g block =
    if not (begins_with LogMagic block || begins_with Restoring block) then Some NoMagic
    else sizes_fault g block (
    if not (are_zero (drop (28 + 24 * count_in block) block)) then Some Tail
    else if not (is_current g (number_at w64 20 block)) then Some Sector0
    else entry_fault g 0 (entries_at (count_in block) 28 block))

-- the log that a block spells, or none
abbrev pub log_of : Geometry → List ℕ → Option Fields
log_of g block = if is_none (fault_of g block) then Some (parts_of block) else None

-- the block at which the current block 0 lies, by the header
abbrev pub current_in : Geometry → List ℕ → ℕ
current_in g block = number_at w64 20 block / sectors g

-- the first fault of a block's header after its magic, in the order of the faults, or none
abbrev pub fields_fault : Geometry → List ℕ → Option LogFault
fields_fault g block =
    sizes_fault g block (if not (is_current g (number_at w64 20 block)) then Some Sector0 else None)

-- the first fault of a block's header, or none: its tail and its entries are not looked at
abbrev pub header_fault : Geometry → List ℕ → Option LogFault
header_fault g block =
    if not (begins_with LogMagic block || begins_with Restoring block) then Some NoMagic else fields_fault g block

-- it is a fault that a header may have, but for the want of a magic
abbrev pub IsOfHeader : LogFault → Type 0
IsOfHeader Version = Unit {0}
IsOfHeader HeaderSize = Unit {0}
IsOfHeader BlockSize = Unit {0}
IsOfHeader Count = Unit {0}
IsOfHeader Sector0 = Unit {0}
IsOfHeader fault = ⊥
