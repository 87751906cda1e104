-- A log, and the block that spells it. All numbers are little-endian.
use Rattle.std.specs.Prelude.{ℕ, ◌-◌, ◌*◌, ◌^◌, ◌<◌, List, ◌++◌, length, flat_map, replicate}
use Rattle.std.specs.List.{AllByRecursion as Each}
use Rattle.std.specs.Int.{w16, w32, w64, to_le_bytes}
use Rattle.bow_log.specs.declared.entries.Entry.{Entry}
use Rattle.bow_log.specs.declared.logs.Magic.{Magic}
use Rattle.bow_log.specs.declared.logs.Magic.TheVariants.{Log as LogMagic, Restoring}

-- what a log says, wherever it lies in memory
pub record Fields : Type 0 where
  pub magic : Magic
  pub block_size : ℕ
  pub sequence : ℕ
  pub sector0 : ℕ
  pub entries : List Entry

-- the number with which the block begins: its bytes are 42 4f 57 00, or 57 4f 42 00
abbrev pub magic_number : Magic → ℕ
magic_number LogMagic = 0x00574F42
magic_number Restoring = 0x00424F57

-- the 28 bytes before the entries: 0x0100 is the version, and 28 their own number
abbrev pub header : Fields → List ℕ
header log =
    to_le_bytes w32 (magic_number log.magic) ++ to_le_bytes w16 0x0100 ++ to_le_bytes w16 28
    ++ to_le_bytes w32 log.block_size
    ++ to_le_bytes w32 (length log.entries) ++ to_le_bytes w32 log.sequence ++ to_le_bytes w64 log.sector0

-- the 24 bytes of an entry
abbrev pub entry_text : Entry → List ℕ
entry_text e = to_le_bytes w64 e.source ++ to_le_bytes w64 e.dest ++ to_le_bytes w32 e.size ++ to_le_bytes w32 e.sum

-- the one spelling of a log: all bytes after the last entry are zero
unfoldable pub spell : Fields → List ℕ
spell log = header log ++ flat_map entry_text log.entries ++ replicate (log.block_size - 28 - 24 * length log.entries) 0

-- the numbers of an entry fit their places
pub record EntryFits (e : Entry) : Type 0 where
  pub source : e.source < 2 ^ 64
  pub dest : e.dest < 2 ^ 64
  pub size : e.size < 2 ^ 32
  pub sum : e.sum < 2 ^ 32

-- the numbers of a log fit theirs
pub record Fits (log : Fields) : Type 0 where
  pub block_size : log.block_size < 2 ^ 32
  pub count : length log.entries < 2 ^ 32
  pub sequence : log.sequence < 2 ^ 32
  pub sector0 : log.sector0 < 2 ^ 64
  pub entries : Each EntryFits log.entries
