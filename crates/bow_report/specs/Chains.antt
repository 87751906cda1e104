-- The lines of a chain of logs, and of what is wrong with one.
use Rattle.std.specs.Prelude.{ℕ, suc, ◌/◌, ◌%◌, List, [], ◌∷◌, ◌++◌, codes, length}
use Rattle.std.specs.List.{flat_map}
use Rattle.std.specs.Fmt.{decimal}
use Rattle.bow_units.specs.Contents.{hex_digit}
use Rattle.bow_log.specs.declared.entries.Entry.{Entry}
use Rattle.bow_log.specs.declared.logs.Magic.{Magic}
use Rattle.bow_log.specs.declared.logs.Magic.TheVariants.{Log as LogMagic, Restoring}
use Rattle.bow_log.specs.declared.faults.LogFault.{LogFault}
use Rattle.bow_log.specs.declared.faults.LogFault.TheVariants as logs
use Rattle.bow_log.specs.Spelling.{Fields}
use Rattle.bow_chain.specs.declared.faults.ChainFault.{ChainFault}
use Rattle.bow_chain.specs.declared.faults.ChainFault.TheVariants as chains

-- the eight lower-case hexadecimal digits of a sum, the highest first
unfoldable pub sum_text : ℕ → List ℕ
sum_text sum =
    hex_digit (sum / 0x10000000 % 16) ∷ hex_digit (sum / 0x1000000 % 16) ∷ hex_digit (sum / 0x100000 % 16)
    ∷ hex_digit (sum / 0x10000 % 16) ∷ hex_digit (sum / 0x1000 % 16) ∷ hex_digit (sum / 0x100 % 16)
    ∷ hex_digit (sum / 0x10 % 16) ∷ hex_digit (sum % 16) ∷ []

-- a magic as a line has it
abbrev pub magic_text : Magic → List ℕ
magic_text LogMagic = codes "log"
magic_text Restoring = codes "restoring"

-- the line of a log with this sequence and magic, by its current block and number of entries, with its line feed
unfoldable pub generation_text : ℕ → Magic → ℕ → ℕ → List ℕ
generation_text sequence magic sector0 entries = codes "generation " ++ decimal sequence ++ codes " magic "
    ++ magic_text magic ++ codes " sector0 " ++ decimal sector0 ++ codes " entries " ++ decimal entries ++ codes "\n"

-- the line of this log
abbrev pub generation_line : Fields → List ℕ
generation_line log = generation_text log.sequence log.magic log.sector0 (length log.entries)

-- an entry as its line has it
unfoldable pub entry_text : Entry → List ℕ
entry_text e = codes "source " ++ decimal e.source ++ codes " dest " ++ decimal e.dest ++ codes " size "
    ++ decimal e.size ++ codes " sum " ++ sum_text e.sum

-- the line of the entry of this index
abbrev pub entry_line : ℕ → Entry → List ℕ
entry_line index e = codes "entry " ++ decimal index ++ codes " " ++ entry_text e ++ codes "\n"

-- the lines of entries, the first of which has this index
abbrev pub entry_lines : ℕ → List Entry → List ℕ
entry_lines index [] = []
entry_lines index (e ∷ es) = entry_line index e ++ entry_lines (suc index) es

-- the lines of these logs, the newest first: each log, and behind it its entries
abbrev pub chain_text : List Fields → List ℕ
chain_text logs = flat_map (λ log. generation_line log ++ entry_lines 0 log.entries) logs

-- what is wrong with the fields of a log
abbrev pub log_fault_text : LogFault → List ℕ
log_fault_text logs.NoMagic = codes "no magic"
log_fault_text logs.Version = codes "version"
log_fault_text logs.HeaderSize = codes "header size"
log_fault_text logs.BlockSize = codes "block size"
log_fault_text logs.Count = codes "count"
log_fault_text logs.Tail = codes "tail"
log_fault_text logs.Sector0 = codes "sector0"
log_fault_text (logs.Entry index) = codes "entry " ++ decimal index

-- why no chain was loaded
abbrev pub chain_fault_text : ChainFault → List ℕ
chain_fault_text chains.NoLog = codes "no log"
chain_fault_text (chains.BadLog depth fault) = codes "bad chain: depth " ++ decimal depth ++ codes " log "
    ++ log_fault_text fault
chain_fault_text (chains.BadSequence depth found wanted) = codes "bad chain: depth " ++ decimal depth
    ++ codes " sequence " ++ decimal found ++ codes " wanted " ++ decimal wanted
chain_fault_text (chains.BadSum depth index found stated) = codes "bad chain: depth " ++ decimal depth
    ++ codes " entry " ++ decimal index ++ codes " sum " ++ sum_text found ++ codes " stated " ++ sum_text stated
chain_fault_text chains.DiskFault = codes "disk fault"
chain_fault_text chains.NoMemory = codes "no memory"
