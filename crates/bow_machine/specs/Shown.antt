-- What is shown of the device: its phase, its free blocks, and the log in memory.
use Rattle.std.specs.Prelude.{ℕ, ◌^◌, ◌<◌, ◌≤◌, ◌≡◌, ◌⊎◌, length, Option, Some, None}
use Rattle.bow_units.specs.declared.sizes.Geometry.{Geometry}
use Rattle.bow_units.specs.declared.requests.Phase.TheVariants.{Trim, Committed}
use Rattle.bow_units.specs.declared.statuses.Status.{Status}
use Rattle.bow_log.specs.Generations.{Generation, room}
use Rattle.bow_ranges.specs.Kinds.{is_free, count_of}
use Rattle.bow_machine.specs.Memory.{Memory}
use Rattle.bow_machine.specs.MemoryIsSound.{MemoryIsSound}

-- the sequence number of the log in memory; 0 where there is none
abbrev pub sequence_of : Option Generation → ℕ
sequence_of None = 0
sequence_of (Some log) = log.sequence

-- how many entries it has; 0 where there is none
abbrev pub entries_of : Option Generation → ℕ
entries_of None = 0
entries_of (Some log) = length log.entries

-- what is shown of the device: phase, free blocks, and the sequence and the entries of its log
abbrev pub status_of : Memory → Status
status_of m = record {
  phase = m.phase;
  free = count_of is_free m.kinds;
  sequence = sequence_of m.log;
  entries = entries_of m.log;
}

-- a status whose numbers fit, and are 0 where there is no log, and once committed
pub record IsShown (g : Geometry) (s : Status) : Type 0 where
  pub free : s.free ≤ g.blocks
  pub sequence : s.sequence < 2 ^ 32
  pub entries : s.entries ≤ room g.block_size
  pub no_log : (s.phase ≡ Trim) ⊎ (s.phase ≡ Committed) → (s.sequence ≡ 0) × (s.entries ≡ 0)
  pub committed : s.phase ≡ Committed → s.free ≡ 0

-- The status of sound memory is such a one.
abbrev pub StatusIsShown : Type 0
StatusIsShown = (g : Geometry) (m : Memory) → MemoryIsSound g m → IsShown g (status_of m)
