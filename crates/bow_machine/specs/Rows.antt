-- Small runs, worked out: a device of 16 blocks of 512 bytes, block b of which holds the one number b.
use Rattle.std.specs.Prelude.{ℕ, ◌≡◌, false, List, [], ◌∷◌, map, drop, Option, Some, None}
use Rattle.std.specs.List.{filter_map, range_with_len}
use Rattle.bow_units.specs.declared.sizes.Geometry.{Geometry}
use Rattle.bow_units.specs.declared.requests.Op.{Op}
use Rattle.bow_units.specs.declared.requests.Op.TheVariants.{Read, Write, Discard, Flush, Prepare, Commit}
use Rattle.bow_units.specs.declared.requests.Outcome.{Outcome}
use Rattle.bow_units.specs.declared.requests.Outcome.TheVariants.{Done, NoSpace, DiskFault}
use Rattle.bow_log.specs.Generations.{Backup, Generation}
use Rattle.bow_chain.specs.Sound.{sum_at}
use Rattle.bow_ranges.specs.Kinds.{count_of, is_free}
use Rattle.bow_machine.specs.Calls.{Call, ReadCall, WriteCall, FlushCall}
use Rattle.bow_machine.specs.Steps.{Told, Idle, Moved, Wrote, Got, Answered}
use Rattle.bow_machine.specs.Laws.{opened}
use Rattle.bow_machine.specs.Runs.{Run, played}

-- sixteen blocks of 512 bytes
abbrev pub sixteen : Geometry
sixteen = record { block_size = 512; blocks = 16 }

-- the device just opened, and no call fails
abbrev pub fresh : Run
fresh = record {
  memory = opened 16;
  blocks = map (λ b. b ∷ []) (range_with_len 0 16);
  calls = [];
  told = [];
  failing = [];
}

-- the script's lines
abbrev pub write : ℕ → ℕ → Op
write b seed = Write (record { first = b; count = 1 }) (b ∷ seed ∷ [])

-- a read of one block
abbrev pub read : ℕ → Op
read b = Read (record { first = b; count = 1 }) []

-- a discard of these blocks
abbrev pub discard : ℕ → ℕ → Op
discard first count = Discard (record { first = first; count = count })

-- what is left after these requests, from the opened device on
abbrev pub run_of_script : List Op → Run
run_of_script ops = played sixteen ops 0 fresh

-- a call without the content that it writes
abbrev pub bare : Call → Call
bare (ReadCall b) = ReadCall b
bare (WriteCall b v) = WriteCall b []
bare FlushCall = FlushCall

-- the outcome of an answer
abbrev pub outcome_told : Told → Option Outcome
outcome_told (Answered t op outcome) = Some outcome
outcome_told Idle = None
outcome_told Moved = None
outcome_told (Wrote t i) = None
outcome_told (Got t i) = None

-- what a read that was answered has in its buffer
abbrev pub data_in : Op → Option (List ℕ)
data_in (Read e p) = Some p
data_in (Write e p) = None
data_in (Discard e) = None
data_in Flush = None
data_in Prepare = None
data_in Commit = None

-- the data of an answered read
abbrev pub data_told : Told → Option (List ℕ)
data_told (Answered t op outcome) = data_in op
data_told Idle = None
data_told Moved = None
data_told (Wrote t i) = None
data_told (Got t i) = None

-- the outcomes of all answers, in their order
abbrev pub outcomes_of : Run → List Outcome
outcomes_of run = filter_map outcome_told run.told

-- the data of all answered reads, in their order
abbrev pub data_of : Run → List (List ℕ)
data_of run = filter_map data_told run.told

-- a backup of one block, which held this
abbrev pub backup : ℕ → ℕ → List ℕ → Backup
backup source dest content = record { source = source; dest = dest; count = 1; sum = sum_at source (content ∷ []) }

-- a prepare keeps block 0 twice: at the current place, and as the first backup
abbrev pub PreparedRow : Type 0
PreparedRow =
    (run_of_script (discard 8 8 ∷ Prepare ∷ [])).memory.log ≡ Some
    (record { restoring = false; sequence = 0; current = 8; entries = backup 0 9 (0 ∷ []) ∷ [] })

-- the calls of a prepare and of the first write of a block, in their order: each flush stands where it has to
abbrev pub CallsRow : Type 0
CallsRow = map bare (run_of_script (discard 8 8 ∷ Prepare ∷ write 1 5 ∷ [])).calls
    ≡ ReadCall 0 ∷ WriteCall 8 [] ∷ WriteCall 9 [] ∷ FlushCall ∷ WriteCall 0 [] ∷ FlushCall ∷ ReadCall 1
    ∷ WriteCall 10 [] ∷ FlushCall ∷ WriteCall 0 [] ∷ FlushCall ∷ WriteCall 1 [] ∷ []

-- with one free block left one more block can be backed up; what is changed may be written again
abbrev pub NoSpaceRow : Type 0
NoSpaceRow =
    outcomes_of
    (run_of_script (discard 13 3 ∷ Prepare ∷ write 1 5 ∷ write 2 5 ∷ write 1 6 ∷ write 13 5 ∷ write 15 5 ∷ []))
    ≡ Done ∷ Done ∷ Done ∷ NoSpace 0 ∷ Done ∷ NoSpace 0 ∷ NoSpace 0 ∷ []

-- the current block 0 gives way to a write of the block in which it lies, and is read where it has gone
abbrev pub MovedData : Type 0
MovedData =
    data_of (run_of_script (discard 8 8 ∷ Prepare ∷ read 0 ∷ write 0 5 ∷ read 0 ∷ write 8 6 ∷ read 0 ∷ read 8 ∷ []))
    ≡ (0 ∷ []) ∷ (0 ∷ 5 ∷ []) ∷ (0 ∷ 5 ∷ []) ∷ (8 ∷ 6 ∷ []) ∷ []

-- its log names the new place
abbrev pub MovedLog : Type 0
MovedLog =
    (run_of_script (discard 8 8 ∷ Prepare ∷ read 0 ∷ write 0 5 ∷ read 0 ∷ write 8 6 ∷ [])).memory.log ≡ Some
    (record { restoring = false; sequence = 0; current = 10; entries = backup 0 9 (0 ∷ []) ∷ [] })

-- a backup moves on when its own block is written
abbrev pub BackupsRow : Type 0
BackupsRow = (run_of_script (discard 8 8 ∷ Prepare ∷ write 1 5 ∷ write 10 6 ∷ [])).memory.log
    ≡ Some (record {
      restoring = false;
      sequence = 0;
      current = 8;
      entries = backup 0 9 (0 ∷ [])
          ∷ backup 1 10 (1 ∷ []) ∷ backup 10 11 (1 ∷ []) ∷ [];
    })

-- a write of several blocks, of this payload
abbrev pub write_run : ℕ → ℕ → List ℕ → Op
write_run first count payload = Write (record { first = first; count = count }) payload

-- a batch backs up all blocks of a write that one free run takes, with one entry and one write of the log
abbrev pub BatchCalls : Type 0
BatchCalls = drop 6 (map bare (run_of_script (discard 8 8 ∷ Prepare ∷ write_run 1 3 (5 ∷ []) ∷ [])).calls)
    ≡ ReadCall 1 ∷ ReadCall 2 ∷ ReadCall 3 ∷ WriteCall 10 [] ∷ WriteCall 11 [] ∷ WriteCall 12 [] ∷ FlushCall
    ∷ WriteCall 0 [] ∷ FlushCall ∷ WriteCall 1 [] ∷ WriteCall 2 [] ∷ WriteCall 3 [] ∷ []

-- what is discarded after it was changed is free again, and holds the next backup
abbrev pub ReclaimedLog : Type 0
ReclaimedLog = (run_of_script (discard 13 3 ∷ Prepare ∷ write 1 5 ∷ discard 1 1 ∷ write 2 5 ∷ [])).memory.log
    ≡ Some (record {
      restoring = false;
      sequence = 0;
      current = 13;
      entries = backup 0 14 (0 ∷ [])
          ∷ backup 1 15 (1 ∷ []) ∷ backup 2 1 (2 ∷ []) ∷ [];
    })

-- a commit flushes, reads the current block 0, writes it in place, and flushes
abbrev pub CommitCalls : Type 0
CommitCalls =
    drop 12 (map bare (run_of_script (discard 8 8 ∷ Prepare ∷ write 1 5 ∷ Commit ∷ [])).calls) ≡ FlushCall
    ∷ ReadCall 8 ∷ WriteCall 0 [] ∷ FlushCall ∷ []

-- the same device with 64 blocks, the last 34 of them discarded and a checkpoint begun; then blocks 1 to 20 are written
abbrev pub long_run : Run
long_run =
    played (record { block_size = 512; blocks = 64 })
    (discard 30 34 ∷ Prepare ∷ map (λ i. write i 5) (range_with_len 1 20)) 0
    (record fresh { memory = opened 64; blocks = map (λ b. b ∷ []) (range_with_len 0 64) })

-- the source and the dest of each entry of a log
abbrev pub ends_of : Option Generation → List (ℕ × ℕ)
ends_of None = []
ends_of (Some log) = map (λ e. (e.source, e.dest)) log.entries

-- the sequence of a log
abbrev pub sequence_of : Option Generation → ℕ
sequence_of None = 0
sequence_of (Some log) = log.sequence

-- a full log is kept in a free block, and a new one names it
abbrev pub LinkedLog : Type 0
LinkedLog =
    (sequence_of long_run.memory.log ≡ 1) × (ends_of long_run.memory.log ≡ (0, 51) ∷ (20, 52) ∷ [])
    × (count_of is_free long_run.memory.kinds ≡ 11)

-- the write of the log, the tenth call of this run, fails: the write of the block is answered with that fault
abbrev pub faulty_run : Run
faulty_run = played sixteen (discard 8 8 ∷ Prepare ∷ write 1 5 ∷ write 1 8 ∷ []) 0 (record fresh { failing = 10 ∷ [] })

-- Its entry stays, and before anything else the log is written again and flushed; then the block is written, which
-- needs no second backup.
abbrev pub FailedLog : Type 0
FailedLog =
    (outcomes_of faulty_run ≡ Done ∷ Done ∷ DiskFault 0 ∷ Done ∷ [])
    × (drop 9 (map bare faulty_run.calls) ≡ WriteCall 0 [] ∷ WriteCall 0 [] ∷ FlushCall ∷ WriteCall 1 [] ∷ [])
    × (ends_of faulty_run.memory.log ≡ (0, 9) ∷ (1, 10) ∷ [])
