-- When the machine, over what the disk holds and may hold after a cut, stands for a flat state.
use Rattle.std.specs.Prelude.{ℕ, ◌+◌, ◌<◌, ◌≤◌, ◌≡◌, ◌⊎◌, Bool, true, List, [], ◌∷◌, length, slice_index_or}
use Rattle.std.specs.Prelude.{Option, Some, None, Contains}
use Rattle.bow_units.specs.declared.sizes.Geometry.{Geometry}
use Rattle.bow_units.specs.declared.requests.Phase.{Phase}
use Rattle.bow_units.specs.declared.requests.Phase.TheVariants.{Trim, Arming, Checkpoint, Deciding, Committed}
use Rattle.bow_units.specs.declared.statuses.Kind.{Kind}
use Rattle.bow_units.specs.declared.statuses.Kind.TheVariants as kinds
use Rattle.bow_log.specs.Generations.{Generation}
use Rattle.bow_chain.specs.Contents.{Contents}
use Rattle.bow_chain.specs.Sound.{log_in}
use Rattle.bow_copy.specs.Acts.{acts_before_log}
use Rattle.bow_copy.specs.declared.jobs.Act.{Act}
use Rattle.bow_copy.specs.declared.jobs.Act.TheVariants as acts
use Rattle.bow_copy.specs.declared.jobs.Job.{Job}
use Rattle.bow_flat.specs.Flat.{Flat, May}
use Rattle.bow_flat.specs.Valid.{IsState}
use Rattle.bow_guard.specs.Cuts.{Candidates, IsFlushed}
use Rattle.bow_guard.specs.Device.{Device, IsClean}
use Rattle.bow_guard.specs.Phases.{IsPending, Leaves}
use Rattle.bow_ranges.specs.Kinds.{kind_at, holds, is_free}
use Rattle.bow_machine.specs.Memory.{Memory, Batch, Hand, Empty, Batching, Preparing, Committing, PrepareAct}
use Rattle.bow_machine.specs.Memory.{ReadsBlock0, WritesCurrent, WritesBackup, FlushesCopies, WritesFirstLog}
use Rattle.bow_machine.specs.Memory.{FlushesFirstLog, CommitAct, FlushesAll, ReadsCurrent, WritesBlock0}
use Rattle.bow_machine.specs.Memory.{FlushesDecision, reserved, place_of}
use Rattle.bow_machine.specs.MemoryIsSound.{MemoryIsSound}

-- each block of the disk is one block long
abbrev pub HasBlocks : Geometry → Contents → Type 0
HasBlocks g now = (b : ℕ) → b < g.blocks → length (now b) ≡ g.block_size

-- the device of the crash theory: its kinds are those of the table, and picked is what the batch in hand has reserved
abbrev pub device_of : Memory → Generation → List Generation → Generation → List Generation → Contents → Candidates
    → Device
device_of m log older clean_log clean_older now may = record {
  now = now;
  may = may;
  kind = kind_at m.kinds;
  picked = holds (reserved m.hand);
  log = log;
  older = older;
  clean_log = clean_log;
  clean_older = clean_older;
}

-- ----------------------------------------------------------------------------------------------------------------
-- What is kept.

-- in Trim each block but 0 is free exactly where it was discarded
abbrev pub FreeIsTrimmed : Geometry → List Kind → (ℕ → Bool) → Type 0
FreeIsTrimmed g table trim = (b : ℕ) → 0 < b → b < g.blocks → is_free (kind_at table b) ≡ trim b

-- a block of this kind holds nothing that was written to it
abbrev pub IsHidden : Kind → Type 0
IsHidden kind = (kind ≡ kinds.Free) ⊎ ((kind ≡ kinds.Backup) ⊎ (kind ≡ kinds.Current))

-- With a log in memory: behind it, and behind the last one known to be durable, all is kept as the phase demands. The
-- two are one where the log is clean, and in Arming. What is hidden may read as anything.
pub record LogIsKept (g : Geometry) (m : Memory) (now : Contents) (may : Candidates) (f : Flat) (phase : Phase)
    (log : Generation) : Type 0 where
  pub older : List Generation
  pub clean_log : Generation
  pub clean_older : List Generation
  pub leaves : Leaves g phase f (now log.current) (device_of m log older clean_log clean_older now may)
  pub clean : (m.clean ≡ true) ⊎ (phase ≡ Arming) → IsClean (device_of m log older clean_log clean_older now may)
  pub hidden : (b : ℕ) → b < g.blocks → IsHidden (kind_at m.kinds b) → (f.current b ≡ None) × (f.pending b ≡ None)
  pub trimmed : f.trimmed ≡ m.trimmed

-- what is kept, by phase
abbrev pub DiskKeeps : Geometry → Memory → Contents → Candidates → Flat → Phase → Option Generation → Type 0
DiskKeeps g m now may f Trim log = IsPending g f may × FreeIsTrimmed g m.kinds f.trim
DiskKeeps g m now may f Arming (Some log) = LogIsKept g m now may f Arming log
DiskKeeps g m now may f Checkpoint (Some log) = LogIsKept g m now may f Checkpoint log
DiskKeeps g m now may f Deciding (Some log) = LogIsKept g m now may f Deciding log
DiskKeeps g m now may f Committed log = IsPending g f may
DiskKeeps g m now may f phase None = ⊥

-- ----------------------------------------------------------------------------------------------------------------
-- What the acts of what is in hand have read and written.

-- the act is one of the first so many of the job's acts before its log
abbrev pub WasDone : Job → ℕ → Act → Type 0
WasDone job done act = (i : ℕ) × (i < done) × (slice_index_or (acts_before_log job) i acts.End ≡ act)

-- A block that such an act read or wrote holds what is in the act's slot of the buffer; after the flush it holds that
-- durably, where it was written.
pub record ActsStand (job : Job) (done : ℕ) (slots : List (List ℕ)) (now : Contents) (may : Candidates) : Type 0 where
  pub read : (block slot : ℕ) → WasDone job done (acts.Read block slot) → now block ≡ slice_index_or slots slot []
  pub wrote : (block slot : ℕ) → WasDone job done (acts.Write block slot) → now block ≡ slice_index_or slots slot []
  pub durable : (block slot : ℕ) → WasDone job done (acts.Write block slot) → WasDone job done acts.Flush
      → may block ≡ now block ∷ []

-- a batch: its acts stand until its log is written, and from then on block 0 spells the log
pub record BatchStands (g : Geometry) (b : Batch) (now : Contents) (may : Candidates) (log : Generation) : Type 0 where
  pub before : b.progress.done ≤ length (acts_before_log b.progress.job)
      → ActsStand b.progress.job b.progress.done b.slots now may
  pub after : b.progress.done ≡ length (acts_before_log b.progress.job) + 1 → log_in g (now 0) ≡ Some log

-- a prepare: what it read is what block 0 holds, what it wrote is that, and at last block 0 spells the log
abbrev pub PrepareStands : Geometry → Option Generation → ℕ → ℕ → PrepareAct → Contents → Type 0
PrepareStands g log c b ReadsBlock0 now = Unit {0}
PrepareStands g log c b (WritesCurrent content) now = content ≡ now 0
PrepareStands g log c b (WritesBackup content) now = (content ≡ now 0) × (now c ≡ content)
PrepareStands g log c b (FlushesCopies content) now = (content ≡ now 0) × (now c ≡ content) × (now b ≡ content)
PrepareStands g log c b WritesFirstLog now = Unit {0}
PrepareStands g log c b FlushesFirstLog now = log_in g (now 0) ≡ log

-- a commit: all was flushed; it read what the current block 0 holds; it wrote that to block 0
abbrev pub CommitStands : Geometry → ℕ → CommitAct → Contents → Candidates → Type 0
CommitStands g current FlushesAll now may = Unit {0}
CommitStands g current ReadsCurrent now may = IsFlushed g now may
CommitStands g current (WritesBlock0 content) now may = IsFlushed g now may × (content ≡ now current)
CommitStands g current FlushesDecision now may = now 0 ≡ now current

-- what is in hand has read and written what it should
abbrev pub HandStands : Geometry → Memory → Hand → Contents → Candidates → Option Generation → Type 0
HandStands g m Empty now may log = Unit {0}
HandStands g m (Batching b) now may (Some log) = BatchStands g b now may log
HandStands g m (Batching b) now may None = ⊥
HandStands g m (Preparing t c b act) now may log = PrepareStands g log c b act now
HandStands g m (Committing t again act) now may log = CommitStands g (place_of m 0) act now may

-- ----------------------------------------------------------------------------------------------------------------

-- The machine stands for the flat state: its memory is sound, the disk shows the state, whatever a cut leaves stands
-- for it, and what is in hand has read and written what it should.
pub record IsStanding (g : Geometry) (m : Memory) (now : Contents) (may : Candidates) (f : Flat) : Type 0 where
  pub sound : MemoryIsSound g m
  pub blocks : HasBlocks g now
  pub state : IsState f
  pub phases : f.phase ≡ m.phase
  pub held : (b : ℕ) → b < g.blocks → Contains (may b) (now b)
  pub shown : (b : ℕ) → b < g.blocks → May (f.current b) (now (place_of m b))
  pub kept : DiskKeeps g m now may f m.phase m.log
  pub in_hand : HandStands g m m.hand now may m.log
