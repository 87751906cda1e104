-- What the proofs carry from step to step: memory's part of what the machine stands for and the disk's part, said of the
-- same things together. `Joined` leads from the definition to this and back.
use Rattle.std.specs.Prelude.{ℕ, ◌+◌, ◌*◌, ◌<◌, ◌≤◌, ◌≡◌, ◌≢◌, ◌⊎◌, Bool, true, false, min, List, [], ◌∷◌, length, slice_index_or, Option, Some, None, Contains}
use Rattle.std.specs.List.{AllByRecursion as Each}
use Rattle.bow_units.specs.declared.sizes.Geometry.{Geometry}
use Rattle.bow_units.specs.Sizes.{IsValid}
use Rattle.bow_units.specs.declared.requests.Op.TheVariants.{Prepare, Commit}
use Rattle.bow_units.specs.declared.requests.Phase.{Phase}
use Rattle.bow_units.specs.declared.requests.Phase.TheVariants.{Trim, Arming, Checkpoint, Deciding, Committed}
use Rattle.bow_units.specs.declared.statuses.Kind.{Kind}
use Rattle.bow_units.specs.declared.statuses.Kind.TheVariants as kinds
use Rattle.bow_log.specs.Generations.{Generation}
use Rattle.bow_chain.specs.Contents.{Contents}
use Rattle.bow_chain.specs.Sound.{log_in}
use Rattle.bow_copy.specs.Acts.{acts_before_log}
use Rattle.bow_copy.specs.declared.jobs.Job.{Job}
use Rattle.bow_copy.specs.declared.jobs.Job.TheVariants as jobs
use Rattle.bow_flat.specs.Flat.{Flat, May}
use Rattle.bow_flat.specs.Valid.{IsState}
use Rattle.bow_guard.specs.Cuts.{Candidates, IsFlushed}
use Rattle.bow_guard.specs.Device.{IsClean}
use Rattle.bow_guard.specs.Phases.{IsPending, Leaves}
use Rattle.bow_ranges.specs.Kinds.{kind_at, is_free, count_of}
use Rattle.bow_machine.specs.Requests.{Request, request_of}
use Rattle.bow_machine.specs.Memory.{Memory, Batch, Hand, Empty, Batching, Preparing, Committing, PrepareAct, ReadsBlock0, WritesCurrent, WritesBackup, FlushesCopies, WritesFirstLog, FlushesFirstLog, CommitAct, FlushesAll, ReadsCurrent, WritesBlock0, FlushesDecision, reserved, place_of}
use Rattle.bow_machine.specs.Tasks.{spelling}
pub use Rattle.bow_machine.specs.MemoryIsSound.{IsRequest, IsTable, is_touched, ForWrite, PicksHeld, FoundIn}
use Rattle.bow_machine.specs.MemoryIsSound.{IsForCommand, LogIsSound, LinkIsReady, CopyIsReady, MoveIsReady}
pub use Rattle.bow_machine.specs.Standing.{device_of, IsHidden}

-- each request waits under a ticket of its own
abbrev pub OwnTickets : List Request → Type 0
OwnTickets [] = Unit {0}
OwnTickets (r ∷ rs) = (request_of r.ticket rs ≡ None) × OwnTickets rs

-- In Trim each block but 0 is free exactly where it was discarded, and else unchanged.
abbrev pub IsTrimmed : Geometry → List Kind → (ℕ → Bool) → Type 0
IsTrimmed g table trim = (b : ℕ) → 0 < b → b < g.blocks → (trim b ≡ true × kind_at table b ≡ kinds.Free) ⊎ (trim b ≡ false × kind_at table b ≡ kinds.Unchanged)

-- The room is exact. Of the blocks that were free at the prepare, two went to block 0; one to each full log; one to each
-- block that was touched; and the batch in hand has reserved some.
abbrev pub Room : Memory → Generation → Type 0
Room m log = count_of is_free m.kinds + 2 + log.sequence + count_of is_touched m.kinds + (reserved m.hand).count ≡ m.trimmed

-- With a log in memory: behind it, and behind the last one known to be durable, all is kept as the phase demands.
pub record IsKept (g : Geometry) (m : Memory) (now : Contents) (may : Candidates) (f : Flat) (phase : Phase) (log : Generation) : Type 0 where
  pub older : List Generation
  pub clean_log : Generation
  pub clean_older : List Generation
  pub leaves : Leaves g phase f (now log.current) (device_of m log older clean_log clean_older now may)
  pub clean : m.clean ≡ true → IsClean (device_of m log older clean_log clean_older now may)
  pub arming : phase ≡ Arming → IsClean (device_of m log older clean_log clean_older now may) × ((b : ℕ) → b < g.blocks → kind_at m.kinds b ≢ kinds.Saved)
  pub sound : LogIsSound g m.kinds m.clean m.trimmed (reserved m.hand).count log
  pub hidden : (b : ℕ) → b < g.blocks → IsHidden (kind_at m.kinds b) → (f.current b ≡ None) × (f.pending b ≡ None)
  pub trimmed : f.trimmed ≡ m.trimmed

-- what is kept, by phase; there is a log in memory exactly from Arming to Deciding
abbrev pub Kept : Geometry → Memory → Contents → Candidates → Flat → Phase → Option Generation → Type 0
Kept g m now may f Trim None = IsPending g f may × IsTrimmed g m.kinds f.trim
Kept g m now may f Arming (Some log) = IsKept g m now may f Arming log
Kept g m now may f Checkpoint (Some log) = IsKept g m now may f Checkpoint log
Kept g m now may f Deciding (Some log) = IsKept g m now may f Deciding log
Kept g m now may f Committed None = IsPending g f may × ((b : ℕ) → 0 < b → b < g.blocks → kind_at m.kinds b ≡ kinds.Unchanged)
Kept g m now may f phase log = ⊥

-- ----------------------------------------------------------------------------------------------------------------
-- What is in hand.

-- a link, before its log: the picked block comes to hold the full log
pub record LinkHeld (g : Geometry) (m : Memory) (log : Generation) (dest done : ℕ) (slots : List (List ℕ)) (now : Contents) (may : Candidates) : Type 0 where
  pub ready : LinkIsReady g m.kinds log dest slots
  pub wrote : 1 ≤ done → now dest ≡ spelling g log
  pub durable : 2 ≤ done → may dest ≡ now dest ∷ []

-- a copy, before its log: what it read is still in place, and what it wrote is what it read
pub record CopyHeld (g : Geometry) (m : Memory) (log : Generation) (source dest count done : ℕ) (slots : List (List ℕ)) (now : Contents) (may : Candidates) : Type 0 where
  pub ready : CopyIsReady g m.kinds log source dest count done slots
  pub read : (j : ℕ) → j < length slots → now (source + j) ≡ slice_index_or slots j []
  pub wrote : (j : ℕ) → j < count → count + j < done → now (dest + j) ≡ slice_index_or slots j []
  pub durable : 2 * count < done → (j : ℕ) → j < count → may (dest + j) ≡ now (dest + j) ∷ []

-- a move, before its log: the new place comes to hold what the current block 0 holds
pub record MoveHeld (g : Geometry) (m : Memory) (log : Generation) (from to done : ℕ) (slots : List (List ℕ)) (now : Contents) (may : Candidates) : Type 0 where
  pub ready : MoveIsReady g m.kinds log from to done slots
  pub read : 1 ≤ done → slots ≡ now from ∷ []
  pub wrote : 2 ≤ done → now to ≡ now from
  pub durable : 3 ≤ done → may to ≡ now to ∷ []

-- the same places, with other acts done and another buffer
pub copy_on : (g : Geometry) (table : List Kind) (log : Generation) (source dest count done next : ℕ) (slots buffer : List (List ℕ)) → length buffer ≡ min next count
    → CopyIsReady g table log source dest count done slots → CopyIsReady g table log source dest count next buffer
copy_on g table log source dest count done next slots buffer long h = record {
  some = h.some;
  few = h.few;
  not_full = h.not_full;
  source_inside = h.source_inside;
  dest_inside = h.dest_inside;
  sources = h.sources;
  dests = h.dests;
  apart = h.apart;
  buffer = long;
}

pub move_on : (g : Geometry) (table : List Kind) (log : Generation) (from to done next : ℕ) (slots buffer : List (List ℕ)) → length buffer ≡ min next 1
    → MoveIsReady g table log from to done slots → MoveIsReady g table log from to next buffer
move_on g table log from to done next slots buffer long h = record { from_current = h.from_current; inside = h.inside; kind = h.kind; buffer = long }

-- a job, before its log is written; but for a rewrite the log is clean until then
abbrev pub JobHeld : Geometry → Memory → Generation → Job → ℕ → List (List ℕ) → Contents → Candidates → Type 0
JobHeld g m log jobs.Rewrite done slots now may = Unit {0}
JobHeld g m log (jobs.Link dest) done slots now may = LinkHeld g m log dest done slots now may × (m.clean ≡ true)
JobHeld g m log (jobs.Copy source dest count) done slots now may = CopyHeld g m log source dest count done slots now may × (m.clean ≡ true)
JobHeld g m log (jobs.Move from to) done slots now may = MoveHeld g m log from to done slots now may × (m.clean ≡ true)

-- a batch: in Checkpoint, for a write that waits; before its log is written, or after that, and before the last flush
pub record BatchHeld (g : Geometry) (m : Memory) (b : Batch) (now : Contents) (may : Candidates) (log : Generation) : Type 0 where
  pub phase : m.phase ≡ Checkpoint
  pub for_write : ForWrite g m b.ticket
  pub runs : b.progress.failed ≡ false
  pub so_far : b.progress.done ≤ length (acts_before_log b.progress.job) + 1
  pub before : b.progress.done ≤ length (acts_before_log b.progress.job) → JobHeld g m log b.progress.job b.progress.done b.slots now may
  pub after : b.progress.done ≡ length (acts_before_log b.progress.job) + 1 → (log_in g (now 0) ≡ Some log) × (m.clean ≡ false)

-- a prepare: what it read is what block 0 holds, and what it wrote is that
abbrev pub PrepareHeld : Geometry → Memory → ℕ → ℕ → PrepareAct → Contents → Type 0
PrepareHeld g m c b ReadsBlock0 now = PicksHeld g m c b
PrepareHeld g m c b (WritesCurrent content) now = PicksHeld g m c b × (content ≡ now 0)
PrepareHeld g m c b (WritesBackup content) now = PicksHeld g m c b × (content ≡ now 0) × (now c ≡ content)
PrepareHeld g m c b (FlushesCopies content) now = PicksHeld g m c b × (content ≡ now 0) × (now c ≡ content) × (now b ≡ content)
PrepareHeld g m c b WritesFirstLog now = m.phase ≡ Arming
PrepareHeld g m c b FlushesFirstLog now = (m.phase ≡ Arming) × ((log : Generation) → m.log ≡ Some log → log_in g (now 0) ≡ Some log)

-- a commit: all was flushed; it read what the current block 0 holds; it wrote that to block 0
abbrev pub CommitHeld : Geometry → Memory → Bool → CommitAct → Contents → Candidates → Type 0
CommitHeld g m again FlushesAll now may = FoundIn m again
CommitHeld g m again ReadsCurrent now may = FoundIn m again × IsFlushed g now may
CommitHeld g m again (WritesBlock0 content) now may = FoundIn m again × IsFlushed g now may × (content ≡ now (place_of m 0))
CommitHeld g m again FlushesDecision now may = (m.phase ≡ Deciding) × (now 0 ≡ now (place_of m 0))

-- what is in hand has read and written what it should
abbrev pub HandHeld : Geometry → Memory → Hand → Contents → Candidates → Option Generation → Type 0
HandHeld g m Empty now may log = Unit {0}
HandHeld g m (Batching b) now may (Some log) = BatchHeld g m b now may log
HandHeld g m (Batching b) now may None = ⊥
HandHeld g m (Preparing t c b act) now may log = PrepareHeld g m c b act now × IsForCommand m.requests t Prepare
HandHeld g m (Committing t again act) now may log = CommitHeld g m again act now may × IsForCommand m.requests t Commit

-- ----------------------------------------------------------------------------------------------------------------

-- what memory keeps of the kinds, and of the requests that wait
pub record HasMemory (g : Geometry) (kinds_now : List Kind) (waiting : List Request) : Type 0 where
  pub sizes : IsValid g
  pub table : IsTable g kinds_now
  pub requests : Each IsRequest waiting
  pub tickets : OwnTickets waiting

-- The machine stands for the flat state: the disk shows it, a cut leaves what stands for it, and what is in hand is so.
pub record IsHeld (g : Geometry) (m : Memory) (now : Contents) (may : Candidates) (f : Flat) : Type 0 where
  pub memory : HasMemory g m.kinds m.requests
  pub state : IsState f
  pub phases : f.phase ≡ m.phase
  pub held : (b : ℕ) → b < g.blocks → Contains (may b) (now b)
  pub shown : (b : ℕ) → b < g.blocks → May (f.current b) (now (place_of m b))
  pub kept : Kept g m now may f m.phase m.log
  pub in_hand : HandHeld g m m.hand now may m.log
