-- What the device's memory keeps over any disk, whatever its calls reply.
use Rattle.std.specs.Prelude.{ℕ, ◌+◌, ◌*◌, ◌<◌, ◌≤◌, ◌≡◌, ◌≢◌, ◌⊎◌, Bool, true, false, min, List, [], ◌∷◌, length}
use Rattle.std.specs.Prelude.{Option, Some, None}
use Rattle.std.specs.List.{AllByRecursion as Each}
use Rattle.bow_units.specs.declared.sizes.Geometry.{Geometry}
use Rattle.bow_units.specs.declared.sizes.Extent.{Extent}
use Rattle.bow_units.specs.Sizes.{IsValid}
use Rattle.bow_units.specs.declared.requests.Op.{Op}
use Rattle.bow_units.specs.declared.requests.Op.TheVariants.{Read, Write, Prepare, Commit}
use Rattle.bow_units.specs.declared.requests.Phase.{Phase}
use Rattle.bow_units.specs.declared.requests.Phase.TheVariants.{Trim, Arming, Checkpoint, Deciding, Committed}
use Rattle.bow_units.specs.declared.statuses.Kind.{Kind}
use Rattle.bow_units.specs.declared.statuses.Kind.TheVariants as kinds
use Rattle.bow_log.specs.Generations.{Generation, IsGeneration, GenerationFits, room}
use Rattle.bow_copy.specs.Acts.{acts_before_log}
use Rattle.bow_copy.specs.declared.jobs.Job.{Job}
use Rattle.bow_copy.specs.declared.jobs.Job.TheVariants as jobs
use Rattle.bow_queue.specs.declared.tickets.Ticket.{Ticket}
use Rattle.bow_ranges.specs.Kinds.{kind_at, is_free, count_of}
use Rattle.bow_machine.specs.Requests.{Request, request_of, refusal}
use Rattle.bow_machine.specs.Memory.{Memory, Batch, Hand, Empty, Batching, Preparing, Committing, PrepareAct}
use Rattle.bow_machine.specs.Memory.{ReadsBlock0, WritesCurrent, WritesBackup, FlushesCopies, WritesFirstLog}
use Rattle.bow_machine.specs.Memory.{FlushesFirstLog, CommitAct, FlushesAll, ReadsCurrent, WritesBlock0}
use Rattle.bow_machine.specs.Memory.{FlushesDecision, reserved, may_be_written}
use Rattle.bow_machine.specs.Tasks.{spelling}
use Rattle.bow_machine.specs.Steps.{extent_of}

-- a read or a write has 1 to 16 blocks, and a payload of that many
pub record IsTransfer (g : Geometry) (e : Extent) (payload : List ℕ) : Type 0 where
  pub some : 1 ≤ e.count
  pub few : e.count ≤ 16
  pub whole : length payload ≡ e.count * g.block_size

-- what the device takes in
abbrev pub IsAdmissible : Geometry → Op → Type 0
IsAdmissible g (Read e p) = IsTransfer g e p
IsAdmissible g (Write e p) = IsTransfer g e p
IsAdmissible g op = Unit {0}

-- no more blocks of the request are done than it has
abbrev pub IsRequest : Request → Type 0
IsRequest r = r.done ≤ (extent_of r.op).count

-- a request that was taken in, no more of whose blocks are done than it has
pub record IsWaiting (g : Geometry) (r : Request) : Type 0 where
  pub op : IsAdmissible g r.op
  pub done : IsRequest r

-- the requests wait by rising serial number
abbrev pub Rising : List Request → Type 0
Rising [] = Unit {0}
Rising (r ∷ rs) = Each (λ other. r.ticket.serial < other.ticket.serial) rs × Rising rs

-- ----------------------------------------------------------------------------------------------------------------
-- The log in memory, and the kinds.

-- one kind for each block, and block 0 alone is Sector0
pub record IsTable (g : Geometry) (table : List Kind) : Type 0 where
  pub size : length table ≡ g.blocks
  pub zeroth : kind_at table 0 ≡ kinds.Sector0
  pub only_0 : (b : ℕ) → b < g.blocks → kind_at table b ≡ kinds.Sector0 → b ≡ 0

-- the blocks that were changed or saved
abbrev pub is_touched : Kind → Bool
is_touched kinds.Changed = true
is_touched kinds.Saved = true
is_touched kinds.Sector0 = false
is_touched kinds.Current = false
is_touched kinds.Unchanged = false
is_touched kinds.Free = false
is_touched kinds.Backup = false

-- The log can be spelled, and one block holds the current content of block 0. The room is exact. Nothing is saved where
-- the log is clean.
pub record LogIsSound (g : Geometry) (table : List Kind) (clean : Bool) (trimmed picked : ℕ)
    (log : Generation) : Type 0 where
  pub own : log.restoring ≡ false
  pub generation : IsGeneration g log
  pub fits : GenerationFits log
  pub current : kind_at table log.current ≡ kinds.Current
  pub only_current : (b : ℕ) → b < g.blocks → kind_at table b ≡ kinds.Current → b ≡ log.current
  pub none_saved : clean ≡ true → (b : ℕ) → b < g.blocks → kind_at table b ≢ kinds.Saved
  pub room : count_of is_free table + 2 + log.sequence + count_of is_touched table + picked ≡ trimmed
  pub bounded : trimmed ≤ g.blocks

-- By phase: in Trim each block but 0 is free or unchanged, and once committed all are unchanged; there is a log exactly
-- from Arming to Deciding, and in Arming it is the first one, and nothing is changed or saved.
abbrev pub LogIsHeld : Geometry → List Kind → Bool → ℕ → ℕ → Phase → Option Generation → Type 0
LogIsHeld g table clean trimmed picked Trim None = (b : ℕ) → 0 < b → b < g.blocks → (kind_at table b ≡ kinds.Free)
    ⊎ (kind_at table b ≡ kinds.Unchanged)
LogIsHeld g table clean trimmed picked Arming (Some log) = LogIsSound g table clean trimmed picked log
    × (log.sequence ≡ 0) × (count_of is_touched table ≡ 0)
LogIsHeld g table clean trimmed picked Checkpoint (Some log) = LogIsSound g table clean trimmed picked log
LogIsHeld g table clean trimmed picked Deciding (Some log) = LogIsSound g table clean trimmed picked log
LogIsHeld g table clean trimmed picked Committed None = (b : ℕ) → 0 < b → b < g.blocks
    → kind_at table b ≡ kinds.Unchanged
LogIsHeld g table clean trimmed picked phase log = ⊥

-- ----------------------------------------------------------------------------------------------------------------
-- A batch in hand.

-- a link, before its log: the log is full and lies in the buffer
pub record LinkIsReady (g : Geometry) (table : List Kind) (log : Generation) (dest : ℕ)
    (slots : List (List ℕ)) : Type 0 where
  pub inside : dest < g.blocks
  pub kind : kind_at table dest ≡ kinds.Backup
  pub full : length log.entries ≡ room g.block_size
  pub buffer : slots ≡ spelling g log ∷ []

-- a copy, before its log: the log has room, and the buffer has what was read
pub record CopyIsReady (g : Geometry) (table : List Kind) (log : Generation) (source dest count done : ℕ)
    (slots : List (List ℕ)) : Type 0 where
  pub some : 1 ≤ count
  pub few : count ≤ 8
  pub not_full : length log.entries < room g.block_size
  pub source_inside : source + count ≤ g.blocks
  pub dest_inside : dest + count ≤ g.blocks
  pub sources : (j : ℕ) → j < count → (kind_at table (source + j) ≡ kinds.Unchanged)
      ⊎ (kind_at table (source + j) ≡ kinds.Backup)
  pub dests : (j : ℕ) → j < count → kind_at table (dest + j) ≡ kinds.Backup
  pub apart : (source + count ≤ dest) ⊎ (dest + count ≤ source)
  pub buffer : length slots ≡ min done count

-- a move, before its log: from the current place to a picked block
pub record MoveIsReady (g : Geometry) (table : List Kind) (log : Generation) (from to done : ℕ)
    (slots : List (List ℕ)) : Type 0 where
  pub from_current : from ≡ log.current
  pub inside : to < g.blocks
  pub kind : kind_at table to ≡ kinds.Backup
  pub buffer : length slots ≡ min done 1

-- a job, before its log is written: a rewrite where the log is not clean, and any other where it is
abbrev pub JobIsReady : Geometry → List Kind → Bool → Generation → Job → ℕ → List (List ℕ) → Type 0
JobIsReady g table clean log jobs.Rewrite done slots = clean ≡ false
JobIsReady g table clean log (jobs.Link dest) done slots = LinkIsReady g table log dest slots × (clean ≡ true)
JobIsReady g table clean log (jobs.Copy source dest count) done slots =
    CopyIsReady g table log source dest count done slots × (clean ≡ true)
JobIsReady g table clean log (jobs.Move from to) done slots = MoveIsReady g table log from to done slots
    × (clean ≡ true)

-- the blocks that the job saves are next blocks of this write
abbrev pub SavesNext : Job → Request → Extent → Type 0
SavesNext jobs.Rewrite write extent = Unit {0}
SavesNext (jobs.Link dest) write extent = Unit {0}
SavesNext (jobs.Copy source dest count) write extent = (source ≡ extent.first + write.done)
    × (write.done + count ≤ extent.count)
SavesNext (jobs.Move from to) write extent = from ≡ extent.first + write.done

-- the write for which a batch was formed still waits: it passed the tests, and its next block needs the worker
pub record ForWrite (g : Geometry) (m : Memory) (ticket : Ticket) : Type 0 where
  pub write : Request
  pub waits : request_of ticket m.requests ≡ Some write
  pub extent : Extent
  pub payload : List ℕ
  pub op : write.op ≡ Write extent payload
  pub passed : refusal g m.phase write.op ≡ None
  pub left : write.done < extent.count
  pub not_0 : extent.first + write.done ≢ 0
  pub kept_back : may_be_written (kind_at m.kinds (extent.first + write.done)) ≡ false

-- the write for which the batch was formed still waits, and the job saves none but its next blocks
pub record IsForWrite (g : Geometry) (m : Memory) (job : Job) (ticket : Ticket) : Type 0 where
  pub waits : ForWrite g m ticket
  pub next : SavesNext job waits.write waits.extent

-- a batch, in Checkpoint: before its log is written, or after that and before the last flush
pub record BatchIsSound (g : Geometry) (m : Memory) (b : Batch) (log : Generation) : Type 0 where
  pub phase : m.phase ≡ Checkpoint
  pub for_write : IsForWrite g m b.progress.job b.ticket
  pub runs : b.progress.failed ≡ false
  pub so_far : b.progress.done ≤ length (acts_before_log b.progress.job) + 1
  pub blocks : Each (λ v. length v ≡ g.block_size) b.slots
  pub before : b.progress.done ≤ length (acts_before_log b.progress.job)
      → JobIsReady g m.kinds m.clean log b.progress.job b.progress.done b.slots
  pub after : b.progress.done ≡ length (acts_before_log b.progress.job) + 1 → m.clean ≡ false

-- ----------------------------------------------------------------------------------------------------------------
-- What is in hand.

-- the two blocks that a prepare picked
pub record PicksHeld (g : Geometry) (m : Memory) (c b : ℕ) : Type 0 where
  pub phase : m.phase ≡ Trim
  pub apart : c ≢ b
  pub c_inside : c < g.blocks
  pub b_inside : b < g.blocks
  pub c_free : kind_at m.kinds c ≡ kinds.Free
  pub b_free : kind_at m.kinds b ≡ kinds.Free

-- the phase in which a commit was taken in hand
abbrev pub FoundIn : Memory → Bool → Type 0
FoundIn m false = m.phase ≡ Checkpoint
FoundIn m true = m.phase ≡ Deciding

-- a prepare, by its next act: what it picked, and one block that it read
abbrev pub PrepareIsSound : Geometry → Memory → ℕ → ℕ → PrepareAct → Type 0
PrepareIsSound g m c b ReadsBlock0 = PicksHeld g m c b
PrepareIsSound g m c b (WritesCurrent v) = PicksHeld g m c b × (length v ≡ g.block_size)
PrepareIsSound g m c b (WritesBackup v) = PicksHeld g m c b × (length v ≡ g.block_size)
PrepareIsSound g m c b (FlushesCopies v) = PicksHeld g m c b × (length v ≡ g.block_size)
PrepareIsSound g m c b WritesFirstLog = m.phase ≡ Arming
PrepareIsSound g m c b FlushesFirstLog = m.phase ≡ Arming

-- a commit, by its next act: the phase, and one block that it read
abbrev pub CommitIsSound : Geometry → Memory → Bool → CommitAct → Type 0
CommitIsSound g m again FlushesAll = FoundIn m again
CommitIsSound g m again ReadsCurrent = FoundIn m again
CommitIsSound g m again (WritesBlock0 v) = FoundIn m again × (length v ≡ g.block_size)
CommitIsSound g m again FlushesDecision = m.phase ≡ Deciding

-- the command in hand still waits
pub record IsForCommand (requests : List Request) (ticket : Ticket) (op : Op) : Type 0 where
  pub command : Request
  pub waits : request_of ticket requests ≡ Some command
  pub asks : command.op ≡ op

-- what is in hand
abbrev pub HandIsSound : Geometry → Memory → Hand → Option Generation → Type 0
HandIsSound g m Empty log = Unit {0}
HandIsSound g m (Batching b) (Some log) = BatchIsSound g m b log
HandIsSound g m (Batching b) None = ⊥
HandIsSound g m (Preparing t c b act) log = PrepareIsSound g m c b act × IsForCommand m.requests t Prepare
HandIsSound g m (Committing t again act) log = CommitIsSound g m again act × IsForCommand m.requests t Commit

-- ----------------------------------------------------------------------------------------------------------------

-- The memory is sound: the table of kinds, the requests that wait, the log by phase, and what is in hand.
pub record MemoryIsSound (g : Geometry) (m : Memory) : Type 0 where
  pub sizes : IsValid g
  pub table : IsTable g m.kinds
  pub few : length m.requests ≤ 16
  pub requests : Each (IsWaiting g) m.requests
  pub rising : Rising m.requests
  pub log : LogIsHeld g m.kinds m.clean m.trimmed (reserved m.hand).count m.phase m.log
  pub in_hand : HandIsSound g m m.hand m.log
