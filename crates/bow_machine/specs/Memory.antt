-- What the device keeps in memory.
use Rattle.std.specs.Prelude.{ℕ, ◌==◌, ◌&&◌, ◌||◌, Bool, true, false, not, if◌then◌else◌, List, Option, Some, None}
use Rattle.bow_units.specs.declared.sizes.Extent.{Extent}
use Rattle.bow_units.specs.declared.requests.Phase.{Phase}
use Rattle.bow_units.specs.declared.requests.Phase.TheVariants.{Trim, Arming, Checkpoint, Deciding, Committed}
use Rattle.bow_units.specs.declared.statuses.Kind.{Kind}
use Rattle.bow_units.specs.declared.statuses.Kind.TheVariants.{Sector0, Current, Unchanged, Free, Changed, Backup, Saved}
use Rattle.bow_log.specs.Generations.{Generation}
use Rattle.bow_ranges.specs.Kinds.{kind_at, with_kind}
use Rattle.bow_copy.specs.Acts.{Progress, log_tried}
use Rattle.bow_copy.specs.declared.jobs.Job.{Job}
use Rattle.bow_copy.specs.declared.jobs.Job.TheVariants.{Rewrite, Link, Copy, Move}
use Rattle.bow_queue.specs.declared.tickets.Ticket.{Ticket}
use Rattle.bow_machine.specs.Requests.{Request}

-- a batch: its job and how far it is, the blocks in its buffer, and the write for which it was formed
pub record Batch : Type 0 where
  pub progress : Progress
  pub slots : List (List ℕ)
  pub ticket : Ticket

-- the next act of a prepare, with what it has read
pub data PrepareAct : Type 0 where
  ReadsBlock0 : PrepareAct
  WritesCurrent WritesBackup FlushesCopies : List ℕ → PrepareAct
  WritesFirstLog FlushesFirstLog : PrepareAct

-- the next act of a commit, with what it has read
pub data CommitAct : Type 0 where
  FlushesAll ReadsCurrent : CommitAct
  WritesBlock0 : List ℕ → CommitAct
  FlushesDecision : CommitAct

-- What is in hand: nothing; a batch; a prepare, with the blocks that it picked for the current block 0 and for its
-- backup; or a commit, which may find the phase Deciding.
pub data Hand : Type 0 where
  Empty : Hand
  Batching : Batch → Hand
  Preparing : Ticket → ℕ → ℕ → PrepareAct → Hand
  Committing : Ticket → Bool → CommitAct → Hand

-- what the device keeps in memory
pub record Memory : Type 0 where
  pub phase : Phase
  -- the kind of each block
  pub kinds : List Kind
  -- the requests that wait, by rising serial number
  pub requests : List Request
  pub hand : Hand
  -- the log in memory: none exactly in Trim and Committed
  pub log : Option Generation
  -- the log in memory is known to be durable in block 0
  pub clean : Bool
  -- how many blocks were free at the prepare
  pub trimmed : ℕ

-- a prepare or a commit is in hand
abbrev pub has_command : Hand → Bool
has_command Empty = false
has_command (Batching b) = false
has_command (Preparing t c b a) = true
has_command (Committing t again a) = true

-- the job moves the current block 0
abbrev pub is_move : Job → Bool
is_move (Move from to) = true
is_move Rewrite = false
is_move (Link dest) = false
is_move (Copy source dest count) = false

-- a batch that moves the current block 0 is in hand
abbrev pub has_move : Hand → Bool
has_move (Batching b) = is_move b.progress.job
has_move Empty = false
has_move (Preparing t c b a) = false
has_move (Committing t again a) = false

-- the blocks that a job picked
abbrev pub picks : Job → Extent
picks Rewrite = record { first = 0; count = 0 }
picks (Link dest) = record { first = dest; count = 1 }
picks (Copy source dest count) = record { first = dest; count = count }
picks (Move from to) = record { first = to; count = 1 }

-- the picked blocks of a batch, until its log is given to the disk
abbrev pub reserved_by : Batch → Extent
reserved_by b =
    if log_tried b.progress.job b.progress.done then record { first = 0; count = 0 } else picks b.progress.job

-- the picked blocks of what is in hand
abbrev pub reserved : Hand → Extent
reserved (Batching b) = reserved_by b
reserved Empty = record { first = 0; count = 0 }
reserved (Preparing t c b a) = record { first = 0; count = 0 }
reserved (Committing t again a) = record { first = 0; count = 0 }

-- where the content of a block lies: block 0 at the current place, where there is a log
abbrev pub place_with : Option Generation → ℕ → ℕ
place_with None b = b
place_with (Some log) b = if b == 0 then log.current else b

-- where the content of a block lies
abbrev pub place_of : Memory → ℕ → ℕ
place_of m b = place_with m.log b

-- the block holds the current content of block 0
abbrev pub is_kind_current : Kind → Bool
is_kind_current Current = true
is_kind_current Sector0 = false
is_kind_current Unchanged = false
is_kind_current Free = false
is_kind_current Changed = false
is_kind_current Backup = false
is_kind_current Saved = false

-- a block of this kind may be written in place
abbrev pub may_be_written : Kind → Bool
may_be_written Changed = true
may_be_written Free = true
may_be_written Sector0 = false
may_be_written Current = false
may_be_written Unchanged = false
may_be_written Backup = false
may_be_written Saved = false

-- A write of the block needs no worker. In Checkpoint the block is changed or free, or it is block 0 and no batch moves
-- its current place.
abbrev pub is_direct : Memory → Phase → ℕ → Bool
is_direct m Trim b = true
is_direct m Checkpoint b = may_be_written (kind_at m.kinds b) || (b == 0 && not (has_move m.hand))
is_direct m Committed b = true
is_direct m Arming b = false
is_direct m Deciding b = false

-- the kind of a block other than 0 after a write of it was tried in place
abbrev pub kind_written : Phase → Kind → Kind
kind_written Trim kind = Unchanged
kind_written Checkpoint Free = Changed
kind_written phase kind = kind

-- the kinds after a write of this block was tried in place
abbrev pub kinds_written : Phase → List Kind → ℕ → List Kind
kinds_written phase kinds b = if b ==
    0 then kinds else with_kind kinds (record { first = b; count = 1 }) (kind_written phase (kind_at kinds b))
