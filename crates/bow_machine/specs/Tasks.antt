-- What a turn does: nothing, an answer, a block of a request, or the next act of what is in hand.
use Rattle.std.specs.Prelude.{ℕ, zero, suc, ◌+◌, ◌-◌, ◌==◌, ◌&&◌, Bool, true, false, not, if◌then◌else◌, List, [], ◌∷◌, length, find, Option, Some, None, is_none, min, nat_lt}
use Rattle.bow_units.specs.declared.sizes.Geometry.{Geometry}
use Rattle.bow_units.specs.declared.sizes.Extent.{Extent}
use Rattle.bow_units.specs.declared.requests.Op.{Op}
use Rattle.bow_units.specs.declared.requests.Op.TheVariants.{Read, Write, Discard, Flush, Prepare, Commit}
use Rattle.bow_units.specs.declared.requests.Phase.{Phase}
use Rattle.bow_units.specs.declared.requests.Phase.TheVariants.{Trim, Arming, Checkpoint, Deciding}
use Rattle.bow_units.specs.declared.requests.Outcome.{Outcome}
use Rattle.bow_units.specs.declared.requests.Outcome.TheVariants as outcomes
use Rattle.bow_units.specs.declared.statuses.Kind.{Kind}
use Rattle.bow_units.specs.declared.statuses.Kind.TheVariants as kinds
use Rattle.bow_log.specs.Generations.{Generation, room, fields_of}
use Rattle.bow_log.specs.Spelling.{spell}
use Rattle.bow_copy.specs.declared.jobs.Job.{Job}
use Rattle.bow_copy.specs.declared.jobs.Job.TheVariants as jobs
use Rattle.bow_queue.specs.Requests.{waits_on}
pub use Rattle.bow_queue.specs.Requests.{first_of}
use Rattle.bow_ranges.specs.Kinds.{kind_at, with_kind, is_free, count_of}
use Rattle.bow_ranges.specs.Picks.{picked}
pub use Rattle.bow_machine.specs.declared.turns.Turn.{Turn}
pub use Rattle.bow_machine.specs.declared.turns.Turn.TheVariants.{Map, Worker, Command}
use Rattle.bow_machine.specs.Requests.{Request, request_of, refusal}
use Rattle.bow_machine.specs.Memory.{Memory, Batch, Hand, Empty, Batching, Preparing, Committing, ReadsBlock0, WritesFirstLog, FlushesAll, has_command, is_direct, is_kind_current}

-- What the turn does. `Acts` is the next act of the batch or command that is in hand in the memory that it carries,
-- which differs from the one before the turn where the batch was formed, or the command taken, in this turn.
pub data Task : Type 0 where
  Waits : Task
  Answers : Request → Outcome → Task
  WritesBlock ReadsBlock : Request → ℕ → Task
  FlushesFor : Request → Task
  DiscardsFor : Request → Task
  Acts : Memory → Task

-- the request is refused, or goes on so
abbrev pub unless_refused : Request → Option Outcome → Task → Task
unless_refused r None task = task
unless_refused r (Some outcome) task = Answers r outcome

-- while a command is in hand, only reads and that command go on
abbrev pub unless_command : Memory → Task → Task
unless_command m task = if has_command m.hand then Waits else task

-- an unanswered write of a smaller serial number overlaps the write
abbrev pub is_waiting : Memory → Request → Bool
is_waiting m r = not (is_none (waits_on r.ticket m.requests))

-- A read is always ready. A write waits for the earlier ones that it overlaps, and for the worker where it is not
-- direct.
abbrev pub task_for : Geometry → Memory → Request → Op → Task
task_for g m r (Read e p) =
    unless_refused r (refusal g m.phase (Read e p))
    (if r.done == e.count then Answers r outcomes.Data else ReadsBlock r (e.first + r.done))
task_for g m r (Write e p) = unless_command m (unless_refused r (refusal g m.phase (Write e p))
    (if is_waiting m r then Waits else if r.done == e.count then Answers r outcomes.Done
    else if is_direct m m.phase (e.first + r.done) then WritesBlock r (e.first + r.done) else Waits))
task_for g m r (Discard e) = unless_command m (unless_refused r (refusal g m.phase (Discard e)) (DiscardsFor r))
task_for g m r Flush = unless_command m (unless_refused r (refusal g m.phase Flush) (FlushesFor r))
task_for g m r Prepare = Waits
task_for g m r Commit = Waits

-- the task of the request of a ticket, if it waits
abbrev pub map_task : Geometry → Memory → Option Request → Task
map_task g m None = Waits
map_task g m (Some r) = task_for g m r r.op

-- The write needs the worker: it passed the tests, waits on no other, and its next block is not direct.
abbrev pub needs_worker : Geometry → Memory → Request → Op → Bool
needs_worker g m r (Write e p) =
    is_none (refusal g m.phase (Write e p)) && not (is_waiting m r) && nat_lt r.done e.count
    && not (is_direct m m.phase (e.first + r.done))
needs_worker g m r (Read e p) = false
needs_worker g m r (Discard e) = false
needs_worker g m r Flush = false
needs_worker g m r Prepare = false
needs_worker g m r Commit = false

-- the head: of the writes that need the worker, the one of the smallest serial number
abbrev pub head : Geometry → Memory → Option Request
head g m = find (λ r. needs_worker g m r r.op) m.requests

-- the block that is the spelling of a log
abbrev pub spelling : Geometry → Generation → List ℕ
spelling g log = spell (fields_of g log)

-- a batch for a write, at its first act
abbrev pub batch_for : Request → Job → List (List ℕ) → Batch
batch_for r job slots =
    record { progress = record { job = job; done = 0; failed = false }; slots = slots; ticket = r.ticket }

-- the memory with this batch in hand
abbrev pub with_batch : Memory → Batch → Memory
with_batch m b = record m { hand = Batching b }

-- with picked blocks, which hold backups from then on, the batch is made; where none is free the write finds no space
abbrev pub on_picked : Memory → Request → (Extent → Batch) → Option Extent → Task
on_picked m r batch None = Answers r (outcomes.NoSpace r.done)
on_picked m r batch (Some e) = Acts (record m { kinds = with_kind m.kinds e kinds.Backup; hand = Batching (batch e) })

-- a kind from which blocks are copied
abbrev pub is_source : Kind → Kind → Bool
is_source kinds.Unchanged kinds.Unchanged = true
is_source kinds.Backup kinds.Backup = true
is_source kind other = false

-- how many blocks from this one on have the kind of a source, and the same one: so many at most
abbrev pub alike_from : List Kind → Kind → ℕ → ℕ → ℕ
alike_from table kind first zero = 0
alike_from table kind first (suc most) =
    if is_source kind (kind_at table first) then suc (alike_from table kind (suc first) most) else 0

-- the blocks that a copy for this write backs up: from its next block on, of one kind, at most eight
abbrev pub copied_from : Memory → Request → Extent → Extent
copied_from m r e =
    record {
      first = e.first + r.done;
      count =
          alike_from m.kinds (kind_at m.kinds (e.first + r.done)) (e.first + r.done) (min 8 (e.count - r.done));
    }

-- a copy of as many blocks as were picked
abbrev pub copy_onto : Extent → Extent → Job
copy_onto source dest = jobs.Copy source.first dest.first dest.count

-- The batch for a head: the first rule that applies. The log is written again where it is not clean; the current block
-- 0 is moved where the head writes its place; the log is linked where it is full; else blocks are copied.
abbrev pub formed : Geometry → Memory → Request → Extent → Generation → Task
formed g m r e log =
    if not m.clean then Acts (with_batch m (batch_for r jobs.Rewrite []))
    else if is_kind_current (kind_at m.kinds (e.first + r.done)) then
    on_picked m r (λ to. batch_for r (jobs.Move (e.first + r.done) to.first) []) (picked m.kinds 1)
    else if length log.entries == room g.block_size then
    on_picked m r (λ dest. batch_for r (jobs.Link dest.first) (spelling g log ∷ [])) (picked m.kinds 1)
    else on_picked m r (λ dest. batch_for r (copy_onto (copied_from m r e) dest) [])
    (picked m.kinds (copied_from m r e).count)

-- the batch for a head, which is a write, in Checkpoint, where there is a log
abbrev pub formed_for : Geometry → Memory → Request → Op → Option Generation → Task
formed_for g m r (Write e p) (Some log) = formed g m r e log
formed_for g m r op log = Waits

-- the worker serves the head, if there is one
abbrev pub serve : Geometry → Memory → Option Request → Task
serve g m None = Waits
serve g m (Some r) = formed_for g m r r.op m.log

-- the worker goes on with its batch, or forms one for the head; it forms none but in Checkpoint
abbrev pub worker_task : Geometry → Memory → Hand → Phase → Task
worker_task g m (Batching b) phase = Acts m
worker_task g m Empty Checkpoint = serve g m (head g m)
worker_task g m hand phase = Waits

-- with c picked, and b picked as if c were no longer free
abbrev pub prepare_on : Memory → Request → Option Extent → Option Extent → Task
prepare_on m r (Some c) (Some b) = Acts (record m { hand = Preparing r.ticket c.first b.first ReadsBlock0 })
prepare_on m r c b = Answers r (outcomes.NoSpace 0)

-- the table as if the picked block were no longer free
abbrev pub without_picked : List Kind → Option Extent → List Kind
without_picked table None = table
without_picked table (Some c) = with_kind table c kinds.Backup

-- A command is taken in hand, or has no place in this phase. A prepare in Trim needs two free blocks; in Arming it
-- repeats the log write and the flush. In Deciding a commit repeats all its calls.
abbrev pub taken : Memory → Request → Op → Phase → Task
taken m r Prepare Trim =
    if nat_lt (count_of is_free m.kinds) 2 then Answers r (outcomes.NoSpace 0)
    else prepare_on m r (picked m.kinds 1) (picked (without_picked m.kinds (picked m.kinds 1)) 1)
taken m r Prepare Arming = Acts (record m { hand = Preparing r.ticket 0 0 WritesFirstLog })
taken m r Commit Checkpoint = Acts (record m { hand = Committing r.ticket false FlushesAll })
taken m r Commit Deciding = Acts (record m { hand = Committing r.ticket true FlushesAll })
taken m r op phase = Answers r (outcomes.WrongPhase phase)

-- the first command that waits is taken, if there is one
abbrev pub take_first : Memory → Option Request → Task
take_first m None = Waits
take_first m (Some r) = taken m r r.op m.phase

-- the command in hand goes on; one is taken in hand where nothing is
abbrev pub command_task : Memory → Hand → Task
command_task m Empty = take_first m (first_of m.requests)
command_task m (Batching b) = Waits
command_task m (Preparing t c b act) = Acts m
command_task m (Committing t again act) = Acts m

-- what a turn does
abbrev pub task_of : Geometry → Memory → Turn → Task
task_of g m (Map ticket) = map_task g m (request_of ticket m.requests)
task_of g m Worker = worker_task g m m.hand m.phase
task_of g m Command = command_task m m.hand
