-- A step: the call that a task makes on the disk, and by the disk's reply the memory after it, what is told, and what
-- becomes of the flat state.
use Rattle.std.specs.Prelude.{ℕ, ◌+◌, ◌-◌, ◌==◌, Bool, true, false, if◌then◌else◌, List, [], ◌∷◌, ◌++◌, length, map, slice_index_or, Option, Some, None}
use Rattle.std.specs.Option.{option_map}
use Rattle.bow_units.specs.declared.sizes.Geometry.{Geometry}
use Rattle.bow_units.specs.declared.sizes.Extent.{Extent}
use Rattle.bow_units.specs.declared.requests.Op.{Op}
use Rattle.bow_units.specs.declared.requests.Op.TheVariants.{Read, Write, Discard, Flush, Prepare, Commit}
use Rattle.bow_units.specs.declared.requests.Phase.{Phase}
use Rattle.bow_units.specs.declared.requests.Phase.TheVariants.{Trim, Arming, Checkpoint, Deciding, Committed}
use Rattle.bow_units.specs.declared.requests.Outcome.{Outcome}
use Rattle.bow_units.specs.declared.requests.Outcome.TheVariants as outcomes
use Rattle.bow_units.specs.declared.statuses.Kind.{Kind}
use Rattle.bow_units.specs.declared.statuses.Kind.TheVariants as kinds
use Rattle.bow_log.specs.Generations.{Backup, Generation}
use Rattle.bow_chain.specs.Contents.{Contents}
use Rattle.bow_chain.specs.Sound.{sum_at}
use Rattle.bow_copy.specs.Acts.{next_act, after_act}
use Rattle.bow_copy.specs.declared.jobs.Job.{Job}
use Rattle.bow_copy.specs.declared.jobs.Job.TheVariants as jobs
use Rattle.bow_copy.specs.declared.jobs.Act.{Act}
use Rattle.bow_copy.specs.declared.jobs.Act.TheVariants as acts
use Rattle.bow_copy.specs.declared.jobs.After.{After}
use Rattle.bow_copy.specs.declared.jobs.After.TheVariants as afters
use Rattle.bow_flat.specs.Flat.{Event, block_at}
use Rattle.bow_flat.specs.Flat.Event.{Writes, Fails, Reads, Discards, Flushes, Arms, Prepares, Decides, Commits}
use Rattle.bow_guard.specs.Device.{unsaved}
use Rattle.bow_queue.specs.declared.tickets.Ticket.{Ticket}
use Rattle.bow_queue.specs.Requests.{open_writes}
pub use Rattle.bow_queue.specs.Requests.{payload_of, with_read}
use Rattle.bow_ranges.specs.Kinds.{with_kind, reclaimed, is_free, count_of}
use Rattle.bow_machine.specs.Requests.{Request, request_of, without_request, with_request}
use Rattle.bow_machine.specs.Memory.{Memory, Batch, Hand, Empty, Batching, Preparing, Committing, PrepareAct, ReadsBlock0, WritesCurrent, WritesBackup, FlushesCopies, WritesFirstLog, FlushesFirstLog, CommitAct, FlushesAll, ReadsCurrent, WritesBlock0, FlushesDecision, picks, place_of, kinds_written}
use Rattle.bow_machine.specs.Calls.{Call, ReadCall, WriteCall, FlushCall, Reply, Failed, Succeeded, Gave}
use Rattle.bow_machine.specs.Tasks.{Task, Waits, Answers, WritesBlock, ReadsBlock, FlushesFor, DiscardsFor, Acts, spelling}

-- what a step tells
pub data Told : Type 0 where
  Idle Moved : Told
  Wrote Got : Ticket → ℕ → Told
  Answered : Ticket → Op → Outcome → Told

-- the extent of a request
abbrev pub extent_of : Op → Extent
extent_of (Read e p) = e
extent_of (Write e p) = e
extent_of (Discard e) = e
extent_of Flush = record { first = 0; count = 0 }
extent_of Prepare = record { first = 0; count = 0 }
extent_of Commit = record { first = 0; count = 0 }

-- the next block of a request's payload
abbrev pub next_block : Geometry → Request → List ℕ
next_block g r = block_at g.block_size (payload_of r.op) r.done

-- ----------------------------------------------------------------------------------------------------------------
-- The batch in hand.

-- the log in memory; there is one wherever a batch or a log write is in hand
abbrev pub log_or_blank : Option Generation → Generation
log_or_blank (Some log) = log
log_or_blank None = record { restoring = false; sequence = 0; current = 0; entries = [] }

-- the log in memory
abbrev pub log_of_memory : Memory → Generation
log_of_memory m = log_or_blank m.log

-- the entry of a copy, with the sum of what was read
abbrev pub copy_entry : ℕ → ℕ → ℕ → List (List ℕ) → Backup
copy_entry source dest count slots = record { source = source; dest = dest; count = count; sum = sum_at source slots }

-- The log just before it is written: as it is; a new one, which the full one follows; with one entry for all copied
-- blocks; or with another current place.
abbrev pub log_for : Job → List (List ℕ) → Generation → Generation
log_for jobs.Rewrite slots log = log
log_for (jobs.Link dest) slots log =
    record {
      restoring = false;
      sequence = log.sequence + 1;
      current = log.current;
      entries = copy_entry 0 dest 1 slots ∷ [];
    }
log_for (jobs.Copy source dest count) slots log =
    record log { entries = log.entries ++ copy_entry source dest count slots ∷ [] }
log_for (jobs.Move from to) slots log = record log { current = to }

-- the kinds just before the log is written: copied blocks, and the old current place, are saved
abbrev pub kinds_for : Job → List Kind → List Kind
kinds_for jobs.Rewrite table = table
kinds_for (jobs.Link dest) table = table
kinds_for (jobs.Copy source dest count) table = with_kind table (record { first = source; count = count }) kinds.Saved
kinds_for (jobs.Move from to) table =
    with_kind (with_kind table (record { first = to; count = 1 }) kinds.Current)
    (record { first = from; count = 1 }) kinds.Saved

-- the memory just before the log is written: from then on the log is not clean
abbrev pub changed : Memory → Batch → Memory
changed m b =
    record m {
      kinds = kinds_for b.progress.job m.kinds;
      log = option_map (log_for b.progress.job b.slots) m.log;
      clean = false;
    }

-- after the last flush the log is clean, and what was saved is changed
abbrev pub cleaned : Memory → Memory
cleaned m = record m { kinds = map unsaved m.kinds; clean = true; hand = Empty }

-- before the log was written the picked blocks are free again, and all else is as before the batch
abbrev pub given_up : Memory → Job → Memory
given_up m job = record m { kinds = with_kind m.kinds (picks job) kinds.Free; hand = Empty }

-- the act writes the log
abbrev pub is_log_write : Act → Bool
is_log_write acts.WriteLog = true
is_log_write (acts.Read block slot) = false
is_log_write (acts.Write block slot) = false
is_log_write acts.Flush = false
is_log_write acts.End = false

-- the memory as the act changes it: writing the log changes the log first
abbrev pub at_act : Memory → Batch → Memory
at_act m b = if is_log_write (next_act b.progress) then changed m b else m

-- the call of an act of a batch
abbrev pub call_of_act : Geometry → Memory → Batch → Act → Call
call_of_act g m b (acts.Read block slot) = ReadCall block
call_of_act g m b (acts.Write block slot) = WriteCall block (slice_index_or b.slots slot [])
call_of_act g m b acts.WriteLog = WriteCall 0 (spelling g (log_of_memory (changed m b)))
call_of_act g m b acts.Flush = FlushCall
call_of_act g m b acts.End = FlushCall

-- what a read gave goes into the buffer
abbrev pub with_reply : List (List ℕ) → Reply → List (List ℕ)
with_reply slots (Gave v) = slots ++ v ∷ []
with_reply slots Succeeded = slots
with_reply slots Failed = slots

-- the batch after an act that was done
abbrev pub went_on : Batch → Reply → Batch
went_on b reply =
    record {
      progress = record { job = b.progress.job; done = b.progress.done + 1; failed = false };
      slots = with_reply b.slots reply;
      ticket = b.ticket;
    }

-- the memory after an act of the batch, by what the act leads to
abbrev pub batch_after : Memory → Batch → Reply → After → Memory
batch_after m b reply afters.Going = record m { hand = Batching (went_on b reply) }
batch_after m b reply afters.LogGiven = record (changed m b) { hand = Batching (went_on b reply) }
batch_after m b reply afters.Clean = cleaned m
batch_after m b reply (afters.Failed given) =
    if given then record (at_act m b) { hand = Empty } else given_up m b.progress.job

-- ----------------------------------------------------------------------------------------------------------------
-- The command in hand.

-- the first log: sequence 0, the current block 0 at c, and one entry from block 0 to b
abbrev pub first_log : ℕ → ℕ → List ℕ → Generation
first_log c b content =
    record { restoring = false; sequence = 0; current = c; entries = copy_entry 0 b 1 (content ∷ []) ∷ [] }

-- the call of an act of a prepare
abbrev pub call_of_prepare : Geometry → Memory → ℕ → ℕ → PrepareAct → Call
call_of_prepare g m c b ReadsBlock0 = ReadCall 0
call_of_prepare g m c b (WritesCurrent content) = WriteCall c content
call_of_prepare g m c b (WritesBackup content) = WriteCall b content
call_of_prepare g m c b (FlushesCopies content) = FlushCall
call_of_prepare g m c b WritesFirstLog = WriteCall 0 (spelling g (log_of_memory m))
call_of_prepare g m c b FlushesFirstLog = FlushCall

-- the extent of one block
abbrev pub one_block : ℕ → Extent
one_block b = record { first = b; count = 1 }

-- the copies of block 0 are durable: the phase is Arming from then on
abbrev pub armed : Memory → Ticket → ℕ → ℕ → List ℕ → Memory
armed m t c b content = record m {
  phase = Arming;
  kinds = with_kind (with_kind m.kinds (one_block c) kinds.Current) (one_block b) kinds.Backup;
  hand = Preparing t c b WritesFirstLog;
  log = Some (first_log c b content);
  clean = false;
  trimmed = count_of is_free m.kinds;
}

-- the memory after an act of a prepare that succeeded; the last one answers it
abbrev pub prepare_after : Memory → Ticket → ℕ → ℕ → PrepareAct → Reply → Memory
prepare_after m t c b ReadsBlock0 (Gave v) = record m { hand = Preparing t c b (WritesCurrent v) }
prepare_after m t c b ReadsBlock0 reply = m
prepare_after m t c b (WritesCurrent content) reply = record m { hand = Preparing t c b (WritesBackup content) }
prepare_after m t c b (WritesBackup content) reply = record m { hand = Preparing t c b (FlushesCopies content) }
prepare_after m t c b (FlushesCopies content) reply = armed m t c b content
prepare_after m t c b WritesFirstLog reply = record m { hand = Preparing t c b FlushesFirstLog }
prepare_after m t c b FlushesFirstLog reply = record m { phase = Checkpoint; hand = Empty; clean = true }

-- the call of an act of a commit
abbrev pub call_of_commit : Memory → CommitAct → Call
call_of_commit m FlushesAll = FlushCall
call_of_commit m ReadsCurrent = ReadCall (place_of m 0)
call_of_commit m (WritesBlock0 content) = WriteCall 0 content
call_of_commit m FlushesDecision = FlushCall

-- the checkpoint is given up: all blocks but 0 are unchanged
abbrev pub released : Memory → Memory
released m =
    record m {
      phase = Committed;
      kinds = with_kind m.kinds (record { first = 1; count = length m.kinds - 1 }) kinds.Unchanged;
      hand = Empty;
      log = None;
      clean = false;
    }

-- the memory after an act of a commit that succeeded; the last one answers it
abbrev pub commit_after : Memory → Ticket → Bool → CommitAct → Reply → Memory
commit_after m t again FlushesAll reply = record m { hand = Committing t again ReadsCurrent }
commit_after m t again ReadsCurrent (Gave v) = record m { hand = Committing t again (WritesBlock0 v) }
commit_after m t again ReadsCurrent reply = m
commit_after m t again (WritesBlock0 content) reply =
    record m { phase = Deciding; hand = Committing t again FlushesDecision }
commit_after m t again FlushesDecision reply = released m

-- after an act of a commit that failed: from the deciding write on, the phase is Deciding
abbrev pub commit_failed : Memory → CommitAct → Memory
commit_failed m FlushesAll = record m { hand = Empty }
commit_failed m ReadsCurrent = record m { hand = Empty }
commit_failed m (WritesBlock0 content) = record m { phase = Deciding; hand = Empty }
commit_failed m FlushesDecision = record m { hand = Empty }

-- ----------------------------------------------------------------------------------------------------------------
-- The step.

-- the memory after it, what it tells, and its events
pub record Step : Type 0 where
  pub memory : Memory
  pub told : Told
  pub events : List Event

-- an act that is part of a batch or a command
abbrev pub moved : Memory → List Event → Step
moved m happens = record { memory = m; told = Moved; events = happens }

-- the request of this ticket waits no more
abbrev pub without_waiting : Memory → Ticket → Memory
without_waiting m t = record m { requests = without_request t m.requests }

-- the request is answered, and waits no more
abbrev pub answered : Memory → Request → Outcome → List Event → Step
answered m r outcome happens =
    record { memory = without_waiting m r.ticket; told = Answered r.ticket r.op outcome; events = happens }

-- the request of a ticket is answered
abbrev pub answered_for : Memory → Option Request → (Request → Outcome) → (Request → List Event) → Step
answered_for m (Some r) outcome happens = answered m r (outcome r) (happens r)
answered_for m None outcome happens = moved m []

-- one block more of the request is done
abbrev pub one_more : Memory → Request → Memory
one_more m r = record m { requests = with_request (record r { done = r.done + 1 }) m.requests }

-- a write is answered with a fault: its next block may hold, or may come to hold, what was to be written
abbrev pub fault_events : Geometry → Request → List Event
fault_events g r = Fails ((extent_of r.op).first + r.done) (next_block g r) ∷ []

-- a block was written in place, or its write failed; the block counts as written all the same
abbrev pub wrote : Geometry → Memory → Request → ℕ → Reply → Step
wrote g m r b Failed =
    answered (record m { kinds = kinds_written m.phase m.kinds b }) r (outcomes.DiskFault r.done) (fault_events g r)
wrote g m r b reply =
    record {
      memory = one_more (record m { kinds = kinds_written m.phase m.kinds b }) r;
      told = Wrote r.ticket r.done;
      events = Writes b (next_block g r) ∷ [];
    }

-- A block was read into the request's buffer. Where the read failed, the buffer is given back unchanged: a device reads
-- into a block of its own, and copies what was read whole.
abbrev pub got : Geometry → Memory → Request → ℕ → Reply → Step
got g m r b (Gave v) =
    record {
      memory = one_more m (record r { op = with_read g.block_size r.op r.done v });
      told = Got r.ticket r.done;
      events = Reads b v ∷ [];
    }
got g m r b reply = answered m r (outcomes.DiskFault r.done) []

-- a flush of the disk was made for a request
abbrev pub flushed : Memory → Request → Reply → Step
flushed m r Failed = answered m r (outcomes.DiskFault 0) []
flushed m r reply = answered m r outcomes.Done (Flushes ∷ [])

-- the extent without block 0
abbrev pub above_0 : Extent → Extent
above_0 e = if e.first == 0 then record { first = 1; count = e.count - 1 } else e

-- In Trim what is discarded is free. In Checkpoint a changed block that no unanswered write covers is free again.
abbrev pub kinds_discarded : Geometry → Memory → Extent → Phase → List Kind
kinds_discarded g m e Trim = with_kind m.kinds (above_0 e) kinds.Free
kinds_discarded g m e Checkpoint = reclaimed m.kinds e (open_writes g.blocks m.requests)
kinds_discarded g m e phase = m.kinds

-- a discard is answered
abbrev pub discarded : Geometry → Memory → Request → Step
discarded g m r =
    answered (record m { kinds = kinds_discarded g m (extent_of r.op) m.phase }) r outcomes.Done
    (Discards (extent_of r.op) ∷ [])

-- a write that the disk failed is answered with the number of its blocks that were done
abbrev pub fault_after : Request → Outcome
fault_after r = outcomes.DiskFault r.done

-- an act of a batch: where it failed, the write for which the batch was formed is answered
abbrev pub batch_step : Geometry → Memory → Batch → Reply → Step
batch_step g m b Failed =
    answered_for (batch_after m b Failed (after_act b.progress false)) (request_of b.ticket m.requests) fault_after
    (fault_events g)
batch_step g m b reply = moved (batch_after m b reply (after_act b.progress true)) []

-- the events of an act of a prepare: arming, once its copies are durable, and the end
abbrev pub prepare_events : Contents → PrepareAct → List Event
prepare_events now (FlushesCopies content) = Arms now ∷ []
prepare_events now FlushesFirstLog = Prepares ∷ []
prepare_events now act = []

-- an act of a prepare: where it failed, the prepare is answered with a fault; its last act answers it
abbrev pub prepare_step : Contents → Memory → Ticket → ℕ → ℕ → PrepareAct → Reply → Step
prepare_step now m t c b act Failed =
    answered_for (record m { hand = Empty }) (request_of t m.requests) (λ r. outcomes.DiskFault 0) (λ r. [])
prepare_step now m t c b FlushesFirstLog reply =
    answered_for (prepare_after m t c b FlushesFirstLog reply) (request_of t m.requests) (λ r. outcomes.Done)
    (λ r. prepare_events now FlushesFirstLog)
prepare_step now m t c b act reply = moved (prepare_after m t c b act reply) (prepare_events now act)

-- the deciding write decides, also where it failed; one that was made before has decided already
abbrev pub deciding_events : Bool → CommitAct → List Event
deciding_events false (WritesBlock0 content) = Decides ∷ []
deciding_events again act = []

-- the end of a commit: one that found the phase deciding flushes once more
abbrev pub committing_events : Bool → List Event
committing_events false = Commits ∷ []
committing_events true = Flushes ∷ Commits ∷ []

-- an act of a commit: where it failed, the commit is answered with a fault; its last act answers it
abbrev pub commit_step : Memory → Ticket → Bool → CommitAct → Reply → Step
commit_step m t again act Failed =
    answered_for (commit_failed m act) (request_of t m.requests) (λ r. outcomes.DiskFault 0)
    (λ r. deciding_events again act)
commit_step m t again FlushesDecision reply =
    answered_for (commit_after m t again FlushesDecision reply) (request_of t m.requests) (λ r. outcomes.Done)
    (λ r. committing_events again)
commit_step m t again act reply = moved (commit_after m t again act reply) (deciding_events again act)

-- the next act of what is in hand
abbrev pub act_step : Geometry → Contents → Memory → Hand → Reply → Step
act_step g now m Empty reply = moved m []
act_step g now m (Batching b) reply = batch_step g m b reply
act_step g now m (Preparing t c b act) reply = prepare_step now m t c b act reply
act_step g now m (Committing t again act) reply = commit_step m t again act reply

-- the call of the next act of what is in hand
abbrev pub call_in_hand : Geometry → Memory → Hand → Option Call
call_in_hand g m Empty = None
call_in_hand g m (Batching b) = Some (call_of_act g m b (next_act b.progress))
call_in_hand g m (Preparing t c b act) = Some (call_of_prepare g m c b act)
call_in_hand g m (Committing t again act) = Some (call_of_commit m act)

-- the call that a task makes on the disk: one at most
abbrev pub call_of : Geometry → Memory → Task → Option Call
call_of g m Waits = None
call_of g m (Answers r outcome) = None
call_of g m (WritesBlock r b) = Some (WriteCall (place_of m b) (next_block g r))
call_of g m (ReadsBlock r b) = Some (ReadCall (place_of m b))
call_of g m (FlushesFor r) = Some FlushCall
call_of g m (DiscardsFor r) = None
call_of g m (Acts taken) = call_in_hand g taken taken.hand

-- what stands for the contents of the disk where nothing depends on them: memory, and what is told, never do
abbrev pub unknown : Contents
unknown = λ b. []

-- the step of a task, by the disk's reply; `now` is what the disk holds before it
abbrev pub step_of : Geometry → Contents → Memory → Task → Reply → Step
step_of g now m Waits reply = record { memory = m; told = Idle; events = [] }
step_of g now m (Answers r outcome) reply = answered m r outcome []
step_of g now m (WritesBlock r b) reply = wrote g m r b reply
step_of g now m (ReadsBlock r b) reply = got g m r b reply
step_of g now m (FlushesFor r) reply = flushed m r reply
step_of g now m (DiscardsFor r) reply = discarded g m r
step_of g now m (Acts taken) reply = act_step g now taken taken.hand reply
