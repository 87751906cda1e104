-- Which turn is ready: the table that a reader may check against the rules of the requests.
use Rattle.std.specs.Prelude.{◌+◌, ◌==◌, ◌&&◌, ◌||◌, Bool, true, false, not, Option, Some, None, is_none}
use Rattle.bow_units.specs.declared.sizes.Geometry.{Geometry}
use Rattle.bow_units.specs.declared.requests.Op.{Op}
use Rattle.bow_units.specs.declared.requests.Op.TheVariants.{Read, Write, Discard, Flush, Prepare, Commit}
use Rattle.bow_units.specs.declared.requests.Phase.{Phase}
use Rattle.bow_units.specs.declared.requests.Phase.TheVariants.{Checkpoint}
use Rattle.bow_machine.specs.Requests.{Request, request_of, refusal}
use Rattle.bow_machine.specs.Memory.{Memory, Hand, Empty, Batching, Preparing, Committing, has_command, is_direct}
use Rattle.bow_machine.specs.Tasks.{Turn, Map, Worker, Command, Task, Waits, Answers, WritesBlock, ReadsBlock, FlushesFor, DiscardsFor, Acts, is_waiting, head, first_of}

-- A read is always ready, and a command never at its own turn. Nothing else is ready while a command is in hand. A
-- write that is refused is ready; another one where it waits on none, and, in Checkpoint, where it is written or its
-- next block is direct. A discard and a flush are ready.
abbrev pub is_ready_for : Geometry → Memory → Request → Op → Bool
is_ready_for g m r (Read e p) = true
is_ready_for g m r (Write e p) =
    not (has_command m.hand)
    && (not (is_none (refusal g m.phase (Write e p)))
    || (not (is_waiting m r) && (r.done == e.count || is_direct m m.phase (e.first + r.done))))
is_ready_for g m r (Discard e) = not (has_command m.hand)
is_ready_for g m r Flush = not (has_command m.hand)
is_ready_for g m r Prepare = false
is_ready_for g m r Commit = false

-- the same of the request of a ticket; one that does not wait is never ready
abbrev pub is_map_ready : Geometry → Memory → Option Request → Bool
is_map_ready g m None = false
is_map_ready g m (Some r) = is_ready_for g m r r.op

-- the worker: with a batch in hand always; with nothing in hand in Checkpoint, where there is a head; otherwise never
abbrev pub is_worker_ready : Geometry → Memory → Hand → Phase → Bool
is_worker_ready g m (Batching b) phase = true
is_worker_ready g m Empty Checkpoint = not (is_none (head g m))
is_worker_ready g m hand phase = false

-- the commands: with one in hand always; with nothing in hand where one waits; otherwise never
abbrev pub is_command_ready : Memory → Hand → Bool
is_command_ready m Empty = not (is_none (first_of m.requests))
is_command_ready m (Batching b) = false
is_command_ready m (Preparing t c b act) = true
is_command_ready m (Committing t again act) = true

-- the turn makes a step
abbrev pub is_ready : Geometry → Memory → Turn → Bool
is_ready g m (Map ticket) = is_map_ready g m (request_of ticket m.requests)
is_ready g m Worker = is_worker_ready g m m.hand m.phase
is_ready g m Command = is_command_ready m m.hand

-- the task is none
abbrev pub is_idle : Task → Bool
is_idle Waits = true
is_idle (Answers r outcome) = false
is_idle (WritesBlock r b) = false
is_idle (ReadsBlock r b) = false
is_idle (FlushesFor r) = false
is_idle (DiscardsFor r) = false
is_idle (Acts taken) = false
