-- The machine run over a list of blocks, with one request after the other: what the worked rows are computed by.
use Rattle.std.specs.List.{list_any}
use Rattle.std.specs.Prelude.{◌==◌, length, Bool, ℕ, zero, suc, ◌+◌, true, false, if◌then◌else◌, List, [], ◌∷◌, ◌++◌, slice_set, slice_index_or, Option, Some, None, is_none}
use Rattle.bow_units.specs.declared.sizes.Geometry.{Geometry}
use Rattle.bow_units.specs.declared.requests.Op.{Op}
use Rattle.bow_queue.specs.declared.tickets.Ticket.{Ticket}
use Rattle.bow_chain.specs.Contents.{contents_of}
use Rattle.bow_machine.specs.Requests.{request_of}
use Rattle.bow_machine.specs.Memory.{Memory}
use Rattle.bow_machine.specs.Calls.{Call, ReadCall, WriteCall, Reply, Failed, Succeeded, Gave}
use Rattle.bow_machine.specs.Tasks.{Turn, Map, Worker, Command, task_of}
use Rattle.bow_machine.specs.Steps.{Told, Idle, Moved, Wrote, Got, Answered, call_of, step_of}
use Rattle.bow_machine.specs.Ready.{is_ready}

-- a run so far: memory, the blocks, the calls that were made, what the steps told of requests, and which calls fail,
-- counted from 1
pub record Run : Type 0 where
  pub memory : Memory
  pub blocks : List (List ℕ)
  pub calls : List Call
  pub told : List Told
  pub failing : List ℕ

-- what a call that succeeds replies
abbrev pub reply_of : List (List ℕ) → Option Call → Reply
reply_of blocks (Some (ReadCall b)) = Gave (slice_index_or blocks b [])
reply_of blocks call = Succeeded

-- the next call is one of those that fail
abbrev pub fails : Run → Bool
fails run = list_any (λ number. number == length run.calls + 1) run.failing

-- what a call leaves: one that fails, too, has its effect
abbrev pub blocks_after : List (List ℕ) → Option Call → List (List ℕ)
blocks_after blocks (Some (WriteCall b v)) = slice_set blocks b v
blocks_after blocks call = blocks

-- the calls, and this one where one was made
abbrev pub with_call : List Call → Option Call → List Call
with_call calls None = calls
with_call calls (Some call) = calls ++ call ∷ []

-- what was told of requests, and this where a step tells of one
abbrev pub with_told : List Told → Told → List Told
with_told told Idle = told
with_told told Moved = told
with_told told (Wrote t i) = told ++ Wrote t i ∷ []
with_told told (Got t i) = told ++ Got t i ∷ []
with_told told (Answered t op outcome) = told ++ Answered t op outcome ∷ []

-- one step of this turn
abbrev pub stepped : Geometry → Turn → Run → Run
stepped g turn run =
    let task = task_of g run.memory turn in
    let call = call_of g run.memory task in
    let step =
    step_of g (contents_of run.blocks) run.memory task (if fails run then Failed else reply_of run.blocks call) in
    record {
      memory = step.memory;
      blocks = blocks_after run.blocks call;
      calls = with_call run.calls call;
      told = with_told run.told step.told;
      failing = run.failing;
    }

-- of the three turns, the first that is ready
abbrev pub ready_turn : Geometry → Memory → Ticket → Turn
ready_turn g m ticket =
    if is_ready g m (Map ticket) then Map ticket else if is_ready g m Worker then Worker else Command

-- steps until the request is answered: so many at most
abbrev pub served : ℕ → Geometry → Ticket → Run → Run
served zero g ticket run = run
served (suc most) g ticket run =
    elim
    (is_none (request_of ticket run.memory.requests)) [
      | true ↦ run
      | false ↦ served most g ticket
          (stepped g (ready_turn g run.memory ticket) run)
    ]

-- the request is taken in under a ticket of this serial number
abbrev pub admitted : Op → ℕ → Run → Run
admitted op serial run =
    record run {
      memory =
          record run.memory {
            requests = run.memory.requests
                ++ record { ticket = record { key = 0; serial = serial }; op = op; done = 0 } ∷ [];
          };
    }

-- the requests one after the other, each served in at most twenty steps
abbrev pub played : Geometry → List Op → ℕ → Run → Run
played g [] serial run = run
played g (op ∷ ops) serial run =
    played g ops (serial + 1) (served 20 g (record { key = 0; serial = serial }) (admitted op serial run))
