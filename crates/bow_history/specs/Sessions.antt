-- A session: lanes over the device, what a turn of it does, and the item that it makes.
use Rattle.std.specs.Prelude.{◌≡◌, ℕ, zero, suc, ◌+◌, ◌*◌, ◌<◌, ◌≤◌, Bool, false, if◌then◌else◌, List, [], ◌∷◌, ◌++◌}
use Rattle.std.specs.Prelude.{length, Option, None, Some}
use Rattle.std.specs.Option.{option_map}
use Rattle.bow_units.specs.declared.sizes.Geometry.{Geometry}
use Rattle.bow_units.specs.declared.requests.Op.{Op}
use Rattle.bow_units.specs.declared.requests.Op.TheVariants as ops
use Rattle.bow_flat.specs.Flat.{put}
use Rattle.bow_queue.specs.declared.tickets.Ticket.{Ticket}
use Rattle.bow_queue.specs.Requests.{same_ticket}
use Rattle.bow_machine.specs.Memory.{Memory}
use Rattle.bow_machine.specs.Calls.{Call, Reply, Succeeded}
use Rattle.bow_machine.specs.Tasks.{task_of}
use Rattle.bow_machine.specs.declared.turns.Turn.{Turn}
use Rattle.bow_machine.specs.declared.turns.Turn.TheVariants.{Map, Worker as WorkerTurn, Command as CommandTurn}
use Rattle.bow_machine.specs.Steps.{Told, Idle, Moved, Wrote, Got, Answered, Step, payload_of, extent_of, call_of}
use Rattle.bow_machine.specs.Steps.{step_of, unknown}
use Rattle.bow_machine.specs.MemoryIsSound.{IsAdmissible}
use Rattle.bow_machine.specs.MemoryLaws.{CanHaveIt}
use Rattle.bow_history.specs.declared.items.Actor.{Actor}
use Rattle.bow_history.specs.declared.items.Actor.TheVariants.{Lane, Worker, Command}
use Rattle.bow_history.specs.declared.items.Item.{Item}
use Rattle.bow_history.specs.declared.items.Item.TheVariants as items
use Rattle.bow_history.specs.Journal.{Plan}

-- What a session keeps: the device's memory, and how many requests it has taken in; of each lane how many requests
-- are answered, and the ticket of the one in hand; and the buffers of the answered requests.
pub record Session : Type 0 where
  pub memory : Memory
  pub admitted : ℕ
  pub number : ℕ → ℕ
  pub hand : ℕ → Option Ticket
  pub kept : ℕ → ℕ → List ℕ

-- a session before its first turn, over a device that has taken in so many requests
abbrev pub begun : Memory → ℕ → Session
begun m admitted = record {
  memory = m;
  admitted = admitted;
  number = λ lane. 0;
  hand = λ lane. None;
  kept = λ lane n. [];
}

-- A turn of a history: a lane takes its next request in, under this ticket and with this buffer; or the actor makes a
-- step of the device, and the disk replies so.
pub data Turned : Type 0 where
  Admits : ℕ → Ticket → Op → Turned
  Steps : Actor → Reply → Turned

-- the turn of the device that an actor's step is; a lane with nothing in hand has none
abbrev pub turn_of : Session → Actor → Option Turn
turn_of s (Lane lane) = option_map Map (s.hand lane)
turn_of s Worker = Some WorkerTurn
turn_of s Command = Some CommandTurn

-- a step of the device: its memory, and what it tells, depend on the disk by its reply alone
abbrev pub device_step : Geometry → Memory → Turn → Reply → Step
device_step g m turn reply = step_of g unknown m (task_of g m turn) reply

-- the ticket is in this hand
abbrev pub has_ticket : Ticket → Option Ticket → Bool
has_ticket t None = false
has_ticket t (Some other) = same_ticket other t

-- the lane, of the first so many, that has the ticket in hand
abbrev pub lane_of : (ℕ → Option Ticket) → Ticket → ℕ → ℕ
lane_of hand t zero = 0
lane_of hand t (suc lane) = if has_ticket t (hand lane) then lane else lane_of hand t lane

-- the first block of a request
abbrev pub first_in : Option Op → ℕ
first_in None = 0
first_in (Some op) = (extent_of op).first

-- what a step told, as an item of the journal
abbrev pub item_of : Plan → Session → Told → Option Item
item_of plan s Idle = None
item_of plan s Moved = None
item_of plan s (Wrote t i) = let lane = lane_of s.hand t plan.lanes
    in Some (items.Wrote lane (s.number lane) (first_in (plan.request lane (s.number lane)) + i))
item_of plan s (Got t i) = let lane = lane_of s.hand t plan.lanes
    in Some (items.Got lane (s.number lane) (first_in (plan.request lane (s.number lane)) + i))
item_of plan s (Answered t op outcome) = let lane = lane_of s.hand t plan.lanes
    in Some (items.Answered lane (s.number lane) outcome)

-- the lane's request is answered, and its buffer is kept
abbrev pub answered_in : Session → ℕ → Op → Session
answered_in s lane op = record s {
  number = put s.number lane (suc (s.number lane));
  hand = put s.hand lane None;
  kept = put s.kept lane (put (s.kept lane) (s.number lane) (payload_of op));
}

-- the session after a step of the device that told this
abbrev pub told_to : Plan → Session → Told → Session
told_to plan s Idle = s
told_to plan s Moved = s
told_to plan s (Wrote t i) = s
told_to plan s (Got t i) = s
told_to plan s (Answered t op outcome) = answered_in s (lane_of s.hand t plan.lanes) op

-- the session after a step of the device
abbrev pub after_step : Plan → Session → Step → Session
after_step plan s step = told_to plan (record s { memory = step.memory }) step.told

-- a request that is taken in, none of whose blocks is done
abbrev pub taken_in : Memory → Ticket → Op → Memory
taken_in m ticket op = record m { requests = m.requests ++ record { ticket = ticket; op = op; done = 0 } ∷ [] }

-- the session after an actor's step
abbrev pub after_turn_of : Plan → Session → Option Turn → Reply → Session
after_turn_of plan s None reply = s
after_turn_of plan s (Some turn) reply = after_step plan s (device_step plan.sizes s.memory turn reply)

-- the session after a turn
abbrev pub after_turn : Plan → Session → Turned → Session
after_turn plan s (Admits lane ticket op) = record s {
  memory = taken_in s.memory ticket op;
  admitted = s.admitted + 1;
  hand = put s.hand lane (Some ticket);
}
after_turn plan s (Steps actor reply) = after_turn_of plan s (turn_of s actor) reply

-- the item that an actor's step makes
abbrev pub item_of_turn : Plan → Session → Option Turn → Reply → Option Item
item_of_turn plan s None reply = None
item_of_turn plan s (Some turn) reply = item_of plan s (device_step plan.sizes s.memory turn reply).told

-- the item that a turn makes: one at most
abbrev pub item_in : Plan → Session → Turned → Option Item
item_in plan s (Admits lane ticket op) = None
item_in plan s (Steps actor reply) = item_of_turn plan s (turn_of s actor) reply

-- the call that an actor's step makes on the disk
abbrev pub call_of_turn : Plan → Session → Option Turn → Option Call
call_of_turn plan s None = None
call_of_turn plan s (Some turn) = call_of plan.sizes s.memory (task_of plan.sizes s.memory turn)

-- the call that a turn makes on the disk: one at most, and none where a request is taken in
abbrev pub call_in : Plan → Session → Turned → Option Call
call_in plan s (Admits lane ticket op) = None
call_in plan s (Steps actor reply) = call_of_turn plan s (turn_of s actor)

-- what the disk replied in a turn
abbrev pub reply_in : Turned → Reply
reply_in (Admits lane ticket op) = Succeeded
reply_in (Steps actor reply) = reply

-- ----------------------------------------------------------------------------------------------------------------
-- Which turns there may be.

-- the request that was asked for, a read with a buffer of its length
abbrev pub IsFor : Geometry → Op → Op → Type 0
IsFor g (ops.Read e p) (ops.Read x q) = (x ≡ e) × (length q ≡ e.count * g.block_size)
IsFor g (ops.Read e p) op = ⊥
IsFor g asked op = op ≡ asked

-- the lane's next request is of the present section: no lane has an unanswered request of an earlier one
abbrev pub IsPresent : Plan → Session → ℕ → Type 0
IsPresent plan s lane = (other : ℕ) (op : Op) → plan.request other (s.number other) ≡ Some op
    → plan.section lane (s.number lane) ≤ plan.section other (s.number other)

-- the lane has nothing in hand, and takes its next request in, which is of the present section, under the next serial
-- number; the device takes in such a request, and has a place for it
pub record IsAdmission (plan : Plan) (s : Session) (lane : ℕ) (ticket : Ticket) (op : Op) : Type 0 where
  pub inside : lane < plan.lanes
  pub free : s.hand lane ≡ None
  pub asked : Op
  pub next : plan.request lane (s.number lane) ≡ Some asked
  pub is : IsFor plan.sizes asked op
  pub serial : ticket.serial ≡ s.admitted
  pub whole : IsAdmissible plan.sizes op
  pub place : length s.memory.requests < 16
  pub present : IsPresent plan s lane

-- the actor is a lane with a request in hand, or no lane
abbrev pub IsActor : Plan → Session → Actor → Type 0
IsActor plan s (Lane lane) = (lane < plan.lanes) × (ticket : Ticket) × (s.hand lane ≡ Some ticket)
IsActor plan s Worker = Unit {0}
IsActor plan s Command = Unit {0}

-- the session may make this turn, and its call may have had this reply
abbrev pub IsTurn : Plan → Session → Turned → Type 0
IsTurn plan s (Admits lane ticket op) = IsAdmission plan s lane ticket op
IsTurn plan s (Steps actor reply) =
    IsActor plan s actor × CanHaveIt plan.sizes (call_of_turn plan s (turn_of s actor)) reply
