-- What callers see of a session.
use Rattle.std.specs.Prelude.{◌≡◌, ℕ, List, [], length, slice_get, slice_index_or, Option, None}
use Rattle.bow_queue.specs.declared.tickets.Ticket.{Ticket}
use Rattle.bow_machine.specs.Memory.{Memory}
use Rattle.bow_core.specs.Views.{View}
use Rattle.bow_script.specs.declared.scripts.Line.{Line}
use Rattle.bow_history.specs.declared.items.Item.{Item}
use Rattle.bow_history.specs.Journal.{Buffers, Plan}
use Rattle.bow_history.specs.Sessions.{Session}
use Rattle.bow_session.specs.Buffers.{buffer_kept}
use Rattle.bow_session.specs.Requests.{plan_of, lane_lines}

-- A lane: of each answered request the buffer, if it is a read, and the ticket of the next one once the device has it.
pub record Lane : Type 0 where
  pub answered : List (Option (List ℕ))
  pub hand : Option Ticket

-- A session: its device, its script, its lanes, what was done, and the device's count of calls right after each item.
pub record Run (D : Type 0) : Type 0 where
  pub core : View D
  pub script : List (List (List Line))
  pub lanes : List Lane
  pub journal : List Item
  pub moments : List ℕ

-- a lane that the script does not have
abbrev pub no_lane : Lane
no_lane = record { answered = []; hand = None }

-- the lane of this number
abbrev pub lane_at : List Lane → ℕ → Lane
lane_at lanes lane = slice_index_or lanes lane no_lane

-- what the script asks of the session's device
abbrev pub plan_in : {D : Type 0} → Run D → Plan
plan_in v = plan_of v.core.geometry v.script

-- what is kept of the requests of these lanes; what a write wrote is what was asked for
abbrev pub kept_in : Plan → List Lane → Buffers
kept_in plan lanes = λ lane n. buffer_kept (plan.request lane n) (slice_get ((lane_at lanes lane).answered) n)

-- these lanes over a device's memory, as the theory of histories has them
abbrev pub seated : Plan → Memory → ℕ → List Lane → Session
seated plan memory admitted lanes = record {
  memory = memory;
  admitted = admitted;
  number = λ lane. length ((lane_at lanes lane).answered);
  hand = λ lane. (lane_at lanes lane).hand;
  kept = kept_in plan lanes;
}

-- the session as that theory has it
abbrev pub state_in : {D : Type 0} → Run D → Session
state_in v = seated (plan_in v) v.core.memory v.core.admitted v.lanes

-- all requests are answered
abbrev pub IsOver : {D : Type 0} → Run D → Type 0
IsOver v = (lane : ℕ) → length ((lane_at v.lanes lane).answered) ≡ length (lane_lines v.script lane)
