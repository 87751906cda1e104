-- Which actor of a session makes a step.
use Rattle.std.specs.Prelude.{ℕ, zero, suc, ◌&&◌, ◌||◌, nat_le, nat_lt, Bool, true, not, Option, Some, None, is_none}
use Rattle.bow_queue.specs.declared.tickets.Ticket.{Ticket}
use Rattle.bow_machine.specs.Ready.{is_ready}
use Rattle.bow_machine.specs.declared.turns.Turn.TheVariants.{Map, Worker as WorkerTurn, Command as CommandTurn}
use Rattle.bow_history.specs.declared.items.Actor.{Actor}
use Rattle.bow_history.specs.declared.items.Actor.TheVariants.{Lane, Worker, Command}
use Rattle.bow_history.specs.Journal.{Plan}
use Rattle.bow_history.specs.Sessions.{Session}

-- of the first so many lanes none has an unanswered request of a section before this one
abbrev pub is_from : Plan → Session → ℕ → ℕ → Bool
is_from plan s low zero = true
is_from plan s low (suc lane) = (is_none (plan.request lane (s.number lane))
    || nat_le low (plan.section lane (s.number lane))) && is_from plan s low lane

-- a lane with nothing in hand is ready where its next request is of the present section, another one where its
-- request is
abbrev pub is_lane_ready : Plan → Session → ℕ → Option Ticket → Bool
is_lane_ready plan s lane None = not (is_none (plan.request lane (s.number lane)))
    && is_from plan s (plan.section lane (s.number lane)) plan.lanes
is_lane_ready plan s lane (Some ticket) = is_ready plan.sizes s.memory (Map ticket)

-- the actor makes a step
abbrev pub is_actor_ready : Plan → Session → Actor → Bool
is_actor_ready plan s (Lane lane) = nat_lt lane plan.lanes && is_lane_ready plan s lane (s.hand lane)
is_actor_ready plan s Worker = is_ready plan.sizes s.memory WorkerTurn
is_actor_ready plan s Command = is_ready plan.sizes s.memory CommandTurn
