-- That every session ends, and how many items its journal may still get.
use Rattle.std.specs.Prelude.{ℕ, zero, suc, ◌+◌, ◌-◌, ◌*◌, ◌<◌, ◌≤◌, ◌≡◌, true, List, Option, None, Some}
use Rattle.bow_units.specs.declared.requests.Op.{Op}
use Rattle.bow_units.specs.declared.requests.Op.TheVariants as ops
use Rattle.bow_queue.specs.declared.tickets.Ticket.{Ticket}
use Rattle.bow_machine.specs.Requests.{Request, request_of}
use Rattle.bow_machine.specs.Ends.{steps_left, most_steps}
use Rattle.bow_history.specs.declared.items.Actor.{Actor}
use Rattle.bow_history.specs.declared.items.Actor.TheVariants.{Lane}
use Rattle.bow_history.specs.declared.items.Item.{Item}
use Rattle.bow_history.specs.Journal.{Plan}
use Rattle.bow_history.specs.Sessions.{Session, Turned, Admits, Steps, item_in, after_turn, IsTurn}
use Rattle.bow_history.specs.Ready.{is_actor_ready}
use Rattle.bow_history.specs.SoundSessions.{IsSoundSession}

-- each lane has so many requests at most
abbrev pub HasAtMost : Plan → (ℕ → ℕ) → Type 0
HasAtMost plan counts = (lane n : ℕ) (op : Op) → plan.request lane n ≡ Some op → n < counts lane

-- the sum over the first so many lanes
abbrev pub over_lanes : (ℕ → ℕ) → ℕ → ℕ
over_lanes f zero = 0
over_lanes f (suc lane) = f lane + over_lanes f lane

-- ----------------------------------------------------------------------------------------------------------------
-- Turns.

-- a request in hand counts as one
abbrev pub in_hand : Option Ticket → ℕ
in_hand None = 0
in_hand (Some t) = 1

-- how many of so many requests of a lane were not taken in yet: those that are not answered, and not in hand
abbrev pub untaken : (ℕ → ℕ) → Session → ℕ → ℕ
untaken counts s lane = counts lane - (s.number lane + in_hand (s.hand lane))

-- the requests that were not taken in, and the device's steps, as the digits of one number
abbrev pub turns_left : Plan → (ℕ → ℕ) → Session → ℕ
turns_left plan counts s =
    over_lanes (untaken counts s) plan.lanes * most_steps plan.sizes + steps_left plan.sizes s.memory

-- the actor of a turn
abbrev pub actor_in : Turned → Actor
actor_in (Admits lane ticket op) = Lane lane
actor_in (Steps actor reply) = actor

-- Each turn of an actor that is ready leaves fewer, whatever the disk replies.
abbrev pub TurnsGoDown : Type 0
TurnsGoDown = (plan : Plan) (counts : ℕ → ℕ) (s : Session) (turn : Turned) → HasAtMost plan counts
    → IsSoundSession plan s → IsTurn plan s turn → is_actor_ready plan s (actor_in turn) ≡ true
    → turns_left plan counts (after_turn plan s turn) < turns_left plan counts s

-- ----------------------------------------------------------------------------------------------------------------
-- Items.

-- the items of a request: one for each block of a read or a write, and its answer
abbrev pub items_of : Option Op → ℕ
items_of None = 0
items_of (Some (ops.Read e p)) = e.count + 1
items_of (Some (ops.Write e p)) = e.count + 1
items_of (Some op) = 1

-- of so many requests of a lane, from this one on
abbrev pub items_from : Plan → ℕ → ℕ → ℕ → ℕ
items_from plan lane n zero = 0
items_from plan lane n (suc more) = items_of (plan.request lane n) + items_from plan lane (suc n) more

-- how many blocks of a read or a write are done
abbrev pub blocks_done : Op → ℕ → ℕ
blocks_done (ops.Read e p) done = done
blocks_done (ops.Write e p) done = done
blocks_done op done = 0

-- of a request that waits, if it does
abbrev pub done_of_request : Option Request → ℕ
done_of_request None = 0
done_of_request (Some r) = blocks_done r.op r.done

-- of the request of the ticket in this hand
abbrev pub done_in_hand : List Request → Option Ticket → ℕ
done_in_hand requests None = 0
done_in_hand requests (Some t) = done_of_request (request_of t requests)

-- how many items the journal may still get from a lane: those of its unanswered requests, but for the blocks done
abbrev pub items_of_lane : Plan → (ℕ → ℕ) → Session → ℕ → ℕ
items_of_lane plan counts s lane = items_from plan lane (s.number lane) (counts lane - s.number lane)
    - done_in_hand s.memory.requests (s.hand lane)

-- and from all lanes
abbrev pub items_left : Plan → (ℕ → ℕ) → Session → ℕ
items_left plan counts s = over_lanes (items_of_lane plan counts s) plan.lanes

-- an item counts as one
abbrev pub items_made : Option Item → ℕ
items_made None = 0
items_made (Some item) = 1

-- Each item leaves fewer, and no turn leaves more.
abbrev pub ItemsGoDown : Type 0
ItemsGoDown = (plan : Plan) (counts : ℕ → ℕ) (s : Session) (turn : Turned) → HasAtMost plan counts
    → IsSoundSession plan s → IsTurn plan s turn
    → items_left plan counts (after_turn plan s turn) + items_made (item_in plan s turn) ≤ items_left plan counts s
