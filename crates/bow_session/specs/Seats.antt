-- What a lane has, and when it fits what the script asks.
use Rattle.std.specs.Prelude.{◌≡◌, ℕ, suc, ◌+◌, ◌<◌, ◌≤◌, ◌^◌, nat_le, Bool, true, List, [], ◌∷◌, length, slice_get}
use Rattle.std.specs.Prelude.{Option, None, Some, is_none}
use Rattle.std.specs.Option.{option_map}
use Rattle.bow_units.specs.declared.requests.Op.{Op}
use Rattle.bow_queue.specs.declared.tickets.Ticket.{Ticket}
use Rattle.bow_machine.specs.Steps.{extent_of}
use Rattle.bow_history.specs.Journal.{Plan}
use Rattle.bow_session.specs.Buffers.{HasBuffers, IsAskable, IsKeptFor, lent_to}
use Rattle.bow_session.specs.Sessions.{Lane}
use Rattle.bow_session.specs.declared.seats.Asked.{Asked}
use Rattle.bow_session.specs.declared.seats.Hand.{Hand}
use Rattle.bow_session.specs.declared.seats.Seat.{Seat}

-- the section of the first request to come
abbrev pub section_to_come : List Asked → Option ℕ
section_to_come [] = None
section_to_come (asked ∷ more) = Some asked.section

-- the section of the first unanswered request, with this one in hand
abbrev pub section_with : Option Hand → List Asked → Option ℕ
section_with None pending = section_to_come pending
section_with (Some hand) pending = Some hand.section

-- the section of a lane's first unanswered request
abbrev pub section_in : Seat → Option ℕ
section_in seat = section_with seat.hand seat.pending.items

-- there is none, or it is not before this one
abbrev pub is_none_or_from : ℕ → Option ℕ → Bool
is_none_or_from low None = true
is_none_or_from low (Some section) = nat_le low section

-- the lane has no unanswered request of a section before this one
abbrev pub is_from_there : ℕ → Seat → Bool
is_from_there low seat = is_none_or_from low (section_in seat)

-- the lane's requests are all answered
abbrev pub is_over : Seat → Bool
is_over seat = is_none (section_in seat)

-- a request that the device has counts as one
abbrev pub held_by : Option Hand → ℕ
held_by None = 0
held_by (Some hand) = 1

-- how many requests a lane has: answered ones, the one that the device has, and those to come
abbrev pub requests_with : Seat → ℕ
requests_with seat = length seat.answered.items + held_by seat.hand + length seat.pending.items

-- the ticket of a request that the device has
abbrev pub ticket_in : Option Hand → Option Ticket
ticket_in hand = option_map (λ (h : Hand). h.ticket) hand

-- a lane as callers see it
abbrev pub lane_in : Seat → Lane
lane_in seat = record { answered = seat.answered.items; hand = ticket_in seat.hand }

-- the ticket in hand of the lane of this number
abbrev pub ticket_at : Option Seat → Option Ticket
ticket_at None = None
ticket_at (Some seat) = ticket_in seat.hand

-- the tickets in hand, by lane
abbrev pub hands_of : List Seat → ℕ → Option Ticket
hands_of seats lane = ticket_at (slice_get seats lane)

-- ----------------------------------------------------------------------------------------------------------------
-- What fits the plan.

-- this is request n of the lane, and the section in which it stands
pub record IsNext (plan : Plan) (lane n : ℕ) (a : Asked) : Type 0 where
  pub asked : Op
  pub next : plan.request lane n ≡ Some asked
  pub buffer : IsKeptFor plan.sizes asked a.buffer
  pub askable : IsAskable plan.sizes asked
  pub section : a.section ≡ plan.section lane n
  pub low : (extent_of asked).first < 2 ^ 32

-- these are all requests of the lane from n on
abbrev pub AreNext : Plan → ℕ → ℕ → List Asked → Type 0
AreNext plan lane n [] = plan.request lane n ≡ None
AreNext plan lane n (a ∷ more) = IsNext plan lane n a × AreNext plan lane (suc n) more

-- what is kept of request n, which the device has
pub record IsHeld (plan : Plan) (lane n : ℕ) (h : Hand) : Type 0 where
  pub asked : Op
  pub next : plan.request lane n ≡ Some asked
  pub askable : IsAskable plan.sizes asked
  pub section : h.section ≡ plan.section lane n
  pub first : h.first ≡ (extent_of asked).first
  pub lent : h.lent ≡ lent_to asked
  pub low : h.first < 2 ^ 32

-- the requests from n on: the one that the device has, and those to come
abbrev pub AreLeft : Plan → ℕ → ℕ → Option Hand → List Asked → Type 0
AreLeft plan lane n None pending = AreNext plan lane n pending
AreLeft plan lane n (Some h) pending = IsHeld plan lane n h × AreNext plan lane (suc n) pending

-- what is kept of an answered request
pub record IsAnswer (plan : Plan) (lane n : ℕ) (kept : Option (List ℕ)) : Type 0 where
  pub asked : Op
  pub next : plan.request lane n ≡ Some asked
  pub is : IsKeptFor plan.sizes asked kept

-- how many blocks the request in hand was lent
abbrev pub lent_with : Option Hand → ℕ
lent_with None = 0
lent_with (Some h) = h.lent

-- the answered requests are the lane's first ones, the rest is left, there is room for the answers of all, and a buffer
-- for each write
pub record IsSeatFit (plan : Plan) (count lane : ℕ) (seat : Seat) : Type 0 where
  pub answers : (n : ℕ) (kept : Option (List ℕ)) → slice_get seat.answered.items n ≡ Some kept
      → IsAnswer plan lane n kept
  pub left : AreLeft plan lane (length seat.answered.items) seat.hand seat.pending.items
  pub within : length seat.answered.items ≤ count
  pub room : count ≤ length seat.answered.items + seat.answered.room
  pub buffers : HasBuffers plan.sizes.block_size (lent_with seat.hand) seat.buffers.items
