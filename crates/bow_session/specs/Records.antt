-- What a step of the device told, as it is noted.
use Rattle.std.specs.Prelude.{◌≡◌, ◌≢◌, ℕ, ◌+◌, ◌<◌, ◌≤◌, ◌^◌, List, [], ◌∷◌, ◌++◌, length, slice_get, Option, None, Some}
use Rattle.bow_units.specs.declared.requests.Op.{Op}
use Rattle.bow_queue.specs.declared.tickets.Ticket.{Ticket}
use Rattle.bow_core.specs.declared.turns.Step.{Step}
use Rattle.bow_core.specs.declared.turns.Step.TheVariants.{Idle, Moved, Wrote, Got, Answered}
use Rattle.bow_history.specs.declared.items.Item.{Item}
use Rattle.bow_history.specs.declared.items.Item.TheVariants as items
use Rattle.bow_history.specs.Sessions.{lane_of}
use Rattle.bow_session.specs.declared.seats.Hand.{Hand}
use Rattle.bow_session.specs.declared.seats.Seat.{Seat}
use Rattle.bow_session.specs.Buffers.{given_back, kept_of}
use Rattle.bow_session.specs.Seats.{hands_of}

-- the lane whose request has the ticket
abbrev pub lane_with : List Seat → Ticket → ℕ
lane_with seats ticket = lane_of (hands_of seats) ticket (length seats)

-- the first block of a request that the device has
abbrev pub first_with : Option Hand → ℕ
first_with None = 0
first_with (Some hand) = hand.first

-- how many requests of a lane are answered
abbrev pub number_in : Option Seat → ℕ
number_in None = 0
number_in (Some seat) = length seat.answered.items

-- the first block of the request of a lane that the device has
abbrev pub first_in : Option Seat → ℕ
first_in None = 0
first_in (Some seat) = first_with seat.hand

-- the item that was told
abbrev pub item_told : List Seat → Step → Option Item
item_told seats Idle = None
item_told seats Moved = None
item_told seats (Wrote t i) = Some (items.Wrote (lane_with seats t) (number_in (slice_get seats (lane_with seats t)))
    (first_in (slice_get seats (lane_with seats t)) + i))
item_told seats (Got t i) = Some (items.Got (lane_with seats t) (number_in (slice_get seats (lane_with seats t)))
    (first_in (slice_get seats (lane_with seats t)) + i))
item_told seats (Answered t op outcome) = Some (items.Answered (lane_with seats t) (number_in (slice_get seats
    (lane_with seats t))) outcome)

-- the numbers of a lane fit their types
pub record IsSmall (seat : Seat) : Type 0 where
  pub number : length seat.answered.items ≤ 65536
  pub first : first_with seat.hand < 2 ^ 32

-- there is such a lane, and its numbers are small
abbrev pub IsSmallAt : List Seat → ℕ → Type 0
IsSmallAt seats lane = (seat : Seat) × (slice_get seats lane ≡ Some seat) × (lane < 2 ^ 32) × IsSmall seat

-- and it has room for one more answer
abbrev pub HasRoomAt : List Seat → ℕ → Type 0
HasRoomAt seats lane = (seat : Seat) → slice_get seats lane ≡ Some seat → 0 < seat.answered.room

-- what was told is of a lane, with room for it
abbrev pub IsOfLane : List Seat → ℕ → ℕ → Step → Type 0
IsOfLane seats journal moments Idle = Unit {0}
IsOfLane seats journal moments Moved = Unit {0}
IsOfLane seats journal moments (Wrote t i) = IsSmallAt seats (lane_with seats t) × (0 < journal) × (0 < moments)
IsOfLane seats journal moments (Got t i) = IsSmallAt seats (lane_with seats t) × (0 < journal) × (0 < moments)
IsOfLane seats journal moments (Answered t op outcome) = IsSmallAt seats (lane_with seats t)
    × HasRoomAt seats (lane_with seats t) × (0 < journal) × (0 < moments)

-- a lane's request was answered: the buffer of a read is kept, that of a write came back, and nothing is in hand
pub record IsAnswered (op : Op) (old new : Seat) : Type 0 where
  pub pending : new.pending ≡ old.pending
  pub hand : new.hand ≡ None
  pub answered : new.answered.items ≡ old.answered.items ++ kept_of op ∷ []
  pub buffers : new.buffers.items ≡ given_back op old.buffers.items
  pub room : old.answered.room ≤ new.answered.room + 1

-- one lane's request was answered, and the other lanes stay
pub record HasAnswered (lane : ℕ) (op : Op) (old new : List Seat) : Type 0 where
  pub count : length new ≡ length old
  pub others : (other : ℕ) → other ≢ lane → slice_get new other ≡ slice_get old other
  pub here : (seat : Seat) → slice_get old lane ≡ Some seat
      → (after : Seat) × (slice_get new lane ≡ Some after) × IsAnswered op seat after

-- the lanes after a step that told this
abbrev pub SeatsAfter : Step → List Seat → List Seat → Type 0
SeatsAfter Idle old new = new ≡ old
SeatsAfter Moved old new = new ≡ old
SeatsAfter (Wrote t i) old new = new ≡ old
SeatsAfter (Got t i) old new = new ≡ old
SeatsAfter (Answered t op outcome) old new = HasAnswered (lane_with old t) op old new
