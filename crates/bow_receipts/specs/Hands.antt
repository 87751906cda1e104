-- What the callers have in hand.
use Rattle.std.specs.Prelude.{◌≡◌, ℕ, List, [], ◌∷◌, length, slice_index_or, Option, None, Some}
use Rattle.std.specs.Option.{option_map}
use Rattle.bow_units.specs.declared.requests.Op.{Op}
use Rattle.bow_queue.specs.declared.tickets.Ticket.{Ticket}
use Rattle.bow_machine.specs.Steps.{extent_of}
use Rattle.bow_history.specs.Sessions.{lane_of}
use Rattle.bow_tags.specs.declared.view.Held.{Held}
use Rattle.bow_tags.specs.Steps.{held}
use Rattle.bow_receipts.specs.declared.hands.Hand.{Hand}
use Rattle.bow_receipts.specs.Asking.{blank}
use Rattle.bow_receipts.specs.Copies.{HasRoomFor}

-- the request that a caller has in hand
abbrev pub hand_at : List (Option Hand) → ℕ → Option Hand
hand_at hands lane = slice_index_or hands lane None

-- its ticket
abbrev pub ticket_in : Option Hand → Option Ticket
ticket_in hand = option_map (λ (h : Hand). h.ticket) hand

abbrev pub tickets_of : List (Option Hand) → ℕ → Option Ticket
tickets_of hands lane = ticket_in (hand_at hands lane)

-- the caller whose request has the ticket
abbrev pub lane_with : List (Option Hand) → Ticket → ℕ
lane_with hands ticket = lane_of (tickets_of hands) ticket (length hands)

-- The one job of the caller is that of the request in hand, its next one, of whose payload, where it is a read, the job
-- has the length alone; and there is room for its answer.
pub record IsHeld (lane number : ℕ) (h : Hand) (jobs : List (Held Op)) : Type 0 where
  pub ask : Op
  pub job : jobs ≡ held lane number ask ∷ []
  pub lane_is : h.job.lane ≡ lane
  pub number_is : h.job.number ≡ number
  pub first : h.first ≡ (extent_of ask).first
  pub plain : blank ask ≡ ask
  pub room : HasRoomFor ask h.copies

-- with nothing in hand there is no job
abbrev pub IsInHand : ℕ → ℕ → Option Hand → List (Held Op) → Type 0
IsInHand lane number None jobs = jobs ≡ []
IsInHand lane number (Some h) jobs = IsHeld lane number h jobs
