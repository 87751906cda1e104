-- What a step of the device told, as it is noted.
use Rattle.std.specs.Prelude.{◌≡◌, ℕ, ◌+◌, ◌<◌, ◌^◌, List, [], ◌∷◌, ◌++◌, length, slice_set, Option, None, Some, vec_capacity}
use Rattle.bow_units.specs.declared.requests.Op.{Op}
use Rattle.bow_units.specs.declared.requests.Outcome.{Outcome}
use Rattle.bow_queue.specs.declared.tickets.Ticket.{Ticket}
use Rattle.bow_core.specs.declared.turns.Step.{Step}
use Rattle.bow_core.specs.declared.turns.Step.TheVariants.{Idle, Moved, Wrote, Got, Answered}
use Rattle.bow_machine.specs.declared.turns.Turn.{Turn}
use Rattle.bow_machine.specs.declared.turns.Turn.TheVariants as turns
use Rattle.bow_history.specs.declared.items.Item.TheVariants as items
use Rattle.bow_tags.specs.Rule.{In}
use Rattle.bow_tags.specs.Steps.{HoldsJob, after_answer, held}
use Rattle.bow_receipts.specs.declared.asks.Answer.{Answer}
use Rattle.bow_receipts.specs.declared.asks.Call.{Call}
use Rattle.bow_receipts.specs.declared.hands.Hand.{Hand}
use Rattle.bow_receipts.specs.declared.service.Service.{Service}
use Rattle.bow_receipts.specs.Copies.{HasRoomFor, read_by}
use Rattle.bow_receipts.specs.Hands.{hand_at, lane_with, tickets_of}

-- a turn of a request is of one that a caller has in hand
abbrev pub IsTurnOf : List (Option Hand) → Turn → Type 0
IsTurnOf hands (turns.Map ticket) = (lane : ℕ) × (tickets_of hands lane ≡ Some ticket)
IsTurnOf hands turns.Worker = Unit {0}
IsTurnOf hands turns.Command = Unit {0}

module _ {D R : Type 0} where
  -- this hand has the ticket, and there is room for one more item
  pub record IsNotable (s : Service D R) (t : Ticket) (h : Hand) : Type 0 where
    pub inside : lane_with s.hands.items t < length s.hands.items
    pub here : hand_at s.hands.items (lane_with s.hands.items t) ≡ Some h
    pub room : length s.journal.items < vec_capacity s.journal

  -- and for one more answer, of a job that the seat holds
  pub record IsAnswerable (s : Service D R) (h : Hand) (op : Op) : Type 0 where
    pub holds : HoldsJob s.server.view h.job.lane h.job.number
    pub room : length s.calls.items < vec_capacity s.calls
    pub place : length s.journal.items < 2 ^ 32
    pub copies : HasRoomFor op h.copies

  -- what was told is of a caller, and has room
  abbrev pub IsOfHand : Step → Service D R → Type 0
  IsOfHand Idle s = Unit {0}
  IsOfHand Moved s = Unit {0}
  IsOfHand (Wrote t i) s = (h : Hand) × IsNotable s t h × (h.first + i < 2 ^ 64)
  IsOfHand (Got t i) s = (h : Hand) × IsNotable s t h × (h.first + i < 2 ^ 64)
  IsOfHand (Answered t op outcome) s = (h : Hand) × IsNotable s t h × IsAnswerable s h op

  -- device, callers' requests and answers are as they were
  pub record IsStill (old new : Service D R) : Type 0 where
    pub core : new.core ≡ old.core
    pub server : new.server ≡ old.server
    pub hands : new.hands.items ≡ old.hands.items
    pub calls : new.calls.items ≡ old.calls.items
    pub low : new.low ≡ old.low
    pub calls_room : vec_capacity new.calls ≡ vec_capacity old.calls
    pub journal_room : vec_capacity new.journal ≡ vec_capacity old.journal

  -- the answer that is given, and recorded
  abbrev pub answer_to : Service D R → Op → Outcome → Answer
  answer_to s op outcome = record {
    place = length s.journal.items;
    outcome = outcome;
    bytes = read_by s.core.geometry.block_size op outcome;
  }

  abbrev pub call_to : Service D R → Hand → Op → Outcome → Call
  call_to s h op outcome = record {
    lane = h.job.lane;
    number = h.job.number;
    op = op;
    answer = answer_to s op outcome;
  }

  -- the request of this hand was answered
  pub record IsAnswered (old : Service D R) (t : Ticket) (h : Hand) (op : Op) (outcome : Outcome)
      (new : Service D R) : Type 0 where
    pub core : new.core ≡ old.core
    pub table : new.server.table ≡ old.server.table
    pub ask : Op
    pub job : In (held h.job.lane h.job.number ask) old.server.view.jobs
    pub view : new.server.view
        ≡ after_answer old.server.view h.job.lane h.job.number ask (answer_to old op outcome)
    pub hands : new.hands.items ≡ slice_set old.hands.items (lane_with old.hands.items t) None
    pub calls : new.calls.items ≡ old.calls.items ++ call_to old h op outcome ∷ []
    pub journal : new.journal.items
        ≡ old.journal.items ++ items.Answered h.job.lane h.job.number outcome ∷ []
    pub low : new.low ≡ old.low
    pub calls_room : vec_capacity new.calls ≡ vec_capacity old.calls
    pub journal_room : vec_capacity new.journal ≡ vec_capacity old.journal

  -- what lies under the lock once the step is noted
  abbrev pub IsNoted : Step → Service D R → Service D R → Type 0
  IsNoted Idle old new = IsStill old new × (new.journal.items ≡ old.journal.items)
  IsNoted Moved old new = IsStill old new × (new.journal.items ≡ old.journal.items)
  IsNoted (Wrote t i) old new = IsStill old new × ((h : Hand)
      → hand_at old.hands.items (lane_with old.hands.items t) ≡ Some h
      → new.journal.items ≡ old.journal.items ++ items.Wrote h.job.lane h.job.number (h.first + i) ∷ [])
  IsNoted (Got t i) old new = IsStill old new × ((h : Hand)
      → hand_at old.hands.items (lane_with old.hands.items t) ≡ Some h
      → new.journal.items ≡ old.journal.items ++ items.Got h.job.lane h.job.number (h.first + i) ∷ [])
  IsNoted (Answered t op outcome) old new = (h : Hand)
      → hand_at old.hands.items (lane_with old.hands.items t) ≡ Some h → IsAnswered old t h op outcome new
