-- Small histories, worked out.
use Rattle.std.specs.Prelude.{ℕ, zero, suc, ◌≡◌, List, [], ◌∷◌, Option, Some, None}
use Rattle.bow_units.specs.declared.requests.Op.{Op}
use Rattle.bow_units.specs.declared.requests.Op.TheVariants.{Write}
use Rattle.bow_units.specs.declared.requests.Outcome.TheVariants as outcomes
use Rattle.bow_queue.specs.declared.tickets.Ticket.{Ticket}
use Rattle.bow_machine.specs.Calls.{Failed, Succeeded}
use Rattle.bow_machine.specs.Laws.{opened}
use Rattle.bow_machine.specs.Rows.{sixteen}
use Rattle.bow_history.specs.declared.items.Actor.TheVariants.{Lane, Worker}
use Rattle.bow_history.specs.declared.items.Item.TheVariants.{Wrote, Answered}
use Rattle.bow_history.specs.Journal.{Plan}
use Rattle.bow_history.specs.Sessions.{begun, Turned, Admits, Steps}
use Rattle.bow_history.specs.Histories.{journal_of, moments_of}

-- the ticket of this serial number
abbrev pub ticket : ℕ → Ticket
ticket serial = record { key = serial; serial = serial }

-- a write of two blocks from this one on
abbrev pub two_blocks : ℕ → Op
two_blocks first = Write (record { first = first; count = 2 }) []

-- lane 0 writes blocks 1 and 2, and lane 1 blocks 2 and 3
abbrev pub overlapping : ℕ → ℕ → Option Op
overlapping zero zero = Some (two_blocks 1)
overlapping (suc lane) zero = Some (two_blocks 2)
overlapping lane n = None

-- the two lanes, in one section
abbrev pub two_lanes : Plan
two_lanes = record { sizes = sixteen; lanes = 2; request = overlapping; section = λ lane n. 0 }

-- lane 1 is asked in vain while lane 0 writes; a call of lane 1 fails
abbrev pub mixed : List Turned
mixed = Admits 0 (ticket 0) (two_blocks 1) ∷ Admits 1 (ticket 1) (two_blocks 2)
    ∷ Steps (Lane 1) Succeeded ∷ Steps (Lane 0) Succeeded ∷ Steps (Lane 1) Succeeded ∷ Steps (Lane 0) Succeeded
    ∷ Steps Worker Succeeded ∷ Steps (Lane 1) Succeeded ∷ Steps (Lane 0) Succeeded
    ∷ Steps (Lane 1) Succeeded ∷ Steps (Lane 1) Failed ∷ []

-- Writes that overlap do not mix: the second begins once the first is answered.
abbrev pub MixedRow : Type 0
MixedRow = journal_of two_lanes (begun (opened 16) 0) mixed
    ≡ Wrote 0 0 1 ∷ Wrote 0 0 2 ∷ Answered 0 0 outcomes.Done ∷ Wrote 1 0 2 ∷ Answered 1 0 (outcomes.DiskFault 1) ∷ []

-- An answer without a call has the moment of the item before it.
abbrev pub MomentsRow : Type 0
MomentsRow = moments_of two_lanes (begun (opened 16) 0) 0 mixed ≡ 1 ∷ 2 ∷ 2 ∷ 3 ∷ 4 ∷ []
