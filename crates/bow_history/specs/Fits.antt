-- When a session, over a disk, is at a place of its journal.
use Rattle.std.specs.Prelude.{ℕ, zero, suc, ◌+◌, ◌-◌, ◌*◌, ◌<◌, ◌≤◌, ◌≡◌, ◌&&◌, nat_lt, true, if◌then◌else◌, List, [], take, Option, None, Some}
use Rattle.std.specs.List.{sum_by, list_any}
use Rattle.bow_units.specs.declared.sizes.Geometry.{Geometry}
use Rattle.bow_units.specs.declared.requests.Op.{Op}
use Rattle.bow_units.specs.declared.requests.Phase.{Phase}
use Rattle.bow_units.specs.declared.requests.Phase.TheVariants.{Checkpoint}
use Rattle.bow_units.specs.declared.statuses.Kind.{Kind}
use Rattle.bow_log.specs.Generations.{Generation, room}
use Rattle.bow_flat.specs.Flat.{Flat, count_below}
use Rattle.bow_queue.specs.declared.tickets.Ticket.{Ticket}
use Rattle.bow_ranges.specs.Kinds.{kind_at}
use Rattle.bow_machine.specs.Requests.{Request, request_of}
use Rattle.bow_machine.specs.Steps.{payload_of}
use Rattle.bow_machine.specs.MemoryIsSound.{is_touched}
use Rattle.bow_machine.specs.Standing.{IsStanding}
use Rattle.bow_machine.specs.Ties.{copies_in}
use Rattle.bow_history.specs.Journal.{Plan, Buffers, Place, writes, writes_above_0, counts, counting, size_in}
use Rattle.bow_history.specs.Sessions.{Session, IsFor}
use Rattle.bow_history.specs.Histories.{Disk}
use Rattle.bow_history.specs.Lags.{Lags}

-- how many blocks of a request are done
abbrev pub done_of : Option Request → ℕ
done_of None = 0
done_of (Some r) = r.done

-- how many blocks are done of the request of the ticket in this hand
abbrev pub done_in : List Request → Option Ticket → ℕ
done_in requests None = 0
done_in requests (Some t) = done_of (request_of t requests)

-- a lane's ticket in hand is that of its next request, which waits
pub record IsSeat (plan : Plan) (requests : List Request) (number : ℕ → ℕ) (lane : ℕ) (t : Ticket) : Type 0 where
  pub inside : lane < plan.lanes
  pub request : Request
  pub waits : request_of t requests ≡ Some request
  pub asked : Op
  pub next : plan.request lane (number lane) ≡ Some asked
  pub is : IsFor plan.sizes asked request.op

-- Each ticket in hand is of a request that waits, and each request that waits is in the hand of one lane, under a
-- serial number of its own.
pub record AreSeated (plan : Plan) (requests : List Request) (admitted : ℕ) (number : ℕ → ℕ) (hand : ℕ
    → Option Ticket) : Type 0 where
  pub each : (lane : ℕ) (t : Ticket) → hand lane ≡ Some t → IsSeat plan requests number lane t
  pub own : (lane other : ℕ) (t : Ticket) → hand lane ≡ Some t → hand other ≡ Some t → lane ≡ other
  pub lanes : (t : Ticket) (r : Request) → request_of t requests ≡ Some r → (lane : ℕ) × (hand lane ≡ Some t)
  pub serials : (t : Ticket) (r : Request) → request_of t requests ≡ Some r → t.serial < admitted
  pub apart : (t u : Ticket) (r q : Request) → request_of t requests ≡ Some r → request_of u requests ≡ Some q
      → t.serial ≡ u.serial → t ≡ u

-- no block is written by both
abbrev pub AreApart : Op → Op → Type 0
AreApart one other = (b : ℕ) → writes one b ≡ true → writes other b ≡ true → ⊥

-- a write of which some block is done overlaps no waiting one of a smaller serial number
abbrev pub AreInTurn : List Request → Type 0
AreInTurn requests = (t u : Ticket) (r q : Request) → request_of t requests ≡ Some r → request_of u requests ≡ Some q
    → t.serial < u.serial → 0 < q.done → AreApart r.op q.op

-- ----------------------------------------------------------------------------------------------------------------
-- The tally: what the writes that count have taken.

-- how many blocks other than 0 that the request writes were touched
abbrev pub touched_by : ℕ → List Kind → Op → ℕ
touched_by n kinds op = count_below (λ b. writes_above_0 op b && is_touched (kind_at kinds b)) n

-- the same of the request in this hand, if it counts
abbrev pub spent_by : Geometry → List Kind → Option Ticket → Option Op → ℕ
spent_by g kinds None op = 0
spent_by g kinds (Some t) None = 0
spent_by g kinds (Some t) (Some op) = if counts g op then touched_by g.blocks kinds op else 0

-- of the requests in the hands of the first so many lanes
abbrev pub spent_in : Plan → List Kind → (ℕ → ℕ) → (ℕ → Option Ticket) → ℕ → ℕ
spent_in plan kinds number hand zero = 0
spent_in plan kinds number hand (suc lane) = spent_by plan.sizes kinds (hand lane) (plan.request lane (number lane))
    + spent_in plan kinds number hand lane

-- Each touched block is covered by a write that counts; and of the entries that copies made, all but a log's worth were
-- made for blocks of such writes.
pub record IsTallied (plan : Plan) (kinds : List Kind) (hand : ℕ → Option Ticket) (p : Place)
    (log : Generation) : Type 0 where
  pub covered : (b : ℕ) → 0 < b → b < plan.sizes.blocks → is_touched (kind_at kinds b) ≡ true
      → list_any (λ op. writes op b) (counting plan p) ≡ true
  pub tally : copies_in plan.sizes log ≤ spent_in plan kinds p.number hand plan.lanes
      + sum_by (size_in plan.sizes.blocks) p.counted + (room plan.sizes.block_size - 1)

-- in the checkpoint; before and after it nothing is counted
abbrev pub HasTally : Plan → List Kind → (ℕ → Option Ticket) → Place → Phase → Option Generation → Type 0
HasTally plan kinds hand p Checkpoint (Some log) = IsTallied plan kinds hand p log
HasTally plan kinds hand p phase log = Unit {0}

-- ----------------------------------------------------------------------------------------------------------------

-- The session, over what the disk holds and may hold after a cut, is at this place of its journal.
pub record IsAt (plan : Plan) (s : Session) (d : Disk) (p : Place) : Type 0 where
  pub flat : Flat
  pub stands : IsStanding plan.sizes s.memory d.now d.may flat
  pub lags : Lags plan.sizes.blocks s.memory.hand flat p.flat
  pub number : (lane : ℕ) → p.number lane ≡ s.number lane
  pub done : (lane : ℕ) → p.done lane ≡ done_in s.memory.requests (s.hand lane)
  pub seated : AreSeated plan s.memory.requests s.admitted s.number s.hand
  pub in_turn : AreInTurn s.memory.requests
  pub tally : HasTally plan s.memory.kinds s.hand p s.memory.phase s.memory.log

-- what was read, and stands in the buffer of a request in hand as far as it is done
abbrev pub AgreesThere : Geometry → List ℕ → Option Request → Type 0
AgreesThere g buffer None = Unit {0}
AgreesThere g buffer (Some r) = take (r.done * g.block_size) buffer ≡ take (r.done * g.block_size) (payload_of r.op)

-- the same of the request of the ticket in this hand
abbrev pub AgreesInHand : Geometry → List Request → List ℕ → Option Ticket → Type 0
AgreesInHand g requests buffer None = Unit {0}
AgreesInHand g requests buffer (Some t) = AgreesThere g buffer (request_of t requests)

-- the buffers are those of the answered requests, and of those in hand as far as they are done
pub record Agrees (plan : Plan) (s : Session) (buffer : Buffers) : Type 0 where
  pub before : (lane n : ℕ) → n < s.number lane → buffer lane n ≡ s.kept lane n
  pub there : (lane : ℕ) → AgreesInHand plan.sizes s.memory.requests (buffer lane (s.number lane)) (s.hand lane)

-- the buffer of a request, if there is one
abbrev pub buffer_of : Option Request → List ℕ
buffer_of None = []
buffer_of (Some r) = payload_of r.op

-- the same of the ticket in this hand
abbrev pub buffer_in : List Request → Option Ticket → List ℕ
buffer_in requests None = []
buffer_in requests (Some t) = buffer_of (request_of t requests)

-- the buffers of a session: of the answered requests, and of those in hand
abbrev pub buffers_of : Session → Buffers
buffers_of s lane n = if nat_lt n (s.number lane) then s.kept lane n else buffer_in s.memory.requests (s.hand lane)

-- which are such buffers
abbrev pub OwnBuffersAgree : Type 0
OwnBuffersAgree = (plan : Plan) (s : Session) → Agrees plan s (buffers_of s)
