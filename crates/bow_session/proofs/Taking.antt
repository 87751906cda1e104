-- How many requests a session has taken in.
use Rattle.std.proofs.Common.{◌≡◌, ℕ, zero, suc, ◌+◌, ◌<◌, ◌≤◌, List, length, map, Option, None, Some, arith, refl, sym, ap, subst, inl, inr}
use Rattle.std.specs.Prelude.{slice_get}
use Rattle.std.proofs.lemmas.Bool.{cases_eq}
use Rattle.bow_units.specs.declared.requests.Op.{Op}
use Rattle.bow_flat.specs.Flat.{put}
use Rattle.bow_queue.specs.declared.tickets.Ticket.{Ticket}
use Rattle.bow_machine.specs.Steps.{Told, Idle, Moved, Wrote, Got, Answered}
use Rattle.bow_machine.specs.declared.turns.Turn.{Turn}
use Rattle.bow_machine.specs.Memory.{Memory}
use Rattle.bow_machine.proofs.MappedWrites.{put_here, put_there}
use Rattle.bow_history.specs.Ends.{in_hand, over_lanes}
use Rattle.bow_history.specs.Journal.{Plan}
use Rattle.bow_history.specs.Sessions.{Session, Turned, Admits, Steps, turn_of, device_step, lane_of, answered_in, told_to, after_turn_of, after_turn, IsTurn}
use Rattle.bow_session.specs.declared.desks.Desk.{Desk}
use Rattle.bow_session.specs.declared.seats.Asked.{Asked}
use Rattle.bow_session.specs.declared.seats.Hand.{Hand}
use Rattle.bow_session.specs.declared.seats.Seat.{Seat}
use Rattle.bow_session.specs.Desks.{Fits, run_of}
use Rattle.bow_session.specs.Leads.{taken_by, requests_of}
use Rattle.bow_session.specs.Requests.{lanes_of, plan_of, requests_in}
use Rattle.bow_session.specs.Seats.{lane_in, ticket_in, AreLeft}
use Rattle.bow_session.specs.Sessions.{Lane, lane_at, state_in}
use Rattle.bow_session.proofs.Over.{no_lane_there}
use Rattle.bow_session.proofs.Plans.{at_most}
use Rattle.bow_session.proofs.Told.{lane_found}

sum_le : (f h : ℕ → ℕ) (n : ℕ) → ((lane : ℕ) → f lane ≤ h lane) → over_lanes f n ≤ over_lanes h n
sum_le f h zero le = omega arith
sum_le f h (suc n) le = let rest = sum_le f h n le in let here = le n in omega (arith, here, rest)

sum_less : (f h : ℕ → ℕ) (n : ℕ) → ((lane : ℕ) → f lane ≤ h lane) → (x : ℕ) → x < n → f x + 1 ≤ h x → over_lanes f n + 1 ≤ over_lanes h n
sum_less f h zero le x below less = absurd (omega (arith, below))
sum_less f h (suc n) le x below less = elim (cases_eq x n) [
  | inl is ↦ let here = subst (λ l. f l + 1 ≤ h l) is less in let rest = sum_le f h n le in omega (arith, here, rest)
  | inr ne ↦ let here = le n in let rest = sum_less f h n le x (omega (arith, below, ne)) less in omega (arith, here, rest)
]

one_at_most : (o : Option Ticket) → in_hand o ≤ 1
one_at_most None = omega arith
one_at_most (Some t) = omega arith

-- a lane with nothing in hand takes one in
taken_more : (s : Session) (lanes lane : ℕ) (ticket : Ticket) → lane < lanes → s.hand lane ≡ None
    → over_lanes (λ l. s.number l + in_hand (s.hand l)) lanes + 1 ≤ over_lanes (λ l. s.number l + in_hand (put s.hand lane (Some ticket) l)) lanes
taken_more s lanes lane ticket inside free = sum_less (λ l. s.number l + in_hand (s.hand l)) (λ l. s.number l + in_hand (put s.hand lane (Some ticket) l)) lanes each lane inside here
  where
    here : s.number lane + in_hand (s.hand lane) + 1 ≤ s.number lane + in_hand (put s.hand lane (Some ticket) lane)
    here =
        let was : in_hand (s.hand lane) ≡ 0 = ap in_hand free in
        let is : in_hand (put s.hand lane (Some ticket) lane) ≡ 1 = ap in_hand (put_here s.hand lane (Some ticket) lane refl) in
        omega (arith, was, is)

    each : (l : ℕ) → s.number l + in_hand (s.hand l) ≤ s.number l + in_hand (put s.hand lane (Some ticket) l)
    each l = elim (cases_eq l lane) [
      | inl at ↦ let is : in_hand (put s.hand lane (Some ticket) l) ≡ 1 = ap in_hand (put_here s.hand lane (Some ticket) l at) in let most = one_at_most (s.hand l) in omega (arith, is, most)
      | inr ne ↦ let same : in_hand (put s.hand lane (Some ticket) l) ≡ in_hand (s.hand l) = ap in_hand (put_there s.hand lane (Some ticket) l ne) in omega (arith, same)
    ]

-- an answer takes none back
answered_keeps : (s : Session) (lanes lane : ℕ) (op : Op) → taken_by s lanes ≤ taken_by (answered_in s lane op) lanes
answered_keeps s lanes lane op = sum_le (λ l. s.number l + in_hand (s.hand l)) (λ l. (answered_in s lane op).number l + in_hand ((answered_in s lane op).hand l)) lanes each
  where
    each : (l : ℕ) → s.number l + in_hand (s.hand l) ≤ put s.number lane (suc (s.number lane)) l + in_hand (put s.hand lane None l)
    each l = elim (cases_eq l lane) [
      | inl at ↦
          let number : put s.number lane (suc (s.number lane)) l ≡ suc (s.number lane) = put_here s.number lane (suc (s.number lane)) l at in
          let was : s.number l ≡ s.number lane = ap s.number at in
          let most = one_at_most (s.hand l) in
          omega (arith, number, was, most)
      | inr ne ↦
          let number : put s.number lane (suc (s.number lane)) l ≡ s.number l = put_there s.number lane (suc (s.number lane)) l ne in
          let hand : in_hand (put s.hand lane None l) ≡ in_hand (s.hand l) = ap in_hand (put_there s.hand lane None l ne) in
          omega (arith, number, hand)
    ]

told_keeps : (plan : Plan) (s : Session) (m : Memory) (lanes : ℕ) (told : Told) → (taken_by s lanes ≤ taken_by (told_to plan (record s { memory = m }) told) lanes) × ((told_to plan (record s { memory = m }) told).admitted ≡ s.admitted)
told_keeps plan s m lanes Idle = (omega arith, refl)
told_keeps plan s m lanes Moved = (omega arith, refl)
told_keeps plan s m lanes (Wrote t i) = (omega arith, refl)
told_keeps plan s m lanes (Got t i) = (omega arith, refl)
told_keeps plan s m lanes (Answered t op outcome) = (answered_keeps (record s { memory = m }) lanes (lane_of s.hand t plan.lanes) op, refl)

-- with each turn no more requests are admitted than are taken in
pub turn_takes : (plan : Plan) (s : Session) (turn : Turned) (first : ℕ) → IsTurn plan s turn → s.admitted ≤ first + taken_by s plan.lanes
    → (after_turn plan s turn).admitted ≤ first + taken_by (after_turn plan s turn) plan.lanes
turn_takes plan s (Admits lane ticket op) first may low = let more = taken_more s plan.lanes lane ticket may.inside may.free in omega (arith, low, more)
turn_takes plan s (Steps actor reply) first may low = by (turn_of s actor)
  where
    by : (o : Option Turn) → (after_turn_of plan s o reply).admitted ≤ first + taken_by (after_turn_of plan s o reply) plan.lanes
    by None = low
    by (Some turn) =
        let keeps = told_keeps plan s (device_step plan.sizes s.memory turn reply).memory plan.lanes (device_step plan.sizes s.memory turn reply).told in
        omega (arith, low, keeps.0, keeps.1)

-- no lane has taken in more than the script asks for
module _ {D R : Type 0} (s : Desk D R) (k : Fits s) where
  left_taken : (lane n : ℕ) (hand : Option Hand) (pending : List Asked) → AreLeft (plan_of s.core.geometry s.script) lane n hand pending → n ≤ requests_in s.script lane → n + in_hand (ticket_in hand) ≤ requests_in s.script lane
  left_taken lane n None pending left within = omega (arith, within)
  left_taken lane n (Some hand) pending left within = let below = at_most s.core.geometry s.script lane n (left.0).asked (left.0).next in omega (arith, below)

  lane_taken : (lane : ℕ) → (state_in (run_of s)).number lane + in_hand ((state_in (run_of s)).hand lane) ≤ requests_in s.script lane
  lane_taken lane = by (slice_get s.records.seats.items lane) refl
    where
      by : (o : Option Seat) → slice_get s.records.seats.items lane ≡ o → length ((lane_at (map lane_in s.records.seats.items) lane).answered) + in_hand ((lane_at (map lane_in s.records.seats.items) lane).hand) ≤ requests_in s.script lane
      by None none = subst (λ (l : Lane). length l.answered + in_hand l.hand ≤ requests_in s.script lane) (sym (no_lane_there s.records.seats.items lane none)) (omega arith)
      by (Some seat) here =
          let f = k.seats lane seat here in
          subst (λ (l : Lane). length l.answered + in_hand l.hand ≤ requests_in s.script lane) (sym (lane_found s.records.seats.items lane seat here)) (left_taken lane (length seat.answered.items) seat.hand seat.pending.items f.left f.within)

  pub taken_few : taken_by (state_in (run_of s)) (lanes_of s.script) ≤ requests_of s.script
  taken_few = sum_le (λ lane. (state_in (run_of s)).number lane + in_hand ((state_in (run_of s)).hand lane)) (requests_in s.script) (lanes_of s.script) lane_taken
