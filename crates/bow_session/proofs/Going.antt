-- What a step of the device told, as an item of the journal; and that there is a lane for it, with room.
use Rattle.std.proofs.Common.{◌≡◌, ℕ, suc, ◌+◌, ◌<◌, ◌≤◌, List, length, map, Option, Some, None, arith, refl, sym, ap, ◌∙◌, subst}
use Rattle.std.specs.Prelude.{slice_get}
use Rattle.std.proofs.lemmas.Option.{slice_get_within}
use Rattle.bow_queue.specs.declared.tickets.Ticket.{Ticket}
use Rattle.bow_machine.specs.Memory.{Memory}
use Rattle.bow_machine.specs.Requests.{Request, request_of}
use Rattle.bow_core.specs.declared.turns.Step.{Step}
use Rattle.bow_core.specs.declared.turns.Step.TheVariants.{Idle, Moved, Wrote, Got, Answered}
use Rattle.bow_core.specs.Turns.{told_of}
use Rattle.bow_history.specs.declared.items.Item.TheVariants as items
use Rattle.bow_history.specs.Journal.{Plan}
use Rattle.bow_history.specs.Sessions.{lane_of, item_of, first_in as first_of_plan}
use Rattle.bow_history.specs.SoundSessions.{IsSoundSession}
use Rattle.bow_history.specs.Ends.{HasAtMost}
use Rattle.bow_history.proofs.Seats.{lane_is}
use Rattle.bow_session.specs.declared.seats.Hand.{Hand}
use Rattle.bow_session.specs.declared.seats.Seat.{Seat}
use Rattle.bow_session.specs.Seats.{lane_in, ticket_in, ticket_at, hands_of, IsHeld, AreLeft, AreNext}
use Rattle.bow_session.specs.Sessions.{lane_at, seated}
use Rattle.bow_session.specs.Desks.{AreFit}
use Rattle.bow_session.specs.Records.{lane_with, item_told, number_in, first_in, first_with, IsSmallAt, HasRoomAt}
use Rattle.bow_session.proofs.Told.{hand_is, number_is, lane_with_is}

-- the lane that has a ticket in hand
pub record HasSeat (seats : List Seat) (t : Ticket) : Type 0 where
  pub seat : Seat
  pub hand : Hand
  pub here : slice_get seats (lane_with seats t) ≡ Some seat
  pub has : seat.hand ≡ Some hand
  pub is : hand.ticket ≡ t

-- by its number
hand_at : (seats : List Seat) (t : Ticket) (lane : ℕ) → hands_of seats lane ≡ Some t → (seat : Seat) × (hand : Hand) × (slice_get seats lane ≡ Some seat) × (seat.hand ≡ Some hand) × (hand.ticket ≡ t)
hand_at seats t lane has = by (slice_get seats lane) refl has
  where
    by_hand : (seat : Seat) (o : Option Hand) → seat.hand ≡ o → ticket_in o ≡ Some t → slice_get seats lane ≡ Some seat → (seat : Seat) × (hand : Hand) × (slice_get seats lane ≡ Some seat) × (seat.hand ≡ Some hand) × (hand.ticket ≡ t)
    by_hand seat None is none here = absurd (grind (arith, none))
    by_hand seat (Some hand) is some here = let same : hand.ticket ≡ t = cc some in (seat, hand, here, is, same)

    by : (o : Option Seat) → slice_get seats lane ≡ o → ticket_at o ≡ Some t → (seat : Seat) × (hand : Hand) × (slice_get seats lane ≡ Some seat) × (seat.hand ≡ Some hand) × (hand.ticket ≡ t)
    by None is none = absurd (grind (arith, none))
    by (Some seat) is some = by_hand seat seat.hand refl some is

module _ (plan : Plan) (m : Memory) (admitted : ℕ) (seats : List Seat) (sound : IsSoundSession plan (seated plan m admitted (map lane_in seats))) (lanes : plan.lanes ≡ length seats) where
  abbrev hands : ℕ → Option Ticket
  hands = λ lane. (lane_at (map lane_in seats) lane).hand

  -- each request that waits is in the hand of a lane
  pub has_seat : (t : Ticket) (r : Request) → request_of t m.requests ≡ Some r → HasSeat seats t
  has_seat t r waits =
      let l = (sound.seated).lanes t r waits in
      let inside = ((sound.seated).each l.0 t l.1).inside in
      let found : lane_of hands t plan.lanes ≡ l.0 = lane_is hands t l.0 plan.lanes inside l.1 (λ other has. (sound.seated).own l.0 other t l.1 has) in
      let lane : lane_with seats t ≡ l.0 = sym (lane_with_is seats t) ∙ ap (lane_of hands t) (sym lanes) ∙ found in
      let at = hand_at seats t (lane_with seats t) (ap (hands_of seats) lane ∙ sym (hand_is seats l.0) ∙ l.1) in
      record { seat = at.0; hand = at.1; here = at.2; has = at.3; is = at.4 }

  module _ (counts : ℕ → ℕ) (most : HasAtMost plan counts) (fit : AreFit plan counts seats) where
    -- what the lane keeps of its request in hand
    pub held : (t : Ticket) (k : HasSeat seats t) → IsHeld plan (lane_with seats t) (length (k.seat).answered.items) k.hand × AreNext plan (lane_with seats t) (suc (length (k.seat).answered.items)) (k.seat).pending.items
    held t k = subst (λ o. AreLeft plan (lane_with seats t) (length (k.seat).answered.items) o (k.seat).pending.items) k.has (fit (lane_with seats t) k.seat k.here).left

    first_is : (t : Ticket) (k : HasSeat seats t) → first_in (slice_get seats (lane_with seats t)) ≡ first_of_plan (plan.request (lane_with seats t) (number_in (slice_get seats (lane_with seats t))))
    first_is t k =
        ap first_in k.here ∙ ap first_with k.has ∙ ((held t k).0).first ∙ sym (ap first_of_plan ((held t k).0).next)
        ∙ ap (λ n. first_of_plan (plan.request (lane_with seats t) n)) (sym (ap number_in k.here))

    -- the item that was told is the journal's
    same_lane : (t : Ticket) → lane_of hands t plan.lanes ≡ lane_with seats t
    same_lane t = ap (lane_of hands t) lanes ∙ lane_with_is seats t

    pub told_item : (tells : Step) → ((t : Ticket) (i : ℕ) → ((tells ≡ Wrote t i) → HasSeat seats t) × ((tells ≡ Got t i) → HasSeat seats t))
        → item_told seats tells ≡ item_of plan (seated plan m admitted (map lane_in seats)) (told_of tells)
    told_item Idle some = refl
    told_item Moved some = refl
    told_item (Wrote t i) some =
        let first = first_is t ((some t i).0 refl) in
        let number = number_is seats (lane_with seats t) in
        ap (λ n. Some (items.Wrote (lane_with seats t) n (first_in (slice_get seats (lane_with seats t)) + i))) (sym number)
        ∙ ap (λ b. Some (items.Wrote (lane_with seats t) (length ((lane_at (map lane_in seats) (lane_with seats t)).answered)) (b + i))) (first ∙ ap (λ n. first_of_plan (plan.request (lane_with seats t) n)) (sym number))
        ∙ ap (λ l. Some (items.Wrote l (length ((lane_at (map lane_in seats) l).answered)) (first_of_plan (plan.request l (length ((lane_at (map lane_in seats) l).answered))) + i))) (sym (same_lane t))
    told_item (Got t i) some =
        let first = first_is t ((some t i).1 refl) in
        let number = number_is seats (lane_with seats t) in
        ap (λ n. Some (items.Got (lane_with seats t) n (first_in (slice_get seats (lane_with seats t)) + i))) (sym number)
        ∙ ap (λ b. Some (items.Got (lane_with seats t) (length ((lane_at (map lane_in seats) (lane_with seats t)).answered)) (b + i))) (first ∙ ap (λ n. first_of_plan (plan.request (lane_with seats t) n)) (sym number))
        ∙ ap (λ l. Some (items.Got l (length ((lane_at (map lane_in seats) l).answered)) (first_of_plan (plan.request l (length ((lane_at (map lane_in seats) l).answered))) + i))) (sym (same_lane t))
    told_item (Answered t op outcome) some =
        ap (λ n. Some (items.Answered (lane_with seats t) n outcome)) (sym (number_is seats (lane_with seats t)))
        ∙ ap (λ l. Some (items.Answered l (length ((lane_at (map lane_in seats) l).answered)) outcome)) (sym (same_lane t))

    -- the lane's numbers are small, and it has room for one more answer
    module _ (few : plan.lanes ≤ 16) (small : (lane : ℕ) → counts lane ≤ 65536) (t : Ticket) (k : HasSeat seats t) where
      pub small_at : IsSmallAt seats (lane_with seats t)
      small_at =
          let inside = slice_get_within seats (lane_with seats t) k.seat k.here in
          let f = fit (lane_with seats t) k.seat k.here in
          let first : first_with (k.seat).hand ≡ (k.hand).first = ap first_with k.has in
          let low = ((held t k).0).low in
          (k.seat, k.here, omega (arith, inside, lanes, few), record { number = omega (arith, f.within, small (lane_with seats t)); first = omega (arith, first, low) })

      pub room_at : HasRoomAt seats (lane_with seats t)
      room_at seat here =
          let same : k.seat ≡ seat = cc (k.here, here) in
          let f = fit (lane_with seats t) k.seat k.here in
          let below = most (lane_with seats t) (length (k.seat).answered.items) ((held t k).0).asked ((held t k).0).next in
          subst (λ (s : Seat). 0 < s.answered.room) same (omega (arith, f.room, below))
