-- A step of the device is one turn of the session, and what is kept goes on to fit.
use Rattle.std.proofs.Common.{◌≡◌, ℕ, zero, suc, ◌+◌, ◌≤◌, ◌++◌, ◌⊎◌, List, [], ◌∷◌, length, map, Option, Some, None, arith, refl, sym, ap, ◌∙◌, subst, inl, inr, length-append}
use Rattle.std.specs.Prelude.{slice_get}
use Rattle.std.specs.List.{sum_by}
use Rattle.std.specs.Option.{option_map}
use Rattle.std.proofs.lemmas.Bool.{cases_eq}
use Rattle.std.proofs.lemmas.List.Sums.{sum_by-cons}
use Rattle.bow_units.specs.declared.sizes.Geometry.{Geometry}
use Rattle.bow_units.specs.declared.requests.Op.{Op}
use Rattle.bow_units.specs.declared.requests.Outcome.{Outcome}
use Rattle.bow_disk.specs.Disk.{Content}
use Rattle.bow_chain.specs.Contents.{Contents}
use Rattle.bow_flat.specs.Flat.{Event}
use Rattle.bow_queue.specs.declared.tickets.Ticket.{Ticket}
use Rattle.bow_machine.specs.Memory.{Memory}
use Rattle.bow_machine.specs.Requests.{Request, request_of}
use Rattle.bow_machine.specs.Calls.{Call, Reply}
use Rattle.bow_machine.specs.MemoryLaws.{CanHaveIt}
use Rattle.bow_machine.specs.Steps.{Told, Step as MachineStep}
use Rattle.bow_machine.specs.Steps.{Idle as ToldIdle, Moved as ToldMoved, Wrote as ToldWrote, Got as ToldGot, Answered as ToldAnswered}
use Rattle.bow_machine.specs.declared.turns.Turn.{Turn}
use Rattle.bow_machine.specs.Told.{ToldRow}
use Rattle.bow_core.specs.Ports.{Makes}
use Rattle.bow_machine.proofs.SoundTold.{steps_tell_so}
use Rattle.bow_core.specs.declared.turns.Step.{Step}
use Rattle.bow_core.specs.declared.turns.Step.TheVariants.{Idle, Moved, Wrote, Got, Answered}
use Rattle.bow_machine.specs.declared.turns.Turn.{Turn as OwnTurn}
use Rattle.bow_core.specs.Turns.{told_of}
use Rattle.bow_core.specs.Calls.{RepliesTo}
use Rattle.bow_core.specs.Steps.{IsStep}
use Rattle.bow_core.specs.Views.{View}
use Rattle.bow_history.specs.declared.items.Actor.{Actor}
use Rattle.bow_history.specs.declared.items.Item.{Item}
use Rattle.bow_history.specs.Journal.{Plan}
use Rattle.bow_history.specs.Sessions.{Session, Turned, Steps, turn_of, device_step, told_to, after_step, after_turn_of, after_turn, item_of, item_of_turn, item_in, call_of_turn, IsActor, IsTurn, IsFor}
use Rattle.bow_machine.specs.Steps.{unknown}
use Rattle.bow_history.specs.SoundSessions.{IsSoundSession}
use Rattle.bow_history.specs.Ends.{HasAtMost, items_left, items_made}
use Rattle.bow_history.specs.Promises.{items, more}
use Rattle.bow_session.specs.declared.desks.Desk.{Desk}
use Rattle.bow_session.specs.declared.records.Records.{Records}
use Rattle.bow_session.specs.declared.seats.Seat.{Seat}
use Rattle.bow_session.specs.Requests.{plan_of, requests_in}
use Rattle.bow_session.specs.Seats.{lane_in, ticket_at, ticket_in, AreLeft, AreNext, IsSeatFit, lent_with}
use Rattle.bow_session.specs.Sessions.{Lane, plan_in, state_in, seated}
use Rattle.bow_session.specs.Desks.{run_of, AreFit, to_come, Fits}
use Rattle.bow_session.specs.Records.{item_told, lane_with, IsOfLane, HasAnswered, SeatsAfter}
use Rattle.bow_session.specs.Turns.{IsOneTurn}
use Rattle.bow_session.specs.Buffers.{HasBuffers, IsAskable, IsKeptFor, kept_of, lent_to}
use Rattle.bow_session.proofs.Filled.{back_fits, kept_for}
use Rattle.bow_session.proofs.Going.{HasSeat, has_seat, told_item, small_at, room_at, held}
use Rattle.bow_session.proofs.Laws.{turns_keep_sound, items_go_down}
use Rattle.bow_session.proofs.Plans.{sections_rise, at_most}
use Rattle.bow_session.proofs.Told.{told_lanes, hand_is, lane_found}

pub can_have : (g : Geometry) (call : Option Call) (reply : Reply) → RepliesTo g call reply → CanHaveIt g call reply
can_have g None reply may = tt
can_have g (Some call) reply may = may

-- what was told is of a request that waits
abbrev IsOfWaiting : Memory → Told → Type 0
IsOfWaiting m ToldIdle = Unit {0}
IsOfWaiting m ToldMoved = Unit {0}
IsOfWaiting m (ToldWrote t i) = (r : Request) × (request_of t m.requests ≡ Some r)
IsOfWaiting m (ToldGot t i) = (r : Request) × (request_of t m.requests ≡ Some r)
IsOfWaiting m (ToldAnswered t op outcome) = (r : Request) × (request_of t m.requests ≡ Some r) × (r.op ≡ op)

row_waits : (g : Geometry) (now : Contents) (m : Memory) (told : Told) (events : List Event) (after : List Request) → ToldRow g now m told events after → IsOfWaiting m told
row_waits g now m ToldIdle events after row = tt
row_waits g now m ToldMoved events after row = tt
row_waits g now m (ToldWrote t i) events after row = (row.0, row.1)
row_waits g now m (ToldGot t i) events after row = (row.0, row.1)
row_waits g now m (ToldAnswered t op outcome) events after row = (row.0, row.1, (row.2).0)

-- a sum over lanes whose parts are the same
same_sum : (f : Seat → ℕ) (xs ys : List Seat) → length xs ≡ length ys → ((i : ℕ) → option_map f (slice_get xs i) ≡ option_map f (slice_get ys i)) → sum_by f xs ≡ sum_by f ys
same_sum f [] [] long each = refl
same_sum f [] (y ∷ ys) long each = absurd (omega (arith, long))
same_sum f (x ∷ xs) [] long each = absurd (omega (arith, long))
same_sum f (x ∷ xs) (y ∷ ys) long each =
    let first : f x ≡ f y = cc (each 0) in
    let rest = same_sum f xs ys (omega (arith, long)) (λ i. each (suc i)) in
    omega (arith, sum_by-cons f x xs, sum_by-cons f y ys, first, rest)

one_item : (item : Option Item) (x : Item) → item ≡ Some x → items_made item ≡ 1
one_item item x is = ap items_made is

-- one more answer among the answers
more_get : (xs : List (Option (List ℕ))) (last x : Option (List ℕ)) (n : ℕ) → slice_get (xs ++ last ∷ []) n ≡ Some x → (slice_get xs n ≡ Some x) ⊎ ((n ≡ length xs) × (x ≡ last))
more_get [] last x zero here = inr (refl, (let same : last ≡ x = cc here in sym same))
more_get [] last x (suc n) here = absurd (grind (arith, here))
more_get (y ∷ ys) last x zero here = inl here
more_get (y ∷ ys) last x (suc n) here = elim (more_get ys last x n here) [ inl old ↦ inl old | inr new ↦ inr (ap suc new.0, new.1) ]

-- what is kept of the lanes
record KeptSeats (plan : Plan) (counts : ℕ → ℕ) (old new : List Seat) : Type 0 where
  count : length new ≡ length old
  coming : to_come new ≡ to_come old
  fit : AreFit plan counts new

-- what was asked for, of a request that was answered
asked_of : (plan : Plan) (m : Memory) (admitted : ℕ) (seats : List Seat) (sound : IsSoundSession plan (seated plan m admitted (map lane_in seats))) (lanes : plan.lanes ≡ length seats)
    (t : Ticket) (op : Op) (r : Request) (waits : request_of t m.requests ≡ Some r) (is : r.op ≡ op)
    → (asked : Op) × (plan.request (lane_with seats t) (length ((has_seat plan m admitted seats sound lanes t r waits).seat).answered.items) ≡ Some asked) × IsFor plan.sizes asked op
asked_of plan m admitted seats sound lanes t op r waits is =
    let h = has_seat plan m admitted seats sound lanes t r waits in
    let seat = (sound.seated).each (lane_with seats t) t (hand_is seats (lane_with seats t) ∙ ap ticket_at h.here ∙ ap ticket_in h.has ∙ ap Some h.is) in
    let request : seat.request ≡ r = one_request (request_of t m.requests) seat.request r seat.waits waits in (
      seat.asked,
      ap (plan.request (lane_with seats t)) (sym (ap (λ (l : Lane). length l.answered) (lane_found seats (lane_with seats t) h.seat h.here))) ∙ seat.next,
      subst (λ o. IsFor plan.sizes seat.asked o) (ap (λ (q : Request). q.op) request ∙ is) seat.is,
    )
  where
    one_request : (o : Option Request) (x y : Request) → o ≡ Some x → o ≡ Some y → x ≡ y
    one_request o x y here there = let e : Some x ≡ Some y = sym here ∙ there in cc e

module _ (plan : Plan) (m : Memory) (admitted : ℕ) (seats : List Seat) (sound : IsSoundSession plan (seated plan m admitted (map lane_in seats))) (lanes : plan.lanes ≡ length seats)
    (counts : ℕ → ℕ) (most : HasAtMost plan counts) (fit : AreFit plan counts seats) where
  kept_all : (new : List Seat) → new ≡ seats → KeptSeats plan counts seats new
  kept_all new same = record { count = ap length same; coming = ap to_come same; fit = subst (AreFit plan counts) (sym same) fit }

  module _ (t : Ticket) (op : Op) (r : Request) (waits : request_of t m.requests ≡ Some r) (is : r.op ≡ op) (new : List Seat) (a : HasAnswered (lane_with seats t) op seats new) where
    pub answered_fits : IsSeatFit plan (counts (lane_with seats t)) (lane_with seats t) ((a.here ((has_seat plan m admitted seats sound lanes t r waits).seat) ((has_seat plan m admitted seats sound lanes t r waits).here)).0)
    answered_fits =
        let h = has_seat plan m admitted seats sound lanes t r waits in
        let b = (a.here h.seat h.here).2 in
        let kept = held plan m admitted seats sound lanes counts most fit t h in
        let f = fit (lane_with seats t) h.seat h.here in
        let long : length ((a.here h.seat h.here).0).answered.items ≡ suc (length (h.seat).answered.items) = ap length b.answered ∙ length-append (h.seat).answered.items (kept_of op ∷ []) ∙ omega arith in
        let below = most (lane_with seats t) (length (h.seat).answered.items) (kept.0).asked (kept.0).next in
        let asks = asked_of plan m admitted seats sound lanes t op r waits is in
        let same : (kept.0).asked ≡ asks.0 = (let e : Some ((kept.0).asked) ≡ Some asks.0 = sym (kept.0).next ∙ asks.1 in cc e) in
        let lent : lent_with (h.seat).hand ≡ lent_to asks.0 = ap lent_with h.has ∙ (kept.0).lent ∙ ap lent_to same in
        record {
          answers = λ n x found. elim (more_get (h.seat).answered.items (kept_of op) x n (subst (λ (xs : List (Option (List ℕ))). slice_get xs n ≡ Some x) b.answered found)) [
            | inl old ↦ f.answers n x old
            | inr last ↦ record {
              asked = asks.0;
              next = ap (plan.request (lane_with seats t)) last.0 ∙ asks.1;
              is = subst (IsKeptFor plan.sizes asks.0) (sym last.1) (kept_for plan.sizes asks.0 op asks.2);
            }
          ];
          buffers = subst (λ o. HasBuffers plan.sizes.block_size (lent_with o) ((a.here h.seat h.here).0).buffers.items) (sym b.hand)
              (back_fits plan.sizes asks.0 op (lent_with (h.seat).hand) (h.seat).buffers.items ((a.here h.seat h.here).0).buffers.items f.buffers lent asks.2 (subst (IsAskable plan.sizes) same (kept.0).askable) b.buffers);
          left = subst (λ o. AreLeft plan (lane_with seats t) (length ((a.here h.seat h.here).0).answered.items) o ((a.here h.seat h.here).0).pending.items) (sym b.hand)
              (subst (λ n. AreNext plan (lane_with seats t) n ((a.here h.seat h.here).0).pending.items) (sym long) (subst (λ ps. AreNext plan (lane_with seats t) (suc (length (h.seat).answered.items)) ps.items) (sym b.pending) kept.1));
          within = omega (arith, long, below);
          room = omega (arith, long, f.room, b.room);
        }

    kept_answered : KeptSeats plan counts seats new
    kept_answered =
        let h = has_seat plan m admitted seats sound lanes t r waits in
        let b = a.here h.seat h.here in
        record {
          count = a.count;
          coming = same_sum (λ (seat : Seat). length seat.pending.items) new seats a.count (λ i. elim (cases_eq i (lane_with seats t)) [
            | inl here ↦ ap (λ k. option_map (λ (seat : Seat). length seat.pending.items) (slice_get new k)) here ∙ ap (option_map (λ (seat : Seat). length seat.pending.items)) b.1
                ∙ ap (λ ps. Some (length ps.items)) (b.2).pending ∙ sym (ap (option_map (λ (seat : Seat). length seat.pending.items)) h.here)
                ∙ ap (λ k. option_map (λ (seat : Seat). length seat.pending.items) (slice_get seats k)) (sym here)
            | inr apart ↦ ap (option_map (λ (seat : Seat). length seat.pending.items)) (a.others i apart)
          ]);
          fit = λ lane x found. elim (cases_eq lane (lane_with seats t)) [
            | inl here ↦ subst (λ l. IsSeatFit plan (counts l) l x) (sym here) (subst (λ (y : Seat). IsSeatFit plan (counts (lane_with seats t)) (lane_with seats t) y)
                (let found_here : slice_get new (lane_with seats t) ≡ Some x = ap (slice_get new) (sym here) ∙ found in let same : b.0 ≡ x = cc (b.1, found_here) in same) answered_fits)
            | inr apart ↦ fit lane x (sym (a.others lane apart) ∙ found)
          ];
        }

  kept_seats : (tells : Step) → IsOfWaiting m (told_of tells) → (new : List Seat) → SeatsAfter tells seats new → KeptSeats plan counts seats new
  kept_seats Idle w new same = kept_all new same
  kept_seats Moved w new same = kept_all new same
  kept_seats (Wrote t i) w new same = kept_all new same
  kept_seats (Got t i) w new same = kept_all new same
  kept_seats (Answered t op outcome) w new a = kept_answered t op w.0 w.1 w.2 new a

-- an item has one moment
one_each : (item : Option Item) (x : ℕ) → length (more item x) ≡ length (items item)
one_each None x = refl
one_each (Some item) x = refl

module _ {D R : Type 0} (stated : D → Option Geometry) (content : D → Option Content) (moment : D → ℕ) (left : D → ℕ → List (List ℕ) → Type 0) (faults : D → ℕ)
    (s : Desk D R) (k : Fits s) (own : OwnTurn) (tells : Step) (core : View D) (step : IsStep stated content moment left faults s.core own tells core)
    (actor : Actor) (is_actor : IsActor (plan_in (run_of s)) (state_in (run_of s)) actor) (is_turn : turn_of (state_in (run_of s)) actor ≡ Some own) where
  abbrev plan : Plan
  plan = plan_of s.core.geometry s.script

  abbrev counts : ℕ → ℕ
  counts = requests_in s.script

  abbrev st : Session
  st = seated plan s.core.memory s.core.admitted (map lane_in s.records.seats.items)

  abbrev turned : Turned
  turned = Steps actor step.reply

  abbrev does : MachineStep
  does = device_step s.core.geometry s.core.memory own step.reply

  pub may : IsTurn plan st turned
  may = (is_actor, subst (λ o. CanHaveIt plan.sizes (call_of_turn plan st o) step.reply) (sym is_turn) (can_have s.core.geometry _ step.reply (step.made).may))

  after_is : after_turn plan st turned ≡ after_step plan st (device_step s.core.geometry s.core.memory own step.reply)
  after_is = ap (λ o. after_turn_of plan st o step.reply) is_turn

  item_is : item_in plan st turned ≡ item_of plan st (told_of tells)
  item_is = ap (λ o. item_of_turn plan st o step.reply) is_turn ∙ ap (item_of plan st) (sym step.told)

  lanes : plan.lanes ≡ length s.records.seats.items
  lanes = sym k.lanes

  waits : IsOfWaiting s.core.memory (told_of tells)
  waits = subst (IsOfWaiting s.core.memory) (sym step.told)
      (row_waits s.core.geometry unknown s.core.memory _ _ _ (steps_tell_so s.core.geometry s.core.memory own step.reply unknown (k.sound).memory (can_have s.core.geometry _ step.reply (step.made).may)))

  seat_of : (t : Ticket) (r : Request) → request_of t s.core.memory.requests ≡ Some r → HasSeat s.records.seats.items t
  seat_of t r found = has_seat plan s.core.memory s.core.admitted s.records.seats.items k.sound lanes t r found

  down : items_left plan counts (after_turn plan st turned) + items_made (item_in plan st turned) ≤ items_left plan counts st
  down = items_go_down plan counts st turned (at_most s.core.geometry s.script) k.sound may

  pub item_same : item_told s.records.seats.items tells ≡ item_of plan st (told_of tells)
  item_same = by tells waits
    where
      by : (tells : Step) → IsOfWaiting s.core.memory (told_of tells) → item_told s.records.seats.items tells ≡ item_of plan st (told_of tells)
      by Idle w = refl
      by Moved w = refl
      by (Wrote t i) w = told_item plan s.core.memory s.core.admitted s.records.seats.items k.sound lanes counts (at_most s.core.geometry s.script) k.seats (Wrote t i) (λ u j. ((λ e. seat_of u w.0 (ap (λ z. request_of z s.core.memory.requests) (sym (let same : t ≡ u = cc e in same)) ∙ w.1)), (λ e. absurd (cc e))))
      by (Got t i) w = told_item plan s.core.memory s.core.admitted s.records.seats.items k.sound lanes counts (at_most s.core.geometry s.script) k.seats (Got t i) (λ u j. ((λ e. absurd (cc e)), (λ e. seat_of u w.0 (ap (λ z. request_of z s.core.memory.requests) (sym (let same : t ≡ u = cc e in same)) ∙ w.1))))
      by (Answered t op outcome) w = told_item plan s.core.memory s.core.admitted s.records.seats.items k.sound lanes counts (at_most s.core.geometry s.script) k.seats (Answered t op outcome) (λ u j. ((λ e. absurd (cc e)), (λ e. absurd (cc e))))

  -- there is a lane and room for what was told
  pub is_of_lane : IsOfLane s.records.seats.items s.records.journal.room s.records.moments.room tells
  is_of_lane = by tells waits (sym (ap items_made item_is) ∙ refl)
    where
      by : (tells : Step) → IsOfWaiting s.core.memory (told_of tells) → items_made (item_of plan st (told_of tells)) ≡ items_made (item_in plan st turned) → IsOfLane s.records.seats.items s.records.journal.room s.records.moments.room tells
      by Idle w e = tt
      by Moved w e = tt
      by (Wrote t i) w e = (small_at plan s.core.memory s.core.admitted s.records.seats.items k.sound lanes counts (at_most s.core.geometry s.script) k.seats k.few k.small t (seat_of t w.0 w.1), omega (arith, e, down, k.items), omega (arith, e, down, k.moments))
      by (Got t i) w e = (small_at plan s.core.memory s.core.admitted s.records.seats.items k.sound lanes counts (at_most s.core.geometry s.script) k.seats k.few k.small t (seat_of t w.0 w.1), omega (arith, e, down, k.items), omega (arith, e, down, k.moments))
      by (Answered t op outcome) w e = (
        small_at plan s.core.memory s.core.admitted s.records.seats.items k.sound lanes counts (at_most s.core.geometry s.script) k.seats k.few k.small t (seat_of t w.0 w.1),
        room_at plan s.core.memory s.core.admitted s.records.seats.items k.sound lanes counts (at_most s.core.geometry s.script) k.seats k.few k.small t (seat_of t w.0 w.1),
        omega (arith, e, down, k.items),
        omega (arith, e, down, k.moments),
      )

  module _ (rec : Records) (journal : rec.journal.items ≡ s.records.journal.items ++ items (item_told s.records.seats.items tells))
      (moments : rec.moments.items ≡ s.records.moments.items ++ more (item_told s.records.seats.items tells) core.calls)
      (seats : SeatsAfter tells s.records.seats.items rec.seats.items) where
    abbrev now : Desk D R
    now = record { core = core; script = s.script; records = rec }

    some : (t : Ticket) (op : Op) (outcome : Outcome) → tells ≡ Answered t op outcome
        → (seat : Seat) × (asked : Op) × (slice_get s.records.seats.items (lane_with s.records.seats.items t) ≡ Some seat)
        × (plan.request (lane_with s.records.seats.items t) (length seat.answered.items) ≡ Some asked) × IsFor plan.sizes asked op
    some t op outcome is =
        let w = subst (λ x. IsOfWaiting s.core.memory (told_of x)) is waits in
        let h = has_seat plan s.core.memory s.core.admitted s.records.seats.items k.sound lanes t w.0 w.1 in
        let asks = asked_of plan s.core.memory s.core.admitted s.records.seats.items k.sound lanes t op w.0 w.1 w.2 in
        (h.seat, asks.0, h.here, asks.1, asks.2)

    pub state_after : state_in (run_of now) ≡ after_turn plan st turned
    state_after =
        ap (λ g. seated (plan_of g s.script) core.memory core.admitted (map lane_in rec.seats.items)) step.geometry ∙ ap (λ n. seated plan core.memory n (map lane_in rec.seats.items)) step.admitted ∙ ap (λ m. seated plan m s.core.admitted (map lane_in rec.seats.items)) step.memory
        ∙ told_lanes plan (device_step s.core.geometry s.core.memory own step.reply).memory s.core.admitted s.records.seats.items rec.seats.items tells lanes some seats
        ∙ ap (told_to plan (record st { memory = (device_step s.core.geometry s.core.memory own step.reply).memory })) step.told ∙ sym after_is

    pub one_turn : IsOneTurn stated content moment left faults (run_of s) turned (run_of now)
    one_turn = record {
      may = may;
      state = state_after;
      journal = journal ∙ ap (λ i. s.records.journal.items ++ items i) (item_same ∙ sym item_is);
      moments = moments ∙ ap (λ i. s.records.moments.items ++ more i core.calls) (item_same ∙ sym item_is);
      passes = subst (λ (o : Option Turn). Makes stated content moment left faults s.core.geometry (call_of_turn plan st o) step.reply s.core.disk core.disk s.core.calls core.calls) (sym is_turn) step.made;
      script = refl;
      geometry = step.geometry;
      places = step.places;
    }

    pub fits_after : s.records.journal.room ≤ rec.journal.room + items_made (item_told s.records.seats.items tells) → s.records.moments.room ≤ rec.moments.room + items_made (item_told s.records.seats.items tells) → Fits now
    fits_after room room_of_moments =
        let kept = kept_seats plan s.core.memory s.core.admitted s.records.seats.items k.sound lanes counts (at_most s.core.geometry s.script) k.seats tells waits rec.seats.items seats in
        let left_now : items_left plan counts (state_in (run_of now)) ≡ items_left plan counts (after_turn plan st turned) = ap (items_left plan counts) state_after in
        let made : items_made (item_in plan st turned) ≡ items_made (item_told s.records.seats.items tells) = ap items_made (item_is ∙ sym item_same) in
        record {
          sound = subst (λ g. IsSoundSession (plan_of g s.script) (state_in (run_of now))) (sym step.geometry) (subst (IsSoundSession plan) (sym state_after) (turns_keep_sound plan st turned (sections_rise s.core.geometry s.script) k.sound may));
          places = step.places ∙ k.places;
          numbers = k.numbers;
          few = k.few;
          small = k.small;
          lanes = kept.count ∙ k.lanes;
          seats = subst (λ g. AreFit (plan_of g s.script) counts rec.seats.items) (sym step.geometry) kept.fit;
          serials = omega (arith, k.serials, step.admitted, kept.coming);
          items = subst (λ g. items_left (plan_of g s.script) counts (state_in (run_of now)) ≤ rec.journal.room) (sym step.geometry) (omega (arith, left_now, made, down, k.items, room));
          moments = subst (λ g. items_left (plan_of g s.script) counts (state_in (run_of now)) ≤ rec.moments.room) (sym step.geometry) (omega (arith, left_now, made, down, k.moments, room_of_moments));
          paired = ap length moments ∙ length-append s.records.moments.items (more (item_told s.records.seats.items tells) core.calls) ∙ (let one = one_each (item_told s.records.seats.items tells) core.calls in omega (arith, k.paired, one, ap length journal, length-append s.records.journal.items (items (item_told s.records.seats.items tells))));
        }
