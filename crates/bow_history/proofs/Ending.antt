-- Each turn of a ready actor leaves fewer turns, and each item fewer items.
use Rattle.std.proofs.Common.{ℕ, zero, suc, ◌+◌, ◌-◌, ◌*◌, ◌<◌, ◌≤◌, ◌≡◌, ◌≢◌, true, List, [], ◌∷◌, ◌++◌, Option, Some, None, arith, refl, sym}
use Rattle.std.proofs.Common.{ap, ◌∙◌, subst, inl, inr, mul-le-mul_right}
use Rattle.std.proofs.lemmas.Bool.{cases_eq, and_parts}
use Rattle.std.specs.Option.{option_map}
use Rattle.bow_units.specs.declared.requests.Op.{Op}
use Rattle.bow_units.specs.declared.requests.Op.TheVariants as ops
use Rattle.bow_units.specs.declared.sizes.Extent.{Extent}
use Rattle.bow_flat.specs.Flat.{Event, put}
use Rattle.bow_queue.specs.declared.tickets.Ticket.{Ticket}
use Rattle.bow_machine.specs.Requests.{Request, request_of, with_request, without_request, filled}
use Rattle.bow_machine.specs.Memory.{Memory}
use Rattle.bow_machine.specs.Calls.{Reply}
use Rattle.bow_machine.specs.Tasks.{task_of}
use Rattle.bow_machine.specs.declared.turns.Turn.{Turn}
use Rattle.bow_machine.specs.declared.turns.Turn.TheVariants.{Map}
use Rattle.bow_machine.specs.Ready.{is_ready}
use Rattle.bow_machine.specs.Steps.{Told, Idle, Moved, Wrote, Got, Answered, extent_of, call_of}
use Rattle.bow_machine.specs.Ends.{steps_left, most_steps}
use Rattle.bow_machine.specs.MemoryLaws.{CanHaveIt}
use Rattle.bow_machine.specs.Told.{ToldRow}
use Rattle.bow_machine.proofs.RequestLists.{found_ticket, of_without, of_with, of_with_other, of_push_found}
use Rattle.bow_machine.proofs.MappedWrites.{put_here, put_there}
use Rattle.bow_machine.proofs.SoundEnds.{steps_are_few, steps_go_down}
use Rattle.bow_machine.proofs.SoundLists.{found_waiting, own_tickets}
use Rattle.bow_machine.proofs.SoundOpenings.{admit_keeps_sound}
use Rattle.bow_history.specs.declared.items.Actor.{Actor}
use Rattle.bow_history.specs.declared.items.Actor.TheVariants.{Lane, Worker, Command}
use Rattle.bow_history.specs.Journal.{Plan}
use Rattle.bow_history.specs.Sessions.{Session, Admits, Steps, turn_of, device_step, lane_of, item_of, item_of_turn}
use Rattle.bow_machine.specs.Steps.{unknown}
use Rattle.bow_history.specs.Sessions.{answered_in, told_to, after_step, after_turn_of, after_turn, IsFor, IsActor, IsAdmission}
use Rattle.bow_history.specs.Sessions.{call_of_turn}
use Rattle.bow_history.specs.Ready.{is_lane_ready, is_actor_ready}
use Rattle.bow_history.specs.SoundSessions.{IsSoundSession}
use Rattle.bow_history.specs.Ends.{HasAtMost, over_lanes, in_hand, untaken, turns_left, TurnsGoDown, items_of, items_from}
use Rattle.bow_history.specs.Ends.{blocks_done, done_of_request, done_in_hand, items_of_lane, items_left, items_made, ItemsGoDown}
use Rattle.bow_history.proofs.Lists.{one_of, of_push_here, serials_below}
use Rattle.bow_history.proofs.Seats.{new_ticket}
use Rattle.bow_history.proofs.SoundTurns.{row, lane_has}

-- ----------------------------------------------------------------------------------------------------------------
-- Sums over lanes.

over_le : (f h : ℕ → ℕ) (n : ℕ) → ((lane : ℕ) → lane < n → f lane ≤ h lane) → over_lanes f n ≤ over_lanes h n
over_le f h zero le = omega arith
over_le f h (suc n) le =
    let here = le n (omega arith) in
    let rest = over_le f h n (λ l below. le l (omega (arith, below))) in
    omega (arith, here, rest)

over_less : (f h : ℕ → ℕ) (n : ℕ) → ((lane : ℕ) → lane < n → f lane ≤ h lane) → (x : ℕ) → x < n → f x + 1 ≤ h x
    → over_lanes f n + 1 ≤ over_lanes h n
over_less f h zero le x below less = absurd (omega (arith, below))
over_less f h (suc n) le x below less = elim (cases_eq x n) [
  | inl is ↦
      let here = subst (λ l. f l + 1 ≤ h l) is less in
      let rest = over_le f h n (λ l under. le l (omega (arith, under))) in
      omega (arith, here, rest)
  | inr ne ↦
      let here = le n (omega arith) in
      let rest = over_less f h n (λ l under. le l (omega (arith, under))) x (omega (arith, below, ne)) less in
      omega (arith, here, rest)
]

-- a higher digit counts for more
higher : (base x y d e : ℕ) → x + 1 ≤ y → d < base → x * base + d < y * base + e
higher base x y d e less small =
    let up : (x + 1) * base ≤ y * base = mul-le-mul_right base less in
    let split : (x + 1) * base ≡ x * base + base = omega arith in
    omega (arith, up, split, small)

lower_digit : (base x y d e : ℕ) → x ≤ y → d < e → x * base + d < y * base + e
lower_digit base x y d e le less =
    let up : x * base ≤ y * base = mul-le-mul_right base le in
    omega (arith, up, less)

-- ----------------------------------------------------------------------------------------------------------------
-- A request is taken in.

module _ (plan : Plan) (counts : ℕ → ℕ) (s : Session) (most : HasAtMost plan counts) (k : IsSoundSession plan s) (lane : ℕ)
    (ticket : Ticket) (op : Op) (a : IsAdmission plan s lane ticket op) where
  abbrev taken : Session
  taken = after_turn plan s (Admits lane ticket op)

  abbrev new : Request
  new = record { ticket = ticket; op = op; done = 0 }

  taken_less : over_lanes (untaken counts taken) plan.lanes + 1 ≤ over_lanes (untaken counts s) plan.lanes
  taken_less = over_less (untaken counts taken) (untaken counts s) plan.lanes all lane a.inside here
    where
      here : untaken counts taken lane + 1 ≤ untaken counts s lane
      here =
          let below = most lane (s.number lane) a.asked a.next in
          let now : in_hand (put s.hand lane (Some ticket) lane) ≡ 1 = ap in_hand (put_here s.hand lane (Some ticket) lane refl) in
          let before : in_hand (s.hand lane) ≡ 0 = ap in_hand a.free in
          omega (arith, below, now, before)

      all : (l : ℕ) → l < plan.lanes → untaken counts taken l ≤ untaken counts s l
      all l below = elim (cases_eq l lane) [
        | inl is ↦ let less = subst (λ x. untaken counts taken x + 1 ≤ untaken counts s x) (sym is) here in omega (arith, less)
        | inr ne ↦ let same : in_hand (put s.hand lane (Some ticket) l) ≡ in_hand (s.hand l) = ap in_hand (put_there s.hand lane (Some ticket) l ne) in omega (arith, same)
      ]

  admit_goes_down : turns_left plan counts taken < turns_left plan counts s
  admit_goes_down =
      let sound = admit_keeps_sound plan.sizes s.memory new a.whole refl
      (serials_below s.memory.requests ticket (λ t r found. let low = k.seated.serials t r found in omega (arith, low, a.serial)) (own_tickets s.memory.requests k.memory.rising))
      a.place k.memory in
      higher (most_steps plan.sizes) (over_lanes (untaken counts taken) plan.lanes) (over_lanes (untaken counts s) plan.lanes) (steps_left plan.sizes taken.memory) (steps_left plan.sizes s.memory)
      taken_less (steps_are_few plan.sizes taken.memory sound)

  -- no block of it is done
  none_done : (o : Op) → blocks_done o 0 ≡ 0
  none_done (ops.Read e p) = refl
  none_done (ops.Write e p) = refl
  none_done (ops.Discard e) = refl
  none_done ops.Flush = refl
  none_done ops.Prepare = refl
  none_done ops.Commit = refl

  same_done : (l : ℕ) → done_in_hand taken.memory.requests (taken.hand l) ≡ done_in_hand s.memory.requests (s.hand l)
  same_done l = elim (cases_eq l lane) [
    | inl is ↦
        ap (done_in_hand taken.memory.requests) (put_here s.hand lane (Some ticket) l is)
        ∙ ap done_of_request (of_push_here new s.memory.requests no_ticket) ∙ none_done op ∙ sym (ap (done_in_hand s.memory.requests) (ap s.hand is ∙ a.free))
    | inr ne ↦ ap (done_in_hand taken.memory.requests) (put_there s.hand lane (Some ticket) l ne) ∙ old (s.hand l) refl
  ]
    where
      no_ticket : request_of ticket s.memory.requests ≡ None
      no_ticket = new_ticket plan s.memory.requests s.admitted s.number s.hand k.seated new lane a.asked a.inside a.free a.next a.is a.serial

      old : (o : Option Ticket) → s.hand l ≡ o → done_in_hand (s.memory.requests ++ new ∷ []) o ≡ done_in_hand s.memory.requests o
      old None is = refl
      old (Some t) is = let seat = k.seated.each l t is in ap done_of_request (of_push_found new t s.memory.requests seat.request seat.waits ∙ sym seat.waits)

  admit_items : items_left plan counts taken + 0 ≤ items_left plan counts s
  admit_items =
      let all = over_le (items_of_lane plan counts taken) (items_of_lane plan counts s) plan.lanes
      (λ l below. let same = same_done l in omega (arith, same)) in
      omega (arith, all)

-- ----------------------------------------------------------------------------------------------------------------
-- A step of the device.

module _ (plan : Plan) (counts : ℕ → ℕ) (s : Session) (most : HasAtMost plan counts) (k : IsSoundSession plan s) (turn : Turn)
    (reply : Reply) (can : CanHaveIt plan.sizes (call_of plan.sizes s.memory (task_of plan.sizes s.memory turn)) reply) where
  abbrev requests : List Request
  requests = s.memory.requests

  -- what was told
  abbrev RowOf : Told → List Event → List Request → Type 0
  RowOf told events after = ToldRow plan.sizes unknown s.memory told events after

  -- the lane of an answered request has nothing more taken in
  told_untaken : (told : Told) (events : List Event) (m : Memory) → RowOf told events m.requests
      → (l : ℕ) → untaken counts (told_to plan (record s { memory = m }) told) l ≤ untaken counts s l
  told_untaken Idle events m is l = omega arith
  told_untaken Moved events m is l = omega arith
  told_untaken (Wrote t i) events m is l = omega arith
  told_untaken (Got t i) events m is l = omega arith
  told_untaken (Answered t op outcome) events m (r, waits, of_it) l = elim (cases_eq l (lane_of s.hand t plan.lanes)) [
    | inl is ↦
        let lane = lane_of s.hand t plan.lanes in
        let number : put s.number lane (suc (s.number lane)) l ≡ suc (s.number lane) = put_here s.number lane (suc (s.number lane)) l is in
        let old : s.number l ≡ s.number lane = ap s.number is in
        let before : in_hand (s.hand l) ≡ 1 = ap in_hand (ap s.hand is ∙ lane_has plan s k turn reply can t r waits) in
        omega (arith, number, old, before)
    | inr ne ↦
        let lane = lane_of s.hand t plan.lanes in
        let number : put s.number lane (suc (s.number lane)) l ≡ s.number l = put_there s.number lane (suc (s.number lane)) l ne in
        let now : in_hand (put s.hand lane None l) ≡ in_hand (s.hand l) = ap in_hand (put_there s.hand lane None l ne) in
        omega (arith, number, now)
  ]

  told_steps : (told : Told) (m : Memory) → (told_to plan (record s { memory = m }) told).memory ≡ m
  told_steps Idle m = refl
  told_steps Moved m = refl
  told_steps (Wrote t i) m = refl
  told_steps (Got t i) m = refl
  told_steps (Answered t op outcome) m = refl

  step_goes_down : is_ready plan.sizes s.memory turn ≡ true
      → turns_left plan counts (after_step plan s (device_step plan.sizes s.memory turn reply)) < turns_left plan counts s
  step_goes_down ready =
      let step = device_step plan.sizes s.memory turn reply in
      let less = steps_go_down plan.sizes s.memory turn reply unknown k.memory can ready in
      let same : steps_left plan.sizes (after_step plan s step).memory ≡ steps_left plan.sizes step.memory = ap (steps_left plan.sizes) (told_steps step.told step.memory) in
      let rest = over_le (untaken counts (after_step plan s step)) (untaken counts s) plan.lanes
      (λ l below. told_untaken step.told step.events step.memory (row plan s k turn reply can) l) in
      lower_digit (most_steps plan.sizes) (over_lanes (untaken counts (after_step plan s step)) plan.lanes) (over_lanes (untaken counts s) plan.lanes) (steps_left plan.sizes (after_step plan s step).memory) (steps_left plan.sizes s.memory)
      rest (omega (arith, less, same))

  -- ----------------------------------------------------------------------------------------------------------------
  -- Items.

  -- the lane of a request that waits, and its items
  record HasItems (t : Ticket) (r : Request) : Type 0 where
    lane : ℕ
    is : lane_of s.hand t plan.lanes ≡ lane
    inside : lane < plan.lanes
    has : s.hand lane ≡ Some t
    only : (other : ℕ) → s.hand other ≡ Some t → other ≡ lane
    items : items_from plan lane (s.number lane) (counts lane - s.number lane) ≡ items_of (Some r.op) + items_from plan lane (suc (s.number lane)) (counts lane - suc (s.number lane))
    done : done_in_hand requests (s.hand lane) ≡ blocks_done r.op r.done

  same_items : (asked op : Op) → IsFor plan.sizes asked op → items_of (Some asked) ≡ items_of (Some op)
  same_items (ops.Read x q) (ops.Read y p) is = ap (λ (e : Extent). e.count + 1) (sym is.0)
  same_items (ops.Read x q) (ops.Write y p) is = absurd is
  same_items (ops.Read x q) (ops.Discard y) is = absurd is
  same_items (ops.Read x q) ops.Flush is = absurd is
  same_items (ops.Read x q) ops.Prepare is = absurd is
  same_items (ops.Read x q) ops.Commit is = absurd is
  same_items (ops.Write x q) op is = ap (λ o. items_of (Some o)) (sym is)
  same_items (ops.Discard x) op is = ap (λ o. items_of (Some o)) (sym is)
  same_items ops.Flush op is = ap (λ o. items_of (Some o)) (sym is)
  same_items ops.Prepare op is = ap (λ o. items_of (Some o)) (sym is)
  same_items ops.Commit op is = ap (λ o. items_of (Some o)) (sym is)

  has_items : (t : Ticket) (r : Request) → request_of t requests ≡ Some r → HasItems t r
  has_items t r waits =
      let lane = lane_of s.hand t plan.lanes in
      let has : s.hand lane ≡ Some t = lane_has plan s k turn reply can t r waits in
      let seat = k.seated.each lane t has in
      let below = most lane (s.number lane) seat.asked seat.next in
      let more : counts lane - s.number lane ≡ suc (counts lane - suc (s.number lane)) = omega (arith, below) in
      let same : seat.request ≡ r = one_of (request_of t requests) seat.request r seat.waits waits in
      record {
        lane = lane;
        is = refl;
        inside = seat.inside;
        has = has;
        only = λ other also. k.seated.own other lane t also has;
        items =
            ap (items_from plan lane (s.number lane)) more
            ∙ ap (λ o. items_of o + items_from plan lane (suc (s.number lane)) (counts lane - suc (s.number lane))) seat.next
            ∙ ap (λ n. n + items_from plan lane (suc (s.number lane)) (counts lane - suc (s.number lane))) (same_items seat.asked r.op (subst (λ (x : Request). IsFor plan.sizes seat.asked x.op) same seat.is));
        done = ap (done_in_hand requests) has ∙ ap done_of_request waits;
      }

  -- a lane whose ticket in hand is another
  other_done : (after : List Request) (t : Ticket) (l : ℕ) → s.hand l ≢ Some t
      → ((u : Ticket) → u ≢ t → request_of u after ≡ request_of u requests)
      → done_in_hand after (s.hand l) ≡ done_in_hand requests (s.hand l)
  other_done after t l ne same = go (s.hand l) refl
    where
      go : (o : Option Ticket) → s.hand l ≡ o → done_in_hand after o ≡ done_in_hand requests o
      go None is = refl
      go (Some u) is = ap done_of_request (same u (λ e. ne (is ∙ ap Some e)))

  -- one block more of a request is done
  module _ (t : Ticket) (r new : Request) (waits : request_of t requests ≡ Some r) (ticket : new.ticket ≡ r.ticket)
      (one : blocks_done new.op new.done ≡ blocks_done r.op r.done + 1) (room : blocks_done r.op r.done + 2 ≤ items_of (Some r.op)) where
    mine : r.ticket ≡ t
    mine = found_ticket t requests r waits

    was : request_of new.ticket requests ≡ Some r
    was = ap (λ u. request_of u requests) (ticket ∙ mine) ∙ waits

    one_done : (m : Memory) → m.requests ≡ with_request new requests
        → items_left plan counts (record s { memory = m }) + 1 ≤ items_left plan counts s
    one_done m is =
        let h = has_items t r waits in
        over_less (items_of_lane plan counts (record s { memory = m })) (items_of_lane plan counts s) plan.lanes (λ l below. all h l) h.lane h.inside (here h)
      where
        now_done : (h : HasItems t r) → done_in_hand m.requests (s.hand h.lane) ≡ blocks_done new.op new.done
        now_done h =
            ap (done_in_hand m.requests) h.has ∙ ap (λ rs. done_of_request (request_of t rs)) is
            ∙ ap (λ u. done_of_request (request_of u (with_request new requests))) (sym (ticket ∙ mine)) ∙ ap done_of_request (of_with new requests r was)

        here : (h : HasItems t r) → items_of_lane plan counts (record s { memory = m }) h.lane + 1 ≤ items_of_lane plan counts s h.lane
        here h = let now = now_done h in omega (arith, now, h.done, h.items, one, room)

        others : (u : Ticket) → u ≢ t → request_of u m.requests ≡ request_of u requests
        others u ne = ap (request_of u) is ∙ of_with_other new u requests (λ e. ne (e ∙ ticket ∙ mine))

        all : (h : HasItems t r) (l : ℕ) → items_of_lane plan counts (record s { memory = m }) l ≤ items_of_lane plan counts s l
        all h l = elim (cases_eq l h.lane) [
          | inl same ↦ let less = subst (λ x. items_of_lane plan counts (record s { memory = m }) x + 1 ≤ items_of_lane plan counts s x) (sym same) (here h) in omega (arith, less)
          | inr ne ↦ let same = other_done m.requests t l (λ e. ne (h.only l e)) others in omega (arith, same)
        ]

  -- a request is answered
  room_of : (o : Op) (done : ℕ) → done ≤ (extent_of o).count → blocks_done o done + 1 ≤ items_of (Some o)
  room_of (ops.Read e p) done few = omega (arith, few)
  room_of (ops.Write e p) done few = omega (arith, few)
  room_of (ops.Discard e) done few = omega arith
  room_of ops.Flush done few = omega arith
  room_of ops.Prepare done few = omega arith
  room_of ops.Commit done few = omega arith

  module _ (t : Ticket) (r : Request) (op : Op) (waits : request_of t requests ≡ Some r) (m : Memory)
      (is : m.requests ≡ without_request t requests) where
    answered_items : items_left plan counts (answered_in (record s { memory = m }) (lane_of s.hand t plan.lanes) op) + 1 ≤ items_left plan counts s
    answered_items =
        let h = has_items t r waits in
        subst (λ lane. items_left plan counts (answered_in (record s { memory = m }) lane op) + 1 ≤ items_left plan counts s) (sym h.is)
        (over_less (items_of_lane plan counts (answered_in (record s { memory = m }) h.lane op)) (items_of_lane plan counts s) plan.lanes (λ l below. all h l) h.lane h.inside (here h))
      where
        others : (u : Ticket) → u ≢ t → request_of u m.requests ≡ request_of u requests
        others u ne = ap (request_of u) is ∙ of_without t u requests ne

        here : (h : HasItems t r) → items_of_lane plan counts (answered_in (record s { memory = m }) h.lane op) h.lane + 1 ≤ items_of_lane plan counts s h.lane
        here h =
            let number : put s.number h.lane (suc (s.number h.lane)) h.lane ≡ suc (s.number h.lane) = put_here s.number h.lane (suc (s.number h.lane)) h.lane refl in
            let hand : done_in_hand m.requests (put s.hand h.lane None h.lane) ≡ 0 = ap (done_in_hand m.requests) (put_here s.hand h.lane None h.lane refl) in
            let new : items_from plan h.lane (put s.number h.lane (suc (s.number h.lane)) h.lane) (counts h.lane - put s.number h.lane (suc (s.number h.lane)) h.lane) ≡ items_from plan h.lane (suc (s.number h.lane)) (counts h.lane - suc (s.number h.lane)) =
            ap (λ n. items_from plan h.lane n (counts h.lane - n)) number in
            let room = room_of r.op r.done (found_waiting plan.sizes t requests r k.memory.requests waits).done in
            omega (arith, hand, new, h.items, h.done, room)

        all : (h : HasItems t r) (l : ℕ) → items_of_lane plan counts (answered_in (record s { memory = m }) h.lane op) l ≤ items_of_lane plan counts s l
        all h l = elim (cases_eq l h.lane) [
          | inl same ↦ let less = subst (λ x. items_of_lane plan counts (answered_in (record s { memory = m }) h.lane op) x + 1 ≤ items_of_lane plan counts s x) (sym same) (here h) in omega (arith, less)
          | inr ne ↦
              let number : items_from plan l (put s.number h.lane (suc (s.number h.lane)) l) (counts l - put s.number h.lane (suc (s.number h.lane)) l) ≡ items_from plan l (s.number l) (counts l - s.number l) =
              ap (λ n. items_from plan l n (counts l - n)) (put_there s.number h.lane (suc (s.number h.lane)) l ne) in
              let hand : done_in_hand m.requests (put s.hand h.lane None l) ≡ done_in_hand requests (s.hand l) =
              ap (done_in_hand m.requests) (put_there s.hand h.lane None l ne) ∙ other_done m.requests t l (λ e. ne (h.only l e)) others in
              omega (arith, number, hand)
        ]

  told_items : (told : Told) (events : List Event) (m : Memory) → RowOf told events m.requests
      → items_left plan counts (told_to plan (record s { memory = m }) told) + items_made (item_of plan s told) ≤ items_left plan counts s
  told_items Idle events m is = let same : items_left plan counts (record s { memory = m }) ≡ items_left plan counts s = ap (λ rs. over_lanes (λ l. items_from plan l (s.number l) (counts l - s.number l) - done_in_hand rs (s.hand l)) plan.lanes) is.1 in omega (arith, same)
  told_items Moved events m is = let same : items_left plan counts (record s { memory = m }) ≡ items_left plan counts s = ap (λ rs. over_lanes (λ l. items_from plan l (s.number l) (counts l - s.number l) - done_in_hand rs (s.hand l)) plan.lanes) is.1 in omega (arith, same)
  told_items (Wrote t i) events m (r, waits, w) =
      one_done t r (record r { done = r.done + 1 }) waits refl
      (ap (λ o. blocks_done o (r.done + 1)) w.op ∙ ap (λ o. blocks_done o r.done + 1) (sym w.op))
      (let d : blocks_done r.op r.done ≡ r.done = ap (λ o. blocks_done o r.done) w.op in let c : items_of (Some r.op) ≡ w.extent.count + 1 = ap (λ o. items_of (Some o)) w.op in omega (arith, d, c, w.next, w.left))
      m w.goes_on
  told_items (Got t i) events m (r, waits, w) =
      one_done t r (record r { op = ops.Read w.extent (filled plan.sizes.block_size w.payload i w.content); done = r.done + 1 }) waits refl
      (ap (λ o. blocks_done o r.done + 1) (sym w.op))
      (let d : blocks_done r.op r.done ≡ r.done = ap (λ o. blocks_done o r.done) w.op in let c : items_of (Some r.op) ≡ w.extent.count + 1 = ap (λ o. items_of (Some o)) w.op in omega (arith, d, c, w.next, w.left))
      m w.goes_on
  told_items (Answered t op outcome) events m (r, waits, of_it) = answered_items t r op waits m of_it.2

  step_items : items_left plan counts (after_step plan s (device_step plan.sizes s.memory turn reply)) + items_made (item_of plan s (device_step plan.sizes s.memory turn reply).told)
      ≤ items_left plan counts s
  step_items =
      let step = device_step plan.sizes s.memory turn reply in
      told_items step.told step.events step.memory (row plan s k turn reply can)

-- ----------------------------------------------------------------------------------------------------------------
-- A turn.

-- an actor that is ready has a turn of the device that is
ready_turn : (plan : Plan) (s : Session) (actor : Actor) → IsActor plan s actor → is_actor_ready plan s actor ≡ true
    → (turn : Turn) × (turn_of s actor ≡ Some turn) × (is_ready plan.sizes s.memory turn ≡ true)
ready_turn plan s (Lane lane) is ready = (
  Map is.1,
  ap (option_map Map) is.2,
  sym (ap (is_lane_ready plan s lane) is.2) ∙ (and_parts _ _ ready).1,
)
ready_turn plan s Worker is ready = (_, refl, ready)
ready_turn plan s Command is ready = (_, refl, ready)

pub turns_go_down : TurnsGoDown
turns_go_down plan counts s (Admits lane ticket op) most k is ready = admit_goes_down plan counts s most k lane ticket op is
turns_go_down plan counts s (Steps actor reply) most k is ready =
    let t = ready_turn plan s actor is.0 ready in
    subst (λ o. CanHaveIt plan.sizes (call_of_turn plan s o) reply → turns_left plan counts (after_turn_of plan s o reply) < turns_left plan counts s) (sym t.1)
    (λ can. step_goes_down plan counts s most k t.0 reply can t.2) is.1

pub items_go_down : ItemsGoDown
items_go_down plan counts s (Admits lane ticket op) most k is = admit_items plan counts s most k lane ticket op is
items_go_down plan counts s (Steps actor reply) most k is = go (turn_of s actor) is.1
  where
    go : (o : Option Turn) → CanHaveIt plan.sizes (call_of_turn plan s o) reply
        → items_left plan counts (after_turn_of plan s o reply) + items_made (item_of_turn plan s o reply) ≤ items_left plan counts s
    go None can = omega arith
    go (Some turn) can = step_items plan counts s most k turn reply can
