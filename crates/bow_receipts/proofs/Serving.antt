-- The device makes a step: what it told is of a caller, with room for it.
use Rattle.std.proofs.Common.{◌≡◌, ℕ, zero, suc, ◌+◌, ◌*◌, ◌-◌, ◌^◌, ◌<◌, ◌≤◌, ◌++◌, ◌==◌, Bool, true, false, cond, List, [], ◌∷◌, length, map, Option, Some, None, arith, refl, sym, ap, ◌∙◌, subst, inl, inr, length-append}
use Rattle.std.specs.Prelude.{slice_get}
use Rattle.std.specs.Option.{option_map}
use Rattle.std.proofs.lemmas.Bool.{cases_lt}
use mathlib.Core.Option.{some}
use mathlib.Core.Path.{fun_ext}
use Rattle.atomic_table.specs.Seated.{TableId}
use Rattle.bow_units.specs.Sizes.{IsValid}
use Rattle.bow_units.specs.declared.sizes.Geometry.{Geometry}
use Rattle.bow_units.specs.declared.requests.Op.{Op}
use Rattle.bow_units.specs.declared.requests.Op.TheVariants as ops
use Rattle.bow_units.specs.declared.requests.Outcome.{Outcome}
use Rattle.bow_units.specs.declared.requests.Outcome.TheVariants as outcomes
use Rattle.bow_units.specs.declared.sizes.Extent.{Extent}
use Rattle.bow_disk.specs.Disk.{Content}
use Rattle.bow_chain.specs.Contents.{Contents}
use Rattle.bow_flat.specs.Flat.{Event}
use Rattle.bow_queue.specs.Extents.{is_on_device}
use Rattle.bow_queue.specs.declared.tickets.Ticket.{Ticket}
use Rattle.bow_machine.specs.Memory.{Memory}
use Rattle.bow_machine.specs.MemoryIsSound.{MemoryIsSound}
use Rattle.bow_machine.specs.MemoryLaws.{CanHaveIt}
use Rattle.bow_machine.specs.Requests.{Request, refusal, request_of as waiting_of}
use Rattle.bow_machine.specs.Steps.{Told, call_of, extent_of}
use Rattle.bow_machine.specs.Steps.{Idle as ToldIdle, Moved as ToldMoved, Wrote as ToldWrote, Got as ToldGot, Answered as ToldAnswered}
use Rattle.bow_machine.specs.Tasks.{task_of}
use Rattle.bow_machine.specs.Told.{AnswerRow, ToldRow}
use Rattle.bow_machine.proofs.MappedTests.{write_inside, read_inside}
use Rattle.bow_machine.proofs.SoundTold.{steps_tell_so}
use Rattle.bow_core.specs.declared.turns.Step.{Step}
use Rattle.bow_core.specs.declared.turns.Step.TheVariants.{Idle, Moved, Wrote, Got, Answered}
use Rattle.bow_machine.specs.declared.turns.Turn.{Turn}
use Rattle.bow_machine.specs.declared.turns.Turn.TheVariants as turns
use Rattle.bow_core.specs.Steps.{IsStep}
use Rattle.bow_core.specs.Turns.{told_of}
use Rattle.bow_core.specs.Views.{View}
use Rattle.bow_history.specs.declared.items.Actor.{Actor}
use Rattle.bow_history.specs.declared.items.Actor.TheVariants as actors
use Rattle.bow_history.specs.declared.items.Item.{Item}
use Rattle.bow_history.specs.declared.items.Item.TheVariants as items
use Rattle.bow_history.specs.Ends.{HasAtMost, over_lanes, items_left, items_made, items_of, items_from, items_of_lane}
use Rattle.bow_history.specs.Fits.{IsSeat}
use Rattle.bow_history.specs.Histories.{session_after, journal_of, with_items}
use Rattle.bow_history.specs.Journal.{Plan}
use Rattle.bow_history.specs.Sections.{SectionsRise}
use Rattle.bow_history.specs.Sessions.{Session, Turned, Steps, begun, turn_of, device_step, told_to, after_turn_of, after_turn, item_of, item_of_turn, item_in, call_of_turn, first_in, lane_of, IsActor, IsFor, IsTurn}
use Rattle.bow_machine.specs.Steps.{unknown}
use Rattle.bow_history.specs.SoundSessions.{IsSoundSession, MayRun}
use Rattle.bow_history.proofs.Seats.{lane_is}
use Rattle.bow_history.proofs.Ending.{items_go_down}
use Rattle.bow_history.proofs.SoundTurns.{beginning_is_sound, turns_keep_sound}
use Rattle.bow_session.proofs.Admitted.{asked_first}
use Rattle.bow_session.proofs.Turned.{can_have}
use Rattle.bow_tags.specs.declared.view.Entry.{Entry}
use Rattle.bow_tags.specs.declared.view.Held.{Held}
use Rattle.bow_tags.specs.Steps.{HoldsJob, held}
use Rattle.bow_receipts.specs.declared.asks.Answer.{Answer}
use Rattle.bow_receipts.specs.declared.hands.Hand.{Hand}
use Rattle.bow_receipts.specs.declared.service.Service.{Service}
use Rattle.bow_receipts.specs.Asking.{Asked, AsksAtLeast, FitsSize, asked_of, given_of, plan_of, request_of}
use Rattle.bow_receipts.specs.Copies.{HasRoomFor, blocks_read}
use Rattle.bow_receipts.specs.Hands.{IsHeld, IsInHand, hand_at, lane_with, ticket_in, tickets_of}
use Rattle.bow_receipts.specs.Noted.{IsAnswerable, IsNotable, IsOfHand, IsTurnOf}
use Rattle.bow_receipts.specs.Served.{IsSeated, Serves, answered_of, count_of, entry_of, held_of, view_under}
use Rattle.bow_receipts.proofs.OpAsks.{for_room}
use Rattle.bow_receipts.proofs.Lists.{clash, filter_found, index_within, last_at, map_length, one_of, over_less, over_most}

-- what was told is of a request that waits
abbrev pub IsOfWaiting : Geometry → Memory → Told → Type 0
IsOfWaiting g m ToldIdle = Unit {0}
IsOfWaiting g m ToldMoved = Unit {0}
IsOfWaiting g m (ToldWrote t i) = (r : Request) × (waiting_of t m.requests ≡ Some r) × ((extent_of r.op).first + i < g.blocks)
IsOfWaiting g m (ToldGot t i) = (r : Request) × (waiting_of t m.requests ≡ Some r) × ((extent_of r.op).first + i < g.blocks)
IsOfWaiting g m (ToldAnswered t op outcome) = (r : Request) × (waiting_of t m.requests ≡ Some r) × (r.op ≡ op) × (blocks_read op outcome ≤ (extent_of op).count)

-- no more blocks were read than the request has
refused_read : (g : Geometry) (e : Extent) (p : List ℕ) (outcome : Outcome) (b : Bool) → cond {A = Option Outcome} b None (Some outcomes.OutOfRange) ≡ Some outcome → blocks_read (ops.Read e p) outcome ≤ e.count
refused_read g e p outcome true is = absurd (grind (arith, is))
refused_read g e p outcome false is = subst (λ o. blocks_read (ops.Read e p) o ≤ e.count) (let same : outcomes.OutOfRange ≡ outcome = cc is in same) (omega arith)

few_read : (g : Geometry) (m : Memory) (r : Request) (op : Op) (outcome : Outcome) (events : List Event) → r.op ≡ op → AnswerRow g m r op outcome events → blocks_read op outcome ≤ (extent_of op).count
few_read g m r (ops.Read e p) outcome events is row = elim row [
  | inl refused ↦ refused_read g e p outcome (is_on_device g.blocks e) refused.0
  | inr served ↦ elim served.1 [
    | inl all ↦ subst (λ o. blocks_read (ops.Read e p) o ≤ e.count) (sym all.0) (omega arith)
    | inr fault ↦ subst (λ o. blocks_read (ops.Read e p) o ≤ e.count) (sym fault.0) (let less = fault.1 in omega (arith, less))
  ]
]
few_read g m r (ops.Write e p) outcome events is row = omega arith
few_read g m r (ops.Discard e) outcome events is row = omega arith
few_read g m r ops.Flush outcome events is row = omega arith
few_read g m r ops.Prepare outcome events is row = omega arith
few_read g m r ops.Commit outcome events is row = omega arith

row_waits : (g : Geometry) (now : Contents) (m : Memory) (told : Told) (events : List Event) (after : List Request) → ToldRow g now m told events after → IsOfWaiting g m told
row_waits g now m ToldIdle events after row = tt
row_waits g now m ToldMoved events after row = tt
row_waits g now m (ToldWrote t i) events after row =
    let w = row.2 in
    let inside = (write_inside g m.phase w.extent w.payload (subst (λ o. refusal g m.phase o ≡ None) w.op w.passed)).0 in
    let first : (extent_of (row.0).op).first ≡ (w.extent).first = ap (λ o. (extent_of o).first) w.op in
    (row.0, row.1, omega (arith, inside, first, w.left))
row_waits g now m (ToldGot t i) events after row =
    let w = row.2 in
    let inside = read_inside g m.phase w.extent w.payload (subst (λ o. refusal g m.phase o ≡ None) w.op w.passed) in
    let first : (extent_of (row.0).op).first ≡ (w.extent).first = ap (λ o. (extent_of o).first) w.op in
    (row.0, row.1, omega (arith, inside, first, w.left))
row_waits g now m (ToldAnswered t op outcome) events after row = (row.0, row.1, (row.2).0, few_read g m row.0 op outcome events (row.2).0 (row.2).1)

-- the actor of a turn
abbrev pub actor_for : (hands : List (Option Hand)) (own : Turn) → IsTurnOf hands own → Actor
actor_for hands (turns.Map ticket) of = actors.Lane of.0
actor_for hands turns.Worker of = actors.Worker
actor_for hands turns.Command of = actors.Command

-- the request of a ticket that waits is in the hand of a caller
pub record HandOf (g : Geometry) (given : List (Entry Op Answer)) (jobs : List (Held Op)) (hands : List (Option Hand)) (t : Ticket) (r : Request) : Type 0 where
  pub hand : Hand
  pub inside : lane_with hands t < length hands
  pub here : hand_at hands (lane_with hands t) ≡ Some hand
  pub held_is : IsHeld (lane_with hands t) (answered_of given (lane_with hands t)) hand (held_of (lane_with hands t) jobs)
  pub for_it : IsFor g held_is.ask r.op

-- what a caller asks next, where one job of it is held
pub asked_next : (lanes : ℕ) (given : List (Entry Op Answer)) (jobs : List (Held Op)) (lane : ℕ) (ask : Op) → held_of lane jobs ≡ held lane (answered_of given lane) ask ∷ []
    → request_of (asked_of lanes given jobs) lane (answered_of given lane) ≡ Some ask
asked_next lanes given jobs lane ask job =
    ap (λ (js : List (Held Op)). slice_get (map (λ x. x.ask) (given_of lane given) ++ map (λ j. j.ask) js) (answered_of given lane)) job
    ∙ last_at (map (λ x. x.ask) (given_of lane given)) ask (answered_of given lane) (sym (map_length (λ (x : Entry Op Answer). x.ask) (given_of lane given)))

pub asks_itself : (g : Geometry) (asked : Asked) → AsksAtLeast g asked (plan_of g asked)
asks_itself g asked = record { sizes = refl; callers = refl; requests = λ caller n op at. at; section = λ caller n. refl }

-- ----------------------------------------------------------------------------------------------------------------
-- How long a journal gets.

module _ (plan : Plan) (counts : ℕ → ℕ) (most : HasAtMost plan counts) (rise : SectionsRise plan) where
  pub journal_fits : (s : Session) (turns : List Turned) → IsSoundSession plan s → MayRun plan s turns
      → length (journal_of plan s turns) + items_left plan counts (session_after plan s turns) ≤ items_left plan counts s
  journal_fits s [] sound may = omega arith
  journal_fits s (turn ∷ turns) sound may =
      let down = items_go_down plan counts s turn most sound may.0 in
      let rest = journal_fits (after_turn plan s turn) turns (turns_keep_sound plan s turn rise sound may.0) may.1 in
      let one = count (item_in plan s turn) (journal_of plan (after_turn plan s turn) turns) in
      omega (arith, down, rest, one)
    where
      count : (item : Option Item) (xs : List Item) → length (with_items item xs) ≡ items_made item + length xs
      count None xs = omega arith
      count (Some item) xs = omega arith

few_items : (plan : Plan) (lane : ℕ) (few : (n : ℕ) → items_of (plan.request lane n) ≤ 17) (n more : ℕ) → items_from plan lane n more ≤ 17 * more
few_items plan lane few n zero = omega arith
few_items plan lane few n (suc more) = let here = few n in let rest = few_items plan lane few (suc n) more in omega (arith, here, rest)

seventeen : (f : ℕ → ℕ) (n : ℕ) → over_lanes (λ l. 17 * f l) n ≡ 17 * over_lanes f n
seventeen f zero = refl
seventeen f (suc n) = let rest = seventeen f n in omega (arith, rest)

op_items : (size : ℕ) (op : Op) → FitsSize size op → items_of (Some op) ≤ 17
op_items size (ops.Read e p) t = let few = t.few in omega (arith, few)
op_items size (ops.Write e p) t = let few = t.few in omega (arith, few)
op_items size (ops.Discard e) t = omega arith
op_items size ops.Flush t = omega arith
op_items size ops.Prepare t = omega arith
op_items size ops.Commit t = omega arith

within_at : {A : Type 0} (xs : List A) (n : ℕ) (x : A) → slice_get xs n ≡ Some x → n < length xs
within_at [] n x at = clash None x refl at
within_at (y ∷ xs) zero x at = omega arith
within_at (y ∷ xs) (suc n) x at = let r = within_at xs n x at in omega (arith, r)

module _ (g : Geometry) (asked : Asked) (fit : (lane n : ℕ) (op : Op) → request_of asked lane n ≡ Some op → FitsSize g.block_size op) where
  few_at : (lane n : ℕ) → items_of (request_of asked lane n) ≤ 17
  few_at lane n = by (request_of asked lane n) refl
    where
      by : (o : Option Op) → request_of asked lane n ≡ o → items_of o ≤ 17
      by None is = omega arith
      by (Some op) is = op_items g.block_size op (fit lane n op is)

  most_asked : HasAtMost (plan_of g asked) (count_of asked)
  most_asked lane n op at = within_at (asked.of lane) n op at

  -- from the beginning on so many items may come
  pub items_at_first : (m : Memory) (admitted : ℕ) → items_left (plan_of g asked) (count_of asked) (begun m admitted) ≤ 17 * over_lanes (count_of asked) asked.callers
  items_at_first m admitted =
      let each = over_most (items_of_lane (plan_of g asked) (count_of asked) (begun m admitted)) (λ l. 17 * count_of asked l) asked.callers
      (λ l. let few = few_items (plan_of g asked) l (few_at l) 0 (count_of asked l - 0) in omega (arith, few)) in
      let sum = seventeen (count_of asked) asked.callers in
      omega (arith, each, sum)

module _ {D R : Type 0} (stated : D → Option Geometry) (content : D → Option Content) (moment : D → ℕ) (left : D → ℕ → List (List ℕ) → Type 0) (faults : D → ℕ)
    (g : Geometry) (lanes : ℕ) (allowed : ℕ → ℕ) (table : TableId) (begins : View D → Type 0) (s : Service D R) (k : Serves stated content moment left faults g lanes allowed table begins s) where
  abbrev given : List (Entry Op Answer)
  given = s.server.view.given

  abbrev jobs : List (Held Op)
  jobs = s.server.view.jobs

  abbrev hands : List (Option Hand)
  hands = s.hands.items

  abbrev asked : Asked
  asked = asked_of lanes s.server.view.given s.server.view.jobs

  abbrev begun_at : Session
  begun_at = begun (k.first).memory (k.first).admitted

  -- the session under a plan
  module _ (plan : Plan) (asks : AsksAtLeast g asked plan) where
    abbrev pub st : Session
    st = session_after plan (begun (k.first).memory (k.first).admitted) (k.served).turns

    pub seat : IsSeated (view_under content faults k.first s.core (k.served).turns s.journal.items (k.served).moments plan) given hands
    seat = (k.served).seated plan asks

    pub sound : IsSoundSession plan st
    sound = (seat.session).sound

    pub memory : st.memory ≡ s.core.memory
    memory = (seat.session).memory

    pub lanes_are : plan.lanes ≡ length hands
    lanes_are = asks.callers ∙ sym (k.kept).seats

    pub sizes_are : plan.sizes ≡ s.core.geometry
    sizes_are = asks.sizes ∙ sym k.sizes

    inside_hands : (lane : ℕ) (t : Ticket) → tickets_of hands lane ≡ Some t → lane < plan.lanes
    inside_hands lane t has = elim (cases_lt lane plan.lanes) [
      | inl less ↦ less
      | inr past ↦ clash (tickets_of hands lane) t (ap ticket_in (index_within hands lane None (let e = lanes_are in omega (arith, past, e)))) has
    ]

    -- the actor of a turn makes it
    pub actor_may : (own : Turn) (of : IsTurnOf hands own) → IsActor plan st (actor_for hands own of)
    actor_may (turns.Map t) (lane, has) = (inside_hands lane t has, t, seat.tickets lane ∙ has)
    actor_may turns.Worker of = tt
    actor_may turns.Command of = tt

    pub actor_turn : (own : Turn) (of : IsTurnOf hands own) → turn_of st (actor_for hands own of) ≡ Some own
    actor_turn (turns.Map t) (lane, has) = ap (option_map turns.Map) (seat.tickets lane ∙ has)
    actor_turn turns.Worker of = refl
    actor_turn turns.Command of = refl

    -- the lane of a ticket, of the session as of the hands
    pub same_lane : (t : Ticket) → lane_of st.hand t plan.lanes ≡ lane_with hands t
    same_lane t = ap (λ (f : ℕ → Option Ticket). lane_of f t plan.lanes) (fun_ext seat.tickets) ∙ ap (lane_of (tickets_of hands) t) lanes_are

    -- the request of a ticket that waits, with what was asked
    module _ (t : Ticket) (r : Request) (waits : waiting_of t s.core.memory.requests ≡ Some r) where
      pub there : waiting_of t st.memory.requests ≡ Some r
      there = ap (λ m. waiting_of t m.requests) memory ∙ waits

      abbrev pub l : ℕ
      l = ((sound.seated).lanes t r there).0

      l_has : st.hand l ≡ Some t
      l_has = ((sound.seated).lanes t r there).1

      pub lane_here : lane_with hands t ≡ l
      lane_here = lane_is (tickets_of hands) t l (length hands) (let i = ((sound.seated).each l t l_has).inside in let e = lanes_are in omega (arith, i, e))
          (sym (seat.tickets l) ∙ l_has) (λ other has. (sound.seated).own l other t l_has (seat.tickets other ∙ has))

      seat_of : IsSeat plan st.memory.requests st.number l t
      seat_of = (sound.seated).each l t l_has

      request_is : (seat_of.request) ≡ r
      request_is = one_of (waiting_of t st.memory.requests) seat_of.request r seat_of.waits there

      has_here : tickets_of hands (lane_with hands t) ≡ Some t
      has_here = ap (tickets_of hands) lane_here ∙ sym (seat.tickets l) ∙ l_has

      pub hand_of : HandOf g given jobs hands t r
      hand_of = by (hand_at hands (lane_with hands t)) refl has_here ((k.kept).in_hand (lane_with hands t))
        where
          by : (o : Option Hand) → hand_at hands (lane_with hands t) ≡ o → ticket_in o ≡ Some t → IsInHand (lane_with hands t) (answered_of given (lane_with hands t)) (hand_at hands (lane_with hands t)) (held_of (lane_with hands t) jobs)
              → HandOf g given jobs hands t r
          by None is has kept = clash None t refl has
          by (Some hand) is has kept =
              let h : IsHeld (lane_with hands t) (answered_of given (lane_with hands t)) hand (held_of (lane_with hands t) jobs) = subst (λ o. IsInHand (lane_with hands t) (answered_of given (lane_with hands t)) o (held_of (lane_with hands t) jobs)) is kept in
              let next : plan.request (lane_with hands t) (answered_of given (lane_with hands t)) ≡ Some h.ask = asks.requests (lane_with hands t) (answered_of given (lane_with hands t)) h.ask (asked_next lanes given jobs (lane_with hands t) h.ask h.job) in
              let next_there : plan.request l (st.number l) ≡ Some h.ask =
              ap (plan.request l) (seat.number l ∙ ap (answered_of given) (sym lane_here)) ∙ ap (λ x. plan.request x (answered_of given (lane_with hands t))) (sym lane_here) ∙ next in
              let same : seat_of.asked ≡ h.ask = one_of (plan.request l (st.number l)) seat_of.asked h.ask seat_of.next next_there in
              record {
                hand = hand;
                inside = (let i = seat_of.inside in let e = lanes_are in let f = lane_here in omega (arith, i, e, f));
                here = is;
                held_is = h;
                for_it = subst (λ z. IsFor z h.ask r.op) asks.sizes (subst (λ o. IsFor plan.sizes o r.op) same (subst (λ (q : Request). IsFor plan.sizes seat_of.asked q.op) request_is seat_of.is));
              }

    -- the items that a step tells
    module _ (t : Ticket) (r : Request) (h : HandOf g given jobs hands t r) where
      number_here : st.number (lane_with hands t) ≡ (h.hand).job.number
      number_here = seat.number (lane_with hands t) ∙ sym (h.held_is).number_is

      first_here : first_in (plan.request (lane_with hands t) (st.number (lane_with hands t))) ≡ (h.hand).first
      first_here =
          ap (λ n. first_in (plan.request (lane_with hands t) n)) (seat.number (lane_with hands t))
          ∙ ap first_in (asks.requests (lane_with hands t) (answered_of given (lane_with hands t)) (h.held_is).ask (asked_next lanes given jobs (lane_with hands t) (h.held_is).ask (h.held_is).job))
          ∙ sym (h.held_is).first

      pub wrote_item : (i : ℕ) → item_of plan st (ToldWrote t i) ≡ Some (items.Wrote (h.hand).job.lane (h.hand).job.number ((h.hand).first + i))
      wrote_item i =
          ap (λ x. Some (items.Wrote x (st.number x) (first_in (plan.request x (st.number x)) + i))) (same_lane t)
          ∙ ap (λ b. Some (items.Wrote (lane_with hands t) (st.number (lane_with hands t)) (b + i))) first_here
          ∙ ap (λ n. Some (items.Wrote (lane_with hands t) n ((h.hand).first + i))) number_here
          ∙ ap (λ x. Some (items.Wrote x (h.hand).job.number ((h.hand).first + i))) (sym (h.held_is).lane_is)

      pub got_item : (i : ℕ) → item_of plan st (ToldGot t i) ≡ Some (items.Got (h.hand).job.lane (h.hand).job.number ((h.hand).first + i))
      got_item i =
          ap (λ x. Some (items.Got x (st.number x) (first_in (plan.request x (st.number x)) + i))) (same_lane t)
          ∙ ap (λ b. Some (items.Got (lane_with hands t) (st.number (lane_with hands t)) (b + i))) first_here
          ∙ ap (λ n. Some (items.Got (lane_with hands t) n ((h.hand).first + i))) number_here
          ∙ ap (λ x. Some (items.Got x (h.hand).job.number ((h.hand).first + i))) (sym (h.held_is).lane_is)

      pub answered_item : (op : Op) (outcome : Outcome) → item_of plan st (ToldAnswered t op outcome) ≡ Some (items.Answered (h.hand).job.lane (h.hand).job.number outcome)
      answered_item op outcome =
          ap (λ x. Some (items.Answered x (st.number x) outcome)) (same_lane t)
          ∙ ap (λ n. Some (items.Answered (lane_with hands t) n outcome)) number_here
          ∙ ap (λ x. Some (items.Answered x (h.hand).job.number outcome)) (sym (h.held_is).lane_is)

  abbrev plan_now : Plan
  plan_now = plan_of g (asked_of lanes s.server.view.given s.server.view.jobs)

  pub asks_now : AsksAtLeast g (asked_of lanes s.server.view.given s.server.view.jobs) (plan_of g (asked_of lanes s.server.view.given s.server.view.jobs))
  asks_now = asks_itself g (asked_of lanes s.server.view.given s.server.view.jobs)

  pub sound_memory : MemoryIsSound s.core.geometry s.core.memory
  sound_memory = subst (λ z. MemoryIsSound z s.core.memory) (sym k.sizes) (subst (MemoryIsSound g) (memory plan_now asks_now) (sound plan_now asks_now).memory)

  -- the answered and the job in hand of one caller are what it asked
  pub asked_lane : (lane : ℕ) → count_of asked lane ≡ answered_of given lane + length (held_of lane jobs)
  asked_lane lane =
      length-append (map (λ (x : Entry Op Answer). x.ask) (given_of lane given)) (map (λ (j : Held Op). j.ask) (held_of lane jobs))
      ∙ (let a = map_length (λ (x : Entry Op Answer). x.ask) (given_of lane given) in let b = map_length (λ (j : Held Op). j.ask) (held_of lane jobs) in omega (arith, a, b))

  pub asked_few : over_lanes (count_of asked) lanes ≤ over_lanes allowed lanes
  asked_few = over_most (count_of asked) allowed lanes (k.kept).within

  -- there is room for one more item
  pub room_for_item : (turn : Turned) → IsTurn plan_now (st plan_now asks_now) turn → items_made (item_in plan_now (st plan_now asks_now) turn) ≡ 1
      → length s.journal.items < 17 * over_lanes allowed lanes
  room_for_item turn may one =
      let u = (seat plan_now asks_now).session in
      let b = k.begun in
      let first_sound = beginning_is_sound plan_now (k.first).memory (k.first).admitted b.sound b.idle in
      let fits = journal_fits plan_now (count_of asked) (most_asked g asked (k.kept).fit) u.rise begun_at (k.served).turns first_sound u.may in
      let down = items_go_down plan_now (count_of asked) (st plan_now asks_now) turn (most_asked g asked (k.kept).fit) u.sound may in
      let most = items_at_first g asked (k.kept).fit (k.first).memory (k.first).admitted in
      let few = asked_few in
      let long = ap length u.journal in
      omega (arith, fits, down, most, few, long, one)

  -- ------------------------------------------------------------------------------------------------------------
  -- A step.

  module _ (own : Turn) (tells : Step) (core : View D) (step : IsStep stated content moment left faults s.core own tells core) (of : IsTurnOf hands own) where
    module _ (plan : Plan) (asks : AsksAtLeast g (asked_of lanes s.server.view.given s.server.view.jobs) plan) where
      abbrev turned : Turned
      turned = Steps (actor_for s.hands.items own of) step.reply

      pub call_is : call_of_turn plan (st plan asks) (turn_of (st plan asks) (actor_for s.hands.items own of)) ≡ call_of s.core.geometry s.core.memory (task_of s.core.geometry s.core.memory own)
      call_is = ap (call_of_turn plan (st plan asks)) (actor_turn plan asks own of)
          ∙ ap (λ (z : Geometry). call_of z (st plan asks).memory (task_of z (st plan asks).memory own)) (sizes_are plan asks)
          ∙ ap (λ (m : Memory). call_of s.core.geometry m (task_of s.core.geometry m own)) (memory plan asks)

      pub may : IsTurn plan (st plan asks) (Steps (actor_for s.hands.items own of) step.reply)
      may = (
        actor_may plan asks own of,
        subst (λ o. CanHaveIt plan.sizes o step.reply) (sym call_is)
            (subst (λ z. CanHaveIt z (call_of s.core.geometry s.core.memory (task_of s.core.geometry s.core.memory own)) step.reply) (sym (sizes_are plan asks)) (can_have s.core.geometry _ step.reply (step.made).may)),
      )

      pub item_is : item_in plan (st plan asks) (Steps (actor_for s.hands.items own of) step.reply) ≡ item_of plan (st plan asks) (told_of tells)
      item_is = ap (λ o. item_of_turn plan (st plan asks) o step.reply) (actor_turn plan asks own of)
          ∙ ap (λ (z : Geometry). item_of plan (st plan asks) (device_step z (st plan asks).memory own step.reply).told) (sizes_are plan asks)
          ∙ ap (λ (m : Memory). item_of plan (st plan asks) (device_step s.core.geometry m own step.reply).told) (memory plan asks)
          ∙ ap (item_of plan (st plan asks)) (sym step.told)

      pub after_is : after_turn plan (st plan asks) (Steps (actor_for s.hands.items own of) step.reply) ≡ told_to plan (record (st plan asks) { memory = core.memory }) (told_of tells)
      after_is = ap (λ o. after_turn_of plan (st plan asks) o step.reply) (actor_turn plan asks own of)
          ∙ ap (λ (z : Geometry). told_to plan (record (st plan asks) { memory = (device_step z (st plan asks).memory own step.reply).memory }) (device_step z (st plan asks).memory own step.reply).told) (sizes_are plan asks)
          ∙ ap (λ (m : Memory). told_to plan (record (st plan asks) { memory = (device_step s.core.geometry m own step.reply).memory }) (device_step s.core.geometry m own step.reply).told) (memory plan asks)
          ∙ ap (λ (t : Told). told_to plan (record (st plan asks) { memory = (device_step s.core.geometry s.core.memory own step.reply).memory }) t) (sym step.told)
          ∙ ap (λ (m : Memory). told_to plan (record (st plan asks) { memory = m }) (told_of tells)) (sym step.memory)

    pub waits : IsOfWaiting s.core.geometry s.core.memory (told_of tells)
    waits = subst (IsOfWaiting s.core.geometry s.core.memory) (sym step.told)
        (row_waits s.core.geometry unknown s.core.memory _ _ _ (steps_tell_so s.core.geometry s.core.memory own step.reply unknown sound_memory (can_have s.core.geometry _ step.reply (step.made).may)))

    -- where an item comes, it has room
    item_room : (item : Item) → item_of plan_now (st plan_now asks_now) (told_of tells) ≡ Some item → length s.journal.items < 17 * over_lanes allowed lanes
    item_room item is = room_for_item (turned plan_now asks_now) (may plan_now asks_now) (ap items_made (item_is plan_now asks_now ∙ is))

    notable : (t : Ticket) (r : Request) (h : HandOf g given jobs hands t r) → length s.journal.items < 17 * over_lanes allowed lanes → IsNotable (record s { core = core }) t h.hand
    notable t r h room = record { inside = h.inside; here = h.here; room = (let cap = k.journal_room in omega (arith, room, cap)) }

    valid : IsValid s.core.geometry
    valid = sound_memory.sizes

    block_small : (t : Ticket) (r : Request) (h : HandOf g given jobs hands t r) (i : ℕ) → (extent_of r.op).first + i < s.core.geometry.blocks → (h.hand).first + i < 2 ^ 64
    block_small t r h i inside = let a = (h.held_is).first in let b = asked_first g (h.held_is).ask r.op h.for_it in let few = valid.few in omega (arith, a, b, few, inside)

    pub fits_ask : (t : Ticket) (r : Request) (h : HandOf g given jobs hands t r) → FitsSize g.block_size (h.held_is).ask
    fits_ask t r h = (k.kept).fit (lane_with hands t) (answered_of given (lane_with hands t)) (h.held_is).ask (asked_next lanes given jobs (lane_with hands t) (h.held_is).ask (h.held_is).job)

    holds_job : (t : Ticket) (r : Request) (h : HandOf g given jobs hands t r) → HoldsJob s.server.view (h.hand).job.lane (h.hand).job.number
    holds_job t r h =
        let found = filter_found (λ (j : Held Op). j.lane == lane_with hands t) jobs (held (lane_with hands t) (answered_of given (lane_with hands t)) (h.held_is).ask) [] (h.held_is).job in (
          found.0,
          (h.held_is).ask,
          found.1 ∙ ap (λ n. some (held n (answered_of given (lane_with hands t)) (h.held_is).ask)) (sym (h.held_is).lane_is)
              ∙ ap (λ n. some (held (h.hand).job.lane n (h.held_is).ask)) (sym (h.held_is).number_is),
        )

    -- one more answer has room
    one_left : (t : Ticket) (r : Request) (h : HandOf g given jobs hands t r) → length given < over_lanes allowed lanes
    one_left t r h =
        let all = (k.kept).count in
        let each : (l : ℕ) → answered_of given l ≤ count_of asked l = λ l. let a = asked_lane l in omega (arith, a) in
        let here : answered_of given (lane_with hands t) + 1 ≤ count_of asked (lane_with hands t) = let a = asked_lane (lane_with hands t) in let one : length (held_of (lane_with hands t) jobs) ≡ 1 = ap length (h.held_is).job in omega (arith, a, one) in
        let less = over_less (answered_of given) (count_of asked) lanes (lane_with hands t) (let i = h.inside in let e = (k.kept).seats in omega (arith, i, e)) each here in
        let few = asked_few in
        omega (arith, all, less, few)

    answerable : (t : Ticket) (r : Request) (op : Op) (h : HandOf g given jobs hands t r) → r.op ≡ op → length s.journal.items < 17 * over_lanes allowed lanes → IsAnswerable (record s { core = core }) h.hand op
    answerable t r op h is room = record {
      holds = holds_job t r h;
      room = (let cap = k.calls_room in let few = one_left t r h in let long = ap length (k.kept).entries in let same = map_length entry_of s.calls.items in omega (arith, cap, few, long, same));
      place = (let most = k.total in omega (arith, room, most));
      copies = subst (λ o. HasRoomFor o (h.hand).copies) is (for_room g (h.held_is).ask r.op (h.hand).copies (fits_ask t r h) h.for_it (h.held_is).room);
    }

    -- what was told is of a caller, with room for it
    pub told_has_room : IsOfHand tells (record s { core = core })
    told_has_room = by tells waits (λ item is. item_room item is)
      where
        by : (tells : Step) → IsOfWaiting s.core.geometry s.core.memory (told_of tells) → ((item : Item) → item_of plan_now (st plan_now asks_now) (told_of tells) ≡ Some item → length s.journal.items < 17 * over_lanes allowed lanes)
            → IsOfHand tells (record s { core = core })
        by Idle w room = tt
        by Moved w room = tt
        by (Wrote t i) w room = let h = hand_of plan_now asks_now t w.0 w.1 in (h.hand, notable t w.0 h (room _ (wrote_item plan_now asks_now t w.0 h i)), block_small t w.0 h i w.2)
        by (Got t i) w room = let h = hand_of plan_now asks_now t w.0 w.1 in (h.hand, notable t w.0 h (room _ (got_item plan_now asks_now t w.0 h i)), block_small t w.0 h i w.2)
        by (Answered t op outcome) w room =
            let h = hand_of plan_now asks_now t w.0 w.1 in
            let has = room _ (answered_item plan_now asks_now t w.0 h op outcome) in
            (h.hand, notable t w.0 h has, answerable t w.0 op h w.2 has)
