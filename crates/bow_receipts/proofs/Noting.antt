-- What lies under the lock once a step is noted.
use Rattle.std.proofs.Common.{◌≡◌, ◌≢◌, ℕ, suc, ◌+◌, ◌*◌, ◌<◌, ◌≤◌, ◌++◌, ◌==◌, not, List, [], ◌∷◌, length, map, Option, Some, None, arith, refl, sym, ap, ◌∙◌, subst, inl, inr, length-append, eq-eqb, ne_eqb}
use Rattle.std.specs.Prelude.{slice_get, slice_set, vec_capacity}
use Rattle.std.proofs.lemmas.Bool.{cases_eq, eqb-true}
use Rattle.std.proofs.lemmas.List.{append-nil}
use Rattle.atomic_table.specs.Seated.{TableId}
use Rattle.bow_units.specs.declared.sizes.Geometry.{Geometry}
use Rattle.bow_units.specs.declared.requests.Op.{Op}
use Rattle.bow_units.specs.declared.requests.Outcome.{Outcome}
use Rattle.bow_disk.specs.Disk.{Content, IsCrash, IsShaped}
use Rattle.bow_flat.specs.Flat.{put}
use Rattle.bow_queue.specs.declared.tickets.Ticket.{Ticket}
use Rattle.bow_machine.specs.Requests.{Request}
use Rattle.bow_machine.specs.Steps.{Told, extent_of, payload_of}
use Rattle.bow_machine.specs.Steps.{Idle as ToldIdle, Moved as ToldMoved, Wrote as ToldWrote, Got as ToldGot, Answered as ToldAnswered}
use Rattle.bow_machine.proofs.MappedWrites.{put_here, put_there}
use Rattle.bow_core.specs.declared.turns.Step.{Step}
use Rattle.bow_core.specs.declared.turns.Step.TheVariants.{Idle, Moved, Wrote, Got, Answered}
use Rattle.bow_machine.specs.declared.turns.Turn.{Turn}
use Rattle.bow_core.specs.Steps.{IsStep}
use Rattle.bow_core.specs.Turns.{told_of}
use Rattle.bow_core.specs.Views.{View}
use Rattle.bow_history.specs.declared.items.Item.{Item}
use Rattle.bow_history.specs.declared.items.Item.TheVariants as items
use Rattle.bow_history.specs.Histories.{session_after}
use Rattle.bow_history.specs.Journal.{Plan}
use Rattle.bow_history.specs.Promises.{items as listed, more}
use Rattle.bow_history.specs.Sessions.{Session, Steps, answered_in, told_to, after_turn, item_of, item_in, call_in, IsFor}
use Rattle.bow_session.specs.Runs.{begun_over}
use Rattle.bow_session.proofs.Running.{on_device}
use Rattle.bow_tags.specs.declared.view.Entry.{Entry}
use Rattle.bow_tags.specs.declared.view.Held.{Held}
use Rattle.bow_tags.specs.declared.view.View.{View as SeatView}
use Rattle.bow_tags.specs.Rule.{In}
use Rattle.bow_tags.specs.Steps.{after_answer, entry, held, others}
use Rattle.bow_receipts.specs.declared.asks.Answer.{Answer}
use Rattle.bow_receipts.specs.declared.hands.Hand.{Hand}
use Rattle.bow_receipts.specs.declared.service.Service.{Service}
use Rattle.bow_receipts.specs.Asking.{Asked, AsksAtLeast, asked_of, blank, given_of}
use Rattle.bow_receipts.specs.Calls.{AreCalls}
use Rattle.bow_receipts.specs.Copies.{blocks_read, read_by}
use Rattle.bow_receipts.specs.Hands.{IsInHand, hand_at, lane_with, ticket_in, tickets_of}
use Rattle.bow_receipts.specs.Noted.{IsAnswered, IsNoted, IsStill, IsTurnOf, answer_to, call_to}
use Rattle.bow_receipts.specs.Served.{IsKept, HaveBlocksRead, IsFrontOf, IsSeated, IsServed, Serves, answered_of, count_of, entry_of, held_of, view_under}
use Rattle.bow_receipts.proofs.Calls.{answered_more, got_more, wrote_more}
use Rattle.bow_receipts.proofs.Lists.{Below, at_within, filter_at, in_filter, in_single, below_next, below_other, filter_in, filter_more, filter_other, filter_out, index_set_here, index_set_there, map_more, more_at, over_equal, over_more, set_length}
use Rattle.bow_receipts.proofs.OpAsks.{for_ask, for_blocks, read_front}
use Rattle.bow_receipts.proofs.Staying.{kept_still, serves_still}
use Rattle.bow_receipts.proofs.Serving.{HandOf, IsOfWaiting, actor_for, after_is, answered_item, asks_now, fits_ask, got_item, hand_of, item_is, may, memory, same_lane, seat, sound, st, waits, wrote_item}
use Rattle.bow_receipts.proofs.Turns.{cuts_on, did_step, fine_on, push, session_on}

-- one moment for each item
listed_more : (item : Option Item) (calls : ℕ) → map (λ x. calls) (listed item) ≡ more item calls
listed_more None calls = refl
listed_more (Some item) calls = refl

told_memory : (plan : Plan) (s : Session) (told : Told) → (told_to plan s told).memory ≡ s.memory
told_memory plan s ToldIdle = refl
told_memory plan s ToldMoved = refl
told_memory plan s (ToldWrote t i) = refl
told_memory plan s (ToldGot t i) = refl
told_memory plan s (ToldAnswered t op outcome) = refl

told_admitted : (plan : Plan) (s : Session) (told : Told) → (told_to plan s told).admitted ≡ s.admitted
told_admitted plan s ToldIdle = refl
told_admitted plan s ToldMoved = refl
told_admitted plan s (ToldWrote t i) = refl
told_admitted plan s (ToldGot t i) = refl
told_admitted plan s (ToldAnswered t op outcome) = refl

-- the same was asked
pub same_asks : (g : Geometry) (asked next : Asked) (plan : Plan) → next.callers ≡ asked.callers → ((lane : ℕ) → next.of lane ≡ asked.of lane) → AsksAtLeast g next plan → AsksAtLeast g asked plan
same_asks g asked next plan callers same asks = record {
  sizes = asks.sizes;
  callers = asks.callers ∙ callers;
  requests = λ lane n op at. asks.requests lane n op (ap (λ (l : List Op). slice_get l n) (same lane) ∙ at);
  section = asks.section;
}

module _ {D R : Type 0} (stated : D → Option Geometry) (content : D → Option Content) (moment : D → ℕ) (left : D → ℕ → List (List ℕ) → Type 0) (faults : D → ℕ)
    (shaped : (d : D) (c : Content) → content d ≡ Some c → (z : Geometry) → stated d ≡ Some z → IsShaped z.block_size z.blocks c)
    (only_now : (d : D) (c : Content) → content d ≡ Some c → (t : ℕ) (image : List (List ℕ)) → moment d ≤ t → left d t image → IsCrash c.candidates image)
    (g : Geometry) (lanes : ℕ) (allowed : ℕ → ℕ) (table : TableId) (begins : View D → Type 0) (s : Service D R) (k : Serves stated content moment left faults g lanes allowed table begins s)
    (own : Turn) (tells : Step) (core : View D) (step : IsStep stated content moment left faults s.core own tells core) (of : IsTurnOf s.hands.items own) where
  abbrev given : List (Entry Op Answer)
  given = s.server.view.given

  abbrev jobs : List (Held Op)
  jobs = s.server.view.jobs

  abbrev asked : Asked
  asked = asked_of lanes s.server.view.given s.server.view.jobs

  abbrev state : (plan : Plan) → AsksAtLeast g (asked_of lanes s.server.view.given s.server.view.jobs) plan → Session
  state plan asks = st stated content moment left faults g lanes allowed table begins s k plan asks

  -- the session after what was told
  abbrev after : (plan : Plan) → AsksAtLeast g (asked_of lanes s.server.view.given s.server.view.jobs) plan → Session
  after plan asks = told_to plan (record (st stated content moment left faults g lanes allowed table begins s k plan asks) { memory = core.memory }) (told_of tells)

  -- It is served still, where what is kept is what follows from what was told.
  pub served_on : (next : List (Entry Op Answer)) (left_jobs : List (Held Op)) (hands : List (Option Hand)) (extra journal : List Item)
      → ((lane : ℕ) → (asked_of lanes next left_jobs).of lane ≡ asked.of lane) → journal ≡ s.journal.items ++ extra
      → ((plan : Plan) (asks : AsksAtLeast g asked plan) → listed (item_of plan (state plan asks) (told_of tells)) ≡ extra)
      → ((plan : Plan) (asks : AsksAtLeast g asked plan) (lane : ℕ) → (after plan asks).hand lane ≡ tickets_of hands lane)
      → ((plan : Plan) (asks : AsksAtLeast g asked plan) (lane : ℕ) → (after plan asks).number lane ≡ answered_of next lane)
      → ((plan : Plan) (asks : AsksAtLeast g asked plan) (i : ℕ) (x : Entry Op Answer) → slice_get next i ≡ Some x → IsFrontOf x.answer.bytes ((after plan asks).kept x.lane x.number))
      → IsServed content moment left faults g lanes k.first core next left_jobs hands journal
  served_on next left_jobs hands extra journal same goes extra_is tickets numbers bytes =
      let old_asks : (plan : Plan) → AsksAtLeast g (asked_of lanes next left_jobs) plan → AsksAtLeast g asked plan = λ plan asks. same_asks g asked (asked_of lanes next left_jobs) plan refl same asks in
      record {
        turns = (k.served).turns ++ Steps (actor_for s.hands.items own of) step.reply ∷ [];
        moments = (k.served).moments ++ map (λ x. core.calls) extra;
        seated = λ plan asks. seated_on plan (old_asks plan asks);
        cuts = λ plan asks c is. cuts_on stated content moment left faults g k.first s.core core (k.served).turns s.journal.items journal (k.served).moments ((k.served).moments ++ map (λ x. core.calls) extra) plan (Steps (actor_for s.hands.items own of) step.reply) (old_asks plan asks).sizes (may_turn plan (old_asks plan asks)) (did plan (old_asks plan asks)) only_now c ((k.served).cuts plan (old_asks plan asks) c is);
        fine = λ plan asks. fine_on stated content moment left faults g k.first s.core core (k.served).turns s.journal.items journal (k.served).moments ((k.served).moments ++ map (λ x. core.calls) extra) plan (Steps (actor_for s.hands.items own of) step.reply) (old_asks plan asks).sizes (may_turn plan (old_asks plan asks)) (did plan (old_asks plan asks)) k.later ((k.served).fine plan (old_asks plan asks));
      }
    where
      may_turn : (plan : Plan) (asks : AsksAtLeast g asked plan) → Rattle.bow_history.specs.Sessions.IsTurn plan (state plan asks) (Steps (actor_for s.hands.items own of) step.reply)
      may_turn plan asks = may stated content moment left faults g lanes allowed table begins s k own tells core step of plan asks

      did : (plan : Plan) (asks : AsksAtLeast g asked plan) → Rattle.bow_receipts.proofs.Turns.TurnDid stated content moment left faults g (call_in plan (state plan asks) (Steps (actor_for s.hands.items own of) step.reply)) step.reply s.core core
      did plan asks =
          let call = Rattle.bow_receipts.proofs.Serving.call_is stated content moment left faults g lanes allowed table begins s k own tells core step of plan asks in
          let on = subst (λ z. Rattle.bow_machine.specs.MemoryLaws.IsOnDevice z (call_in plan (state plan asks) (Steps (actor_for s.hands.items own of) step.reply))) asks.sizes (on_device plan (state plan asks) _ (sound stated content moment left faults g lanes allowed table begins s k plan asks)) in
          did_step stated content moment left faults shaped g (call_in plan (state plan asks) (Steps (actor_for s.hands.items own of) step.reply)) step.reply s.core core k.stated_is on
          (subst (λ o. Rattle.bow_core.specs.Ports.Makes stated content moment left faults g o step.reply s.core.disk core.disk s.core.calls core.calls) (sym call) (subst (λ z. Rattle.bow_core.specs.Ports.Makes stated content moment left faults z (Rattle.bow_core.specs.Steps.call_in s.core own) step.reply s.core.disk core.disk s.core.calls core.calls) k.sizes step.made))

      seated_on : (plan : Plan) (asks : AsksAtLeast g asked plan) → IsSeated (view_under content faults k.first core ((k.served).turns ++ Steps (actor_for s.hands.items own of) step.reply ∷ []) journal ((k.served).moments ++ map (λ x. core.calls) extra) plan) next hands
      seated_on plan asks =
          let old = seat stated content moment left faults g lanes allowed table begins s k plan asks in
          let is : after_turn plan (state plan asks) (Steps (actor_for s.hands.items own of) step.reply) ≡ after plan asks = after_is stated content moment left faults g lanes allowed table begins s k own tells core step of plan asks in
          let now : session_after plan (begun_over k.first) ((k.served).turns ++ Steps (actor_for s.hands.items own of) step.reply ∷ []) ≡ after plan asks = push plan (begun_over k.first) (k.served).turns (Steps (actor_for s.hands.items own of) step.reply) ∙ is in
          let item = item_is stated content moment left faults g lanes allowed table begins s k own tells core step of plan asks in
          let told = ap listed item ∙ extra_is plan asks in
          let base : Session = record (state plan asks) { memory = core.memory } in
          record {
            session = session_on stated content moment left faults g k.first s.core core (k.served).turns s.journal.items journal (k.served).moments ((k.served).moments ++ map (λ x. core.calls) extra) plan
                (Steps (actor_for s.hands.items own of) step.reply) asks.sizes (may_turn plan asks) (did plan asks) old.session step.geometry
                (sym (ap (λ (z : Session). z.memory) is ∙ told_memory plan base (told_of tells)))
                (step.admitted ∙ sym (old.session).admitted ∙ sym (ap (λ (z : Session). z.admitted) is ∙ told_admitted plan base (told_of tells)))
                (goes ∙ ap (λ xs. s.journal.items ++ xs) (sym told))
                (ap (λ (xs : List Item). (k.served).moments ++ map (λ x. core.calls) xs) (sym told) ∙ ap (λ xs. (k.served).moments ++ xs) (listed_more (item_in plan (state plan asks) (Steps (actor_for s.hands.items own of) step.reply)) core.calls));
            tickets = λ lane. ap (λ (z : Session). z.hand lane) now ∙ tickets plan asks lane;
            number = λ lane. ap (λ (z : Session). z.number lane) now ∙ numbers plan asks lane;
            bytes = λ i x at. subst (λ (z : Session). IsFrontOf x.answer.bytes (z.kept x.lane x.number)) (sym now) (bytes plan asks i x at);
          }

  module _ (new : Service D R) where
    -- What lies under the lock serves its callers still, over the device after the step.
    pub record Goes (extra : List Item) : Type 0 where
      pub core_is : new.core ≡ core
      pub table_is : new.server.table ≡ s.server.table
      pub same : (lane : ℕ) → (asked_of lanes new.server.view.given new.server.view.jobs).of lane ≡ asked.of lane
      pub goes : new.journal.items ≡ s.journal.items ++ extra
      pub extra_is : (plan : Plan) (asks : AsksAtLeast g asked plan) → listed (item_of plan (state plan asks) (told_of tells)) ≡ extra
      pub tickets : (plan : Plan) (asks : AsksAtLeast g asked plan) (lane : ℕ) → (after plan asks).hand lane ≡ tickets_of new.hands.items lane
      pub numbers : (plan : Plan) (asks : AsksAtLeast g asked plan) (lane : ℕ) → (after plan asks).number lane ≡ answered_of new.server.view.given lane
      pub bytes : (plan : Plan) (asks : AsksAtLeast g asked plan) (i : ℕ) (x : Entry Op Answer) → slice_get new.server.view.given i ≡ Some x → IsFrontOf x.answer.bytes ((after plan asks).kept x.lane x.number)
      pub kept : IsKept g lanes allowed new.server.view new.hands.items new.journal.items new.calls.items
      pub journal_room : vec_capacity new.journal ≡ vec_capacity s.journal
      pub calls_room : vec_capacity new.calls ≡ vec_capacity s.calls

    pub serves_on : (extra : List Item) → Goes extra → Serves stated content moment left faults g lanes allowed table begins new
    serves_on extra n =
        serves_still stated content moment left faults g lanes allowed table begins s k new (ap (λ (v : View D). v.geometry) n.core_is ∙ step.geometry) (ap (λ (v : View D). stated v.disk) n.core_is ∙ (step.made).sizes ∙ ap Some k.sizes) (ap (λ (v : View D). v.places) n.core_is ∙ step.places)
        (let e = ap (λ (v : View D). faults v.disk) n.core_is in let up = (step.made).later in omega (arith, e, up)) n.table_is n.journal_room n.calls_room n.kept
        (subst (λ (v : View D). IsServed content moment left faults g lanes k.first v new.server.view.given new.server.view.jobs new.hands.items new.journal.items) (sym n.core_is)
        (served_on new.server.view.given new.server.view.jobs new.hands.items extra new.journal.items n.same n.goes n.extra_is n.tickets n.numbers n.bytes))
        (ap (λ (v : View D). v.admitted) n.core_is ∙ step.admitted ∙ k.admitted
        ∙ ap (λ n. (k.first).admitted + n) (sym (over_equal (count_of asked) (count_of (asked_of lanes new.server.view.given new.server.view.jobs)) lanes (λ l. ap length (n.same l)))))

    -- a step that answers nothing
    still_goes : (extra : List Item) → IsStill (record s { core = core }) new → new.journal.items ≡ s.journal.items ++ extra
        → ((plan : Plan) (asks : AsksAtLeast g asked plan) → listed (item_of plan (state plan asks) (told_of tells)) ≡ extra)
        → ((plan : Plan) (s : Session) → (told_to plan s (told_of tells)).hand ≡ s.hand) → ((plan : Plan) (s : Session) → (told_to plan s (told_of tells)).number ≡ s.number) → ((plan : Plan) (s : Session) → (told_to plan s (told_of tells)).kept ≡ s.kept)
        → AreCalls new.journal.items s.server.view.given → Goes extra
    still_goes extra n goes extra_is hand number kept calls =
        let view : new.server.view ≡ s.server.view = ap (λ z. z.view) n.server in
        let base : (plan : Plan) (asks : AsksAtLeast g asked plan) → Session = λ plan asks. record (state plan asks) { memory = core.memory } in
        record {
          core_is = n.core;
          table_is = ap (λ z. z.table) n.server;
          same = λ lane. ap (λ (v : SeatView Op Answer). (asked_of lanes v.given v.jobs).of lane) view;
          goes = goes;
          extra_is = extra_is;
          tickets = λ plan asks lane. ap (λ (f : ℕ → Option Ticket). f lane) (hand plan (base plan asks)) ∙ (seat stated content moment left faults g lanes allowed table begins s k plan asks).tickets lane ∙ ap (λ (h : List (Option Hand)). tickets_of h lane) (sym n.hands);
          numbers = λ plan asks lane. ap (λ (f : ℕ → ℕ). f lane) (number plan (base plan asks)) ∙ (seat stated content moment left faults g lanes allowed table begins s k plan asks).number lane ∙ ap (λ (v : SeatView Op Answer). answered_of v.given lane) (sym view);
          bytes = λ plan asks i x at. subst (λ (f : ℕ → ℕ → List ℕ). IsFrontOf x.answer.bytes (f x.lane x.number)) (sym (kept plan (base plan asks)))
              ((seat stated content moment left faults g lanes allowed table begins s k plan asks).bytes i x (ap (λ (v : SeatView Op Answer). slice_get v.given i) (sym view) ∙ at));
          kept = subst (λ v. IsKept g lanes allowed v new.hands.items new.journal.items new.calls.items) (sym view) (
              subst (λ h. IsKept g lanes allowed s.server.view h new.journal.items new.calls.items) (sym n.hands) (
              subst (λ c. IsKept g lanes allowed s.server.view s.hands.items new.journal.items c) (sym n.calls)
              (kept_still g lanes allowed s.server.view s.hands.items s.journal.items s.calls.items k.kept s.server.view.looks s.server.view.at s.server.view.found new.journal.items calls)));
          journal_room = n.journal_room;
          calls_room = n.calls_room;
        }

    -- a step that answers the request in hand of a caller
    module _ (t : Ticket) (op : Op) (outcome : Outcome) (told : told_of tells ≡ ToldAnswered t op outcome) (r : Request) (h : HandOf g given jobs s.hands.items t r) (op_is : r.op ≡ op)
        (few : blocks_read op outcome ≤ (extent_of op).count)
        (n : IsAnswered (record s { core = core }) t h.hand op outcome new) where
      abbrev lane : ℕ
      lane = lane_with s.hands.items t

      abbrev ask : Op
      ask = (h.held_is).ask

      abbrev reply : Answer
      reply = answer_to (record s { core = core }) op outcome

      abbrev last : Entry Op Answer
      last = entry (lane_with s.hands.items t) (answered_of s.server.view.given (lane_with s.hands.items t)) (h.held_is).ask (answer_to (record s { core = core }) op outcome)

      for_op : IsFor g (h.held_is).ask op
      for_op = subst (IsFor g (h.held_is).ask) op_is h.for_it

      job_lane : (l : ℕ) (k : ℕ) (a : Op) → held {P = Op} (h.hand).job.lane (h.hand).job.number a ≡ held lane (answered_of given lane) a
      job_lane l k a = ap (λ x. held {P = Op} x (h.hand).job.number a) (h.held_is).lane_is ∙ ap (λ x. held {P = Op} lane x a) (h.held_is).number_is

      same_ask : n.ask ≡ (h.held_is).ask
      same_ask =
          let there : In (held lane (answered_of given lane) n.ask) jobs = subst (λ x. In x jobs) (job_lane 0 0 n.ask) n.job in
          let kept : In (held lane (answered_of given lane) n.ask) (held_of lane jobs) = in_filter (λ (j : Held Op). j.lane == lane) jobs (held lane (answered_of given lane) n.ask) there (eq-eqb lane lane refl) in
          let one = in_single (held lane (answered_of given lane) n.ask) (held lane (answered_of given lane) (h.held_is).ask) (subst (λ (xs : List (Held Op)). In (held lane (answered_of given lane) n.ask) xs) (h.held_is).job kept) in
          ap (λ (x : Held Op). x.ask) one

      view_is : new.server.view ≡ after_answer s.server.view lane (answered_of given lane) (h.held_is).ask reply
      view_is = n.view ∙ ap (λ x. after_answer s.server.view x (h.hand).job.number n.ask reply) (h.held_is).lane_is
          ∙ ap (λ x. after_answer s.server.view lane x n.ask reply) (h.held_is).number_is ∙ ap (λ a. after_answer s.server.view lane (answered_of given lane) a reply) same_ask

      inside : lane < lanes
      inside = let i = h.inside in let e = (k.kept).seats in omega (arith, i, e)

      -- of this caller and of the others
      given_here : given_of lane (given ++ last ∷ []) ≡ given_of lane given ++ last ∷ []
      given_here = filter_more (λ (x : Entry Op Answer). x.lane == lane) given last (eq-eqb lane lane refl)

      given_there : (l : ℕ) → l ≢ lane → given_of l (given ++ last ∷ []) ≡ given_of l given
      given_there l apart = filter_other (λ (x : Entry Op Answer). x.lane == l) given last (ne_eqb lane l (λ e. apart (sym e)))

      held_here : held_of lane (others lane jobs) ≡ []
      held_here = filter_out (λ (j : Held Op). j.lane == lane) (λ j. not (j.lane == lane)) jobs (λ j is. ap not is)

      held_there : (l : ℕ) → l ≢ lane → held_of l (others lane jobs) ≡ held_of l jobs
      held_there l apart = filter_in (λ (j : Held Op). j.lane == l) (λ j. not (j.lane == lane)) jobs
          (λ j is. ap not (ne_eqb j.lane lane (λ e. apart (sym (eqb-true j.lane l is) ∙ e))))

      same_lanes : (l : ℕ) → (asked_of lanes (given ++ last ∷ []) (others lane jobs)).of l ≡ asked.of l
      same_lanes l = elim (cases_eq l lane) [
        | inl is ↦ subst (λ z. (asked_of lanes (given ++ last ∷ []) (others lane jobs)).of z ≡ asked.of z) (sym is) here
        | inr apart ↦ ap (λ (xs : List (Entry Op Answer)). map (λ x. x.ask) xs ++ map (λ j. j.ask) (held_of l (others lane jobs))) (given_there l apart)
            ∙ ap (λ (xs : List (Held Op)). map (λ x. x.ask) (given_of l given) ++ map (λ j. j.ask) xs) (held_there l apart)
      ]
        where
          here : (asked_of lanes (given ++ last ∷ []) (others lane jobs)).of lane ≡ asked.of lane
          here = ap (λ (xs : List (Entry Op Answer)). map (λ x. x.ask) xs ++ map (λ j. j.ask) (held_of lane (others lane jobs))) given_here
              ∙ ap (λ (xs : List (Held Op)). map (λ x. x.ask) (given_of lane given ++ last ∷ []) ++ map (λ j. j.ask) xs) held_here
              ∙ append-nil (map (λ x. x.ask) (given_of lane given ++ last ∷ []))
              ∙ map_more (λ (x : Entry Op Answer). x.ask) (given_of lane given) last
              ∙ ap (λ (xs : List (Held Op)). map (λ x. x.ask) (given_of lane given) ++ map (λ j. j.ask) xs) (sym (h.held_is).job)

      count_here : answered_of (given ++ last ∷ []) lane ≡ suc (answered_of given lane)
      count_here = ap length given_here ∙ length-append (given_of lane given) (last ∷ []) ∙ omega arith

      count_there : (l : ℕ) → l ≢ lane → answered_of (given ++ last ∷ []) l ≡ answered_of given l
      count_there l apart = ap length (given_there l apart)

      -- each answer is of a number below how many are answered
      number_below : (i : ℕ) (x : Entry Op Answer) → slice_get given i ≡ Some x → x.number < answered_of given x.lane
      number_below i x at =
          let m = filter_at (λ (y : Entry Op Answer). y.lane == x.lane) given i x at (eq-eqb x.lane x.lane refl) in
          let is = (k.kept).numbers x.lane m.0 x m.1 in
          let within = at_within (given_of x.lane given) m.0 x m.1 in
          omega (arith, is, within)

      module _ (plan : Plan) (asks : AsksAtLeast g (asked_of lanes s.server.view.given s.server.view.jobs) plan) where
        abbrev base : Session
        base = record (st stated content moment left faults g lanes allowed table begins s k plan asks) { memory = core.memory }

        old : IsSeated (view_under content faults k.first s.core (k.served).turns s.journal.items (k.served).moments plan) given s.hands.items
        old = seat stated content moment left faults g lanes allowed table begins s k plan asks

        now_is : after plan asks ≡ answered_in base lane op
        now_is = ap (told_to plan base) told ∙ ap (λ l. answered_in base l op) (same_lane stated content moment left faults g lanes allowed table begins s k plan asks t)

        tickets_now : (l : ℕ) → (after plan asks).hand l ≡ tickets_of (slice_set s.hands.items lane None) l
        tickets_now l = ap (λ (z : Session). z.hand l) now_is ∙ elim (cases_eq l lane) [
          | inl is ↦ put_here base.hand lane None l is ∙ sym (ap ticket_in (ap (hand_at (slice_set s.hands.items lane None)) is ∙ index_set_here s.hands.items lane None None h.inside))
          | inr apart ↦ put_there base.hand lane None l apart ∙ old.tickets l ∙ sym (ap ticket_in (index_set_there s.hands.items lane l None None apart))
        ]

        numbers_now : (l : ℕ) → (after plan asks).number l ≡ answered_of (given ++ last ∷ []) l
        numbers_now l = ap (λ (z : Session). z.number l) now_is ∙ elim (cases_eq l lane) [
          | inl is ↦ put_here base.number lane (suc (base.number lane)) l is ∙ ap suc (old.number lane) ∙ sym count_here ∙ ap (answered_of (given ++ last ∷ [])) (sym is)
          | inr apart ↦ put_there base.number lane (suc (base.number lane)) l apart ∙ old.number l ∙ sym (count_there l apart)
        ]

        kept_last : (answered_in base lane op).kept lane (answered_of given lane) ≡ payload_of op
        kept_last = ap (λ (f : ℕ → List ℕ). f (answered_of given lane)) (put_here base.kept lane (put (base.kept lane) (base.number lane) (payload_of op)) lane refl)
            ∙ put_here (base.kept lane) (base.number lane) (payload_of op) (answered_of given lane) (sym (old.number lane))

        kept_other : (i : ℕ) (x : Entry Op Answer) → slice_get given i ≡ Some x → (answered_in base lane op).kept x.lane x.number ≡ base.kept x.lane x.number
        kept_other i x at = elim (cases_eq x.lane lane) [
          | inl is ↦ ap (λ (f : ℕ → List ℕ). f x.number) (put_here base.kept lane (put (base.kept lane) (base.number lane) (payload_of op)) x.lane is)
              ∙ put_there (base.kept lane) (base.number lane) (payload_of op) x.number (λ e. let low = number_below i x at in let same = old.number lane in let z = ap (answered_of given) is in omega (arith, low, e, same, z))
              ∙ ap (λ l. base.kept l x.number) (sym is)
          | inr apart ↦ ap (λ (f : ℕ → List ℕ). f x.number) (put_there base.kept lane (put (base.kept lane) (base.number lane) (payload_of op)) x.lane apart)
        ]

        bytes_now : (i : ℕ) (x : Entry Op Answer) → slice_get (given ++ last ∷ []) i ≡ Some x → IsFrontOf x.answer.bytes ((after plan asks).kept x.lane x.number)
        bytes_now i x at = subst (λ (z : Session). IsFrontOf x.answer.bytes (z.kept x.lane x.number)) (sym now_is) (elim (more_at given last x i at) [
          | inl before ↦ subst (IsFrontOf x.answer.bytes) (sym (kept_other i x before)) (old.bytes i x before)
          | inr new_one ↦ subst (λ (y : Entry Op Answer). IsFrontOf y.answer.bytes ((answered_in base lane op).kept y.lane y.number)) (sym new_one.1)
              (subst (IsFrontOf (read_by core.geometry.block_size op outcome)) (sym kept_last) (read_front core.geometry.block_size op outcome))
        ])

      hands_now : (l : ℕ) → IsInHand l (answered_of (given ++ last ∷ []) l) (hand_at (slice_set s.hands.items lane None) l) (held_of l (others lane jobs))
      hands_now l = elim (cases_eq l lane) [
        | inl is ↦ subst (λ z. IsInHand z (answered_of (given ++ last ∷ []) z) (hand_at (slice_set s.hands.items lane None) z) (held_of z (others lane jobs))) (sym is)
            (subst (λ o. IsInHand lane (answered_of (given ++ last ∷ []) lane) o (held_of lane (others lane jobs))) (sym (index_set_here s.hands.items lane None None h.inside)) held_here)
        | inr apart ↦ subst (λ m. IsInHand l m (hand_at (slice_set s.hands.items lane None) l) (held_of l (others lane jobs))) (sym (count_there l apart))
            (subst (λ o. IsInHand l (answered_of given l) o (held_of l (others lane jobs))) (sym (index_set_there s.hands.items lane l None None apart))
            (subst (λ js. IsInHand l (answered_of given l) (hand_at s.hands.items l) js) (sym (held_there l apart)) ((k.kept).in_hand l)))
      ]

      once_now : (l : ℕ) → Below (given ++ last ∷ []) l (answered_of (given ++ last ∷ []) l)
      once_now l = elim (cases_eq l lane) [
        | inl is ↦ subst (λ z. Below (given ++ last ∷ []) z (answered_of (given ++ last ∷ []) z)) (sym is)
            (subst (Below (given ++ last ∷ []) lane) (sym count_here) (below_next given last (answered_of given lane) refl ((k.kept).once lane)))
        | inr apart ↦ subst (Below (given ++ last ∷ []) l) (sym (count_there l apart)) (below_other given last l (answered_of given l) (λ e. apart (sym e)) ((k.kept).once l))
      ]

      numbered_now : (l m : ℕ) (x : Entry Op Answer) → slice_get (given_of l (given ++ last ∷ [])) m ≡ Some x → x.number ≡ m
      numbered_now l m x at = elim (cases_eq l lane) [
        | inl is ↦ elim (more_at (given_of lane given) last x m (subst (λ (xs : List (Entry Op Answer)). slice_get xs m ≡ Some x) given_here (subst (λ z. slice_get (given_of z (given ++ last ∷ [])) m ≡ Some x) is at))) [
          | inl before ↦ (k.kept).numbers lane m x before
          | inr new_one ↦ ap (λ (y : Entry Op Answer). y.number) new_one.1 ∙ sym new_one.0
        ]
        | inr apart ↦ (k.kept).numbers l m x (subst (λ (xs : List (Entry Op Answer)). slice_get xs m ≡ Some x) (given_there l apart) at)
      ]

      blocks_now : HaveBlocksRead g.block_size (given ++ last ∷ [])
      blocks_now i x at = elim (more_at given last x i at) [
        | inl before ↦ (k.kept).blocks i x before
        | inr new_one ↦ subst (λ (y : Entry Op Answer). length y.answer.bytes ≡ blocks_read y.ask y.answer.outcome * g.block_size) (sym new_one.1)
            (ap (λ (z : Geometry). length (read_by z.block_size op outcome)) (step.geometry ∙ k.sizes)
            ∙ for_blocks g (h.held_is).ask op outcome (fits_ask stated content moment left faults g lanes allowed table begins s k own tells core step of t r h) for_op few)
      ]

      entry_now : entry_of (call_to (record s { core = core }) h.hand op outcome) ≡ last
      entry_now =
          ap (λ x. entry x (h.hand).job.number (blank op) reply) (h.held_is).lane_is ∙ ap (λ x. entry lane x (blank op) reply) (h.held_is).number_is
          ∙ ap (λ a. entry lane (answered_of given lane) a reply) (for_ask g (h.held_is).ask op (fits_ask stated content moment left faults g lanes allowed table begins s k own tells core step of t r h) for_op ∙ (h.held_is).plain)

      item_now : items.Answered (h.hand).job.lane (h.hand).job.number outcome ≡ items.Answered lane (answered_of given lane) outcome
      item_now = ap (λ x. items.Answered x (h.hand).job.number outcome) (h.held_is).lane_is ∙ ap (λ x. items.Answered lane x outcome) (h.held_is).number_is

      kept_now : IsKept g lanes allowed (after_answer s.server.view lane (answered_of given lane) (h.held_is).ask reply) (slice_set s.hands.items lane None) new.journal.items new.calls.items
      kept_now = record {
        seats = set_length s.hands.items lane None ∙ (k.kept).seats;
        speaks = (k.kept).speaks;
        servers = (k.kept).servers;
        size = (k.kept).size;
        in_hand = hands_now;
        once = once_now;
        numbers = numbered_now;
        fit = λ l m o at. (k.kept).fit l m o (ap (λ (xs : List Op). slice_get xs m) (sym (same_lanes l)) ∙ at);
        within = λ l. (let e = ap length (same_lanes l) in let w = (k.kept).within l in omega (arith, e, w));
        blocks = blocks_now;
        entries = ap (λ (xs : List (Entry Op Answer)). xs ++ last ∷ []) (k.kept).entries ∙ ap (λ y. map entry_of s.calls.items ++ y ∷ []) (sym entry_now)
            ∙ sym (map_more entry_of s.calls.items (call_to (record s { core = core }) h.hand op outcome)) ∙ ap (map entry_of) (sym n.calls);
        of_journal = subst (λ (xs : List Item). AreCalls xs (given ++ last ∷ [])) (sym (n.journal ∙ ap (λ i. s.journal.items ++ i ∷ []) item_now)) (answered_more 0 s.journal.items given last (k.kept).of_journal (omega arith));
        count = length-append given (last ∷ []) ∙ (let all = (k.kept).count in let one = over_more (answered_of given) (answered_of (given ++ last ∷ [])) lanes lane inside (count_here ∙ omega arith) count_there in omega (arith, all, one));
      }

      answered_goes : Goes (items.Answered (h.hand).job.lane (h.hand).job.number outcome ∷ [])
      answered_goes = record {
        core_is = n.core;
        table_is = n.table;
        same = λ l. ap (λ (v : SeatView Op Answer). (asked_of lanes v.given v.jobs).of l) view_is ∙ same_lanes l;
        goes = n.journal;
        extra_is = λ plan asks. ap (λ (z : Told). listed (item_of plan (state plan asks) z)) told ∙ ap listed (answered_item stated content moment left faults g lanes allowed table begins s k plan asks t r h op outcome);
        tickets = λ plan asks l. tickets_now plan asks l ∙ ap (λ (hs : List (Option Hand)). tickets_of hs l) (sym n.hands);
        numbers = λ plan asks l. numbers_now plan asks l ∙ ap (λ (v : SeatView Op Answer). answered_of v.given l) (sym view_is);
        bytes = λ plan asks i x at. bytes_now plan asks i x (ap (λ (v : SeatView Op Answer). slice_get v.given i) (sym view_is) ∙ at);
        kept = subst (λ v. IsKept g lanes allowed v new.hands.items new.journal.items new.calls.items) (sym view_is) (subst (λ hs. IsKept g lanes allowed (after_answer s.server.view lane (answered_of given lane) (h.held_is).ask reply) hs new.journal.items new.calls.items) (sym n.hands) kept_now);
        journal_room = n.journal_room;
        calls_room = n.calls_room;
      }

    -- What lies under the lock serves its callers still.
    pub serves_after : IsNoted tells (record s { core = core }) new → Serves stated content moment left faults g lanes allowed table begins new
    serves_after noted = by tells refl (waits stated content moment left faults g lanes allowed table begins s k own tells core step of) noted
      where
        by : (z : Step) → tells ≡ z → IsOfWaiting s.core.geometry s.core.memory (told_of z) → IsNoted z (record s { core = core }) new → Serves stated content moment left faults g lanes allowed table begins new
        by Idle is w noted =
            let e : told_of tells ≡ ToldIdle = ap told_of is in
            serves_on [] (still_goes [] noted.0 (noted.1 ∙ sym (append-nil s.journal.items)) (λ plan asks. ap (λ z. listed (item_of plan (state plan asks) z)) e)
            (λ p q. ap (λ z. (told_to p q z).hand) e) (λ p q. ap (λ z. (told_to p q z).number) e) (λ p q. ap (λ z. (told_to p q z).kept) e)
            (subst (λ (xs : List Item). AreCalls xs s.server.view.given) (sym noted.1) (k.kept).of_journal))
        by Moved is w noted =
            let e : told_of tells ≡ ToldMoved = ap told_of is in
            serves_on [] (still_goes [] noted.0 (noted.1 ∙ sym (append-nil s.journal.items)) (λ plan asks. ap (λ z. listed (item_of plan (state plan asks) z)) e)
            (λ p q. ap (λ z. (told_to p q z).hand) e) (λ p q. ap (λ z. (told_to p q z).number) e) (λ p q. ap (λ z. (told_to p q z).kept) e)
            (subst (λ (xs : List Item). AreCalls xs s.server.view.given) (sym noted.1) (k.kept).of_journal))
        by (Wrote t i) is w noted =
            let e : told_of tells ≡ ToldWrote t i = ap told_of is in
            let h = hand_of stated content moment left faults g lanes allowed table begins s k _ (asks_now stated content moment left faults g lanes allowed table begins s k) t w.0 w.1 in
            let goes = noted.1 h.hand h.here in
            serves_on _ (still_goes _ noted.0 goes (λ plan asks. ap (λ z. listed (item_of plan (state plan asks) z)) e ∙ ap listed (wrote_item stated content moment left faults g lanes allowed table begins s k plan asks t w.0 h i))
            (λ p q. ap (λ z. (told_to p q z).hand) e) (λ p q. ap (λ z. (told_to p q z).number) e) (λ p q. ap (λ z. (told_to p q z).kept) e)
            (subst (λ (xs : List Item). AreCalls xs s.server.view.given) (sym goes) (wrote_more 0 s.journal.items s.server.view.given _ _ _ (k.kept).of_journal)))
        by (Got t i) is w noted =
            let e : told_of tells ≡ ToldGot t i = ap told_of is in
            let h = hand_of stated content moment left faults g lanes allowed table begins s k _ (asks_now stated content moment left faults g lanes allowed table begins s k) t w.0 w.1 in
            let goes = noted.1 h.hand h.here in
            serves_on _ (still_goes _ noted.0 goes (λ plan asks. ap (λ z. listed (item_of plan (state plan asks) z)) e ∙ ap listed (got_item stated content moment left faults g lanes allowed table begins s k plan asks t w.0 h i))
            (λ p q. ap (λ z. (told_to p q z).hand) e) (λ p q. ap (λ z. (told_to p q z).number) e) (λ p q. ap (λ z. (told_to p q z).kept) e)
            (subst (λ (xs : List Item). AreCalls xs s.server.view.given) (sym goes) (got_more 0 s.journal.items s.server.view.given _ _ _ (k.kept).of_journal)))
        by (Answered t op outcome) is w noted =
            let h = hand_of stated content moment left faults g lanes allowed table begins s k _ (asks_now stated content moment left faults g lanes allowed table begins s k) t w.0 w.1 in
            serves_on _ (answered_goes t op outcome (ap told_of is) w.0 h w.2 w.3 (noted h.hand h.here))
