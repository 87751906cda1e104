-- A caller's request is taken in.
use Rattle.std.proofs.Common.{◌≡◌, ◌≢◌, ℕ, ◌+◌, ◌-◌, ◌^◌, ◌<◌, ◌≤◌, ◌++◌, ◌==◌, List, [], ◌∷◌, length, map, Option, Some, None, arith, refl, sym, ap, ◌∙◌, subst, inl, inr, length-append, eq-eqb, ne_eqb}
use Rattle.std.specs.Prelude.{slice_get, slice_set, vec_capacity}
use Rattle.std.proofs.lemmas.Bool.{cases_eq}
use Rattle.std.proofs.lemmas.List.{append-nil}
use Rattle.atomic_table.specs.Seated.{TableId}
use Rattle.bow_units.specs.declared.sizes.Geometry.{Geometry}
use Rattle.bow_units.specs.declared.requests.Op.{Op}
use Rattle.bow_disk.specs.Disk.{Content, IsCrash, IsShaped}
use Rattle.bow_flat.specs.Flat.{put}
use Rattle.bow_queue.specs.declared.tickets.Ticket.{Ticket}
use Rattle.bow_machine.specs.Calls.{Succeeded}
use Rattle.bow_machine.specs.MemoryIsSound.{IsAdmissible}
use Rattle.bow_machine.specs.Memory.{Memory}
use Rattle.bow_machine.specs.Steps.{extent_of}
use Rattle.bow_machine.proofs.MappedWrites.{put_here, put_there}
use Rattle.bow_core.specs.Views.{View}
use Rattle.bow_history.specs.Ends.{over_lanes}
use Rattle.bow_history.specs.Histories.{session_after}
use Rattle.bow_history.specs.Journal.{Plan}
use Rattle.bow_history.specs.Sessions.{Session, Admits, taken_in, after_turn, IsAdmission, IsFor}
use Rattle.bow_history.proofs.Places.{has_place}
use Rattle.bow_session.specs.Runs.{begun_over}
use Rattle.bow_tags.specs.declared.view.Entry.{Entry}
use Rattle.bow_tags.specs.declared.view.Held.{Held}
use Rattle.bow_tags.specs.declared.view.View.{View as SeatView}
use Rattle.bow_tags.specs.Rule.{job_times}
use Rattle.bow_tags.specs.Seats.{after_take}
use Rattle.bow_tags.specs.Steps.{held, looked, GivenBelow, SpeaksForAll}
use Rattle.bow_receipts.specs.declared.asks.Answer.{Answer}
use Rattle.bow_receipts.specs.declared.hands.Hand.{Hand}
use Rattle.bow_receipts.specs.declared.service.Service.{Service}
use Rattle.bow_receipts.specs.Asking.{Asked, AsksAtLeast, FitsSize, asked_of, blank, given_of, request_of}
use Rattle.bow_receipts.specs.Copies.{HasRoomFor}
use Rattle.bow_receipts.specs.Hands.{IsHeld, IsInHand, hand_at, ticket_in, tickets_of}
use Rattle.bow_receipts.specs.Served.{IsKept, IsFrontOf, IsSeated, IsServed, Serves, answered_of, count_of, held_of, view_under}
use Rattle.bow_receipts.proofs.Lists.{below_one, filter_more, filter_none, filter_other, front_at, index_set_here, index_set_there, more_at, over_more, set_length, speaks_for_all}
use Rattle.bow_receipts.proofs.OpAsks.{blank_twice, first_blank, fits_whole, for_blank, room_blank}
use Rattle.bow_receipts.proofs.Staying.{kept_still, serves_still}
use Rattle.bow_receipts.proofs.Serving.{asked_few, asked_lane, asked_next, asks_now, memory, seat, sound, st}
use Rattle.bow_receipts.proofs.Turns.{cuts_on, did_nothing, fine_on, push, session_on}

module _ {D R : Type 0} (stated : D → Option Geometry) (content : D → Option Content) (moment : D → ℕ) (left : D → ℕ → List (List ℕ) → Type 0) (faults : D → ℕ)
    (shaped : (d : D) (c : Content) → content d ≡ Some c → (z : Geometry) → stated d ≡ Some z → IsShaped z.block_size z.blocks c)
    (only_now : (d : D) (c : Content) → content d ≡ Some c → (t : ℕ) (image : List (List ℕ)) → moment d ≤ t → left d t image → IsCrash c.candidates image)
    (g : Geometry) (lanes : ℕ) (allowed : ℕ → ℕ) (table : TableId) (begins : View D → Type 0) (s : Service D R) (k : Serves stated content moment left faults g lanes allowed table begins s) where
  abbrev given : List (Entry Op Answer)
  given = s.server.view.given

  abbrev jobs : List (Held Op)
  jobs = s.server.view.jobs

  abbrev asked : Asked
  asked = asked_of lanes s.server.view.given s.server.view.jobs

  module _ (lane number : ℕ) (inside : lane < lanes) (may : number < allowed lane) (op : Op)
      (fits : FitsSize s.server.view.size (blank op)) (none : job_times lane s.server.view.jobs ≡ 0) (below : SpeaksForAll s.server.view → GivenBelow s.server.view lane number) where
    pub number_is : number ≡ answered_of given lane
    number_is = below_one given lane number (answered_of given lane) (below (speaks_for_all s.server.view (k.kept).speaks (k.kept).servers)) ((k.kept).once lane)

    no_jobs : held_of lane jobs ≡ []
    no_jobs = filter_none (λ (j : Held Op). j.lane == lane) jobs none

    no_hand : hand_at s.hands.items lane ≡ None
    no_hand = by (hand_at s.hands.items lane) refl ((k.kept).in_hand lane)
      where
        by : (o : Option Hand) → hand_at s.hands.items lane ≡ o → IsInHand lane (answered_of given lane) (hand_at s.hands.items lane) (held_of lane jobs) → hand_at s.hands.items lane ≡ None
        by None is kept = is
        by (Some h) is kept =
            let has : IsHeld lane (answered_of given lane) h (held_of lane jobs) = subst (λ o. IsInHand lane (answered_of given lane) o (held_of lane jobs)) is kept in
            absurd (let e : [] ≡ held lane (answered_of given lane) has.ask ∷ [] = sym no_jobs ∙ has.job in grind arith)

    free : (plan : Plan) (asks : AsksAtLeast g asked plan) → (st stated content moment left faults g lanes allowed table begins s k plan asks).hand lane ≡ None
    free plan asks = (seat stated content moment left faults g lanes allowed table begins s k plan asks).tickets lane ∙ ap ticket_in no_hand

    pub whole : IsAdmissible s.core.geometry op
    whole = fits_whole s.core.geometry s.server.view.size op (ap (λ (z : Geometry). z.block_size) k.sizes ∙ sym (k.kept).size) fits

    whole_g : IsAdmissible g op
    whole_g = subst (λ z. IsAdmissible z op) k.sizes whole

    place_for : (plan : Plan) (asks : AsksAtLeast g asked plan) → length s.core.memory.requests < 16
    place_for plan asks =
        let low = has_place plan (st stated content moment left faults g lanes allowed table begins s k plan asks) lane (sound stated content moment left faults g lanes allowed table begins s k plan asks)
        (let e = asks.callers in omega (arith, e, inside)) (free plan asks) in
        let same : length (st stated content moment left faults g lanes allowed table begins s k plan asks).memory.requests ≡ length s.core.memory.requests = ap (λ (m : Memory). length m.requests) (memory stated content moment left faults g lanes allowed table begins s k plan asks) in
        let few = k.few in
        let e = asks.callers in
        omega (arith, low, same, few, e)

    pub place : length s.core.memory.requests < s.core.places
    place = let low = place_for _ (asks_now stated content moment left faults g lanes allowed table begins s k) in let e = k.places in omega (arith, low, e)

    pub serials : s.core.admitted < 2 ^ 64 - 1
    serials = let e = k.admitted in let b = (k.begun).serials in let few = asked_few stated content moment left faults g lanes allowed table begins s k in let total = k.total in omega (arith, e, b, few, total)

    module _ (ticket : Ticket) (serial : ticket.serial ≡ s.core.admitted) (hand : Hand) (ticket_is : hand.ticket ≡ ticket) (job_lane : hand.job.lane ≡ lane) (job_number : hand.job.number ≡ number)
        (first : hand.first ≡ (extent_of op).first) (room : HasRoomFor op hand.copies) (new : Service D R)
        (view_is : new.server.view ≡ after_take s.server.view lane number (blank op)) (table_is : new.server.table ≡ s.server.table)
        (core_is : new.core ≡ record s.core { memory = taken_in s.core.memory ticket op; admitted = s.core.admitted + 1 })
        (hands_are : new.hands.items ≡ slice_set s.hands.items lane (Some hand)) (journal_is : new.journal ≡ s.journal) (calls_are : new.calls ≡ s.calls) where
      abbrev next_jobs : List (Held Op)
      next_jobs = s.server.view.jobs ++ held lane number (blank op) ∷ []

      abbrev next : Asked
      next = asked_of lanes s.server.view.given (s.server.view.jobs ++ held lane number (blank op) ∷ [])

      abbrev core : View D
      core = record s.core { memory = taken_in s.core.memory ticket op; admitted = s.core.admitted + 1 }

      jobs_here : held_of lane next_jobs ≡ held lane (answered_of given lane) (blank op) ∷ []
      jobs_here = filter_more (λ (j : Held Op). j.lane == lane) jobs (held lane number (blank op)) (eq-eqb lane lane refl) ∙ ap (λ xs. xs ++ held lane number (blank op) ∷ []) no_jobs
          ∙ ap (λ n. held lane n (blank op) ∷ []) number_is

      jobs_there : (l : ℕ) → l ≢ lane → held_of l next_jobs ≡ held_of l jobs
      jobs_there l apart = filter_other (λ (j : Held Op). j.lane == l) jobs (held lane number (blank op)) (ne_eqb lane l (λ e. apart (sym e)))

      asked_here : next.of lane ≡ asked.of lane ++ blank op ∷ []
      asked_here = ap (λ (xs : List (Held Op)). map (λ x. x.ask) (given_of lane given) ++ map (λ j. j.ask) xs) jobs_here
          ∙ ap (λ xs. xs ++ blank op ∷ []) (sym (append-nil (map (λ (x : Entry Op Answer). x.ask) (given_of lane given)))
          ∙ ap (λ (xs : List (Held Op)). map (λ x. x.ask) (given_of lane given) ++ map (λ j. j.ask) xs) (sym no_jobs))

      asked_there : (l : ℕ) → l ≢ lane → next.of l ≡ asked.of l
      asked_there l apart = ap (λ (xs : List (Held Op)). map (λ x. x.ask) (given_of l given) ++ map (λ j. j.ask) xs) (jobs_there l apart)

      more_asked : (l n : ℕ) (o : Op) → request_of asked l n ≡ Some o → request_of next l n ≡ Some o
      more_asked l n o at = elim (cases_eq l lane) [
        | inl is ↦ subst (λ z. request_of next z n ≡ Some o) (sym is) (ap (λ (xs : List Op). slice_get xs n) asked_here ∙ front_at (asked.of lane) (blank op ∷ []) o n (subst (λ z. request_of asked z n ≡ Some o) is at))
        | inr apart ↦ ap (λ (xs : List Op). slice_get xs n) (asked_there l apart) ∙ at
      ]

      old_asks : (plan : Plan) → AsksAtLeast g next plan → AsksAtLeast g asked plan
      old_asks plan asks = record { sizes = asks.sizes; callers = asks.callers; requests = λ l n o at. asks.requests l n o (more_asked l n o at); section = asks.section }

      module _ (plan : Plan) (asks : AsksAtLeast g next plan) where
        abbrev state : Session
        state = st stated content moment left faults g lanes allowed table begins s k plan (old_asks plan asks)

        old : IsSeated (view_under content faults k.first s.core (k.served).turns s.journal.items (k.served).moments plan) given s.hands.items
        old = seat stated content moment left faults g lanes allowed table begins s k plan (old_asks plan asks)

        admission : IsAdmission plan state lane ticket op
        admission = record {
          inside = (let e = asks.callers in omega (arith, e, inside));
          free = free plan (old_asks plan asks);
          asked = blank op;
          next = ap (plan.request lane) (old.number lane) ∙ asks.requests lane (answered_of given lane) (blank op) (asked_next lanes given next_jobs lane (blank op) jobs_here);
          is = subst (λ z. IsFor z (blank op) op) (sym asks.sizes) (for_blank g op whole_g);
          serial = serial ∙ sym (old.session).admitted;
          whole = subst (λ z. IsAdmissible z op) (sym asks.sizes) whole_g;
          place = (let low = place_for plan (old_asks plan asks) in let same : length state.memory.requests ≡ length s.core.memory.requests = ap (λ (m : Memory). length m.requests) (old.session).memory in omega (arith, low, same));
          present = λ other o found. (let a = asks.section lane (state.number lane) in omega (arith, a));
        }

        few_calls : s.core.calls ≤ 2 ^ 64 - 1
        few_calls = let e = (old.session).calls in omega (arith, e)

        did : Rattle.bow_receipts.proofs.Turns.TurnDid stated content moment left faults g None Succeeded s.core core
        did = did_nothing stated content moment left faults shaped g s.core core k.stated_is few_calls refl refl

        now : session_after plan (begun_over k.first) ((k.served).turns ++ Admits lane ticket op ∷ []) ≡ after_turn plan state (Admits lane ticket op)
        now = push plan (begun_over k.first) (k.served).turns (Admits lane ticket op)

        pub seated_now : IsSeated (view_under content faults k.first core ((k.served).turns ++ Admits lane ticket op ∷ []) s.journal.items (k.served).moments plan) given (slice_set s.hands.items lane (Some hand))
        seated_now = record {
          session = session_on stated content moment left faults g k.first s.core core (k.served).turns s.journal.items s.journal.items (k.served).moments (k.served).moments plan (Admits lane ticket op) asks.sizes admission did old.session
              refl (ap (λ (m : Memory). taken_in m ticket op) (sym (old.session).memory)) (ap (λ n. n + 1) (sym (old.session).admitted)) (sym (append-nil s.journal.items)) (sym (append-nil (k.served).moments));
          tickets = λ l. ap (λ (z : Session). z.hand l) now ∙ tickets_now l;
          number = λ l. ap (λ (z : Session). z.number l) now ∙ old.number l;
          bytes = λ i x at. subst (λ (z : Session). IsFrontOf x.answer.bytes (z.kept x.lane x.number)) (sym now) (old.bytes i x at);
        }
          where
            tickets_now : (l : ℕ) → put state.hand lane (Some ticket) l ≡ tickets_of (slice_set s.hands.items lane (Some hand)) l
            tickets_now l = elim (cases_eq l lane) [
              | inl is ↦ put_here state.hand lane (Some ticket) l is ∙ ap Some (sym ticket_is)
                  ∙ sym (ap ticket_in (ap (hand_at (slice_set s.hands.items lane (Some hand))) is ∙ index_set_here s.hands.items lane None (Some hand) (let e = (k.kept).seats in omega (arith, e, inside))))
              | inr apart ↦ put_there state.hand lane (Some ticket) l apart ∙ old.tickets l ∙ sym (ap ticket_in (index_set_there s.hands.items lane l None (Some hand) apart))
            ]

        pub cuts_now : (c : Content) → Rattle.bow_history.specs.DiskCuts.HasCuts content moment left (k.first).disk s.core.disk plan (begun_over k.first) (k.served).turns (Rattle.bow_history.specs.DiskCuts.disk_of c)
            → Rattle.bow_history.specs.DiskCuts.HasCuts content moment left (k.first).disk core.disk plan (begun_over k.first) ((k.served).turns ++ Admits lane ticket op ∷ []) (Rattle.bow_history.specs.DiskCuts.disk_of c)
        cuts_now c has = cuts_on stated content moment left faults g k.first s.core core (k.served).turns s.journal.items s.journal.items (k.served).moments (k.served).moments plan (Admits lane ticket op) asks.sizes admission did only_now c has

        pub fine_now : Rattle.bow_session.specs.Leads.StaysBelow (faults (k.first).disk) (faults core.disk) → Rattle.bow_history.specs.Cuts.NoneFails plan (begun_over k.first) ((k.served).turns ++ Admits lane ticket op ∷ [])
        fine_now = fine_on stated content moment left faults g k.first s.core core (k.served).turns s.journal.items s.journal.items (k.served).moments (k.served).moments plan (Admits lane ticket op) asks.sizes admission did k.later ((k.served).fine plan (old_asks plan asks))

      served_now : IsServed content moment left faults g lanes k.first core given next_jobs (slice_set s.hands.items lane (Some hand)) s.journal.items
      served_now = record {
        turns = (k.served).turns ++ Admits lane ticket op ∷ [];
        moments = (k.served).moments;
        seated = λ plan asks. seated_now plan asks;
        cuts = λ plan asks c is. cuts_now plan asks c ((k.served).cuts plan (old_asks plan asks) c is);
        fine = λ plan asks. fine_now plan asks;
      }

      in_hand_now : (l : ℕ) → IsInHand l (answered_of given l) (hand_at (slice_set s.hands.items lane (Some hand)) l) (held_of l next_jobs)
      in_hand_now l = elim (cases_eq l lane) [
        | inl is ↦ subst (λ z. IsInHand z (answered_of given z) (hand_at (slice_set s.hands.items lane (Some hand)) z) (held_of z next_jobs)) (sym is)
            (subst (λ o. IsInHand lane (answered_of given lane) o (held_of lane next_jobs)) (sym (index_set_here s.hands.items lane None (Some hand) (let e = (k.kept).seats in omega (arith, e, inside)))) (record {
              ask = blank op;
              job = jobs_here;
              lane_is = job_lane;
              number_is = job_number ∙ number_is;
              first = first ∙ sym (first_blank op);
              plain = blank_twice op;
              room = room_blank op hand.copies room;
            }))
        | inr apart ↦ subst (λ o. IsInHand l (answered_of given l) o (held_of l next_jobs)) (sym (index_set_there s.hands.items lane l None (Some hand) apart))
            (subst (λ js. IsInHand l (answered_of given l) (hand_at s.hands.items l) js) (sym (jobs_there l apart)) ((k.kept).in_hand l))
      ]

      fit_now : (l n : ℕ) (o : Op) → request_of next l n ≡ Some o → FitsSize g.block_size o
      fit_now l n o at = elim (cases_eq l lane) [
        | inl is ↦ elim (more_at (asked.of lane) (blank op) o n (ap (λ (xs : List Op). slice_get xs n) (sym asked_here) ∙ subst (λ z. request_of next z n ≡ Some o) is at)) [
          | inl before ↦ (k.kept).fit lane n o before
          | inr last ↦ subst (FitsSize g.block_size) (sym last.1) (subst (λ z. FitsSize z (blank op)) (k.kept).size fits)
        ]
        | inr apart ↦ (k.kept).fit l n o (ap (λ (xs : List Op). slice_get xs n) (sym (asked_there l apart)) ∙ at)
      ]

      count_now : count_of next lane ≡ count_of asked lane + 1
      count_now = ap length asked_here ∙ length-append (asked.of lane) (blank op ∷ [])

      within_now : (l : ℕ) → count_of next l ≤ allowed l
      within_now l = elim (cases_eq l lane) [
        | inl is ↦ subst (λ z. count_of next z ≤ allowed z) (sym is)
            (let more = count_now in let all = asked_lane stated content moment left faults g lanes allowed table begins s k lane in let gone = ap length no_jobs in let e = number_is in omega (arith, more, all, gone, e, may))
        | inr apart ↦ let e = ap length (asked_there l apart) in let w = (k.kept).within l in omega (arith, e, w)
      ]

      kept_now : IsKept g lanes allowed (after_take s.server.view lane number (blank op)) (slice_set s.hands.items lane (Some hand)) s.journal.items s.calls.items
      kept_now = record {
        seats = set_length s.hands.items lane (Some hand) ∙ (k.kept).seats;
        speaks = (k.kept).speaks;
        servers = (k.kept).servers;
        size = (k.kept).size;
        in_hand = in_hand_now;
        once = (k.kept).once;
        numbers = (k.kept).numbers;
        fit = fit_now;
        within = within_now;
        blocks = (k.kept).blocks;
        entries = (k.kept).entries;
        of_journal = (k.kept).of_journal;
        count = (k.kept).count;
      }

      -- and what lies under the lock serves its callers still
      pub serves_admitted : Serves stated content moment left faults g lanes allowed table begins new
      serves_admitted = serves_still stated content moment left faults g lanes allowed table begins s k new (ap (λ (v : View D). v.geometry) core_is) (ap (λ (v : View D). stated v.disk) core_is ∙ k.stated_is) (ap (λ (v : View D). v.places) core_is)
          (let e = ap (λ (v : View D). faults v.disk) core_is in omega (arith, e)) table_is (ap (λ j. vec_capacity j) journal_is) (ap (λ c. vec_capacity c) calls_are)
          (subst (λ v. IsKept g lanes allowed v new.hands.items new.journal.items new.calls.items) (sym view_is)
          (subst (λ h. IsKept g lanes allowed (after_take s.server.view lane number (blank op)) h new.journal.items new.calls.items) (sym hands_are)
          (subst (λ j. IsKept g lanes allowed (after_take s.server.view lane number (blank op)) (slice_set s.hands.items lane (Some hand)) j.items new.calls.items) (sym journal_is)
          (subst (λ c. IsKept g lanes allowed (after_take s.server.view lane number (blank op)) (slice_set s.hands.items lane (Some hand)) s.journal.items c.items) (sym calls_are) kept_now))))
          (subst (λ v. IsServed content moment left faults g lanes k.first v new.server.view.given new.server.view.jobs new.hands.items new.journal.items) (sym core_is)
          (subst (λ (v : SeatView Op Answer). IsServed content moment left faults g lanes k.first core v.given v.jobs new.hands.items new.journal.items) (sym view_is)
          (subst (λ h. IsServed content moment left faults g lanes k.first core given next_jobs h new.journal.items) (sym hands_are)
          (subst (λ j. IsServed content moment left faults g lanes k.first core given next_jobs (slice_set s.hands.items lane (Some hand)) j.items) (sym journal_is) served_now))))
          (ap (λ (v : View D). v.admitted) core_is ∙ (
          let old = k.admitted in
          let more = over_more (count_of asked) (count_of next) lanes lane inside count_now (λ l apart. ap length (asked_there l apart)) in
          let same : over_lanes (count_of (asked_of lanes new.server.view.given new.server.view.jobs)) lanes ≡ over_lanes (count_of next) lanes = ap (λ (v : SeatView Op Answer). over_lanes (count_of (asked_of lanes v.given v.jobs)) lanes) view_is in
          omega (arith, old, more, same)))

  -- and so it does where the seat has looked alone
  pub serves_looked : (lane word : ℕ) (new : Service D R) → new.core ≡ s.core → new.server.view ≡ looked lane word s.server.view → new.server.table ≡ s.server.table → new.hands ≡ s.hands → new.journal ≡ s.journal → new.calls ≡ s.calls
      → Serves stated content moment left faults g lanes allowed table begins new
  serves_looked lane word new core_is view_is table_is hands_are journal_is calls_are =
      serves_still stated content moment left faults g lanes allowed table begins s k new (ap (λ (v : View D). v.geometry) core_is) (ap (λ (v : View D). stated v.disk) core_is ∙ k.stated_is) (ap (λ (v : View D). v.places) core_is)
      (let e = ap (λ (v : View D). faults v.disk) core_is in omega (arith, e)) table_is (ap (λ j. vec_capacity j) journal_is) (ap (λ c. vec_capacity c) calls_are)
      (subst (λ v. IsKept g lanes allowed v new.hands.items new.journal.items new.calls.items) (sym view_is)
      (subst (λ h. IsKept g lanes allowed (looked lane word s.server.view) h.items new.journal.items new.calls.items) (sym hands_are)
      (subst (λ j. IsKept g lanes allowed (looked lane word s.server.view) s.hands.items j.items new.calls.items) (sym journal_is)
      (subst (λ c. IsKept g lanes allowed (looked lane word s.server.view) s.hands.items s.journal.items c.items) (sym calls_are)
      (kept_still g lanes allowed s.server.view s.hands.items s.journal.items s.calls.items k.kept (s.server.view.looks + 1) lane word s.journal.items (k.kept).of_journal)))))
      (subst (λ v. IsServed content moment left faults g lanes k.first v new.server.view.given new.server.view.jobs new.hands.items new.journal.items) (sym core_is)
      (subst (λ (v : SeatView Op Answer). IsServed content moment left faults g lanes k.first s.core v.given v.jobs new.hands.items new.journal.items) (sym view_is)
      (subst (λ h. IsServed content moment left faults g lanes k.first s.core given jobs h.items new.journal.items) (sym hands_are)
      (subst (λ j. IsServed content moment left faults g lanes k.first s.core given jobs s.hands.items j.items) (sym journal_is) k.served))))
      (ap (λ (v : View D). v.admitted) core_is ∙ k.admitted ∙ ap (λ (v : SeatView Op Answer). (k.first).admitted + over_lanes (count_of (asked_of lanes v.given v.jobs)) lanes) (sym view_is))
