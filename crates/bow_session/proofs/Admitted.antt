-- A lane's next request is taken in: one turn of the session.
use Rattle.std.proofs.Common.{◌≡◌, ◌≢◌, ℕ, zero, suc, ◌+◌, ◌<◌, ◌≤◌, ◌++◌, ◌&&◌, ◌||◌, nat_le, nat_lt, Bool, true, false, not, List, [], ◌∷◌, length, map, Option, Some, None, is_none, arith, refl, sym, ap, ◌∙◌, subst, inl, inr, ◌^◌}
use Rattle.std.specs.Prelude.{get_or, slice_get, slice_set, take}
use Rattle.std.specs.List.{sum_by, list_all}
use Rattle.std.specs.Option.{option_map, option_map_or}
use Rattle.std.proofs.lemmas.Option.{slice_get_within, slice_get_read}
use Rattle.std.proofs.lemmas.Bool.{cases_eq, cases_lt, and_parts, ltb-true, false≢true}
use Rattle.std.proofs.lemmas.List.Sums.{sum_by-cons}
use mathlib.Core.Path.{fun_ext}
use Rattle.bow_units.specs.declared.sizes.Geometry.{Geometry}
use Rattle.bow_units.specs.declared.requests.Op.{Op}
use Rattle.bow_units.specs.declared.requests.Op.TheVariants as ops
use Rattle.bow_flat.specs.Flat.{put}
use Rattle.bow_queue.specs.declared.tickets.Ticket.{Ticket}
use Rattle.bow_machine.specs.Memory.{Memory}
use Rattle.bow_machine.specs.MemoryIsSound.{IsAdmissible}
use Rattle.bow_machine.specs.Steps.{extent_of}
use Rattle.bow_machine.proofs.MappedWrites.{put_here, put_there}
use Rattle.bow_core.specs.Views.{View}
use Rattle.bow_script.specs.declared.scripts.Line.{Line}
use Rattle.bow_history.specs.declared.items.Actor.TheVariants.{Lane as LaneActor}
use Rattle.bow_history.specs.Journal.{Plan}
use Rattle.bow_history.specs.Sessions.{Session, Turned, Admits, taken_in, after_turn, IsAdmission, IsFor}
use Rattle.bow_history.specs.Ready.{is_from, is_lane_ready, is_actor_ready}
use Rattle.bow_history.specs.SoundSessions.{IsSoundSession}
use Rattle.bow_history.specs.Ends.{items_left}
use Rattle.bow_history.proofs.Progress.{from_member}
use Rattle.bow_session.specs.declared.seats.Asked.{Asked}
use Rattle.bow_session.specs.declared.seats.Hand.{Hand}
use Rattle.bow_session.specs.declared.seats.Seat.{Seat}
use Rattle.bow_session.specs.Requests.{request_of, section_lines, lane_lines, requests, lanes_of, plan_of, requests_in}
use Rattle.std.proofs.lemmas.List.Folds.{list_all-append}
use Rattle.bow_session.proofs.Lists.{take-here}
use Rattle.bow_session.specs.Buffers.{HasBuffers, IsAskable, IsKeptFor, buffer_kept, lent_to, with_buffer, without_lent}
use Rattle.bow_session.proofs.Filled.{lend_fits, lent_for, made_for, made_whole}
use Rattle.bow_session.specs.Seats.{lent_with, section_in, section_with, is_none_or_from, is_from_there, lane_in, ticket_in, AreNext, IsNext, AreLeft, IsHeld, IsSeatFit}
use Rattle.bow_session.specs.declared.desks.Desk.{Desk}
use Rattle.bow_session.specs.declared.records.Records.{Records}
use Rattle.bow_session.specs.Sessions.{Lane, lane_at, seated, plan_in, state_in}
use Rattle.bow_session.specs.Desks.{AreFit, to_come, Fits, run_of}
use Rattle.bow_session.specs.Turns.{StepsBy}
use Rattle.bow_disk.specs.Disk.{Content}
use Rattle.std.proofs.lemmas.List.{append-nil, take_all}
use Rattle.bow_session.proofs.Plans.{sections_rise, at_most}
use Rattle.bow_session.proofs.Changed.{set_here, set_there, set_length}
use Rattle.bow_session.proofs.Laws.{has_place, turns_keep_sound, items_go_down}
use Rattle.bow_session.proofs.Told.{lane_found, lane_same}

abbrev numbers_in : List Lane → ℕ → ℕ
numbers_in lanes lane = length ((lane_at lanes lane).answered)

abbrev hands_in : List Lane → ℕ → Option Ticket
hands_in lanes lane = (lane_at lanes lane).hand

abbrev buffers_in : Plan → List Lane → ℕ → ℕ → List ℕ
buffers_in plan lanes lane n = buffer_kept (plan.request lane n) (slice_get ((lane_at lanes lane).answered) n)

-- a lane that the script does not have has no lines
pub no_lines : (script : List (List (List Line))) (lane : ℕ) → lanes_of script ≤ lane → lane_lines script lane ≡ []
no_lines [] lane past = refl
no_lines (section ∷ sections) lane past =
    ap (λ (l : List Line). l ++ lane_lines sections lane) (none section lane (omega (arith, past))) ∙ no_lines sections lane (omega (arith, past))
  where
    none : (section : List (List Line)) (lane : ℕ) → length section ≤ lane → section_lines section lane ≡ []
    none [] lane past = refl
    none (x ∷ xs) zero past = absurd (omega (arith, past))
    none (x ∷ xs) (suc lane) past = none xs lane (omega (arith, past))

pub inside_lanes : (g : Geometry) (script : List (List (List Line))) (lane n : ℕ) (op : Op) → (plan_of g script).request lane n ≡ Some op → lane < lanes_of script
inside_lanes g script lane n op next = elim (cases_lt lane (lanes_of script)) [
  | inl inside ↦ inside
  | inr past ↦ absurd (let none : requests g.block_size script lane n ≡ None = ap (λ (l : List Line). option_map (request_of g.block_size) (slice_get l n)) (no_lines script lane past) in let clash : None ≡ Some op = sym none ∙ next in grind (arith, clash))
]

sum_set : (f : Seat → ℕ) (xs : List Seat) (i : ℕ) (x y : Seat) → slice_get xs i ≡ Some x → sum_by f (slice_set xs i y) + f x ≡ sum_by f xs + f y
sum_set f [] i x y here = absurd (grind (arith, here))
sum_set f (z ∷ xs) zero x y here = let same : z ≡ x = cc here in omega (arith, ap f same, sum_by-cons f z xs, sum_by-cons f y xs)
sum_set f (z ∷ xs) (suc i) x y here = omega (arith, sum_set f xs i x y here, sum_by-cons f z xs, sum_by-cons f z (slice_set xs i y))

-- a lane that is ready is one of the script's
pub lane_below : (g : Geometry) (script : List (List (List Line))) (st : Session) (lane : ℕ) → is_actor_ready (plan_of g script) st (LaneActor lane) ≡ true → lane < lanes_of script
lane_below g script st lane ready = ltb-true lane (lanes_of script) (and_parts _ _ ready).0

-- the op that the device gets is of the same blocks
pub asked_first : (g : Geometry) (wanted op : Op) → IsFor g wanted op → (extent_of op).first ≡ (extent_of wanted).first
asked_first g (ops.Read e p) (ops.Read x q) is = ap (λ y. y.first) is.0
asked_first g (ops.Read e p) (ops.Write x q) is = absurd is
asked_first g (ops.Read e p) (ops.Discard x) is = absurd is
asked_first g (ops.Read e p) ops.Flush is = absurd is
asked_first g (ops.Read e p) ops.Prepare is = absurd is
asked_first g (ops.Read e p) ops.Commit is = absurd is
asked_first g (ops.Write e p) op is = ap (λ o. (extent_of o).first) is
asked_first g (ops.Discard e) op is = ap (λ o. (extent_of o).first) is
asked_first g ops.Flush op is = ap (λ o. (extent_of o).first) is
asked_first g ops.Prepare op is = ap (λ o. (extent_of o).first) is
asked_first g ops.Commit op is = ap (λ o. (extent_of o).first) is

module _ (g : Geometry) (script : List (List (List Line))) (m : Memory) (admitted : ℕ) (seats : List Seat) (lane : ℕ) (seat : Seat)
    (sound : IsSoundSession (plan_of g script) (seated (plan_of g script) m admitted (map lane_in seats)))
    (here : slice_get seats lane ≡ Some seat) (ready : is_actor_ready (plan_of g script) (seated (plan_of g script) m admitted (map lane_in seats)) (LaneActor lane) ≡ true)
    (free : (seated (plan_of g script) m admitted (map lane_in seats)).hand lane ≡ None) where
  abbrev plan : Plan
  plan = plan_of g script

  abbrev st : Session
  st = seated (plan_of g script) m admitted (map lane_in seats)

  pub inside : lane < lanes_of script
  inside = ltb-true lane (lanes_of script) (and_parts _ _ ready).0

  lane_is : lane_at (map lane_in seats) lane ≡ lane_in seat
  lane_is = lane_found seats lane seat here

  lane_ready : is_lane_ready plan st lane None ≡ true
  lane_ready = subst (λ o. is_lane_ready plan st lane o ≡ true) free (and_parts _ _ ready).1

  pub no_hand : seat.hand ≡ None
  no_hand = by seat.hand refl (sym (ap (λ (l : Lane). l.hand) lane_is) ∙ free)
    where
      by : (o : Option Hand) → seat.hand ≡ o → ticket_in o ≡ None → seat.hand ≡ None
      by None is none = is
      by (Some h) is none = absurd (grind (arith, none))

  number_is : st.number lane ≡ length seat.answered.items
  number_is = ap (λ (l : Lane). length l.answered) lane_is

  pub has_room : lanes_of script ≤ 16 → length m.requests < 16
  has_room few = let low = has_place plan st lane sound inside free in omega (arith, low, few)

  module _ (counts : ℕ → ℕ) (fit : AreFit plan counts seats) where
    left : AreNext plan lane (length seat.answered.items) seat.pending.items
    left = subst (λ o. AreLeft plan lane (length seat.answered.items) o seat.pending.items) no_hand (fit lane seat here).left

    -- there is a next request
    pub not_empty : seat.pending.items ≢ []
    not_empty none =
        let gone : plan.request lane (length seat.answered.items) ≡ None = subst (λ ps. AreNext plan lane (length seat.answered.items) ps) none left in
        let some : not (is_none (plan.request lane (length ((lane_at (map lane_in seats) lane).answered)))) ≡ true = (and_parts _ _ lane_ready).0 in
        false≢true (sym (ap (λ o. not (is_none o)) (ap (plan.request lane) number_is ∙ gone)) ∙ some)

    module _ (asked : Asked) (rest : List Asked) (pending : seat.pending.items ≡ asked ∷ rest) where
      pub next : IsNext plan lane (length seat.answered.items) asked × AreNext plan lane (suc (length seat.answered.items)) rest
      next = subst (λ ps. AreNext plan lane (length seat.answered.items) ps) pending left

      module _ (few : lanes_of script ≤ 16) (wanted : Op) (wanted_is : plan.request lane (length seat.answered.items) ≡ Some wanted) (op : Op) (op_is : op ≡ with_buffer wanted asked.buffer)
          (ticket : Ticket) (serial : ticket.serial ≡ admitted) (new : Seat) (hand : Hand) (has : new.hand ≡ Some hand) (is : hand.ticket ≡ ticket)
          (section : hand.section ≡ asked.section) (first : hand.first ≡ (extent_of op).first) (lent : hand.lent ≡ lent_to op) (coming : new.pending.items ≡ rest) (same : new.answered ≡ seat.answered)
          (lends : new.buffers.items ≡ without_lent wanted seat.buffers.items) where
        same_wanted : (next.0).asked ≡ wanted
        same_wanted = let e : Some ((next.0).asked) ≡ Some wanted = sym (next.0).next ∙ wanted_is in cc e

        for_op : IsFor g wanted op
        for_op = subst (IsFor g wanted) (sym op_is) (made_for g wanted asked.buffer (subst (λ w. IsKeptFor g w asked.buffer) same_wanted (next.0).buffer))

        askable_op : IsAskable g wanted
        askable_op = subst (IsAskable g) same_wanted (next.0).askable

        whole_op : IsAdmissible g op
        whole_op = subst (IsAdmissible g) (sym op_is) (made_whole g wanted asked.buffer (subst (λ w. IsKeptFor g w asked.buffer) same_wanted (next.0).buffer) askable_op)

        abbrev turned : Turned
        turned = Admits lane ticket op

        abbrev new_seats : List Seat
        new_seats = slice_set seats lane new

        pub admission : IsAdmission plan st lane ticket op
        admission = record {
          inside = inside;
          free = free;
          asked = wanted;
          next = ap (plan.request lane) number_is ∙ wanted_is;
          is = for_op;
          serial = serial;
          present = λ other x found. from_member plan st (plan.section lane (st.number lane)) other (lanes_of script) x (inside_lanes g script other (st.number other) x found) found (and_parts _ _ lane_ready).1;
          whole = whole_op;
          place = has_room few;
        }

        new_lane : lane_at (map lane_in (slice_set seats lane new)) lane ≡ lane_in new
        new_lane = lane_found (slice_set seats lane new) lane new (set_here seats lane new seat here)

        other_lane : (other : ℕ) → other ≢ lane → lane_at (map lane_in (slice_set seats lane new)) other ≡ lane_at (map lane_in seats) other
        other_lane other apart = lane_same seats (slice_set seats lane new) other (set_there seats lane other new apart)

        answers : (other : ℕ) → (lane_at (map lane_in (slice_set seats lane new)) other).answered ≡ (lane_at (map lane_in seats) other).answered
        answers other = elim (cases_eq other lane) [
          | inl at ↦ ap (λ l. (lane_at (map lane_in (slice_set seats lane new)) l).answered) at ∙ ap (λ (l : Lane). l.answered) new_lane ∙ ap (λ a. a.items) same
              ∙ sym (ap (λ (l : Lane). l.answered) lane_is) ∙ ap (λ l. (lane_at (map lane_in seats) l).answered) (sym at)
          | inr apart ↦ ap (λ (l : Lane). l.answered) (other_lane other apart)
        ]

        hands : (other : ℕ) → (lane_at (map lane_in (slice_set seats lane new)) other).hand ≡ put (λ l. (lane_at (map lane_in seats) l).hand) lane (Some ticket) other
        hands other = elim (cases_eq other lane) [
          | inl at ↦ ap (λ l. (lane_at (map lane_in (slice_set seats lane new)) l).hand) at ∙ ap (λ (l : Lane). l.hand) new_lane ∙ ap ticket_in has ∙ ap Some is
              ∙ sym (put_here (λ l. (lane_at (map lane_in seats) l).hand) lane (Some ticket) other at)
          | inr apart ↦ ap (λ (l : Lane). l.hand) (other_lane other apart) ∙ sym (put_there (λ l. (lane_at (map lane_in seats) l).hand) lane (Some ticket) other apart)
        ]

        pub state_is : seated plan (taken_in m ticket op) (admitted + 1) (map lane_in (slice_set seats lane new)) ≡ after_turn plan st (Admits lane ticket op)
        state_is =
            let number_same : (other : ℕ) → length ((lane_at (map lane_in (slice_set seats lane new)) other).answered) ≡ length ((lane_at (map lane_in seats) other).answered) = λ other. ap (λ (xs : List (Option (List ℕ))). length xs) (answers other) in
            let buffer_same : (other : ℕ) → buffers_in plan (map lane_in (slice_set seats lane new)) other ≡ buffers_in plan (map lane_in seats) other =
            λ other. ap (λ (xs : List (Option (List ℕ))). λ n. buffer_kept (plan.request other n) (slice_get xs n)) (answers other) in
            let numbers : numbers_in (map lane_in (slice_set seats lane new)) ≡ numbers_in (map lane_in seats) = fun_ext number_same in
            let held : hands_in (map lane_in (slice_set seats lane new)) ≡ put (hands_in (map lane_in seats)) lane (Some ticket) = fun_ext hands in
            let buffers : buffers_in plan (map lane_in (slice_set seats lane new)) ≡ buffers_in plan (map lane_in seats) = fun_ext buffer_same in
            cc (numbers, held, buffers)

        new_fits : IsSeatFit plan (counts lane) lane new
        new_fits =
            let f = fit lane seat here in
            let n = length seat.answered.items in
            record {
              answers = λ k kept found. f.answers k kept (subst (λ a. slice_get a.items k ≡ Some kept) same found);
              left = subst (λ o. AreLeft plan lane (length new.answered.items) o new.pending.items) (sym has) (subst (λ a. IsHeld plan lane (length a.items) hand × AreNext plan lane (suc (length a.items)) new.pending.items) (sym same) (
                record {
                  asked = wanted;
                  next = wanted_is;
                  askable = askable_op;
                  section = section ∙ (next.0).section;
                  first = first ∙ asked_first g wanted op for_op;
                  lent = lent ∙ lent_for g wanted op for_op;
                  low = (let from = first ∙ asked_first g wanted op for_op in let was = subst (λ w. (extent_of w).first < 2 ^ 32) same_wanted (next.0).low in omega (arith, from, was));
                },
                subst (λ ps. AreNext plan lane (suc (length seat.answered.items)) ps) (sym coming) next.1,
              ));
              within = omega (arith, f.within, ap (λ a. length a.items) same);
              room = omega (arith, f.room, ap (λ a. length a.items) same, ap (λ a. a.room) same);
              buffers = subst (λ o. HasBuffers g.block_size (lent_with o) new.buffers.items) (sym has) (subst (λ n. HasBuffers g.block_size n new.buffers.items) (sym (lent ∙ lent_for g wanted op for_op))
                  (lend_fits g wanted seat.buffers.items new.buffers.items (subst (λ o. HasBuffers g.block_size (lent_with o) seat.buffers.items) no_hand f.buffers) lends));
            }

        pub fit_after : AreFit plan counts (slice_set seats lane new)
        fit_after other x found = elim (cases_eq other lane) [
          | inl at ↦ subst (λ l. IsSeatFit plan (counts l) l x) (sym at) (subst (λ (y : Seat). IsSeatFit plan (counts lane) lane y)
              (let there : slice_get (slice_set seats lane new) lane ≡ Some x = ap (slice_get (slice_set seats lane new)) (sym at) ∙ found in let e : new ≡ x = cc (set_here seats lane new seat here, there) in e) new_fits)
          | inr apart ↦ fit other x (sym (set_there seats lane other new apart) ∙ found)
        ]

        pub fewer_to_come : to_come (slice_set seats lane new) + 1 ≡ to_come seats
        fewer_to_come =
            let long : length seat.pending.items ≡ suc (length rest) = ap length pending in
            omega (arith, sum_set (λ (x : Seat). length x.pending.items) seats lane seat new here, long, ap length coming)

-- the seat of a lane that may go on is there
pub seat_here : {D R : Type 0} (s : Desk D R) (k : Fits s) (lane : ℕ) → is_actor_ready (plan_in (run_of s)) (state_in (run_of s)) (LaneActor lane) ≡ true
    → (seat : Seat) → seat ≡ get_or s.records.seats.items lane seat → slice_get s.records.seats.items lane ≡ Some seat
seat_here s k lane ready seat value =
    let below = lane_below s.core.geometry s.script (state_in (run_of s)) lane ready in
    slice_get_read s.records.seats.items (length s.records.seats.items) lane seat refl (omega (arith, below, k.lanes)) value

-- The same of the whole session.
module _ {D R : Type 0} (s : Desk D R) (k : Fits s) (lane : ℕ) (seat : Seat) (here : slice_get s.records.seats.items lane ≡ Some seat)
    (ready : is_actor_ready (plan_in (run_of s)) (state_in (run_of s)) (LaneActor lane) ≡ true) (free : (state_in (run_of s)).hand lane ≡ None)
    (asked : Asked) (rest : List Asked) (pending : seat.pending.items ≡ asked ∷ rest) (wanted : Op) (wanted_is : (plan_in (run_of s)).request lane (length seat.answered.items) ≡ Some wanted)
    (op : Op) (op_is : op ≡ with_buffer wanted asked.buffer) (ticket : Ticket) (serial : ticket.serial ≡ s.core.admitted)
    (new : Seat) (hand : Hand) (has : new.hand ≡ Some hand) (is : hand.ticket ≡ ticket) (section : hand.section ≡ asked.section)
    (first : hand.first ≡ (extent_of op).first) (lent : hand.lent ≡ lent_to op) (coming : new.pending.items ≡ rest) (same : new.answered ≡ seat.answered)
    (lends : new.buffers.items ≡ without_lent wanted seat.buffers.items)
    (rec : Records) (seats : rec.seats.items ≡ slice_set s.records.seats.items lane new) (journal : rec.journal ≡ s.records.journal) (moments : rec.moments ≡ s.records.moments) where
  abbrev core : View D
  core = record s.core { memory = taken_in s.core.memory ticket op; admitted = s.core.admitted + 1 }

  abbrev now : Desk D R
  now = record { core = record s.core { memory = taken_in s.core.memory ticket op; admitted = s.core.admitted + 1 }; script = s.script; records = rec }

  may : IsAdmission (plan_in (run_of s)) (state_in (run_of s)) lane ticket op
  may = admission s.core.geometry s.script s.core.memory s.core.admitted s.records.seats.items lane seat k.sound here ready free (requests_in s.script) k.seats asked rest pending k.few wanted wanted_is op op_is ticket serial new hand has is section first lent coming same lends

  state_now : state_in (run_of now) ≡ after_turn (plan_in (run_of s)) (state_in (run_of s)) (Admits lane ticket op)
  state_now = ap (λ (xs : List Seat). seated (plan_of s.core.geometry s.script) (taken_in s.core.memory ticket op) (s.core.admitted + 1) (map lane_in xs)) seats
      ∙ state_is s.core.geometry s.script s.core.memory s.core.admitted s.records.seats.items lane seat k.sound here ready free (requests_in s.script) k.seats asked rest pending k.few wanted wanted_is op op_is ticket serial new hand has is section first lent coming same lends

  pub admit_turn : (stated : D → Option Geometry) (content : D → Option Content) (moment : D → ℕ) (left : D → ℕ → List (List ℕ) → Type 0) (faults : D → ℕ) → StepsBy stated content moment left faults (run_of s) (LaneActor lane) (run_of now)
  admit_turn stated content moment leaves faults = (
    Admits lane ticket op,
    refl,
    record {
      may = may;
      state = state_now;
      journal = ap (λ j. j.items) journal ∙ sym (append-nil s.records.journal.items);
      moments = ap (λ j. j.items) moments ∙ sym (append-nil s.records.moments.items);
      passes = (refl, refl);
      script = refl;
      geometry = refl;
      places = refl;
    },
  )

  pub admit_fits : Fits now
  admit_fits =
      let down = items_go_down (plan_in (run_of s)) (requests_in s.script) (state_in (run_of s)) (Admits lane ticket op) (at_most s.core.geometry s.script) k.sound may in
      let left_now : items_left (plan_in (run_of s)) (requests_in s.script) (state_in (run_of now)) ≡ items_left (plan_in (run_of s)) (requests_in s.script) (after_turn (plan_in (run_of s)) (state_in (run_of s)) (Admits lane ticket op)) = ap (items_left (plan_in (run_of s)) (requests_in s.script)) state_now in
      let fewer = fewer_to_come s.core.geometry s.script s.core.memory s.core.admitted s.records.seats.items lane seat k.sound here ready free (requests_in s.script) k.seats asked rest pending k.few wanted wanted_is op op_is ticket serial new hand has is section first lent coming same lends in
      record {
        sound = subst (IsSoundSession (plan_in (run_of s))) (sym state_now) (turns_keep_sound (plan_in (run_of s)) (state_in (run_of s)) (Admits lane ticket op) (sections_rise s.core.geometry s.script) k.sound may);
        places = k.places;
        numbers = k.numbers;
        few = k.few;
        small = k.small;
        lanes = ap length seats ∙ set_length s.records.seats.items lane new ∙ k.lanes;
        seats = subst (AreFit (plan_in (run_of s)) (requests_in s.script)) (sym seats) (fit_after s.core.geometry s.script s.core.memory s.core.admitted s.records.seats.items lane seat k.sound here ready free (requests_in s.script) k.seats asked rest pending k.few wanted wanted_is op op_is ticket serial new hand has is section first lent coming same lends);
        serials = omega (arith, k.serials, fewer, ap to_come seats);
        items = omega (arith, down, left_now, k.items, ap (λ j. j.room) journal);
        moments = omega (arith, down, left_now, k.moments, ap (λ j. j.room) moments);
        paired = ap (λ j. length j.items) moments ∙ k.paired ∙ sym (ap (λ j. length j.items) journal);
      }

-- ----------------------------------------------------------------------------------------------------------------
-- Readiness.

-- the section of a lane's first unanswered request
section_is : (plan : Plan) (counts : ℕ → ℕ) (seats : List Seat) (lane : ℕ) (seat : Seat) → AreFit plan counts seats → slice_get seats lane ≡ Some seat
    → (low : ℕ) → is_from_there low seat ≡ (is_none (plan.request lane (length seat.answered.items)) || nat_le low (plan.section lane (length seat.answered.items)))
section_is plan counts seats lane seat fit here low = by_hand seat.hand seat.pending.items (fit lane seat here).left
  where
    by_hand : (h : Option Hand) (ps : List Asked) → AreLeft plan lane (length seat.answered.items) h ps → is_none_or_from low (section_with h ps) ≡ (is_none (plan.request lane (length seat.answered.items)) || nat_le low (plan.section lane (length seat.answered.items)))
    by_hand (Some h) ps k = ap (nat_le low) (k.0).section ∙ ap (λ o. is_none o || nat_le low (plan.section lane (length seat.answered.items))) (sym (k.0).next)
    by_hand None [] k = ap (λ o. is_none o || nat_le low (plan.section lane (length seat.answered.items))) (sym k)
    by_hand None (a ∷ ps) k = ap (nat_le low) (k.0).section ∙ ap (λ o. is_none o || nat_le low (plan.section lane (length seat.answered.items))) (sym (k.0).next)

-- there is none past the end
pub slice_get_past_end : (xs : List Seat) (n : ℕ) → slice_get xs n ≡ None → length xs ≤ n
slice_get_past_end [] n none = omega arith
slice_get_past_end (x ∷ xs) zero none = absurd (grind (arith, none))
slice_get_past_end (x ∷ xs) (suc n) none = let rest = slice_get_past_end xs n none in omega (arith, rest)

-- of the first so many lanes
from_is : (plan : Plan) (counts : ℕ → ℕ) (m : Memory) (admitted : ℕ) (seats : List Seat) (low n : ℕ) → AreFit plan counts seats → n ≤ length seats
    → list_all (is_from_there low) (take n seats) ≡ is_from plan (seated plan m admitted (map lane_in seats)) low n
from_is plan counts m admitted seats low zero fit inside = refl
from_is plan counts m admitted seats low (suc n) fit inside = by (slice_get seats n) refl (from_is plan counts m admitted seats low n fit (omega (arith, inside)))
  where
    by : (o : Option Seat) → slice_get seats n ≡ o → list_all (is_from_there low) (take n seats) ≡ is_from plan (seated plan m admitted (map lane_in seats)) low n
        → list_all (is_from_there low) (take (suc n) seats) ≡ is_from plan (seated plan m admitted (map lane_in seats)) low (suc n)
    by None none rest = absurd (let past = slice_get_past_end seats n none in omega (arith, past, inside))
    by (Some seat) here rest =
        let number : length seat.answered.items ≡ length ((lane_at (map lane_in seats) n).answered) = sym (ap (λ (l : Lane). length l.answered) (lane_found seats n seat here)) in
        let test = section_is plan counts seats n seat fit here low ∙ ap (λ k. is_none (plan.request n k) || nat_le low (plan.section n k)) number in
        ap (list_all (is_from_there low)) (take-here seats n seat here) ∙ list_all-append (is_from_there low) (take n seats) (seat ∷ []) ∙ both (list_all (is_from_there low) (take n seats)) (is_from_there low seat) (is_from plan (seated plan m admitted (map lane_in seats)) low n)
        (is_none (plan.request n (length ((lane_at (map lane_in seats) n).answered))) || nat_le low (plan.section n (length ((lane_at (map lane_in seats) n).answered)))) rest test
      where
        both : (a b x y : Bool) → a ≡ x → b ≡ y → (a && (b && true)) ≡ (y && x)
        both true true x y e f = rw (sym e, sym f) refl
        both true false x y e f = rw (sym e, sym f) refl
        both false true x y e f = rw (sym e, sym f) refl
        both false false x y e f = rw (sym e, sym f) refl

-- a lane that has nothing in hand
pub free_ready : (plan : Plan) (counts : ℕ → ℕ) (m : Memory) (admitted : ℕ) (seats : List Seat) (lane : ℕ) (seat : Seat) → AreFit plan counts seats → plan.lanes ≡ length seats → slice_get seats lane ≡ Some seat → seat.hand ≡ None → (o : Option ℕ) → section_in seat ≡ o
    → is_actor_ready plan (seated plan m admitted (map lane_in seats)) (LaneActor lane) ≡ option_map_or (λ low. list_all (is_from_there low) seats) o false
free_ready plan counts m admitted seats lane seat fit lanes here free o is =
    let below : nat_lt lane plan.lanes ≡ true = (let inside = slice_get_within seats lane seat here in grind (arith, inside, lanes)) in
    let hand : (lane_at (map lane_in seats) lane).hand ≡ None = ap (λ (l : Lane). l.hand) (lane_found seats lane seat here) ∙ ap ticket_in free in
    ap (λ t. t && is_lane_ready plan (seated plan m admitted (map lane_in seats)) lane ((lane_at (map lane_in seats) lane).hand)) below
    ∙ ap (is_lane_ready plan (seated plan m admitted (map lane_in seats)) lane) hand ∙ by seat.pending.items (subst (λ h. AreLeft plan lane (length seat.answered.items) h seat.pending.items) free (fit lane seat here).left) (sym is ∙ ap (λ h. section_with h seat.pending.items) free)
  where
    number : length ((lane_at (map lane_in seats) lane).answered) ≡ length seat.answered.items
    number = ap (λ (l : Lane). length l.answered) (lane_found seats lane seat here)

    whole : (low : ℕ) → list_all (is_from_there low) seats ≡ is_from plan (seated plan m admitted (map lane_in seats)) low plan.lanes
    whole low = ap (list_all (is_from_there low)) (sym (take_all (length seats) seats (omega arith))) ∙ from_is plan counts m admitted seats low (length seats) fit (omega arith) ∙ ap (is_from plan (seated plan m admitted (map lane_in seats)) low) (sym lanes)

    by : (ps : List Asked) → AreLeft plan lane (length seat.answered.items) None ps → o ≡ section_with None ps
        → (not (is_none (plan.request lane (length ((lane_at (map lane_in seats) lane).answered)))) && is_from plan (seated plan m admitted (map lane_in seats)) (plan.section lane (length ((lane_at (map lane_in seats) lane).answered))) plan.lanes)
        ≡ option_map_or (λ low. list_all (is_from_there low) seats) o false
    by [] k e = ap (λ r. not (is_none r) && is_from plan (seated plan m admitted (map lane_in seats)) (plan.section lane (length ((lane_at (map lane_in seats) lane).answered))) plan.lanes) (ap (plan.request lane) number ∙ k)
        ∙ ap (λ x. option_map_or (λ low. list_all (is_from_there low) seats) x false) (sym e)
    by (a ∷ ps) k e = ap (λ r. not (is_none r) && is_from plan (seated plan m admitted (map lane_in seats)) (plan.section lane (length ((lane_at (map lane_in seats) lane).answered))) plan.lanes) (ap (plan.request lane) number ∙ (k.0).next)
        ∙ ap (λ n. is_from plan (seated plan m admitted (map lane_in seats)) (plan.section lane n) plan.lanes) number ∙ ap (λ low. is_from plan (seated plan m admitted (map lane_in seats)) low plan.lanes) (sym (k.0).section)
        ∙ sym (whole a.section) ∙ ap (λ x. option_map_or (λ low. list_all (is_from_there low) seats) x false) (sym e)

-- the ticket in hand of a lane
pub hand_found : (seats : List Seat) (lane : ℕ) (seat : Seat) (hand : Hand) → slice_get seats lane ≡ Some seat → seat.hand ≡ Some hand → (lane_at (map lane_in seats) lane).hand ≡ Some hand.ticket
hand_found seats lane seat hand here has = ap (λ (l : Lane). l.hand) (lane_found seats lane seat here) ∙ ap ticket_in has

-- a list of no length is empty
pub none_left : {X : Type 0} (xs : List X) → length xs ≡ 0 → xs ≡ []
none_left [] none = refl
none_left (x ∷ xs) none = absurd (omega (arith, none))
