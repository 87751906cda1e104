-- A session before its first step is one, and fits its script.
use Rattle.std.proofs.Common.{◌≡◌, ℕ, zero, suc, ◌-◌, ◌*◌, ◌^◌, ◌<◌, ◌≤◌, List, [], ◌∷◌, length, map, Option, Some, None, arith, refl, sym, ap, ◌∙◌, subst}
use Rattle.std.specs.Prelude.{slice_get, replicate}
use Rattle.std.proofs.lemmas.List.Sums.{sum_by-cons}
use mathlib.Core.Path.{fun_ext}
use Rattle.bow_units.specs.declared.sizes.Geometry.{Geometry}
use Rattle.bow_disk.specs.Disk.{Content}
use Rattle.bow_script.specs.declared.scripts.Line.{Line}
use Rattle.bow_script.specs.Scripts.{IsWellFormed, IsWithinLimits}
use Rattle.bow_machine.specs.Memory.{Memory}
use Rattle.bow_machine.specs.MemoryIsSound.{MemoryIsSound}
use Rattle.bow_core.specs.Views.{View}
use Rattle.bow_history.specs.declared.items.Item.{Item}
use Rattle.bow_history.specs.Journal.{Plan}
use Rattle.bow_history.specs.Sessions.{Session, begun}
use Rattle.bow_history.specs.SoundSessions.{IsSoundSession}
use Rattle.bow_history.specs.Ends.{items_from, over_lanes, items_of_lane, items_left}
use Rattle.bow_history.proofs.Sessions.{loaded_is_session}
use Rattle.bow_session.specs.declared.records.Records.{Records}
use Rattle.bow_session.specs.declared.seats.Hand.{Hand}
use Rattle.bow_session.specs.declared.seats.Seat.{Seat}
use Rattle.bow_session.specs.Desks.{Fits, run_of, to_come}
use Rattle.bow_session.specs.Loading.{loaded, lane_items, IsNewSeat, AreNewRecords}
use Rattle.bow_session.specs.Requests.{plan_of, requests_in, lanes_of}
use Rattle.bow_session.specs.Runs.{core_of, IsRun}
use Rattle.bow_session.specs.Buffers.{HasBuffers, buffer_kept}
use Rattle.bow_session.specs.Seats.{lent_with, lane_in, ticket_in, IsSeatFit, AreLeft, AreNext}
use Rattle.bow_session.specs.Sessions.{Run, Lane, no_lane, lane_at, seated, state_in}
use Rattle.bow_session.proofs.Laws.{beginning_is_sound}
use Rattle.bow_session.proofs.Loads.{few_requests, few_lanes, items_of_all}
use Rattle.bow_session.proofs.Plans.{sections_rise}

none_at : (n lane : ℕ) → lane_at (replicate n no_lane) lane ≡ no_lane
none_at zero lane = refl
none_at (suc n) zero = refl
none_at (suc n) (suc lane) = none_at n lane

-- lanes in which nothing was done
begun_is : (plan : Plan) (m : Memory) (admitted n : ℕ) → seated plan m admitted (replicate n no_lane) ≡ begun m admitted
begun_is plan m admitted n = ap with_lanes (fun_ext (none_at n))
  where
    with_lanes : (ℕ → Lane) → Session
    with_lanes f = record {
      memory = m;
      admitted = admitted;
      number = λ lane. length ((f lane).answered);
      hand = λ lane. (f lane).hand;
      kept = λ lane n. buffer_kept (plan.request lane n) (slice_get ((f lane).answered) n);
    }

new_lane : (seat : Seat) → seat.hand ≡ None → seat.answered.items ≡ [] → lane_in seat ≡ no_lane
new_lane seat hand answered =
    let a : lane_in seat ≡ record { answered = seat.answered.items; hand = None } = ap (λ (h : Option Hand). record { answered = seat.answered.items; hand = ticket_in h }) hand in
    let b : record { answered = seat.answered.items; hand = None } ≡ no_lane = ap (λ (l : List (Option (List ℕ))). record { answered = l; hand = None }) answered in
    a ∙ b

new_lanes : (seats : List Seat) → ((lane : ℕ) (seat : Seat) → slice_get seats lane ≡ Some seat → lane_in seat ≡ no_lane) → map lane_in seats ≡ replicate (length seats) no_lane
new_lanes [] each = refl
new_lanes (x ∷ xs) each = ap (λ (l : Lane). l ∷ map lane_in xs) (each 0 x refl) ∙ ap (λ (l : List Lane). no_lane ∷ l) (new_lanes xs (λ lane seat here. each (suc lane) seat here))

few_to_come : (seats : List Seat) → ((lane : ℕ) (seat : Seat) → slice_get seats lane ≡ Some seat → length seat.pending.items ≤ 65536) → to_come seats ≤ length seats * 65536
few_to_come [] each = omega arith
few_to_come (x ∷ xs) each =
    let one = each 0 x refl in
    let rest = few_to_come xs (λ lane seat here. each (suc lane) seat here) in
    let sum = sum_by-cons (λ (seat : Seat). length seat.pending.items) x xs in
    omega (arith, one, rest, sum)

-- all items of a script may come
all_items : (g : Geometry) (script : List (List (List Line))) (m : Memory) (admitted : ℕ) → items_left (plan_of g script) (requests_in script) (begun m admitted) ≡ over_lanes (lane_items script) (lanes_of script)
all_items g script m admitted = ap (λ (f : ℕ → ℕ). over_lanes f (lanes_of script)) (fun_ext each)
  where
    each : (lane : ℕ) → items_of_lane (plan_of g script) (requests_in script) (begun m admitted) lane ≡ lane_items script lane
    each lane =
        let none : requests_in script lane - 0 ≡ requests_in script lane = omega arith in
        let all : items_from (plan_of g script) lane 0 (requests_in script lane - 0) ≡ lane_items script lane = ap (items_from (plan_of g script) lane 0) none ∙ items_of_all g script lane in
        let same : items_from (plan_of g script) lane 0 (requests_in script lane - 0) - 0 ≡ lane_items script lane = omega (arith, all) in
        same

module _ {D : Type 0} (R : Type 0) (core : View D) (script : List (List (List Line))) (r : Records) (new : AreNewRecords (plan_of core.geometry script) script r) where
  -- what is seen of it
  pub seen : run_of {D = D} {R = R} (record { core = core; script = script; records = r }) ≡ loaded core script
  seen =
      let lanes : map lane_in r.seats.items ≡ replicate (lanes_of script) no_lane = new_lanes r.seats.items (λ lane seat here. let k = new.seats lane seat here in new_lane seat k.hand k.answered) ∙ ap (λ n. replicate n no_lane) new.lanes in
      let a : run_of {D = D} {R = R} (record { core = core; script = script; records = r }) ≡ record { core = core; script = script; lanes = replicate (lanes_of script) no_lane; journal = r.journal.items; moments = r.moments.items } =
      ap (λ (l : List Lane). record { core = core; script = script; lanes = l; journal = r.journal.items; moments = r.moments.items }) lanes in
      a ∙ rest r.journal.items r.moments.items new.journal new.moments
    where
      with_items : List Item → List ℕ → Run D
      with_items j m = record { core = core; script = script; lanes = replicate (lanes_of script) no_lane; journal = j; moments = m }

      rest : (j : List Item) (m : List ℕ) → j ≡ [] → m ≡ [] → with_items j m ≡ loaded core script
      rest j m e f = ap (λ (x : List Item). with_items x m) e ∙ ap (with_items []) f

  pub fits_new : MemoryIsSound core.geometry core.memory → core.memory.requests ≡ [] → core.places ≡ 16 → core.admitted < 2 ^ 63 → IsWithinLimits script → IsWellFormed script → Fits {D = D} {R = R} (record { core = core; script = script; records = r })
  fits_new sound idle places serials limits numbers =
      let state : state_in (run_of {D = D} {R = R} (record { core = core; script = script; records = r })) ≡ begun core.memory core.admitted = ap (λ (v : Run D). state_in v) seen ∙ begun_is (plan_of core.geometry script) core.memory core.admitted (lanes_of script) in
      let few = few_lanes script limits in
      let some = few_to_come r.seats.items (λ lane seat here. let k = (new.seats lane seat here).many in let f = few_requests script limits lane in omega (arith, k, f)) in
      let lanes = new.lanes in
      let items = ap (items_left (plan_of core.geometry script) (requests_in script)) state ∙ all_items core.geometry script core.memory core.admitted in
      record {
        sound = subst (IsSoundSession (plan_of core.geometry script)) (sym state) (beginning_is_sound (plan_of core.geometry script) core.memory core.admitted sound idle);
        places = places;
        numbers = numbers;
        few = few;
        small = few_requests script limits;
        lanes = lanes;
        seats = λ lane seat here. seat_fits lane seat (new.seats lane seat here);
        serials = omega (arith, serials, some, lanes, few);
        items = (let room = new.room in omega (arith, items, room));
        moments = (let room = new.room_of_moments in omega (arith, items, room));
        paired = ap (λ l. length l) new.moments ∙ sym (ap (λ l. length l) new.journal);
      }
    where
      seat_fits : (lane : ℕ) (seat : Seat) → IsNewSeat (plan_of core.geometry script) (requests_in script lane) lane seat → IsSeatFit (plan_of core.geometry script) (requests_in script lane) lane seat
      seat_fits lane seat k =
          let none : length seat.answered.items ≡ 0 = ap (λ (l : List (Option (List ℕ))). length l) k.answered in
          let room = k.room in
          record {
            answers = λ n kept here. absurd (let clash : None ≡ Some kept = sym (ap (λ (l : List (Option (List ℕ))). slice_get l n) k.answered) ∙ here in grind (arith, clash));
            left = subst (λ h. AreLeft (plan_of core.geometry script) lane (length seat.answered.items) h seat.pending.items) (sym k.hand) (subst (λ n. AreNext (plan_of core.geometry script) lane n seat.pending.items) (sym none) k.pending);
            within = omega (arith, none);
            room = omega (arith, none, room);
            buffers = subst (λ h. HasBuffers core.geometry.block_size (lent_with h) seat.buffers.items) (sym k.hand) k.buffers;
          }

-- it is a run of no turns
pub loaded_is_run : {D : Type 0} (stated : D → Option Geometry) (content : D → Option Content) (faults : D → ℕ) (core : View D) (script : List (List (List Line)))
    → MemoryIsSound core.geometry core.memory → core.memory.requests ≡ [] → core.calls ≤ 2 ^ 64 - 1 → stated core.disk ≡ Some core.geometry → IsRun stated content faults core [] (loaded core script)
loaded_is_run stated content faults core script sound idle early sizes = record {
  session = loaded_is_session (plan_of core.geometry script) (core_of content faults core) refl early (sections_rise core.geometry script) sound idle;
  state = sym (begun_is (plan_of core.geometry script) core.memory core.admitted (lanes_of script));
  sizes = sizes;
}
