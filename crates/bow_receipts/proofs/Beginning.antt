-- What lies under the lock before the first call.
use Rattle.std.proofs.Common.{◌≡◌, ℕ, zero, suc, ◌*◌, ◌-◌, ◌^◌, ◌<◌, ◌≤◌, List, [], ◌∷◌, length, Option, Some, None, arith, refl, sym, ap, ◌∙◌, subst}
use Rattle.std.specs.Prelude.{replicate, sum, vec_capacity}
use Rattle.atomic_table.specs.Seated.{TableId}
use Rattle.bow_units.specs.declared.sizes.Geometry.{Geometry}
use Rattle.bow_units.specs.declared.requests.Op.{Op}
use Rattle.bow_disk.specs.Disk.{Content, IsCrash, IsShaped}
use Rattle.bow_core.specs.Views.{View, IsOpened}
use Rattle.bow_machine.specs.MemoryIsSound.{MemoryIsSound}
use Rattle.bow_history.specs.Ends.{over_lanes}
use Rattle.bow_history.proofs.DiskCuts.{loaded_has_cuts}
use Rattle.bow_history.proofs.Sessions.{loaded_is_session}
use Rattle.bow_session.specs.Runs.{begun_over, core_of}
use Rattle.bow_tags.specs.declared.view.View.{View as SeatView}
use Rattle.bow_tags.specs.Rule.{new_view}
use Rattle.bow_tags.specs.Seats.{lanes_of}
use Rattle.bow_receipts.specs.declared.asks.Answer.{Answer}
use Rattle.bow_receipts.specs.declared.service.Service.{Service}
use Rattle.bow_receipts.specs.Asking.{asked_of}
use Rattle.bow_receipts.specs.Hands.{IsInHand, ticket_in}
use Rattle.bow_receipts.specs.Openings.{may_of}
use Rattle.bow_receipts.specs.Served.{IsKept, IsServed, Serves, answered_of, count_of}
use Rattle.bow_receipts.proofs.Histories.{one_section}
use Rattle.bow_receipts.proofs.Lists.{clash}
use Rattle.bow_receipts.proofs.Sums.{hands_long, no_hand_at, over_sum}

zero_over : (f : ℕ → ℕ) (n : ℕ) → ((l : ℕ) → f l ≡ 0) → over_lanes f n ≡ 0
zero_over f zero none = refl
zero_over f (suc n) none = let here = none n in let rest = zero_over f n none in omega (arith, here, rest)

module _ {D R : Type 0} (stated : D → Option Geometry) (content : D → Option Content) (moment : D → ℕ) (left : D → ℕ → List (List ℕ) → Type 0) (faults : D → ℕ)
    (shaped : (d : D) (c : Content) → content d ≡ Some c → (z : Geometry) → stated d ≡ Some z → IsShaped z.block_size z.blocks c)
    (only_now : (d : D) (c : Content) → content d ≡ Some c → (t : ℕ) (image : List (List ℕ)) → moment d ≤ t → left d t image → IsCrash c.candidates image)
    (g : Geometry) (lanes : ℕ) (allowed : ℕ → ℕ) (table : TableId) (begins : View D → Type 0) (s : Service D R)
    (opened : IsOpened stated s.core) (idle : s.core.memory.requests ≡ []) (places : s.core.places ≡ 16) (serials : s.core.admitted < 2 ^ 63) (early : s.core.calls ≤ 2 ^ 64 - 1)
    (sizes : g ≡ s.core.geometry) (is : begins s.core) (calls : List ℕ) (callers : lanes ≡ length calls) (may : allowed ≡ may_of calls) (few : length calls ≤ 16) (total : sum calls ≤ 65536)
    (lanes_are : lanes_of table ≡ length calls) (table_is : s.server.table ≡ table) (size : ℕ) (size_is : size ≡ s.core.geometry.block_size) (view : s.server.view ≡ new_view (lanes_of table) 1 size [] (0 ∷ []))
    (hands : s.hands.items ≡ replicate (length calls) None) (journal : s.journal.items ≡ []) (recorded : s.calls.items ≡ [])
    (journal_room : 17 * sum calls ≤ vec_capacity s.journal) (calls_room : sum calls ≤ vec_capacity s.calls) where
  served_fresh : IsServed content moment left faults g lanes s.core s.core [] [] (replicate (length calls) None) []
  served_fresh = record {
    turns = [];
    moments = [];
    seated = λ plan asks. record {
      session = loaded_is_session plan (core_of content faults s.core) (sym sizes ∙ sym asks.sizes) early (one_section g (asked_of {Q = Answer} lanes [] []) plan asks) (subst (λ z. MemoryIsSound z s.core.memory) (sym sizes ∙ sym asks.sizes) opened.sound) idle;
      tickets = λ lane. sym (ap ticket_in (no_hand_at (length calls) lane));
      number = λ lane. refl;
      bytes = λ i x at. clash None x refl at;
    };
    cuts = λ plan asks c is. loaded_has_cuts content moment left only_now s.core.disk c plan (begun_over s.core) is (subst (λ (z : Geometry). length c.candidates ≡ z.blocks) (sym asks.sizes) (shaped s.core.disk c is g (opened.sizes ∙ ap Some (sym sizes))).listed);
    fine = λ plan asks low. tt;
  }

  kept_fresh : IsKept g lanes allowed (new_view (lanes_of table) 1 size [] (0 ∷ [])) (replicate (length calls) None) [] []
  kept_fresh = record {
    seats = hands_long (length calls) ∙ sym callers;
    speaks = refl;
    servers = refl;
    size = size_is ∙ ap (λ (z : Geometry). z.block_size) (sym sizes);
    in_hand = λ lane. subst (λ o. IsInHand lane 0 o []) (sym (no_hand_at (length calls) lane)) refl;
    once = λ lane i. ((λ less. absurd (omega (arith, less))), λ past. refl);
    numbers = λ lane n x at. clash None x refl at;
    fit = λ lane n op at. clash None op refl at;
    within = λ lane. omega arith;
    blocks = λ i x at. clash None x refl at;
    entries = refl;
    of_journal = tt;
    count = sym (zero_over (answered_of []) lanes (λ l. refl));
  }

  -- it serves them
  pub serves_first : Serves stated content moment left faults g lanes allowed table begins s
  serves_first =
      let sum_is : over_lanes allowed lanes ≡ sum calls = ap (λ (f : ℕ → ℕ). over_lanes f lanes) may ∙ ap (over_lanes (may_of calls)) callers ∙ over_sum calls in
      record {
        first = s.core;
        is = is;
        begun = record { sizes = sym sizes; sound = subst (λ z. MemoryIsSound z s.core.memory) (sym sizes) opened.sound; idle = idle; early = early; serials = serials };
        sizes = sym sizes;
        stated_is = opened.sizes ∙ ap Some (sym sizes);
        places = places;
        table_is = table_is;
        lanes_are = lanes_are ∙ sym callers;
        few = omega (arith, callers, few);
        kept = subst (λ v. IsKept g lanes allowed v s.hands.items s.journal.items s.calls.items) (sym view)
            (subst (λ h. IsKept g lanes allowed (new_view (lanes_of table) 1 size [] (0 ∷ [])) h s.journal.items s.calls.items) (sym hands)
            (subst (λ j. IsKept g lanes allowed (new_view (lanes_of table) 1 size [] (0 ∷ [])) (replicate (length calls) None) j s.calls.items) (sym journal)
            (subst (λ c. IsKept g lanes allowed (new_view (lanes_of table) 1 size [] (0 ∷ [])) (replicate (length calls) None) [] c) (sym recorded) kept_fresh)));
        served = subst (λ (v : SeatView Op Answer). IsServed content moment left faults g lanes s.core s.core v.given v.jobs s.hands.items s.journal.items) (sym view)
            (subst (λ h. IsServed content moment left faults g lanes s.core s.core [] [] h s.journal.items) (sym hands)
            (subst (λ j. IsServed content moment left faults g lanes s.core s.core [] [] (replicate (length calls) None) j) (sym journal) served_fresh));
        later = omega arith;
        admitted = (
            let none = zero_over (count_of (asked_of {Q = Answer} lanes [] [])) lanes (λ l. refl) in
            let same : over_lanes (count_of (asked_of lanes s.server.view.given s.server.view.jobs)) lanes ≡ over_lanes (count_of (asked_of {Q = Answer} lanes [] [])) lanes = ap (λ (v : SeatView Op Answer). over_lanes (count_of (asked_of lanes v.given v.jobs)) lanes) view in
            omega (arith, none, same));
        total = omega (arith, sum_is, total);
        journal_room = omega (arith, sum_is, journal_room);
        calls_room = omega (arith, sum_is, calls_room);
      }
