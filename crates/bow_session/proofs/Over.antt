-- All requests are answered where no lane has one left.
use Rattle.std.proofs.Common.{◌≡◌, ℕ, zero, suc, ◌≤◌, ◌&&◌, true, List, [], ◌∷◌, length, map, Option, Some, None, is_none, arith, refl, sym, ap, ◌∙◌}
use Rattle.std.specs.Prelude.{slice_get}
use Rattle.std.specs.List.{list_all}
use Rattle.std.specs.Option.{option_map}
use Rattle.std.proofs.lemmas.Bool.{false≢true, and_parts}
use Rattle.bow_units.specs.declared.requests.Op.{Op}
use Rattle.bow_script.specs.declared.scripts.Line.{Line}
use Rattle.bow_history.specs.Journal.{Plan}
use Rattle.bow_session.specs.declared.desks.Desk.{Desk}
use Rattle.bow_session.specs.declared.seats.Asked.{Asked}
use Rattle.bow_session.specs.declared.seats.Hand.{Hand}
use Rattle.bow_session.specs.declared.seats.Seat.{Seat}
use Rattle.bow_session.specs.Requests.{request_of, lane_lines, plan_of}
use Rattle.bow_session.specs.Seats.{lane_in, is_over, section_with, AreLeft}
use Rattle.bow_session.specs.Sessions.{Lane, no_lane, lane_at, IsOver}
use Rattle.bow_session.specs.Desks.{Fits, run_of}
use Rattle.bow_session.proofs.Plans.{at_most}
use Rattle.bow_session.proofs.Told.{lane_found}
use Rattle.bow_session.proofs.Admitted.{no_lines, slice_get_past_end}

each_over : (seats : List Seat) (lane : ℕ) (seat : Seat) → list_all is_over seats ≡ true → slice_get seats lane ≡ Some seat → is_over seat ≡ true
each_over [] lane seat all here = absurd (grind (arith, here))
each_over (x ∷ xs) zero seat all here = let same : x ≡ seat = cc here in ap is_over (sym same) ∙ (and_parts _ _ all).0
each_over (x ∷ xs) (suc lane) seat all here = each_over xs lane seat (and_parts _ _ all).1 here

all_over : (seats : List Seat) → ((lane : ℕ) (seat : Seat) → slice_get seats lane ≡ Some seat → is_over seat ≡ true) → list_all is_over seats ≡ true
all_over [] each = refl
all_over (x ∷ xs) each = ap (λ t. t && list_all is_over xs) (each 0 x refl) ∙ all_over xs (λ lane seat here. each (suc lane) seat here)

-- a lane with nothing left has no further request
none_next : (plan : Plan) (lane n : ℕ) (h : Option Hand) (ps : List Asked) → AreLeft plan lane n h ps → is_none (section_with h ps) ≡ true → plan.request lane n ≡ None
none_next plan lane n (Some h) ps k over = absurd (false≢true over)
none_next plan lane n None [] k over = k
none_next plan lane n None (a ∷ ps) k over = absurd (false≢true over)

-- and one with something left has one
over_none : (plan : Plan) (lane n : ℕ) (h : Option Hand) (ps : List Asked) → AreLeft plan lane n h ps → ((op : Op) → plan.request lane n ≡ Some op → ⊥) → is_none (section_with h ps) ≡ true
over_none plan lane n (Some h) ps k none = absurd (none (k.0).asked (k.0).next)
over_none plan lane n None [] k none = refl
over_none plan lane n None (a ∷ ps) k none = absurd (none (k.0).asked (k.0).next)

pub no_more : (size : ℕ) (lines : List Line) (n : ℕ) → option_map (request_of size) (slice_get lines n) ≡ None → length lines ≤ n
no_more size [] n none = omega arith
no_more size (x ∷ xs) zero none = absurd (grind (arith, none))
no_more size (x ∷ xs) (suc n) none = let rest = no_more size xs n none in omega (arith, rest)

pub no_lane_there : (seats : List Seat) (lane : ℕ) → slice_get seats lane ≡ None → lane_at (map lane_in seats) lane ≡ no_lane
no_lane_there [] lane none = refl
no_lane_there (x ∷ xs) zero none = absurd (grind (arith, none))
no_lane_there (x ∷ xs) (suc lane) none = no_lane_there xs lane none

module _ {D R : Type 0} (s : Desk D R) (k : Fits s) where
  pub is_over_then : list_all is_over s.records.seats.items ≡ true → IsOver (run_of s)
  is_over_then all lane = by (slice_get s.records.seats.items lane) refl
    where
      by : (o : Option Seat) → slice_get s.records.seats.items lane ≡ o → length ((lane_at (map lane_in s.records.seats.items) lane).answered) ≡ length (lane_lines s.script lane)
      by None none =
          let past = slice_get_past_end s.records.seats.items lane none in
          ap (λ (l : Lane). length l.answered) (no_lane_there s.records.seats.items lane none) ∙ sym (ap (λ (l : List Line). length l) (no_lines s.script lane (omega (arith, past, k.lanes))))
      by (Some seat) here =
          let f = k.seats lane seat here in
          let none = none_next (plan_of s.core.geometry s.script) lane (length seat.answered.items) seat.hand seat.pending.items f.left (each_over s.records.seats.items lane seat all here) in
          let past = no_more s.core.geometry.block_size (lane_lines s.script lane) (length seat.answered.items) none in
          ap (λ (l : Lane). length l.answered) (lane_found s.records.seats.items lane seat here) ∙ (let e : length seat.answered.items ≡ length (lane_lines s.script lane) = omega (arith, past, f.within) in e)

  pub then_over : IsOver (run_of s) → list_all is_over s.records.seats.items ≡ true
  then_over over = all_over s.records.seats.items (λ lane seat here.
      over_none (plan_of s.core.geometry s.script) lane (length seat.answered.items) seat.hand seat.pending.items (k.seats lane seat here).left (λ op next.
      let below = at_most s.core.geometry s.script lane (length seat.answered.items) op next in
      let whole : length seat.answered.items ≡ length (lane_lines s.script lane) = sym (ap (λ (l : Lane). length l.answered) (lane_found s.records.seats.items lane seat here)) ∙ over lane in
      omega (arith, below, whole)))
