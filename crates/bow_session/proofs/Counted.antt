-- A lane has as many requests as the script has for it.
use Rattle.std.proofs.Common.{◌≡◌, ℕ, suc, ◌+◌, ◌≤◌, List, [], ◌∷◌, length, Option, None, Some, arith, ap}
use Rattle.std.specs.Prelude.{slice_get}
use Rattle.bow_units.specs.declared.sizes.Geometry.{Geometry}
use Rattle.bow_script.specs.declared.scripts.Line.{Line}
use Rattle.bow_session.specs.declared.desks.Desk.{Desk}
use Rattle.bow_session.specs.declared.seats.Asked.{Asked}
use Rattle.bow_session.specs.declared.seats.Hand.{Hand}
use Rattle.bow_session.specs.declared.seats.Seat.{Seat}
use Rattle.bow_session.specs.Desks.{Fits}
use Rattle.bow_session.specs.Requests.{lane_lines, plan_of, requests_in}
use Rattle.bow_session.specs.Seats.{AreLeft, AreNext, held_by, requests_with}
use Rattle.bow_session.proofs.Admitted.{no_lines}
use Rattle.bow_session.proofs.Over.{no_more}
use Rattle.bow_session.proofs.Plans.{at_most}

next_count : (g : Geometry) (script : List (List (List Line))) (lane n : ℕ) (pending : List Asked) → AreNext (plan_of g script) lane n pending → n ≤ requests_in script lane
    → n + length pending ≡ requests_in script lane
next_count g script lane n [] none within = let past = no_more g.block_size (lane_lines script lane) n none in omega (arith, past, within)
next_count g script lane n (a ∷ pending) next within =
    let below = at_most g script lane n (next.0).asked (next.0).next in
    let rest = next_count g script lane (suc n) pending next.1 (omega (arith, below)) in
    omega (arith, rest)

left_count : (g : Geometry) (script : List (List (List Line))) (lane n : ℕ) (hand : Option Hand) (pending : List Asked) → AreLeft (plan_of g script) lane n hand pending → n ≤ requests_in script lane
    → n + held_by hand + length pending ≡ requests_in script lane
left_count g script lane n None pending left within = let rest = next_count g script lane n pending left within in omega (arith, rest)
left_count g script lane n (Some hand) pending left within =
    let below = at_most g script lane n (left.0).asked (left.0).next in
    let rest = next_count g script lane (suc n) pending left.1 (omega (arith, below)) in
    omega (arith, rest)

pub seat_count : {D R : Type 0} (s : Desk D R) → Fits s → (lane : ℕ) (seat : Seat) → slice_get s.records.seats.items lane ≡ Some seat → requests_with seat ≡ requests_in s.script lane
seat_count s k lane seat here =
    let f = k.seats lane seat here in
    left_count s.core.geometry s.script lane (length seat.answered.items) seat.hand seat.pending.items f.left f.within

pub no_requests : {D R : Type 0} (s : Desk D R) → Fits s → (lane : ℕ) → length s.records.seats.items ≤ lane → requests_in s.script lane ≡ 0
no_requests s k lane past = ap (λ (l : List Line). length l) (no_lines s.script lane (omega (arith, past, k.lanes)))
