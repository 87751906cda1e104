-- One lane changed, and the others as they were.
use Rattle.std.proofs.Common.{◌≡◌, ◌≢◌, ℕ, zero, suc, List, [], ◌∷◌, length, Some, arith, refl, ap, subst}
use Rattle.std.specs.Prelude.{slice_get, slice_set}
use Rattle.bow_units.specs.declared.requests.Op.{Op}
use Rattle.bow_session.specs.declared.seats.Seat.{Seat}
use Rattle.bow_session.specs.Records.{IsAnswered, HasAnswered}

pub set_here : {X : Type 0} (xs : List X) (i : ℕ) (x y : X) → slice_get xs i ≡ Some y → slice_get (slice_set xs i x) i ≡ Some x
set_here [] i x y here = absurd (grind (arith, here))
set_here (z ∷ xs) zero x y here = refl
set_here (z ∷ xs) (suc i) x y here = set_here xs i x y here

pub set_there : {X : Type 0} (xs : List X) (i j : ℕ) (x : X) → j ≢ i → slice_get (slice_set xs i x) j ≡ slice_get xs j
set_there [] i j x other = refl
set_there (z ∷ xs) zero zero x other = absurd (other refl)
set_there (z ∷ xs) zero (suc j) x other = refl
set_there (z ∷ xs) (suc i) zero x other = refl
set_there (z ∷ xs) (suc i) (suc j) x other = set_there xs i j x (λ e. other (ap suc e))

pub set_length : {X : Type 0} (xs : List X) (i : ℕ) (x : X) → length (slice_set xs i x) ≡ length xs
set_length [] i x = refl
set_length (z ∷ xs) zero x = refl
set_length (z ∷ xs) (suc i) x = ap suc (set_length xs i x)

pub answered_one : (lane : ℕ) (op : Op) (seats : List Seat) (old new : Seat) → slice_get seats lane ≡ Some old → IsAnswered op old new → HasAnswered lane op seats (slice_set seats lane new)
answered_one lane op seats old new here is = record {
  count = set_length seats lane new;
  others = λ other apart. set_there seats lane other new apart;
  here = λ seat found. let same : old ≡ seat = cc (here, found) in (new, set_here seats lane new old here, subst (λ s. IsAnswered op s new) same is);
}
