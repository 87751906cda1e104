-- How many calls there may be in all.
use Rattle.std.proofs.Common.{◌≡◌, ℕ, zero, suc, ◌+◌, ◌<◌, ◌≤◌, List, [], ◌∷◌, length, get_or, arith, refl, ap}
use Rattle.std.proofs.lemmas.List.Sums.{sum_by-cons}
use Rattle.std.specs.Prelude.{sum, replicate, Option, None}
use Rattle.bow_history.specs.Ends.{over_lanes}
use Rattle.bow_receipts.specs.declared.hands.Hand.{Hand}
use Rattle.bow_receipts.specs.Hands.{hand_at}
use Rattle.bow_receipts.specs.Openings.{may_of}

cons : (x : ℕ) (xs : List ℕ) → sum (x ∷ xs) ≡ x + sum xs
cons x xs = sum_by-cons (λ (n : ℕ). n) x xs

pub sum_at : (xs : List ℕ) (i : ℕ) → i < length xs → get_or xs i 0 ≤ sum xs
sum_at [] i less = absurd (omega (arith, less))
sum_at (x ∷ xs) zero less = let c = cons x xs in omega (arith, c)
sum_at (x ∷ xs) (suc i) less = let rest = sum_at xs i (omega (arith, less)) in let c = cons x xs in omega (arith, rest, c)

-- the first of them, and the others
pub over_shift : (f : ℕ → ℕ) (n : ℕ) → over_lanes f (suc n) ≡ f 0 + over_lanes (λ l. f (suc l)) n
over_shift f zero = refl
over_shift f (suc n) = let rest = over_shift f n in omega (arith, rest)

-- of all callers together as many as in the list
pub over_sum : (calls : List ℕ) → over_lanes (may_of calls) (length calls) ≡ sum calls
over_sum [] = refl
over_sum (x ∷ xs) = let shift = over_shift (may_of (x ∷ xs)) (length xs) in let rest = over_sum xs in let c = cons x xs in omega (arith, shift, rest, c)

-- nobody has anything in hand
pub no_hand_at : (n lane : ℕ) → hand_at (replicate {A = Option Hand} n None) lane ≡ None
no_hand_at zero lane = refl
no_hand_at (suc n) zero = refl
no_hand_at (suc n) (suc lane) = no_hand_at n lane

pub hands_long : (n : ℕ) → length (replicate {A = Option Hand} n None) ≡ n
hands_long zero = refl
hands_long (suc n) = ap suc (hands_long n)
