-- Rows of things, and what stands where in them.
use Rattle.std.proofs.Common.{◌≡◌, ℕ, zero, suc, ◌-◌, ◌<◌, ◌≤◌, List, [], ◌∷◌, ◌++◌, Some, length, drop, get_or, refl, sym, ap, ◌∙◌, arith}
use Rattle.std.specs.Prelude.{slice_get}
use Rattle.std.proofs.lemmas.Option.{slice_get-get_or, slice_get_within}

-- the first one of what is left
pub drop_first : {A : Type 0} (xs less : List A) (n : ℕ) (x : A) → drop n xs ≡ x ∷ less → slice_get xs n ≡ Some x
drop_first [] less zero x front = absurd (grind (arith, front))
drop_first [] less (suc n) x front = absurd (grind (arith, front))
drop_first (y ∷ xs) less zero x front = ap (λ l. slice_get l 0) front
drop_first (y ∷ xs) less (suc n) x front = drop_first xs less n x front

-- what is left behind it
pub drop_next : {A : Type 0} (xs less : List A) (n : ℕ) (x : A) → drop n xs ≡ x ∷ less → drop (suc n) xs ≡ less
drop_next [] less zero x front = absurd (grind (arith, front))
drop_next [] less (suc n) x front = absurd (grind (arith, front))
drop_next (y ∷ xs) less zero x front = ap (λ l. drop 1 l) front
drop_next (y ∷ xs) less (suc n) x front = drop_next xs less n x front

-- what stands before others, and behind them
pub get_before : {A : Type 0} (xs ys : List A) (k : ℕ) → k < length xs → slice_get (xs ++ ys) k ≡ slice_get xs k
get_before [] ys k low = absurd (omega (arith, low))
get_before (x ∷ xs) ys zero low = refl
get_before (x ∷ xs) ys (suc k) low = get_before xs ys k (omega (arith, low))

pub get_behind : {A : Type 0} (xs ys : List A) (k : ℕ) → length xs ≤ k → slice_get (xs ++ ys) k ≡ slice_get ys (k - length xs)
get_behind [] ys k high = let none : k - 0 ≡ k = omega arith in ap (λ n. slice_get ys n) (sym none)
get_behind (x ∷ xs) ys zero high = absurd (omega (arith, high))
get_behind (x ∷ xs) ys (suc k) high = let less : k - length xs ≡ suc k - length (x ∷ xs) = omega arith in get_behind xs ys k (omega (arith, high)) ∙ ap (λ n. slice_get ys n) less

pub get_dropped : {A : Type 0} (xs : List A) (n k : ℕ) → n ≤ k → slice_get xs k ≡ slice_get (drop n xs) (k - n)
get_dropped [] zero k high = refl
get_dropped [] (suc n) k high = refl
get_dropped (x ∷ xs) zero k high = let none : k - 0 ≡ k = omega arith in ap (λ n. slice_get (x ∷ xs) n) (sym none)
get_dropped (x ∷ xs) (suc n) zero high = absurd (omega (arith, high))
get_dropped (x ∷ xs) (suc n) (suc k) high = let less : k - n ≡ suc k - suc n = omega arith in get_dropped xs n k (omega (arith, high)) ∙ ap (λ m. slice_get (drop n xs) m) less

-- two rows of one length: what one has the other has, too
pub there_too : {A B : Type 0} (xs : List A) (ys : List B) (k : ℕ) (x : A) → length ys ≡ length xs → slice_get xs k ≡ Some x → (y : B) × (slice_get ys k ≡ Some y)
there_too xs [] k x long at = absurd (let low = slice_get_within xs k x at in omega (arith, low, long))
there_too xs (y ∷ ys) k x long at = (get_or (y ∷ ys) k y, slice_get-get_or (y ∷ ys) k y (let low = slice_get_within xs k x at in omega (arith, low, long)))

-- the element of a number
pub element_at : {A : Type 0} (xs : List A) (k : ℕ) → k < length xs → (x : A) × (slice_get xs k ≡ Some x)
element_at [] k low = absurd (omega (arith, low))
element_at (x ∷ xs) k low = (get_or (x ∷ xs) k x, slice_get-get_or (x ∷ xs) k x low)
