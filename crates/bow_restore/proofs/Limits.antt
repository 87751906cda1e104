-- Copies against a limit.
use Rattle.std.proofs.Common.{ℕ, ◌+◌, ◌-◌, ◌<◌, ◌≤◌, ◌≡◌, Option, None, Some, arith, refl, ap, ◌∙◌, subst}
use Rattle.bow_restore.specs.Limits.{IsLimit, GoesOn, StopsWithin, spent}

pub goes_none : (limit : Option ℕ) → IsLimit limit → GoesOn limit 0
goes_none None is = tt
goes_none (Some k) is = is

pub spent_none : (limit : Option ℕ) → limit ≡ spent limit 0
spent_none None = refl
spent_none (Some k) = ap Some (omega arith)

pub goes_more : (limit : Option ℕ) (n m : ℕ) → GoesOn limit n → GoesOn (spent limit n) m → GoesOn limit (n + m)
goes_more None n m a b = tt
goes_more (Some k) n m a b = omega arith

pub spent_more : (limit : Option ℕ) (n m : ℕ) → spent (spent limit n) m ≡ spent limit (n + m)
spent_more None n m = refl
spent_more (Some k) n m = ap Some (omega arith)

pub is_left : (limit : Option ℕ) (n : ℕ) → GoesOn limit n → IsLimit (spent limit n)
is_left None n a = tt
is_left (Some k) n a = omega arith

some_is : (a b : ℕ) → Some a ≡ Some b → a ≡ b
some_is a b e = cc

pub stops_at : (limit : Option ℕ) (n m k : ℕ) → GoesOn limit n → spent limit n ≡ Some m → limit ≡ Some k → k ≡ n + m
stops_at None n m k a e is = absurd cc
stops_at (Some j) n m k a e is = omega (arith, some_is _ _ e, some_is _ _ is)

pub stops_more : (limit : Option ℕ) (n m : ℕ) → GoesOn limit n → StopsWithin (spent limit n) m → StopsWithin limit (n + m)
stops_more None n m a b = b
stops_more (Some k) n m a b = omega arith

pub stops_fewer : (limit : Option ℕ) (n m : ℕ) → n ≤ m → StopsWithin limit n → StopsWithin limit m
stops_fewer None n m le s = s
stops_fewer (Some k) n m le s = omega arith

-- so many are left to the limit, where it is reached later
pub left_is : (limit : Option ℕ) (n k : ℕ) → limit ≡ Some k → spent limit n ≡ Some (k - n)
left_is None n k is = absurd cc
left_is (Some j) n k is = ap Some (omega (arith, some_is _ _ is))

pub stops_last : (limit : Option ℕ) → limit ≡ Some 1 → StopsWithin limit 1
stops_last None is = absurd cc
stops_last (Some k) is = omega (arith, some_is _ _ is)

pub within_is : (limit : Option ℕ) (n k : ℕ) → StopsWithin limit n → limit ≡ Some k → k ≤ n
within_is None n k s is = absurd s
within_is (Some j) n k s is = omega (arith, some_is _ _ is)

pub goes_is : (limit : Option ℕ) (n k : ℕ) → GoesOn limit n → limit ≡ Some k → n < k
goes_is None n k s is = absurd cc
goes_is (Some j) n k s is = omega (arith, some_is _ _ is)

-- the limit after more copies
pub goes_step : (limit o : Option ℕ) (n m t : ℕ) → o ≡ spent limit n → n + m ≡ t → GoesOn limit n → GoesOn o m → GoesOn limit t
goes_step limit o n m t is all a b = subst (GoesOn limit) all (goes_more limit n m a (subst (λ p. GoesOn p m) is b))

pub spent_step : (limit o p : Option ℕ) (n m t : ℕ) → o ≡ spent limit n → n + m ≡ t → p ≡ spent o m → p ≡ spent limit t
spent_step limit o p n m t is all now = now ∙ ap (λ q. spent q m) is ∙ spent_more limit n m ∙ ap (spent limit) all

pub stops_step : (limit o : Option ℕ) (n m t u : ℕ) → o ≡ spent limit n → n + m ≡ t → t ≤ u → GoesOn limit n → StopsWithin o m → StopsWithin limit u
stops_step limit o n m t u is all le a s = stops_fewer limit t u le (subst (StopsWithin limit) all (stops_more limit n m a (subst (λ p. StopsWithin p m) is s)))
