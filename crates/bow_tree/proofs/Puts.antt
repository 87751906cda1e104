-- Rows after a change.
use Rattle.std.proofs.Common.{◌≡◌, ℕ, zero, suc, ◌+◌, ◌-◌, ◌<◌, ◌≤◌, min, List, [], ◌∷◌, ◌++◌, length, take, drop, replicate, set, refl, sym, ap, ◌∙◌, arith}
use Rattle.bow_units.specs.declared.statuses.Kind.{Kind}
use Rattle.bow_tree.specs.Rows.{put}

-- no block is to change
pub put_none : (from to : ℕ) (kind : Kind) (xs : List Kind) → to ≤ from → put from to kind xs ≡ xs
put_none from to kind [] h = refl
put_none zero zero kind (x ∷ xs) h = refl
put_none zero (suc to) kind (x ∷ xs) h = absurd (omega (arith, h))
put_none (suc from) zero kind (x ∷ xs) h = refl
put_none (suc from) (suc to) kind (x ∷ xs) h = ap (λ l. x ∷ l) (put_none from to kind xs (omega (arith, h)))

-- all blocks are to change
pub put_all : (to : ℕ) (kind : Kind) (xs : List Kind) → length xs ≤ to → put 0 to kind xs ≡ replicate (length xs) kind
put_all to kind [] h = refl
put_all zero kind (x ∷ xs) h = absurd (omega (arith, h))
put_all (suc to) kind (x ∷ xs) h = ap (λ l. kind ∷ l) (put_all to kind xs (omega (arith, h)))

pub put_append : (from to : ℕ) (kind : Kind) (xs ys : List Kind) → put from to kind (xs ++ ys) ≡ put from to kind xs ++ put (from - length xs) (to - length xs) kind ys
put_append from to kind [] ys =
    let f : from ≡ from - 0 = omega arith in
    let t : to ≡ to - 0 = omega arith in
    ap (λ n. put n to kind ys) f ∙ ap (λ n. put (from - 0) n kind ys) t
put_append zero zero kind (x ∷ xs) ys = ap (λ l. x ∷ (xs ++ l)) (sym (put_none (zero - suc (length xs)) (zero - suc (length xs)) kind ys (omega arith)))
put_append zero (suc to) kind (x ∷ xs) ys =
    let f : zero - length xs ≡ zero - suc (length xs) = omega arith in
    let t : to - length xs ≡ suc to - suc (length xs) = omega arith in
    ap (λ l. kind ∷ l) (put_append zero to kind xs ys ∙ ap (λ l. put zero to kind xs ++ l) (ap (λ n. put n (to - length xs) kind ys) f ∙ ap (λ n. put (zero - suc (length xs)) n kind ys) t))
put_append (suc from) zero kind (x ∷ xs) ys = ap (λ l. x ∷ (xs ++ l)) (sym (put_none (suc from - suc (length xs)) (zero - suc (length xs)) kind ys (omega arith)))
put_append (suc from) (suc to) kind (x ∷ xs) ys =
    let f : from - length xs ≡ suc from - suc (length xs) = omega arith in
    let t : to - length xs ≡ suc to - suc (length xs) = omega arith in
    ap (λ l. x ∷ l) (put_append from to kind xs ys ∙ ap (λ l. put from to kind xs ++ l) (ap (λ n. put n (to - length xs) kind ys) f ∙ ap (λ n. put (suc from - suc (length xs)) n kind ys) t))

pub put_min : (from to : ℕ) (kind : Kind) (xs : List Kind) → put (min from (length xs)) (min to (length xs)) kind xs ≡ put from to kind xs
put_min from to kind [] = refl
put_min zero zero kind (x ∷ xs) = let z : min zero (suc (length xs)) ≡ zero = omega arith in ap (λ n. put n n kind (x ∷ xs)) z
put_min zero (suc to) kind (x ∷ xs) =
    let m = length xs in
    let z : min zero (suc m) ≡ zero = omega arith in
    let y : zero ≡ min zero m = omega arith in
    let t : min (suc to) (suc m) ≡ suc (min to m) = omega arith in
    ap (λ n. put n (min (suc to) (suc m)) kind (x ∷ xs)) z ∙ ap (λ n. put zero n kind (x ∷ xs)) t ∙ ap (λ l. kind ∷ l) (ap (λ n. put n (min to m) kind xs) y ∙ put_min zero to kind xs)
put_min (suc from) zero kind (x ∷ xs) =
    let m = length xs in
    let f : min (suc from) (suc m) ≡ suc (min from m) = omega arith in
    let z : min zero (suc m) ≡ zero = omega arith in
    ap (λ n. put n (min zero (suc m)) kind (x ∷ xs)) f ∙ ap (λ n. put (suc (min from m)) n kind (x ∷ xs)) z
put_min (suc from) (suc to) kind (x ∷ xs) =
    let m = length xs in
    let f : min (suc from) (suc m) ≡ suc (min from m) = omega arith in
    let t : min (suc to) (suc m) ≡ suc (min to m) = omega arith in
    ap (λ n. put n (min (suc to) (suc m)) kind (x ∷ xs)) f ∙ ap (λ n. put (suc (min from m)) n kind (x ∷ xs)) t ∙ ap (λ l. x ∷ l) (put_min from to kind xs)

pub put_length : (from to : ℕ) (kind : Kind) (xs : List Kind) → length (put from to kind xs) ≡ length xs
put_length from to kind [] = refl
put_length zero zero kind (x ∷ xs) = refl
put_length zero (suc to) kind (x ∷ xs) = ap suc (put_length zero to kind xs)
put_length (suc from) zero kind (x ∷ xs) = refl
put_length (suc from) (suc to) kind (x ∷ xs) = ap suc (put_length from to kind xs)

-- the same, by what stands before, in and after the changed blocks
pub put_is : (from count : ℕ) (kind : Kind) (xs : List Kind) → from + count ≤ length xs → put from (from + count) kind xs ≡ take from xs ++ replicate count kind ++ drop (from + count) xs
put_is zero zero kind [] h = refl
put_is zero (suc count) kind [] h = absurd (omega (arith, h))
put_is (suc from) count kind [] h = absurd (omega (arith, h))
put_is zero zero kind (x ∷ xs) h = refl
put_is zero (suc count) kind (x ∷ xs) h =
    let num : zero + suc count ≡ suc (zero + count) = omega arith in
    ap (λ n. put zero n kind (x ∷ xs)) num ∙ ap (λ l. kind ∷ l) (put_is zero count kind xs (omega (arith, h))) ∙ ap (λ n. kind ∷ (replicate count kind ++ drop n (x ∷ xs))) (sym num)
put_is (suc from) count kind (x ∷ xs) h =
    let num : suc from + count ≡ suc (from + count) = omega arith in
    ap (λ n. put (suc from) n kind (x ∷ xs)) num ∙ ap (λ l. x ∷ l) (put_is from count kind xs (omega (arith, h))) ∙ ap (λ n. x ∷ (take from xs ++ replicate count kind ++ drop n (x ∷ xs))) (sym num)

-- one block more
pub put_more : (from n : ℕ) (kind : Kind) (xs : List Kind) → from ≤ n → n < length xs → set (put from n kind xs) n kind ≡ put from (suc n) kind xs
put_more from n kind [] low h = absurd (omega (arith, h))
put_more zero zero kind (x ∷ xs) low h = ap (λ l. kind ∷ l) (sym (put_none zero zero kind xs low))
put_more zero (suc n) kind (x ∷ xs) low h = ap (λ l. kind ∷ l) (put_more zero n kind xs (omega arith) (omega (arith, h)))
put_more (suc from) zero kind (x ∷ xs) low h = absurd (omega (arith, low))
put_more (suc from) (suc n) kind (x ∷ xs) low h = ap (λ l. x ∷ l) (put_more from n kind xs (omega (arith, low)) (omega (arith, h)))
