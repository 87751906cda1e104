-- Lists that are gone through from front to back.
use Rattle.std.proofs.Common.{◌≡◌, ℕ, ◌+◌, ◌<◌, ◌≤◌, ◌++◌, List, [], ◌∷◌, length, arith, ap, length-append}

-- one goes over from the rest
pub over : {A : Type 0} (done xs ys : List A) (x : A) (n : ℕ) → xs ≡ x ∷ ys → length done + length xs ≡ n → length (done ++ x ∷ []) + length ys ≡ n
over done xs ys x n is all = let a = ap length is in let b = length-append done (x ∷ []) in omega (arith, a, b, all)

-- where one is left, fewer went over than there are
pub one_left : {A : Type 0} (done xs ys : List A) (x : A) (n : ℕ) → xs ≡ x ∷ ys → length done + length xs ≡ n → length done < n
one_left done xs ys x n is all = let a = ap length is in omega (arith, a, all)

-- both get one more
pub as_long : {A B : Type 0} (done : List A) (x : A) (ws us : List B) (w : B) → us ≡ ws ++ w ∷ [] → length ws ≡ length done → length us ≡ length (done ++ x ∷ [])
as_long done x ws us w is same = let a = ap length is in let b = length-append ws (w ∷ []) in let c = length-append done (x ∷ []) in omega (arith, a, b, c, same)

-- one more takes the place of one that is left
pub room_still : {A B : Type 0} (xs ys : List A) (x : A) (ws us : List B) (w : B) (cap cap' : ℕ) → xs ≡ x ∷ ys → us ≡ ws ++ w ∷ [] → cap' ≡ cap → length ws + length xs ≤ cap → length us + length ys ≤ cap'
room_still xs ys x ws us w cap cap' is more same room = let a = ap length is in let b = ap length more in let c = length-append ws (w ∷ []) in omega (arith, a, b, c, same, room)
