-- Lists and patterns, one more.
use Rattle.std.proofs.Common.{◌≡◌, ℕ, zero, suc, ◌+◌, List, [], ◌∷◌, ◌++◌, length, take, drop, Some, sym, ap, ◌∙◌, arith}
use Rattle.std.specs.Prelude.{slice_get}
use Rattle.std.proofs.lemmas.List.{append_assoc, append-nil, take_all}
use Rattle.std.proofs.Math.ListN.{drop_of_length-le}
use Rattle.bow_units.specs.Pattern.{pattern}
use Rattle.bow_session.specs.Requests.{patterns}

-- the pattern of one more block
pub patterns-more : (size first count seed : ℕ) → patterns size first (suc count) seed ≡ patterns size first count seed ++ pattern (first + count) seed size
patterns-more size first zero seed = let none : first ≡ first + 0 = omega arith in append-nil (pattern first seed size) ∙ ap (λ k. pattern k seed size) none
patterns-more size first (suc count) seed =
    let next : suc first + count ≡ first + suc count = omega arith in
    ap (λ (l : List ℕ). pattern first seed size ++ l) (patterns-more size (suc first) count seed ∙ ap (λ k. patterns size (suc first) count seed ++ pattern k seed size) next)
    ∙ sym (append_assoc (pattern first seed size) (patterns size (suc first) count seed) (pattern (first + suc count) seed size))

-- an element parts its list
pub drop-here : {X : Type 0} (xs : List X) (n : ℕ) (x : X) → slice_get xs n ≡ Some x → drop n xs ≡ x ∷ drop (suc n) xs
drop-here [] n x here = grind (arith, here)
drop-here (y ∷ xs) zero x here = grind (arith, here)
drop-here (y ∷ xs) (suc n) x here = drop-here xs n x here

pub take-here : {X : Type 0} (xs : List X) (n : ℕ) (x : X) → slice_get xs n ≡ Some x → take (suc n) xs ≡ take n xs ++ x ∷ []
take-here [] n x here = grind (arith, here)
take-here (y ∷ xs) zero x here = grind (arith, here)
take-here (y ∷ xs) (suc n) x here = ap (λ l. y ∷ l) (take-here xs n x here)

-- what a buffer holds once it was filled again
pub refilled : (len : ℕ) (new old : List ℕ) → length new ≡ length old → len ≡ length old → take len (new ++ drop (length new) old) ≡ new
refilled len new old same is =
    let whole : length new ≡ len = omega arith in
    ap (λ (l : List ℕ). take len (new ++ l)) (drop_of_length-le old (omega arith)) ∙ ap (take len) (append-nil new) ∙ take_all len new (omega arith)
