-- How a loop over a list goes on.
use Rattle.std.proofs.Common.{◌≡◌, ℕ, suc, ◌+◌, ◌<◌, ◌≤◌, List, [], ◌∷◌, ◌++◌, length, get_or, drop, sym, ap, ◌∙◌, append_assoc, append-nil, add-one, arith}
use Rattle.std.proofs.Math.Seq.{drop-cons}
use Rattle.std.proofs.lemmas.List.{length-drop}

-- the one that comes stands before the rest
pub comes : {X : Type 0} (items : List X) (i : ℕ) (x : X) → i < length items → x ≡ get_or items i x → drop i items ≡ x ∷ drop (i + 1) items
comes items i x within here = drop-cons items i x within ∙ ap (λ y. y ∷ drop (suc i) items) (sym here) ∙ ap (λ k. x ∷ drop k items) (sym (add-one i))

none_left : {X : Type 0} (items : List X) → length items ≡ 0 → items ≡ []
none_left [] none = cc
none_left (x ∷ items) none = absurd (omega (arith, none))

-- in the end nothing comes
pub is_past : {X : Type 0} (items : List X) (i : ℕ) → length items ≤ i → drop i items ≡ []
is_past items i past = none_left (drop i items) (omega (arith, length-drop i items, past))

-- one that came moves over
pub moved : {Y : Type 0} (out new rest less old : List Y) (y : Y) → out ++ rest ≡ old → rest ≡ y ∷ less → new ≡ out ++ y ∷ [] → new ++ less ≡ old
moved out new rest less old y is front more =
    ap (λ l. l ++ less) more ∙ append_assoc out (y ∷ []) less ∙ ap (λ l. out ++ l) (sym front) ∙ is

-- all have come
pub all_moved : {Y : Type 0} (out rest old : List Y) → out ++ rest ≡ old → rest ≡ [] → out ≡ old
all_moved out rest old is none = sym (append-nil out) ∙ ap (λ l. out ++ l) (sym none) ∙ is
