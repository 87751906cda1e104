-- A text spells one number.
use Rattle.std.proofs.Common.{◌≡◌, ◌∙◌, ◌<◌, ◌≤◌, ◌^◌, ℕ, List, Some, sym, subst}
use Rattle.std.specs.Fmt.{decimal}
use Rattle.std.proofs.lemmas.Fmt.{decimal_injective}
use Rattle.bow_words.specs.Words.{SpellsIn}

-- a text that spells m is not one that spells a number of a range without m
pub spells_in_range : (least most m n : ℕ) (word : List ℕ) → word ≡ decimal m → m < 2 ^ 64 → n < 2 ^ 64
    → SpellsIn least most (Some word) n → (least ≤ m) × (m ≤ most)
spells_in_range least most m n word is small few spells =
    let same : n ≡ m = decimal_injective n m few small (sym (some_eq spells.2) ∙ is) in
    (subst (λ k. least ≤ k) same spells.0, subst (λ k. k ≤ most) same spells.1)
  where
    some_eq : {x y : List ℕ} → Some x ≡ Some y → x ≡ y
    some_eq e = cc
