-- When a word is the decimal text of a number.
use Rattle.std.proofs.Common.{◌≡◌, inl, inr, ℕ, ◌<◌, ◌≤◌, ◌^◌, true, false, List, [], ◌∷◌, length, get_or, sym, ap, ◌∙◌, arith, rules}
use Rattle.std.specs.List.{list_all}
use Rattle.std.specs.Char.{is_ascii_digit}
use Rattle.std.specs.Fmt.{decimal}
use Rattle.std.proofs.lemmas.Str.Parse.{IsNumeralModel, numerals_by_fold}
use Rattle.std.proofs.lemmas.Fmt.{decimal_nonempty, length-decimal-le, first_decimal, digits_decimal, digits_value-decimal, decimal-digits_value, decimal_digit}
use Rattle.std.proofs.lemmas.Bool.{cases_eq, false≢true}
use Rattle.bow_units.specs.Numbers.{value_of}

abbrev AreDigits : List ℕ → Type 0
AreDigits ds = list_all is_ascii_digit ds ≡ true

own : IsNumeralModel AreDigits (value_of 0)
own = numerals_by_fold AreDigits (search rules) value_of (search rules)

module _ (word : List ℕ) (n : ℕ) (small : n < 2 ^ 64) (is : word ≡ decimal n) where
  pub not_empty : length word ≡ 0 → ⊥
  not_empty none = omega (arith, decimal_nonempty n small, ap length is)

  pub not_long : 20 < length word → ⊥
  not_long long = omega (arith, length-decimal-le 20 n (omega arith) (omega arith) small, ap length is)

  pub not_led : 1 < length word → get_or word 0 0 ≡ 48 → ⊥
  not_led more zero_first = elim (cases_eq n 0) [
    | inl none ↦ let one : word ≡ 48 ∷ [] = is ∙ ap decimal none ∙ decimal_digit 0 (omega arith) in omega (arith, ap length one)
    | inr some ↦ omega (arith, first_decimal n (omega arith) small, ap (λ (l : List ℕ). get_or l 0 0) is)
  ]

  pub not_other : list_all is_ascii_digit word ≡ false → ⊥
  not_other other = false≢true (sym other ∙ ap (list_all is_ascii_digit) is ∙ digits_decimal own n small)

  pub not_large : 2 ^ 64 ≤ value_of 0 word → ⊥
  not_large large = omega (arith, ap (value_of 0) is, digits_value-decimal own n small)

pub spelled : (word : List ℕ) → AreDigits word → 0 < length word → (get_or word 0 0 ≡ 48 → length word ≡ 1) → value_of 0 word < 2 ^ 64 → word ≡ decimal (value_of 0 word)
spelled word digits some led small = sym (decimal-digits_value own word digits some led (omega arith))
