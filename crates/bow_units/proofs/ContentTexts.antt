-- Which text a content has.
use Rattle.std.proofs.Common.{◌≡◌, ℕ, zero, suc, ◌/◌, ◌%◌, ◌<◌, ◌^◌, List, [], ◌∷◌, ◌++◌, length, get_or, take, drop, refl, sym, ap, ◌∙◌, subst, arith, inl, inr}
use Rattle.std.specs.Prelude.{◌==◌, ◌&&◌, ◌⊎◌, Result, OnOk, true, false, nat_lt, Some, None, codes}
use Rattle.std.specs.Str.{bytes_eq}
use Rattle.std.proofs.lemmas.Bool.{cases_Bool, cond-true, cond-false, and_parts, and_from, eqb-true, lt-ltb, ltb-true}
use Rattle.std.proofs.lemmas.Slice.Eq.{bytes_eq-Decides}
use Rattle.byteorder.specs.Endian.{little_number}
use Rattle.byteorder.specs.Numbers.{little_from-lt}
use Rattle.bow_units.specs.Blocks.{are_zero}
use Rattle.bow_units.specs.Contents.{hex_text, trimmed, if_pattern, pattern_parts, pattern_text, pattern_or_hex_text, content_text}
use Rattle.bow_units.specs.Pattern.{pattern, IsPatternOf}
use Rattle.bow_units.proofs.PatternGroups.{HasGroups, parts_of}

-- bytes that are all zero
pub zero_at : (bytes : List ℕ) (k : ℕ) → are_zero bytes ≡ true → get_or bytes k 0 ≡ 0
zero_at [] k are = refl
zero_at (b ∷ bytes) zero are = eqb-true b 0 (and_parts (b == 0) (are_zero bytes) are).0
zero_at (b ∷ bytes) (suc k) are = zero_at bytes k (and_parts (b == 0) (are_zero bytes) are).1

pub trimmed_zero : (bytes : List ℕ) → are_zero bytes ≡ true → trimmed bytes ≡ []
trimmed_zero [] are = refl
trimmed_zero (b ∷ bytes) are = cond-true (are_zero (b ∷ bytes)) [] (b ∷ trimmed bytes) are

pub not_zero_at : (bytes : List ℕ) (k : ℕ) → (get_or bytes k 0 ≡ 0 → ⊥) → are_zero bytes ≡ false
not_zero_at bytes k some = elim (cases_Bool (are_zero bytes)) [ inl are ↦ absurd (some (zero_at bytes k are)) | inr not ↦ not ]

-- the bytes up to the last one that is not zero
pub trimmed_at : (bytes : List ℕ) (m : ℕ) → m < length bytes → (get_or bytes m 0 ≡ 0 → ⊥) → are_zero (drop (suc m) bytes) ≡ true → trimmed bytes ≡ take (suc m) bytes
trimmed_at [] m within some are = absurd (omega (arith, within))
trimmed_at (b ∷ bytes) zero within some are =
    cond-false (are_zero (b ∷ bytes)) [] (b ∷ trimmed bytes) (not_zero_at (b ∷ bytes) 0 some) ∙ ap (λ (l : List ℕ). b ∷ l) (trimmed_zero bytes are)
trimmed_at (b ∷ bytes) (suc m) within some are =
    cond-false (are_zero (b ∷ bytes)) [] (b ∷ trimmed bytes) (not_zero_at (b ∷ bytes) (suc m) some) ∙ ap (λ (l : List ℕ). b ∷ l) (trimmed_at bytes m (omega (arith, within)) some are)

-- one zero byte more at the end
pub more_zeros : (bytes : List ℕ) (m : ℕ) → m < length bytes → get_or bytes m 0 ≡ 0 → are_zero (drop (suc m) bytes) ≡ true → are_zero (drop m bytes) ≡ true
more_zeros [] m within is are = absurd (omega (arith, within))
more_zeros (b ∷ bytes) zero within is are = and_from (b == 0) (are_zero bytes) (ap (λ n. n == 0) is) are
more_zeros (b ∷ bytes) (suc m) within is are = more_zeros bytes m (omega (arith, within)) is are

-- the tests of `if_pattern`
tested : (bytes : List ℕ) (b s : ℕ) → IsPatternOf bytes b s → (nat_lt b 1048576 && bytes_eq bytes (pattern b s (length bytes))) ≡ true
tested bytes b s is = and_from (nat_lt b 1048576) (bytes_eq bytes (pattern b s (length bytes))) (lt-ltb b 1048576 is.block) ((bytes_eq-Decides bytes (pattern b s (length bytes))).1 is.same)

pub parts_some : (bytes : List ℕ) (b s : ℕ) → HasGroups (length bytes) → IsPatternOf bytes b s → pattern_parts bytes ≡ Some (b, s)
parts_some bytes b s has is =
    let found = parts_of b s bytes has is in
    let here : pattern_parts bytes ≡ if_pattern bytes b s = ap (λ x. if_pattern bytes x (little_number 8 bytes / 2 ^ 32)) found.block ∙ ap (if_pattern bytes b) found.seed in
    here ∙ cond-true (nat_lt b 1048576 && bytes_eq bytes (pattern b s (length bytes))) (Some (b, s)) None (tested bytes b s is)

-- which block and seed they can only be, or none
pub parts_cases : (bytes : List ℕ) → ((k : ℕ) → get_or bytes k 0 < 256) → ((b : ℕ) × (s : ℕ) × IsPatternOf bytes b s) ⊎ (pattern_parts bytes ≡ None)
parts_cases bytes small =
    let number = little_number 8 bytes in
    let b = number % 2 ^ 32 / 512 in
    let s = number / 2 ^ 32 in
    let below : number < 256 ^ 8 = little_from-lt 0 8 bytes small in
    let test = nat_lt b 1048576 && bytes_eq bytes (pattern b s (length bytes)) in
    elim (cases_Bool test) [
      | inl is ↦
          let both = and_parts (nat_lt b 1048576) (bytes_eq bytes (pattern b s (length bytes))) is in
          inl (b, s, record { block = ltb-true b 1048576 both.0; seed = omega (arith, below); same = (bytes_eq-Decides bytes (pattern b s (length bytes))).0 both.1 })
      | inr not ↦ inr (cond-false test (Some (b, s)) None not)
    ]

-- a text for each way to tell a content
pub text_of_zero : (bytes : List ℕ) → are_zero bytes ≡ true → content_text bytes ≡ codes "zero"
unfolding content_text
text_of_zero bytes are = cond-true (are_zero bytes) (codes "zero") (pattern_or_hex_text bytes (pattern_parts bytes)) are

pub text_of_pattern : (bytes : List ℕ) (b s : ℕ) → HasGroups (length bytes) → are_zero bytes ≡ false → IsPatternOf bytes b s → content_text bytes ≡ pattern_text b s
unfolding content_text
text_of_pattern bytes b s has not is = cond-false (are_zero bytes) (codes "zero") (pattern_or_hex_text bytes (pattern_parts bytes)) not ∙ ap (pattern_or_hex_text bytes) (parts_some bytes b s has is)

pub text_of_other : (bytes : List ℕ) → are_zero bytes ≡ false → pattern_parts bytes ≡ None → content_text bytes ≡ codes "hex " ++ hex_text (trimmed bytes)
unfolding content_text
text_of_other bytes not none = cond-false (are_zero bytes) (codes "zero") (pattern_or_hex_text bytes (pattern_parts bytes)) not ∙ ap (pattern_or_hex_text bytes) none

pub parts_none : (bytes : List ℕ) → ((k : ℕ) → get_or bytes k 0 < 256) → ((b s : ℕ) → IsPatternOf bytes b s → ⊥) → pattern_parts bytes ≡ None
parts_none bytes small never = elim (parts_cases bytes small) [ inl found ↦ absurd (never found.0 found.1 found.2) | inr none ↦ none ]

pub told_as : {T E : Type 0} (r : Result T E) (old new text told : List ℕ) → told ≡ text → OnOk r (new ≡ old ++ text) → OnOk r (new ≡ old ++ told)
told_as r old new text told is put = subst (λ (l : List ℕ). OnOk r (new ≡ old ++ l)) (sym is) put
