-- Which content a text tells.
use Rattle.std.proofs.Common.{◌≡◌, ℕ, ◌+◌, ◌*◌, ◌-◌, ◌/◌, ◌%◌, ◌<◌, ◌^◌, List, [], ◌∷◌, ◌++◌, length, get_or, get_or-take, take, drop, replicate, refl, sym, ap, ◌∙◌, subst, arith, inl, inr}
use Rattle.std.specs.Prelude.{◌==◌, ◌≢◌, true, false, nat_lt, if◌then◌else◌, codes}
use Rattle.std.specs.List.{All}
use Rattle.std.specs.Fmt.{decimal}
use Rattle.std.proofs.lemmas.Bool.{cases_Bool, cases_lt, cond-true, cond-false, and_parts, eqb-true, lt-ltb, le-ltb}
use Rattle.std.proofs.lemmas.List.{get_or_default, get_or-drop}
use Rattle.std.proofs.lemmas.List.Elements.{All-head, All-tail, All-nil, All-cons}
use Rattle.std.proofs.lemmas.Fmt.{decimal_injective, decimal_is_IsNumeral}
use Rattle.std.proofs.lemmas.Str.Parse.{digit_at}
use Rattle.bow_units.specs.Blocks.{are_zero}
use Rattle.bow_units.specs.Contents.{hex_digit, hex_text, trimmed, pattern_text, content_text, TextsTellContents, PatternsAreTold}
use Rattle.bow_units.specs.Pattern.{pattern, pattern_group, IsPatternOf}
use Rattle.bow_units.proofs.Bytes.{byte_at}
use Rattle.bow_units.proofs.PatternGroups.{HasGroups, has_groups, group_at}
use Rattle.bow_units.proofs.ContentTexts.{text_of_zero, text_of_pattern, text_of_other, parts_cases, not_zero_at}

-- the digit's number
digit_of : ℕ → ℕ
digit_of c = if nat_lt c 58 then c - 48 else c - 87

digit_back : (n : ℕ) → n < 16 → digit_of (hex_digit n) ≡ n
unfolding digit_of
digit_back n small = elim (cases_lt n 10) [
  | inl low ↦ ap digit_of (cond-true (nat_lt n 10) (48 + n) (87 + n) (lt-ltb n 10 low)) ∙ cond-true (nat_lt (48 + n) 58) (48 + n - 48) (48 + n - 87) (lt-ltb (48 + n) 58 (omega (arith, low))) ∙ omega arith
  | inr high ↦ ap digit_of (cond-false (nat_lt n 10) (48 + n) (87 + n) (le-ltb n 10 high)) ∙ cond-false (nat_lt (87 + n) 58) (87 + n - 48) (87 + n - 87) (le-ltb (87 + n) 58 (omega (arith, high))) ∙ omega arith
]

pub hex_same : (xs ys : List ℕ) → All (λ b. b < 256) xs → All (λ b. b < 256) ys → hex_text xs ≡ hex_text ys → xs ≡ ys
hex_same [] [] p q is = refl
hex_same [] (y ∷ ys) p q is = absurd (omega (arith, ap length is))
hex_same (x ∷ xs) [] p q is = absurd (omega (arith, ap length is))
hex_same (x ∷ xs) (y ∷ ys) p q is =
    let small_x : x < 256 = All-head (λ b. b < 256) x xs p in
    let small_y : y < 256 = All-head (λ b. b < 256) y ys q in
    let first : hex_digit (x / 16) ≡ hex_digit (y / 16) = ap (λ (l : List ℕ). get_or l 0 0) is in
    let second : hex_digit (x % 16) ≡ hex_digit (y % 16) = ap (λ (l : List ℕ). get_or l 1 0) is in
    let high : x / 16 ≡ y / 16 = sym (digit_back (x / 16) (omega (arith, small_x))) ∙ ap digit_of first ∙ digit_back (y / 16) (omega (arith, small_y)) in
    let low : x % 16 ≡ y % 16 = sym (digit_back (x % 16) (omega arith)) ∙ ap digit_of second ∙ digit_back (y % 16) (omega arith) in
    let heads : x ≡ y = omega (arith, high, low) in
    let tails : xs ≡ ys = hex_same xs ys (All-tail (λ b. b < 256) x xs p) (All-tail (λ b. b < 256) y ys q) (ap (drop 2) is) in
    ap (λ b. b ∷ xs) heads ∙ ap (λ (l : List ℕ). y ∷ l) tails

zeros : (bytes : List ℕ) → are_zero bytes ≡ true → bytes ≡ replicate (length bytes) 0
zeros [] are = refl
zeros (b ∷ bytes) are =
    let parts = and_parts (b == 0) (are_zero bytes) are in
    ap (λ n. n ∷ bytes) (eqb-true b 0 parts.0) ∙ ap (λ (l : List ℕ). 0 ∷ l) (zeros bytes parts.1)

-- the bytes that end in as many zeros as are left out
refilled : ℕ → List ℕ → List ℕ
refilled n front = front ++ replicate (n - length front) 0

trimmed_whole : (bytes : List ℕ) → bytes ≡ refilled (length bytes) (trimmed bytes)
unfolding refilled
trimmed_whole [] = refl
trimmed_whole (b ∷ bytes) = elim (cases_Bool (are_zero (b ∷ bytes))) [
  | inl are ↦ let none : length (b ∷ bytes) ≡ length (b ∷ bytes) - 0 = omega arith in zeros (b ∷ bytes) are ∙ ap (λ n. replicate n 0) none ∙ ap (refilled (length (b ∷ bytes))) (sym (cond-true (are_zero (b ∷ bytes)) [] (b ∷ trimmed bytes) are))
  | inr not ↦
      let count : length bytes - length (trimmed bytes) ≡ length (b ∷ bytes) - length (b ∷ trimmed bytes) = omega arith in
      ap (λ (l : List ℕ). b ∷ l) (trimmed_whole bytes) ∙ ap (λ n. b ∷ (trimmed bytes ++ replicate n 0)) count ∙ ap (refilled (length (b ∷ bytes))) (sym (cond-false (are_zero (b ∷ bytes)) [] (b ∷ trimmed bytes) not))
]

all_trimmed : (bytes : List ℕ) → All (λ b. b < 256) bytes → All (λ b. b < 256) (trimmed bytes)
all_trimmed [] p = p
all_trimmed (b ∷ bytes) p = elim (cases_Bool (are_zero (b ∷ bytes))) [
  | inl are ↦ subst (λ (l : List ℕ). All (λ b. b < 256) l) (sym (cond-true (are_zero (b ∷ bytes)) [] (b ∷ trimmed bytes) are)) (All-nil (λ b. b < 256))
  | inr not ↦
      subst (λ (l : List ℕ). All (λ b. b < 256) l) (sym (cond-false (are_zero (b ∷ bytes)) [] (b ∷ trimmed bytes) not))
      (All-cons (λ b. b < 256) b (trimmed bytes) (All-head (λ b. b < 256) b bytes p) (all_trimmed bytes (All-tail (λ b. b < 256) b bytes p)))
]

-- a text is cut at its first byte b in one way
cut_unique : (b : ℕ) (x y u v : List ℕ) → All (λ c. c ≢ b) x → All (λ c. c ≢ b) y → x ++ (b ∷ u) ≡ y ++ (b ∷ v) → (x ≡ y) × (u ≡ v)
cut_unique b [] [] u v p q is = (refl, ap (drop 1) is)
cut_unique b [] (d ∷ y) u v p q is = absurd (All-head (λ c. c ≢ b) d y q (sym (ap (λ (l : List ℕ). get_or l 0 0) is)))
cut_unique b (c ∷ x) [] u v p q is = absurd (All-head (λ c. c ≢ b) c x p (ap (λ (l : List ℕ). get_or l 0 0) is))
cut_unique b (c ∷ x) (d ∷ y) u v p q is =
    let heads : c ≡ d = ap (λ (l : List ℕ). get_or l 0 0) is in
    let more = cut_unique b x y u v (All-tail (λ c. c ≢ b) c x p) (All-tail (λ c. c ≢ b) d y q) (ap (drop 1) is) in
    (ap (λ n. n ∷ x) heads ∙ ap (λ (l : List ℕ). d ∷ l) more.0, more.1)

no_space : (n : ℕ) → n < 2 ^ 64 → All (λ c. c ≢ 32) (decimal n)
no_space n small k d within is =
    let digit = digit_at (decimal n) k (decimal_is_IsNumeral n small).0.1 within in
    omega (arith, digit.0, get_or_default (decimal n) k d 0 within, is)

-- a content with its text
data Told (bytes : List ℕ) : List ℕ → Type 0 where
  OfZero : are_zero bytes ≡ true → Told bytes (codes "zero")
  OfPattern : (b s : ℕ) → IsPatternOf bytes b s → Told bytes (pattern_text b s)
  OfHex : Told bytes (codes "hex " ++ hex_text (trimmed bytes))

told : (bytes : List ℕ) → HasGroups (length bytes) → All (λ b. b < 256) bytes → Told bytes (content_text bytes)
told bytes has small = elim (cases_Bool (are_zero bytes)) [
  | inl are ↦ subst (Told bytes) (sym (text_of_zero bytes are)) (OfZero are)
  | inr not ↦ elim (parts_cases bytes (byte_at bytes small)) [
    | inl found ↦ subst (Told bytes) (sym (text_of_pattern bytes found.0 found.1 has not found.2)) (OfPattern found.0 found.1 found.2)
    | inr none ↦ subst (Told bytes) (sym (text_of_other bytes not none)) OfHex
  ]
]

first : List ℕ → ℕ
first text = get_or text 0 0

same : (xs ys t u : List ℕ) → All (λ b. b < 256) xs → All (λ b. b < 256) ys → length ys ≡ length xs → Told xs t → Told ys u → t ≡ u → xs ≡ ys
unfolding first
same xs ys _ _ p q long (OfZero a) (OfZero b) is = zeros xs a ∙ ap (λ n. replicate n 0) (sym long) ∙ sym (zeros ys b)
same xs ys _ _ p q long (OfZero a) (OfPattern b s w) is = absurd (omega (arith, ap first is))
same xs ys _ _ p q long (OfZero a) OfHex is = absurd (omega (arith, ap first is))
same xs ys _ _ p q long (OfPattern b s v) (OfZero a) is = absurd (omega (arith, ap first is))
same xs ys _ _ p q long (OfPattern b s v) (OfPattern c t w) is =
    let parts = cut_unique 32 (decimal b) (decimal c) (decimal s) (decimal t) (no_space b (omega (arith, v.block))) (no_space c (omega (arith, w.block))) (ap (drop 8) is) in
    let blocks : b ≡ c = decimal_injective b c (omega (arith, v.block)) (omega (arith, w.block)) parts.0 in
    let seeds : s ≡ t = decimal_injective s t (omega (arith, v.seed)) (omega (arith, w.seed)) parts.1 in
    v.same ∙ ap (λ n. pattern n s (length xs)) blocks ∙ ap (λ n. pattern c n (length xs)) seeds ∙ ap (pattern c t) (sym long) ∙ sym w.same
same xs ys _ _ p q long (OfPattern b s v) OfHex is = absurd (omega (arith, ap first is))
same xs ys _ _ p q long OfHex (OfZero a) is = absurd (omega (arith, ap first is))
same xs ys _ _ p q long OfHex (OfPattern b s w) is = absurd (omega (arith, ap first is))
same xs ys _ _ p q long OfHex OfHex is =
    trimmed_whole xs ∙ ap (λ n. refilled n (trimmed xs)) (sym long) ∙ ap (refilled (length ys)) (hex_same (trimmed xs) (trimmed ys) (all_trimmed xs p) (all_trimmed ys q) (ap (drop 4) is)) ∙ sym (trimmed_whole ys)

pub texts_tell_contents : TextsTellContents
texts_tell_contents xs ys size long p q is =
    let has_x = has_groups (length xs) size in
    let has_y : HasGroups (length ys) = rw long has_x in
    same xs ys (content_text xs) (content_text ys) p q long (told xs has_x p) (told ys has_y q) is

-- the second group of a pattern is not zero
pub pattern_not_zero : (bytes : List ℕ) (b s : ℕ) → HasGroups (length bytes) → IsPatternOf bytes b s → are_zero bytes ≡ false
unfolding first
pattern_not_zero bytes b s has is =
    let group : take 8 (drop 8 bytes) ≡ pattern_group b s 1 = group_at b s 1 bytes is.same (omega (arith, has.whole, has.some)) in
    let byte : get_or bytes 8 0 ≡ (s * 2 ^ 32 + b * 512 + 1) % 256 = sym (get_or-take 8 (drop 8 bytes) 0 0 (omega arith) ∙ get_or-drop 8 bytes 0 0) ∙ ap first group in
    not_zero_at bytes 8 (λ none. omega (arith, byte, none))

pub patterns_are_told : PatternsAreTold
patterns_are_told bytes b s size is = let has = has_groups (length bytes) size in text_of_pattern bytes b s has (pattern_not_zero bytes b s has is) is
