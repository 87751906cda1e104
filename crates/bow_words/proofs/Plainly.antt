-- The words of each command, as a user writes them, ask for it.
use Rattle.std.proofs.Common.{◌≡◌, inl, inr, ◌+◌, ◌<◌, ◌≤◌, ◌^◌, ◌-◌, ℕ, true, false, List, [], ◌∷◌, None, Some, refl, sym, subst, arith, codes, length, rules}
use Rattle.std.specs.List.{list_all}
use Rattle.std.specs.Char.{is_ascii_digit}
use Rattle.std.specs.Fmt.{decimal}
use Rattle.std.proofs.lemmas.Fmt.{decimal_nonempty, digits_decimal}
use Rattle.std.proofs.lemmas.Str.Parse.{IsNumeralModel, numerals_by_fold}
use Rattle.std.proofs.lemmas.Bool.{cases_eq}
use Rattle.bow_units.specs.Numbers.{value_of}
use Rattle.clap.specs.Words.{Text}
use Rattle.clap.proofs.OnLiterals.{clap_on_literals}
use Rattle.bow_words.specs.Words.{AreLimit, AreNumber, ArePast, AreRetry, IsBlockWord, OwnWords, Takes, limit_app, none_app, number_app, texts_of, word_at}
use Rattle.bow_words.specs.Plain.{AskInRange, IsInRange, PlainWordsAsk, own_words}
use Rattle.bow_words.proofs.Positionals.{IsPlainWord, digit_plain, past_taken}
use Rattle.bow_words.specs.declared.commands.Command.{Command}
use Rattle.bow_words.specs.declared.commands.Command.TheVariants as command

-- a number from here on is this one, or from the next on
from_here : (P : ℕ → Type 0) (n x : ℕ) → P n → n ≤ x → (n + 1 ≤ x → P x) → P x
from_here P n x here low above = elim (cases_eq x n) [ inl is ↦ subst P (sym is) here | inr ne ↦ above (omega (arith, low, ne)) ]

-- one of the ten digits
ten : (P : ℕ → Type 0) → P 48 → P 49 → P 50 → P 51 → P 52 → P 53 → P 54 → P 55 → P 56 → P 57 → (x : ℕ) → 48 ≤ x → x ≤ 57 → P x
ten P a b c d e f g h i j x low high =
    from_here P 48 x a low (λ l. from_here P 49 x b l (λ l. from_here P 50 x c l (λ l. from_here P 51 x d l (λ l. from_here P 52 x e l (λ l.
    from_here P 53 x f l (λ l. from_here P 54 x g l (λ l. from_here P 55 x h l (λ l. from_here P 56 x i l (λ l. from_here P 57 x j l (λ l. absurd (omega (arith, l, high))))))))))))

-- clap takes one word that begins with a digit, and finds it
abbrev pub NumberTaken : List ℕ → ℕ → Type 0
NumberTaken rest x = Takes number_app ((x ∷ rest) ∷ []) × (word_at number_app (codes "number") ((x ∷ rest) ∷ []) ≡ Some (x ∷ rest))

pub number_taken : (rest : List ℕ) (x : ℕ) → 48 ≤ x → x ≤ 57 → NumberTaken rest x
unfolding clap_on_literals
number_taken rest = ten (NumberTaken rest) (refl, refl) (refl, refl) (refl, refl) (refl, refl) (refl, refl) (refl, refl) (refl, refl) (refl, refl) (refl, refl) (refl, refl)

abbrev pub LimitTaken : List ℕ → ℕ → Type 0
LimitTaken rest x = Takes limit_app (codes "--limit" ∷ (x ∷ rest) ∷ []) × (word_at limit_app (codes "limit") (codes "--limit" ∷ (x ∷ rest) ∷ []) ≡ Some (x ∷ rest))

pub limit_taken : (rest : List ℕ) (x : ℕ) → 48 ≤ x → x ≤ 57 → LimitTaken rest x
unfolding clap_on_literals
limit_taken rest = ten (LimitTaken rest) (refl, refl) (refl, refl) (refl, refl) (refl, refl) (refl, refl) (refl, refl) (refl, refl) (refl, refl) (refl, refl) (refl, refl)

none_taken : Takes none_app []
unfolding clap_on_literals
none_taken = refl

no_limit : AreLimit [] None
unfolding clap_on_literals
no_limit = (refl, refl)

no_retry : AreRetry [] false
unfolding clap_on_literals
no_retry = (refl, refl)

with_retry : AreRetry (codes "--retry" ∷ []) true
unfolding clap_on_literals
with_retry = (refl, refl)

-- the text of a number begins with a digit
abbrev BeginsDigit : List ℕ → Type 0
BeginsDigit word = (x : ℕ) × (rest : List ℕ) × (word ≡ x ∷ rest) × (48 ≤ x) × (x ≤ 57)

abbrev AreDigits : List ℕ → Type 0
AreDigits ds = list_all is_ascii_digit ds ≡ true

digits_model : IsNumeralModel AreDigits (value_of 0)
digits_model = numerals_by_fold AreDigits (search rules) value_of (search rules)

begins_digit : (word : List ℕ) → 0 < length word → AreDigits word → BeginsDigit word
begins_digit [] some digits = absurd (omega (arith, some))
begins_digit (x ∷ rest) some digits = (x, rest, refl, grind (arith, digits), grind (arith, digits))

digit_first : (n : ℕ) → n < 2 ^ 64 → BeginsDigit (decimal n)
digit_first n small = begins_digit (decimal n) (decimal_nonempty n small) (digits_decimal digits_model n small)

number_plain : (n : ℕ) → n < 2 ^ 64 → IsPlainWord (decimal n)
number_plain n small = let first = digit_first n small in
    subst IsPlainWord (sym first.2) (digit_plain first.0 first.1 first.3)

number_words : (least most n : ℕ) → least ≤ n → n ≤ most → most < 2 ^ 64 → AreNumber least most (decimal n ∷ []) n
number_words least most n low high small =
    let first = digit_first n (omega (arith, high, small)) in
    let taken : Takes number_app (decimal n ∷ []) × (word_at number_app (codes "number") (decimal n ∷ []) ≡ Some (decimal n)) = subst (λ word. Takes number_app (word ∷ []) × (word_at number_app (codes "number") (word ∷ []) ≡ Some word)) (sym first.2) (number_taken first.1 first.0 first.3 first.4) in
    (taken.0, (low, high, taken.1))

limit_words : (k : ℕ) → 1 ≤ k → k ≤ 2 ^ 32 - 1 → AreLimit (codes "--limit" ∷ decimal k ∷ []) (Some k)
limit_words k low high =
    let first = digit_first k (omega (arith, high)) in
    let taken : Takes limit_app (codes "--limit" ∷ decimal k ∷ []) × (word_at limit_app (codes "limit") (codes "--limit" ∷ decimal k ∷ []) ≡ Some (decimal k)) = subst (λ word. Takes limit_app (codes "--limit" ∷ word ∷ []) × (word_at limit_app (codes "limit") (codes "--limit" ∷ word ∷ []) ≡ Some word)) (sym first.2) (limit_taken first.1 first.0 first.3 first.4) in
    (taken.0, (low, high, taken.1))

past_words : (n first count : ℕ) → n ≤ 2 ^ 64 - 1 → first ≤ 2 ^ 32 - 1 → 1 ≤ count → count ≤ 4096
    → ArePast (decimal n ∷ decimal first ∷ decimal count ∷ []) n first count
past_words n first count small low some few =
    let taken = past_taken (decimal n) (decimal first) (decimal count) (number_plain n (omega (arith, small)))
    (number_plain first (omega (arith, low))) (number_plain count (omega (arith, few))) in
    (taken.0, (omega arith, small, taken.1), (omega arith, low, taken.2), (some, few, taken.3))

own_words_ask : (c : Command) → IsInRange c → OwnWords (own_words c) c
own_words_ask (command.Play n) range = number_words 0 (2 ^ 64 - 1) n (omega arith) range (omega arith)
own_words_ask (command.Drill n) range = number_words 0 (2 ^ 64 - 1) n (omega arith) range (omega arith)
own_words_ask (command.Past n first count) range = past_words n first count range.0 range.1 range.2 range.3
own_words_ask (command.Run n) range = number_words 1 8 n range.0 range.1 (omega arith)
own_words_ask (command.Restore None) range = no_limit
own_words_ask (command.Restore (Some k)) range = limit_words k range.0 range.1
own_words_ask command.Check range = none_taken
own_words_ask command.Forward range = none_taken
own_words_ask (command.Start n) range = number_words 0 (2 ^ 31 - 2) n (omega arith) range (omega arith)
own_words_ask command.Mark range = none_taken
own_words_ask command.NeedsCheckpoint range = none_taken
own_words_ask command.NeedsRollback range = none_taken
own_words_ask (command.Abort false) range = no_retry
own_words_ask (command.Abort true) range = with_retry
own_words_ask command.Boot range = none_taken
own_words_ask command.Callers range = none_taken

same_lists : {a b : Text} {xs ys : List Text} → a ∷ xs ≡ b ∷ ys → (a ≡ b) × (xs ≡ ys)
same_lists is = (cc, cc)

empty_not : {a : Text} {xs : List Text} → [] ≡ a ∷ xs → ⊥
empty_not is = cc

pub plain_words_ask : PlainWordsAsk
plain_words_ask [] image attempts block c size range is = absurd (empty_not is)
plain_words_ask (i ∷ []) image attempts block c size range is = absurd (empty_not (same_lists is).1)
plain_words_ask (i ∷ j ∷ []) image attempts block c size range is = absurd (empty_not (same_lists (same_lists is).1).1)
plain_words_ask (i ∷ j ∷ k ∷ []) image attempts block c size range is = absurd (empty_not (same_lists (same_lists (same_lists is).1).1).1)
plain_words_ask (i ∷ j ∷ k ∷ word ∷ own) image attempts block c size range is =
    let at_block = same_lists (same_lists (same_lists is).1).1 in
    let at_name = same_lists at_block.1 in
    (subst IsBlockWord (sym at_block.0) size, at_name.0, subst (λ words. OwnWords words c) (sym at_name.1) (own_words_ask c range))

own_in_range : (own : List Text) (c : Command) → OwnWords own c → IsInRange c
own_in_range own (command.Play n) asks = asks.1.1
own_in_range own (command.Drill n) asks = asks.1.1
own_in_range own (command.Past n first count) asks = (asks.1.1, asks.2.1, asks.3.0, asks.3.1)
own_in_range own (command.Run n) asks = (asks.1.0, asks.1.1)
own_in_range own (command.Restore None) asks = tt
own_in_range own (command.Restore (Some k)) asks = (asks.1.0, asks.1.1)
own_in_range own command.Check asks = tt
own_in_range own command.Forward asks = tt
own_in_range own (command.Start n) asks = asks.1.1
own_in_range own command.Mark asks = tt
own_in_range own command.NeedsCheckpoint asks = tt
own_in_range own command.NeedsRollback asks = tt
own_in_range own (command.Abort retry) asks = tt
own_in_range own command.Boot asks = tt
own_in_range own command.Callers asks = tt

pub ask_in_range : AskInRange
ask_in_range [] c asks = absurd asks
ask_in_range (i ∷ []) c asks = absurd asks
ask_in_range (i ∷ j ∷ []) c asks = absurd asks
ask_in_range (i ∷ j ∷ k ∷ []) c asks = absurd asks
ask_in_range (i ∷ j ∷ k ∷ word ∷ own) c asks = own_in_range (texts_of own) c asks.2
