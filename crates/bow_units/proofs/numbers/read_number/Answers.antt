use Rattle.std.proofs.Common.{◌≡◌, ◌∙◌, sym, ◌<◌, length, get_or, arith, rules}
use Rattle.std.proofs.lemmas.Bool.{false≢true}
use native.Mathlib.Decide.{dec_le}
use Rattle.bow_units.proofs.Digits.{not_empty, not_long, not_led, not_other, not_large, spelled}
use Rattle.bow_units.proofs.numbers.read_number.Goals as goal

pub returns-then-is_empty-clause-none : goal.returns-then-is_empty-clause-none
returns-then-is_empty-clause-none c n small is = not_empty c.args.word.now n small is (search rules)

pub returns-then-word-gt20-clause-none : goal.returns-then-word-gt20-clause-none
returns-then-word-gt20-clause-none c n small is = not_long c.args.word.now n small is c.if-word-gt20.true

pub returns-then-is_padded-clause-none : goal.returns-then-is_padded-clause-none
returns-then-is_padded-clause-none c n small is = let padded = c.is_padded.ensures.0 c.if-is_padded.true in not_led c.args.word.now n small is padded.0 padded.1

pub returns-then-not-all_digits-clause-none : goal.returns-then-not-all_digits-clause-none
returns-then-not-all_digits-clause-none c n small is = not_other c.args.word.now n small is (search rules)

pub returns-then-value-lt18446744073709551616-clause-found : goal.returns-then-value-lt18446744073709551616-clause-found
returns-then-value-lt18446744073709551616-clause-found c =
    let word = c.args.word.now in
    let led : get_or word 0 0 ≡ 48 → length word ≡ 1 = λ zero_first. elim (dec_le (length word) 1) [ yes few ↦ (let some : 0 < length word = grind arith in omega (arith, few)) | no many ↦ absurd (false≢true (sym c.if-is_padded.false ∙ c.is_padded.ensures.1 (omega (arith, many), zero_first))) ] in
    rw c.value_of_digits-value.ensures (spelled word (search rules) (grind arith) led (omega (arith, c.value_of_digits-value.ensures, c.if-value-lt18446744073709551616.true)))

pub returns-else-value-lt18446744073709551616-clause-none : goal.returns-else-value-lt18446744073709551616-clause-none
returns-else-value-lt18446744073709551616-clause-none c n small is = not_large c.args.word.now n small is (omega (arith, c.value_of_digits-value.ensures, c.if-value-lt18446744073709551616.false))
