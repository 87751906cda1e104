use Rattle.std.proofs.Common.{◌≡◌, inl, inr, ℕ, ◌+◌, ◌<◌, ◌/◌, ◌%◌, min, true, nat_lt, sym, ap, ◌∙◌, arith}
use Rattle.std.proofs.lemmas.Bool.{cases_lt}
use Rattle.std.proofs.lemmas.Bool.Decides.{nat_tests}
use Rattle.std.proofs.Math.Nat.{mod-lt, mod-eq_of_lt}
use Rattle.bow_units.specs.Draws.{next_number, drawn_value}
use Rattle.bow_disk.proofs.cuts.drawn.Goals as goal

-- a cap above all values changes nothing
capped : (x last : ℕ) → x < 2147483648 → x % (min last 4294967294 + 1) ≡ x % (last + 1)
capped x last small = elim (cases_lt 4294967294 last) [
  | inl big ↦
      let at_cap : min last 4294967294 + 1 ≡ 4294967295 = omega arith in
      ap (λ m. x % m) at_cap ∙ mod-eq_of_lt (omega arith) ∙ sym (mod-eq_of_lt (omega arith))
  | inr within ↦ let as_is : min last 4294967294 + 1 ≡ last + 1 = omega arith in ap (λ m. x % m) as_is
]

upper_bits : (n : ℕ) → n < 18446744073709551616 → n / 8589934592 < 2147483648
upper_bits n small = omega arith

above_one : (last : ℕ) → (last ≡ 0 → ⊥) → nat_lt 1 (last + 1) ≡ true
above_one last some = grind (arith, nat_tests)

pub returns-clause-value : goal.returns-clause-value
returns-clause-value c =
    let number = c.draw.ensures.number in
    let small : next_number c.args.draws.now < 18446744073709551616 = mod-lt _ (omega arith) in
    rw (above_one c.args.last c.if-last-eq0.false) (
    c.draw.ensures.value ∙ ap (λ n. drawn_value n % (c.min.result + 1)) number ∙ ap (λ m. drawn_value (next_number c.args.draws.now) % (m + 1)) c.min.ensures
    ∙ capped (drawn_value (next_number c.args.draws.now)) c.args.last (upper_bits (next_number c.args.draws.now) small))
