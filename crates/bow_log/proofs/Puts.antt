-- Bytes put one part after the other.
use Rattle.std.proofs.Common.{ℕ, ◌+◌, ◌≡◌, List, ◌++◌, length, take, sym, ap, ◌∙◌, arith, append_assoc}

-- one part more
pub next : (mid end : ℕ) (new old front so_far bytes text : List ℕ) → take (mid + length bytes) new ≡ take mid old ++ bytes → bytes ≡ text → mid + length text ≡ end
    → take mid old ≡ front ++ so_far → take end new ≡ front ++ (so_far ++ text)
next mid end new old front so_far bytes text put is ends so =
    let size : length bytes ≡ length text = ap length is in
    let last : mid + length bytes ≡ end = omega (arith, size, ends) in
    ap (λ (n : ℕ). take n new) (sym last) ∙ put ∙ ap (λ (l : List ℕ). l ++ bytes) so ∙ append_assoc front so_far bytes ∙ ap (λ (l : List ℕ). front ++ (so_far ++ l)) is
