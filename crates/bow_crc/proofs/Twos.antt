-- Two groups of one block at once.
use Rattle.std.proofs.Common.{ℕ, ◌+◌, ◌*◌, ◌^◌, ◌<◌, ◌≤◌, ◌≡◌, sym, ap, ap₂, ◌∙◌, arith}
use Rattle.std.specs.Prelude.{bit_xor}
use Rattle.std.specs.Int.Bits.{xor_assoc, xor_comm, xor_zero_l}
use Rattle.bow_crc.specs.Crc.{bits_out}
use Rattle.bow_crc.specs.Lanes.{both, groups, carry}
use Rattle.bow_crc.proofs.Bits.{bits_add, bits_high}
use Rattle.bow_crc.proofs.Folds.{shift_pair, goes}

-- the last two of three exchanged
last_swapped : (a b c : ℕ) → bit_xor (bit_xor a b) c ≡ bit_xor (bit_xor a c) b
last_swapped a b c = xor_assoc a b c ∙ ap (bit_xor a) (xor_comm b c) ∙ sym (xor_assoc a c b)

-- one after the other
one_then_one : (a b c d e x y m rest p q r s P Q R S : ℕ) → bit_xor a x < 2 ^ 64 → bit_xor b y < 2 ^ 64 → 269 ≤ m → groups 0 p q r s ≡ carry (bit_xor a x) → groups 0 P Q R S ≡ carry (bit_xor b y)
    → bits_out (m + 128) (bit_xor (groups a b c d e) (bit_xor (both x y) (rest * 2 ^ 128))) ≡ bits_out m (bit_xor (groups (bit_xor c p) (bit_xor (bit_xor d q) P) (bit_xor (bit_xor e r) Q) (bit_xor s R) S) rest)
one_then_one a b c d e x y m rest p q r s P Q R S hx hy many is_x is_y =
    let bits : m + 128 ≡ m + 64 + 64 = omega arith in
    let far : rest * 2 ^ 128 ≡ rest * 2 ^ 64 * 2 ^ 64 = omega arith in
    ap₂ (λ n k. bits_out n (bit_xor (groups a b c d e) k)) bits
    (ap (bit_xor (both x y)) far ∙ xor_assoc x (y * 2 ^ 64) (rest * 2 ^ 64 * 2 ^ 64) ∙ ap (bit_xor x) (shift_pair 64 y (rest * 2 ^ 64)))
    ∙ goes a b c d e x (m + 64) (bit_xor y (rest * 2 ^ 64)) p q r s hx (omega arith) is_x
    ∙ goes b (bit_xor c p) (bit_xor d q) (bit_xor e r) s y m rest P Q R S hy many is_y

-- the same, by vectors of two
pub both_go : (n0 n1 f0 f1 o1 u0 u1 x y m rest p q r s P Q R S : ℕ) → bit_xor n0 x < 2 ^ 64 → bit_xor n1 y < 2 ^ 64 → 269 ≤ m → groups 0 p q r s ≡ carry (bit_xor n0 x) → groups 0 P Q R S ≡ carry (bit_xor n1 y)
    → bits_out (m + 128) (bit_xor (groups n0 n1 (bit_xor f0 o1) (bit_xor f1 u0) u1) (bit_xor (both x y) (rest * 2 ^ 128)))
    ≡ bits_out m (bit_xor (groups (bit_xor (bit_xor f0 p) o1) (bit_xor (bit_xor f1 P) (bit_xor u0 q)) (bit_xor r (bit_xor u1 Q)) (bit_xor R s) S) rest)
both_go n0 n1 f0 f1 o1 u0 u1 x y m rest p q r s P Q R S hx hy many is_x is_y =
    one_then_one n0 n1 (bit_xor f0 o1) (bit_xor f1 u0) u1 x y m rest p q r s P Q R S hx hy many is_x is_y
    ∙ ap (λ k. bits_out m (bit_xor k rest))
    (ap₂ (λ i j. groups i j (bit_xor (bit_xor u1 r) Q) (bit_xor s R) S) (last_swapped f0 o1 p) (ap (λ k. bit_xor k P) (xor_assoc f1 u0 q) ∙ last_swapped f1 (bit_xor u0 q) P)
    ∙ ap₂ (λ i j. groups (bit_xor (bit_xor f0 p) o1) (bit_xor (bit_xor f1 P) (bit_xor u0 q)) i j S) (ap (λ k. bit_xor k Q) (xor_comm u1 r) ∙ xor_assoc r u1 Q) (xor_comm s R))

-- a group of zeroes before another changes nothing
pub zeroes_first : (m w rest : ℕ) → bits_out (m + 128) (bit_xor 0 (bit_xor (both 0 w) (rest * 2 ^ 128))) ≡ bits_out (m + 64) (bit_xor 0 (bit_xor w (rest * 2 ^ 64)))
zeroes_first m w rest =
    let bits : m + 128 ≡ m + 64 + 64 = omega arith in
    let far : rest * 2 ^ 128 ≡ rest * 2 ^ 64 * 2 ^ 64 = omega arith in
    ap₂ bits_out bits (xor_zero_l _ ∙ ap₂ bit_xor (xor_zero_l (w * 2 ^ 64)) far ∙ shift_pair 64 w (rest * 2 ^ 64))
    ∙ sym (bits_add (m + 64) 64 (bit_xor w (rest * 2 ^ 64) * 2 ^ 64))
    ∙ ap (bits_out (m + 64)) (bits_high 64 (bit_xor w (rest * 2 ^ 64)) ∙ sym (xor_zero_l (bit_xor w (rest * 2 ^ 64))))
