-- Blocks in a row, and their sums.
use Rattle.std.proofs.Common.{ℕ, suc, ◌+◌, ◌-◌, ◌*◌, ◌/◌, ◌%◌, ◌<◌, ◌≤◌, ◌≡◌, List, [], ◌∷◌, ◌++◌, length, take, drop, refl, sym, ap, ap₂, ◌∙◌, arith, append_assoc, length-append, length-drop, inl, inr}
use Rattle.std.specs.Prelude.{bit_xor}
use Rattle.std.specs.Int.{w64, to_le_bytes}
use Rattle.std.specs.Int.Bits.{xor_assoc}
use Rattle.std.specs.List.{AllByRecursion as Each, concat}
use Rattle.std.proofs.Math.Nat.{add-div_left, mul-div_cancel, mod-eq-sub-mod, mod-eq_of_lt}
use Rattle.std.proofs.lemmas.Bool.{cases_lt}
use Rattle.std.proofs.lemmas.List.{take_at, drop_at}
use Rattle.bow_crc.specs.Crc.{crc_of}
use Rattle.bow_crc.specs.Sums.{block_sum, sum_of, first_blocks, blocks_of}
use Rattle.bow_crc.specs.Laws.{AreBytes}
use Rattle.bow_crc.proofs.Bits.{xor_same_l, xor_same_r}
use Rattle.bow_crc.proofs.Texts.{byte_tells, bytes_append}

number_bytes : (n : ℕ) → AreBytes (to_le_bytes w64 n)
number_bytes n = (omega arith, (omega arith, (omega arith, (omega arith, (omega arith, (omega arith, (omega arith, (omega arith, tt))))))))

block_tells : (number : ℕ) (front : List ℕ) (a b : ℕ) (back : List ℕ) → AreBytes front → a < 256 → b < 256 → AreBytes back
    → block_sum number (front ++ (a ∷ back)) ≡ block_sum number (front ++ (b ∷ back)) → a ≡ b
block_tells number front a b back are_front ha hb are_back e =
    let text = to_le_bytes w64 number ++ front in
    byte_tells text a b back (bytes_append (to_le_bytes w64 number) front (number_bytes number) are_front) ha hb are_back
    (ap crc_of (append_assoc (to_le_bytes w64 number) front (a ∷ back)) ∙ e ∙ sym (ap crc_of (append_assoc (to_le_bytes w64 number) front (b ∷ back))))

pub sum_tells : (number : ℕ) (before after : List (List ℕ)) (front : List ℕ) (a b : ℕ) (back : List ℕ) → AreBytes front → a < 256 → b < 256 → AreBytes back
    → sum_of number (before ++ ((front ++ (a ∷ back)) ∷ after)) ≡ sum_of number (before ++ ((front ++ (b ∷ back)) ∷ after)) → a ≡ b
sum_tells number [] after front a b back are_front ha hb are_back e =
    block_tells number front a b back are_front ha hb are_back (xor_same_r _ _ (sum_of (suc number) after) e)
sum_tells number (block ∷ before) after front a b back are_front ha hb are_back e =
    sum_tells (suc number) before after front a b back are_front ha hb are_back (xor_same_l (block_sum number block) _ _ e)

concat_length : (size : ℕ) (blocks : List (List ℕ)) → Each (λ block. length block ≡ size) blocks → length (concat blocks) ≡ length blocks * size
concat_length size [] each = omega arith
concat_length size (block ∷ blocks) each =
    let rest = concat_length size blocks each.1 in
    let more : suc (length blocks) * size ≡ size + length blocks * size = omega arith in
    omega (arith, length-append block (concat blocks), each.0, rest, more)

cut_again : (size : ℕ) (blocks : List (List ℕ)) → Each (λ block. length block ≡ size) blocks → first_blocks (length blocks) size (concat blocks) ≡ blocks
cut_again size [] each = refl
cut_again size (block ∷ blocks) each =
    ap₂ ◌∷◌ (take_at block (concat blocks) size each.0) (ap (first_blocks (length blocks) size) (drop_at block (concat blocks) size each.0) ∙ cut_again size blocks each.1)

pub cuts_joined : (size : ℕ) (blocks : List (List ℕ)) → 0 < size → Each (λ block. length block ≡ size) blocks → blocks_of size (concat blocks) ≡ blocks
cuts_joined size blocks some each =
    let count : length (concat blocks) / size ≡ length blocks = ap (λ (n : ℕ). n / size) (concat_length size blocks each) ∙ mul-div_cancel (length blocks) some in
    ap (λ (n : ℕ). first_blocks n size (concat blocks)) count ∙ cut_again size blocks each

-- whole blocks that are not at their end begin with a block
pub record Begins (n size : ℕ) : Type 0 where
  pub fits : size ≤ n
  pub count : n / size ≡ suc ((n - size) / size)
  pub whole : (n - size) % size ≡ 0

pub begins : (n size : ℕ) → 0 < size → n % size ≡ 0 → 0 < n → Begins n size
begins n size some whole more =
    let fits : size ≤ n = elim (cases_lt n size) [ inl less ↦ (let none : n % size ≡ n = mod-eq_of_lt less in absurd (omega arith)) | inr at ↦ at ] in
    let is : size + (n - size) ≡ n = omega arith in
    record { fits = fits; count = ap (λ (k : ℕ). k / size) (sym is) ∙ add-div_left (n - size) some ∙ omega arith; whole = sym (mod-eq-sub-mod fits) ∙ whole }

next_block : (size number : ℕ) (bytes : List ℕ) → Begins (length bytes) size
    → sum_of number (blocks_of size bytes) ≡ bit_xor (block_sum number (take size bytes)) (sum_of (suc number) (blocks_of size (drop size bytes)))
next_block size number bytes b =
    let count : length bytes / size ≡ suc (length (drop size bytes) / size) = b.count ∙ ap (λ (n : ℕ). suc (n / size)) (sym (length-drop size bytes)) in
    ap (λ (n : ℕ). sum_of number (first_blocks n size bytes)) count

-- one block is taken from the front of what is left
pub sum_on : (size number next sum part : ℕ) (bytes block rest : List ℕ) → Begins (length bytes) size → block ≡ take size bytes → rest ≡ drop size bytes → part ≡ block_sum number block
    → next ≡ suc number → bit_xor (bit_xor sum part) (sum_of next (blocks_of size rest)) ≡ bit_xor sum (sum_of number (blocks_of size bytes))
sum_on size number next sum part bytes block rest b is_block is_rest is_part is_next =
    xor_assoc sum part (sum_of next (blocks_of size rest))
    ∙ ap (bit_xor sum) (ap₂ bit_xor (is_part ∙ ap (block_sum number) is_block) (ap₂ (λ (n : ℕ) (l : List ℕ). sum_of n (blocks_of size l)) is_next is_rest) ∙ sym (next_block size number bytes b))
