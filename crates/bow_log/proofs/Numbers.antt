-- Numbers in little-endian bytes.
use Rattle.std.proofs.Common.{◌≡◌, ℕ, ◌+◌, ◌^◌, ◌<◌, ◌≤◌, List, [], ◌∷◌, ◌++◌, length, get_or, take, drop, refl, sym, ap, ◌∙◌, arith, inl, inr, length-drop}
use Rattle.std.specs.Int.{w16, w32, w64, from_le_bytes, to_le_bytes}
use Rattle.std.proofs.lemmas.Bool.{cases_lt}
use Rattle.std.proofs.lemmas.List.{drop_at, drop-drop, length-take, get_or-drop, get_or-take, get_or_past}
use Rattle.std.proofs.lemmas.Nat.{le_bytes_2, le_bytes_4, le_bytes_8, from_le_bytes-to_le_bytes_4, from_le_bytes-to_le_bytes_8}
use Rattle.bow_units.specs.Blocks.{IsBlock}
use Rattle.bow_units.proofs.Bytes.{byte_at}
use Rattle.bow_log.specs.Faults.{number_at}

abbrev pub IsBytes : List ℕ → Type 0
IsBytes bytes = (i : ℕ) → get_or bytes i 0 < 256

IsBytes-drop : (n : ℕ) (bytes : List ℕ) → IsBytes bytes → IsBytes (drop n bytes)
IsBytes-drop n bytes h i = rw get_or-drop (h (n + i))

IsBytes-take : (n : ℕ) (bytes : List ℕ) → IsBytes bytes → IsBytes (take n bytes)
IsBytes-take n bytes h i =
    elim (cases_lt i n) [
      | inl lt ↦ rw (get_or-take n bytes i 0 lt) (h i)
      | inr le ↦ rw (get_or_past (take n bytes) i 0 (omega (arith, length-take n bytes))) (omega arith)
    ]

part_bytes : (n at : ℕ) (block : List ℕ) → IsBytes block → IsBytes (take n (drop at block))
part_bytes n at block h = IsBytes-take n (drop at block) (IsBytes-drop at block h)

part_length : (n at : ℕ) (block : List ℕ) → at + n ≤ length block → length (take n (drop at block)) ≡ n
part_length n at block h = omega (arith, length-take n (drop at block), length-drop at block)

-- what a number was read from is what spells it
pub back_2 : (at : ℕ) (block : List ℕ) → IsBytes block → at + 2 ≤ length block → to_le_bytes w16 (number_at w16 at block) ≡ take 2 (drop at block)
unfolding number_at
back_2 at block h long = le_bytes_2 (take 2 (drop at block)) _ (part_length 2 at block long) (part_bytes 2 at block h) refl

pub back_4 : (at : ℕ) (block : List ℕ) → IsBytes block → at + 4 ≤ length block → to_le_bytes w32 (number_at w32 at block) ≡ take 4 (drop at block)
unfolding number_at
back_4 at block h long = le_bytes_4 (take 4 (drop at block)) _ (part_length 4 at block long) (part_bytes 4 at block h) refl

pub back_8 : (at : ℕ) (block : List ℕ) → IsBytes block → at + 8 ≤ length block → to_le_bytes w64 (number_at w64 at block) ≡ take 8 (drop at block)
unfolding number_at
back_8 at block h long = le_bytes_8 (take 8 (drop at block)) _ (part_length 8 at block long) (part_bytes 8 at block h) refl

-- and fits its place
small_4 : (bytes : List ℕ) → IsBytes bytes → length bytes ≡ 4 → from_le_bytes w32 bytes < 2 ^ 32
small_4 (a ∷ b ∷ c ∷ d ∷ []) h is = omega (arith, h 0, h 1, h 2, h 3)
small_4 [] h is = absurd (omega arith)
small_4 (a ∷ []) h is = absurd (omega arith)
small_4 (a ∷ b ∷ []) h is = absurd (omega arith)
small_4 (a ∷ b ∷ c ∷ []) h is = absurd (omega arith)
small_4 (a ∷ b ∷ c ∷ d ∷ e ∷ rest) h is = absurd (omega arith)

pub below_4 : (at : ℕ) (block : List ℕ) → IsBytes block → at + 4 ≤ length block → number_at w32 at block < 2 ^ 32
unfolding number_at
below_4 at block h long = small_4 (take 4 (drop at block)) (part_bytes 4 at block h) (part_length 4 at block long)

-- the bytes of a block, by their places
pub bytes_at : (size : ℕ) (block : List ℕ) → IsBlock size block → IsBytes block
bytes_at size block is i = byte_at block is.are_bytes i

-- what was spelled is read again
pub again_4 : (at n : ℕ) (block rest : List ℕ) → drop at block ≡ to_le_bytes w32 n ++ rest → n < 2 ^ 32 → number_at w32 at block ≡ n
unfolding number_at
again_4 at n block rest is h = ap (λ (l : List ℕ). from_le_bytes w32 (take 4 l)) is ∙ from_le_bytes-to_le_bytes_4 n h

pub again_8 : (at n : ℕ) (block rest : List ℕ) → drop at block ≡ to_le_bytes w64 n ++ rest → n < 2 ^ 64 → number_at w64 at block ≡ n
unfolding number_at
again_8 at n block rest is h = ap (λ (l : List ℕ). from_le_bytes w64 (take 8 l)) is ∙ from_le_bytes-to_le_bytes_8 n h

pub past : (at k : ℕ) (front rest : List ℕ) → length front ≡ at → drop (at + k) (front ++ rest) ≡ drop k rest
past at k front rest h = sym (drop-drop k at (front ++ rest)) ∙ ap (drop k) (drop_at front rest at h)
