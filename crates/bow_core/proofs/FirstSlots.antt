-- The first blocks of a buffer.
use Rattle.std.proofs.Common.{ℕ, zero, suc, ◌+◌, ◌*◌, ◌/◌, ◌≡◌, ◌<◌, ◌≤◌, List, [], ◌∷◌, ◌++◌, length, take, drop, refl, sym, ap, ◌∙◌, arith}
use Rattle.std.specs.Prelude.{slice_index_or}
use Rattle.std.proofs.Math.Nat.{suc-mul, mul-div_cancel}
use Rattle.std.proofs.Math.Seq.{take-append_seam}
use Rattle.std.proofs.lemmas.List.{drop-drop, drop-take, take-take, length-take-le}
use Rattle.bow_crc.specs.Sums.{first_blocks, blocks_of}

cut_first : (n size : ℕ) (buffer : List ℕ) → first_blocks n size (take (n * size) buffer) ≡ first_blocks n size buffer
cut_first zero size buffer = refl
cut_first (suc n) size buffer =
    let whole : suc n * size ≡ size + n * size = omega (arith, suc-mul n size) in
    let front : take size (take (suc n * size) buffer) ≡ take size buffer = ap (λ k. take size (take k buffer)) whole ∙ take-take size (size + n * size) buffer (omega arith) in
    let rest : drop size (take (suc n * size) buffer) ≡ take (n * size) (drop size buffer) = ap (λ k. drop size (take k buffer)) whole ∙ drop-take size (n * size) buffer in
    ap (λ v. v ∷ first_blocks n size (drop size (take (suc n * size) buffer))) front ∙ ap (λ l. take size buffer ∷ first_blocks n size l) rest ∙ ap (λ l. take size buffer ∷ l) (cut_first n size (drop size buffer))

pub first_slots : (n size : ℕ) (buffer : List ℕ) → 0 < size → n * size ≤ length buffer → blocks_of size (take (n * size) buffer) ≡ first_blocks n size buffer
first_slots n size buffer some room =
    let count : length (take (n * size) buffer) / size ≡ n = ap (λ k. k / size) (length-take-le (n * size) buffer room) ∙ mul-div_cancel n some in
    ap (λ k. first_blocks k size (take (n * size) buffer)) count ∙ cut_first n size buffer

-- the first slots are seen in the front alone
pub same_slots : (n size : ℕ) (old new : List ℕ) → take (n * size) new ≡ take (n * size) old → first_blocks n size new ≡ first_blocks n size old
same_slots n size old new same = sym (cut_first n size new) ∙ ap (first_blocks n size) same ∙ cut_first n size old

-- one slot more
pub slot_more : (n size : ℕ) (buffer : List ℕ) → first_blocks (n + 1) size buffer ≡ first_blocks n size buffer ++ take size (drop (n * size) buffer) ∷ []
slot_more zero size buffer = let none : 0 * size ≡ 0 = omega arith in ap (λ k. take size (drop k buffer) ∷ []) (sym none)
slot_more (suc n) size buffer =
    let one : suc n + 1 ≡ suc (n + 1) = omega arith in
    let whole : size + n * size ≡ suc n * size = omega (arith, suc-mul n size) in
    let rest : drop (n * size) (drop size buffer) ≡ drop (suc n * size) buffer = drop-drop (n * size) size buffer ∙ ap (λ k. drop k buffer) whole in
    ap (λ k. first_blocks k size buffer) one ∙ ap (λ l. take size buffer ∷ l) (slot_more n size (drop size buffer) ∙ ap (λ l. first_blocks n size (drop size buffer) ++ take size l ∷ []) rest)

-- the slot of this number
pub slot_is : (n size slot : ℕ) (buffer : List ℕ) → slot < n → slice_index_or (first_blocks n size buffer) slot [] ≡ take size (drop (slot * size) buffer)
slot_is zero size slot buffer below = absurd (omega (arith, below))
slot_is (suc n) size zero buffer below = let none : 0 * size ≡ 0 = omega arith in ap (λ k. take size (drop k buffer)) (sym none)
slot_is (suc n) size (suc slot) buffer below =
    let whole : size + slot * size ≡ suc slot * size = omega (arith, suc-mul slot size) in
    slot_is n size slot (drop size buffer) (omega (arith, below)) ∙ ap (take size) (drop-drop (slot * size) size buffer ∙ ap (λ k. drop k buffer) whole)

-- a block put in front is the first slot
pub slot_spelled : (size len : ℕ) (given rest : List ℕ) → length given ≡ size → size ≤ len → take size (take len (given ++ rest)) ≡ given
slot_spelled size len given rest long fits = take-take size len (given ++ rest) (omega (arith, fits)) ∙ take_own size given rest long
  where
    take_own : (size : ℕ) (given rest : List ℕ) → length given ≡ size → take size (given ++ rest) ≡ given
    take_own size given rest long = ap (λ n. take n (given ++ rest)) (sym long) ∙ take-append_seam given rest
