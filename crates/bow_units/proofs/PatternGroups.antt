-- The groups of a pattern, one after the other.
use Rattle.std.proofs.Common.{◌≡◌, ℕ, zero, suc, ◌+◌, ◌*◌, ◌/◌, ◌%◌, ◌<◌, ◌≤◌, ◌^◌, List, [], ◌∷◌, ◌++◌, length, take, drop, map, refl, sym, ap, ◌∙◌, arith, inl, inr, append_assoc, length-append, length-take, take-append-drop, append-nil}
use borrow.Rule.Slice.PartMut.{put_mid, post_of}
use Rattle.std.specs.Prelude.{◌⊎◌, Bool, true, false, not}
use Rattle.std.specs.Str.{bytes_eq}
use Rattle.std.proofs.lemmas.Bool.{false≢true}
use Rattle.std.proofs.lemmas.Slice.Eq.{bytes_eq-Decides}
use Rattle.std.specs.List.{flat_map, range_with_len}
use Rattle.std.proofs.Math.Seq.{take-add}
use Rattle.std.proofs.lemmas.List.{take_at, drop_at, take_all, take-append-le, drop-take}
use Rattle.std.proofs.lemmas.List.FromFn.{map-range_with_len_more}
use Rattle.std.proofs.lemmas.List.Folds.{flat_map-map}
use Rattle.std.proofs.lemmas.Grind.{flat_map-append}
use Rattle.byteorder.specs.Endian.{little_bytes, little_number}
use Rattle.byteorder.specs.Numbers.{little_number-reads_back, length-bytes_low_first}
use Rattle.bow_units.specs.Pattern.{pattern, pattern_group, IsPatternOf}
use Rattle.bow_units.specs.Sizes.{IsBlockSize}

-- a block has whole groups, and at least one
pub record HasGroups (n : ℕ) : Type 0 where
  pub whole : n / 8 * 8 ≡ n
  pub some : 16 ≤ n
  pub few : n ≤ 4096

pub has_groups : (n : ℕ) → IsBlockSize n → HasGroups n
has_groups n size = record { whole = grind (arith, size); some = grind (arith, size); few = grind (arith, size) }

-- the first k groups
abbrev pub groups : ℕ → ℕ → ℕ → List ℕ
groups b s k = flat_map (pattern_group b s) (range_with_len 0 k)

pub groups_more : (b s k : ℕ) → groups b s (k + 1) ≡ groups b s k ++ pattern_group b s k
groups_more b s k =
    let G = pattern_group b s in
    let id : ℕ → ℕ = λ j. j in
    sym (flat_map-map G id (range_with_len 0 (k + 1)))
    ∙ ap (flat_map G) (map-range_with_len_more id 0 k k (omega arith))
    ∙ flat_map-append G (map id (range_with_len 0 k)) (k ∷ [])
    ∙ ap (λ (l : List ℕ). l ++ flat_map G (k ∷ [])) (flat_map-map G id (range_with_len 0 k))
    ∙ ap (λ (l : List ℕ). groups b s k ++ l) (append-nil (G k))

pub length_group : (b s j : ℕ) → length (pattern_group b s j) ≡ 8
length_group b s j = length-bytes_low_first 0 8 (s * 2 ^ 32 + b * 512 + j)

pub length_groups : (b s k : ℕ) → length (groups b s k) ≡ k * 8
length_groups b s zero = refl
length_groups b s (suc k) =
    let num : suc k ≡ k + 1 = omega arith in
    let more : groups b s (suc k) ≡ groups b s k ++ pattern_group b s k = ap (groups b s) num ∙ groups_more b s k in
    let before = length_groups b s k in
    ap length more ∙ length-append (groups b s k) (pattern_group b s k) ∙ omega (arith, before, length_group b s k)

-- the front of a list after a write to its part from a on
pub take-write : (a k : ℕ) (xs ys bytes rest : List ℕ) → ys ≡ bytes ++ rest → length bytes ≡ 8 → a + 8 ≤ length xs → take (a + 8) (put_mid a k xs ys) ≡ take a xs ++ bytes
take-write a k xs ys bytes rest is long within =
    let whole : put_mid a k xs ys ≡ (take a xs ++ bytes) ++ (rest ++ post_of a k xs) =
    ap (λ (l : List ℕ). take a xs ++ (l ++ post_of a k xs)) is ∙ ap (λ (l : List ℕ). take a xs ++ l) (append_assoc bytes rest (post_of a k xs)) ∙ sym (append_assoc (take a xs) bytes (rest ++ post_of a k xs)) in
    ap (take (a + 8)) whole ∙ take_at (take a xs ++ bytes) (rest ++ post_of a k xs) (a + 8) (length-append (take a xs) bytes ∙ omega (arith, length-take a xs, long, within))

-- one group more was written
pub written : (b s k : ℕ) (old new group : List ℕ) → take (k * 8) old ≡ groups b s k → group ≡ pattern_group b s k → take (k * 8 + 8) new ≡ take (k * 8) old ++ group → take ((k + 1) * 8) new ≡ groups b s (k + 1)
written b s k old new group before is put =
    let num : (k + 1) * 8 ≡ k * 8 + 8 = omega arith in
    ap (λ n. take n new) num ∙ put ∙ ap (λ (l : List ℕ). l ++ group) before ∙ ap (λ (l : List ℕ). groups b s k ++ l) is ∙ sym (groups_more b s k)

-- one group more agrees
pub agreed : (b s k : ℕ) (bytes : List ℕ) → take (k * 8) bytes ≡ groups b s k → take 8 (drop (k * 8) bytes) ≡ pattern_group b s k → take ((k + 1) * 8) bytes ≡ groups b s (k + 1)
agreed b s k bytes before here =
    let num : (k + 1) * 8 ≡ k * 8 + 8 = omega arith in
    ap (λ n. take n bytes) num ∙ take-add (k * 8) 8 bytes ∙ ap (λ (l : List ℕ). l ++ take 8 (drop (k * 8) bytes)) before ∙ ap (λ (l : List ℕ). groups b s k ++ l) here ∙ sym (groups_more b s k)

-- all groups stand
pub all_stand : (b s : ℕ) (bytes : List ℕ) → HasGroups (length bytes) → take (length bytes / 8 * 8) bytes ≡ groups b s (length bytes / 8) → bytes ≡ pattern b s (length bytes)
unfolding pattern
all_stand b s bytes has stand = sym (take_all (length bytes / 8 * 8) bytes (omega (arith, has.whole))) ∙ stand

at_end : (k n : ℕ) → k ≤ suc n → (k ≡ suc n) ⊎ (k ≤ n)
at_end k n low = grind (arith, low)

pub take_groups : (b s n k : ℕ) → k ≤ n → take (k * 8) (groups b s n) ≡ groups b s k
take_groups b s zero k low = let none : k ≡ 0 = omega (arith, low) in ap (λ j. take (j * 8) (groups b s 0)) none ∙ ap (groups b s) (sym none)
take_groups b s (suc n) k low = elim (at_end k n low) [
  | inl here ↦ take_all (k * 8) (groups b s (suc n)) (omega (arith, length_groups b s (suc n), here)) ∙ ap (groups b s) (sym here)
  | inr before ↦
      let num : suc n ≡ n + 1 = omega arith in
      let more : groups b s (suc n) ≡ groups b s n ++ pattern_group b s n = ap (groups b s) num ∙ groups_more b s n in
      ap (take (k * 8)) more ∙ take-append-le (k * 8) (groups b s n) (pattern_group b s n) (omega (arith, length_groups b s n, before)) ∙ take_groups b s n k before
]

-- what stands at a group of a pattern
pub group_at : (b s k : ℕ) (bytes : List ℕ) → bytes ≡ pattern b s (length bytes) → k < length bytes / 8 → take 8 (drop (k * 8) bytes) ≡ pattern_group b s k
unfolding pattern
group_at b s k bytes is within =
    let n = length bytes / 8 in
    let num : (k + 1) * 8 ≡ k * 8 + 8 = omega arith in
    let front : take (k * 8 + 8) bytes ≡ groups b s k ++ pattern_group b s k =
    ap (take (k * 8 + 8)) is ∙ ap (λ m. take m (groups b s n)) (sym num) ∙ take_groups b s n (k + 1) (omega (arith, within)) ∙ groups_more b s k in
    sym (drop-take (k * 8) 8 bytes) ∙ ap (drop (k * 8)) front ∙ drop_at (groups b s k) (pattern_group b s k) (k * 8) (length_groups b s k)

-- the number of the first group
pub first_number : (b s : ℕ) (bytes : List ℕ) → HasGroups (length bytes) → IsPatternOf bytes b s → little_number 8 bytes ≡ s * 2 ^ 32 + b * 512
first_number b s bytes has is =
    let x = s * 2 ^ 32 + b * 512 + 0 in
    let some : 0 < length bytes / 8 = omega (arith, has.whole, has.some) in
    let front : take 8 bytes ≡ little_bytes 8 x = group_at b s 0 bytes is.same some in
    let whole : bytes ≡ little_bytes 8 x ++ drop 8 bytes = sym (take-append-drop 8 bytes) ∙ ap (λ (l : List ℕ). l ++ drop 8 bytes) front in
    ap (little_number 8) whole ∙ little_number-reads_back 8 x (drop 8 bytes) (omega (arith, is.block, is.seed)) ∙ omega arith

-- the parts of that number
pub record AreParts (x b s : ℕ) : Type 0 where
  pub block : x % 4294967296 / 512 ≡ b
  pub seed : x / 4294967296 ≡ s

pub are_parts : (x b s : ℕ) → b < 1048576 → s < 2 ^ 32 → x ≡ s * 2 ^ 32 + b * 512 → AreParts x b s
are_parts x b s on small is =
    let high : x / 4294967296 ≡ s = omega arith in
    let low : x % 4294967296 ≡ b * 512 = omega arith in
    record { block = omega (arith, low); seed = high }

-- which block and seed bytes can only have
pub parts_of : (b s : ℕ) (bytes : List ℕ) → HasGroups (length bytes) → IsPatternOf bytes b s → AreParts (little_number 8 bytes) b s
parts_of b s bytes has is = are_parts (little_number 8 bytes) b s is.block is.seed (first_number b s bytes has is)

was_true : (b : Bool) → not b ≡ false → b ≡ true
was_true true is = refl
was_true false is = absurd (false≢true (sym is))

-- what `!=` told of two texts
pub same_bytes : (xs ys : List ℕ) (differ : Bool) → differ ≡ not (bytes_eq xs ys) → differ ≡ false → xs ≡ ys
same_bytes xs ys differ is none = (bytes_eq-Decides xs ys).0 (was_true (bytes_eq xs ys) (sym is ∙ none))

pub other_bytes : (xs ys : List ℕ) (differ : Bool) → differ ≡ not (bytes_eq xs ys) → differ ≡ true → xs ≡ ys → ⊥
other_bytes xs ys differ is some same = false≢true (sym (ap not ((bytes_eq-Decides xs ys).1 same)) ∙ sym is ∙ some)
