-- The bytes of blocks that are patterns.
use Rattle.std.specs.Str.{bytes_eq}
use Rattle.std.proofs.lemmas.Slice.Eq.{bytes_eq-Decides}
use Rattle.std.proofs.Common.{◌≡◌, ℕ, zero, suc, ◌+◌, ◌*◌, ◌<◌, ◌≤◌, Bool, true, List, [], ◌∷◌, ◌++◌, length, take, drop, Result, Ok, Err, IfOk, refl, sym, ap, ◌∙◌, arith, length-append, append-nil, length-drop}
use Rattle.std.proofs.lemmas.List.{take_at, take-append-le, drop-append-le}
use Rattle.bow_units.specs.Pattern.{pattern}
use Rattle.bow_units.specs.declared.sizes.Geometry.{Geometry}
use Rattle.bow_disk.specs.Bytes.{blocks_of, image_of}
use Rattle.bow_units.proofs.PatternGroups.{length_groups}
use Rattle.bow_disk.specs.Memory.{Memory, fresh}
use Rattle.bow_tool.specs.Drills.{IsDrillDisk, drill_room, drill_sizes, pattern_blocks}

-- bytes that are the same are told to be so
pub same_bytes : (xs ys : List ℕ) (b : Bool) → b ≡ bytes_eq xs ys → xs ≡ ys → b ≡ true
same_bytes xs ys b is same = is ∙ (bytes_eq-Decides xs ys).1 same

-- one more block is counted where it is so
pub count_on : (holds : ℕ → Type 0) (kept n more : ℕ) → (((b : ℕ) → b < n → holds b) → kept ≡ n) → (holds n → more ≡ 1) → ((b : ℕ) → b < n + 1 → holds b) → kept + more ≡ n + 1
count_on holds kept n more front one all =
    let before = front (λ b below. all b (omega (arith, below))) in
    let here = one (all n (omega arith)) in
    omega (arith, before, here)

-- so many patterns, one after the other
unfoldable pub pattern_bytes : ℕ → List ℕ
pattern_bytes zero = []
pattern_bytes (suc n) = pattern_bytes n ++ pattern n 0 512

-- the sizes of the drill's disk
pub drill_sizes_are : (drill_sizes.block_size ≡ 512) × (drill_sizes.blocks ≡ 1024)
unfolding drill_sizes
drill_sizes_are = (refl, refl)

one_more : (n : ℕ) → pattern_bytes (n + 1) ≡ pattern_bytes n ++ pattern n 0 512
unfolding pattern_bytes
one_more n = let more : n + 1 ≡ suc n = omega arith in ap pattern_bytes more

pub length_pattern : (n : ℕ) → length (pattern n 0 512) ≡ 512
unfolding pattern
length_pattern n = length_groups n 0 64

pub length-pattern_bytes : (n : ℕ) → length (pattern_bytes n) ≡ n * 512
unfolding pattern_bytes
length-pattern_bytes zero = refl
length-pattern_bytes (suc n) =
    let front = length-pattern_bytes n in
    let last = length_pattern n in
    length-append (pattern_bytes n) (pattern n 0 512) ∙ omega (arith, front, last)

pub pattern_bytes_more : (n : ℕ) (image block : List ℕ) → image ≡ pattern_bytes n → block ≡ pattern n 0 512 → image ++ block ≡ pattern_bytes (n + 1)
pattern_bytes_more n image block front last = ap (λ xs. xs ++ block) front ∙ ap (λ ys. pattern_bytes n ++ ys) last ∙ sym (one_more n)

-- a block more behind n of them
block_behind : (size n : ℕ) (xs v : List ℕ) → length xs ≡ n * size → length v ≡ size → blocks_of size (suc n) (xs ++ v) ≡ blocks_of size n xs ++ v ∷ []
block_behind size zero [] v long one = ap (λ (b : List ℕ). b ∷ []) (ap (take size) (sym (append-nil v)) ∙ take_at v [] size one)
block_behind size zero (x ∷ xs) v long one = absurd (omega (arith, long))
block_behind size (suc n) xs v long one =
    let enough : size ≤ length xs = omega (arith, long) in
    let rest : length (drop size xs) ≡ n * size = (let dropped = length-drop size xs in omega (arith, dropped, long)) in
    ap (λ (b : List ℕ). b ∷ blocks_of size (suc n) (drop size (xs ++ v))) (take-append-le size xs v enough)
    ∙ ap (λ ys. take size xs ∷ blocks_of size (suc n) ys) (drop-append-le size xs v enough)
    ∙ ap (λ (bs : List (List ℕ)). take size xs ∷ bs) (block_behind size n (drop size xs) v rest one)

blocks_of-patterns : (n : ℕ) → blocks_of 512 n (pattern_bytes n) ≡ pattern_blocks n
unfolding pattern_bytes pattern_blocks
blocks_of-patterns zero = refl
blocks_of-patterns (suc n) =
    block_behind 512 n (pattern_bytes n) (pattern n 0 512) (length-pattern_bytes n) (length_pattern n)
    ∙ ap (λ bs. bs ++ pattern n 0 512 ∷ []) (blocks_of-patterns n)

pub image_of-patterns : (g : Geometry) (n : ℕ) → g.block_size ≡ 512 → g.blocks ≡ n → image_of g (pattern_bytes n) ≡ pattern_blocks n
image_of-patterns g n size blocks = ap (λ s. blocks_of s g.blocks (pattern_bytes n)) size ∙ ap (λ b. blocks_of 512 b (pattern_bytes n)) blocks ∙ blocks_of-patterns n

pub drill_disk_made : {E : Type 0} (r : Result Memory E) (n : ℕ) (image : List ℕ) → n ≡ 1024 → image ≡ pattern_bytes n
    → IfOk r (λ d. d.state ≡ fresh drill_sizes (image_of drill_sizes image) drill_room) → IfOk r IsDrillDisk
drill_disk_made (Ok d) n image all is made =
    made ∙ ap (λ i. fresh drill_sizes i drill_room) (ap (image_of drill_sizes) is ∙ image_of-patterns drill_sizes n drill_sizes_are.0 (drill_sizes_are.1 ∙ sym all) ∙ ap pattern_blocks all)
drill_disk_made (Err e) n image all is made = tt

pub drill_bytes : (n : ℕ) (image : List ℕ) → n ≡ 1024 → image ≡ pattern_bytes n → length image ≡ drill_sizes.blocks * drill_sizes.block_size
drill_bytes n image all is = ap length is ∙ length-pattern_bytes n ∙ ap (λ b. b * 512) (all ∙ sym drill_sizes_are.1) ∙ ap (λ s. drill_sizes.blocks * s) (sym drill_sizes_are.0)

pub drill_bytes_long : (image bytes : List ℕ) → bytes ≡ image → length image ≡ drill_sizes.blocks * drill_sizes.block_size → length bytes ≡ 524288
drill_bytes_long image bytes same long =
    let size = drill_sizes_are.0 in
    let blocks = drill_sizes_are.1 in
    ap length same ∙ long ∙ ap (λ b. b * drill_sizes.block_size) blocks ∙ ap (λ s. 1024 * s) size
