-- Blocks of a run of bytes.
use Rattle.std.proofs.Common.{◌≡◌, ℕ, zero, suc, ◌+◌, ◌*◌, ◌<◌, ◌≤◌, List, [], ◌∷◌, ◌++◌, length, map, set, get_or, take, drop, refl, sym, ap, ◌∙◌, arith, length-take, length-drop, append-nil}
use Rattle.std.proofs.lemmas.List.{take_at, drop_at, drop-drop, take-append-le, drop-append-le, take-take, drop-take, length-take-le, nil_from_length}
use Rattle.std.proofs.Math.Nat.{mul-le-mul_right}
use Rattle.bow_disk.specs.declared.history.Mark.{Mark}
use Rattle.bow_disk.specs.Bytes.{blocks_of}
use Rattle.bow_disk.specs.Layout.{changes, flush_mark}
use Rattle.bow_disk.specs.Memory.{Change, flush_change}

pub length-blocks_of : (size n : ℕ) (bytes : List ℕ) → length (blocks_of size n bytes) ≡ n
length-blocks_of size zero bytes = refl
length-blocks_of size (suc n) bytes = ap suc (length-blocks_of size n (drop size bytes))

pub get_or-blocks_of : (size n b : ℕ) (bytes : List ℕ) → b < n → get_or (blocks_of size n bytes) b [] ≡ take size (drop (b * size) bytes)
get_or-blocks_of size zero b bytes within = absurd (omega arith)
get_or-blocks_of size (suc n) zero bytes within = let none : zero * size ≡ 0 = omega arith in rw none refl
get_or-blocks_of size (suc n) (suc b) bytes within =
    let more : size + b * size ≡ suc b * size = grind arith in
    get_or-blocks_of size n b (drop size bytes) (omega arith) ∙ ap (take size) (drop-drop (b * size) size bytes ∙ ap (λ k. drop k bytes) more)

-- block b lies within
pub block_end : (size n b : ℕ) → b < n → b * size + size ≤ n * size
block_end size n b within = omega (arith, mul-le-mul_right size (let h : suc b ≤ n = omega arith in h))

pub block_sized : (size n b : ℕ) (bytes : List ℕ) → length bytes ≡ n * size → b < n → length (get_or (blocks_of size n bytes) b []) ≡ size
block_sized size n b bytes long within =
    ap length (get_or-blocks_of size n b bytes within) ∙ length-take-le size (drop (b * size) bytes) (omega (arith, length-drop (b * size) bytes, block_end size n b within))

-- after bytes are written over a block
pub blocks_of-put : (size n b : ℕ) (bytes v : List ℕ) → b < n → length v ≡ size → length bytes ≡ n * size
    → blocks_of size n (take (b * size) bytes ++ (v ++ drop (b * size + size) bytes)) ≡ set (blocks_of size n bytes) b v
blocks_of-put size zero b bytes v within sized long = absurd (omega arith)
blocks_of-put size (suc n) zero bytes v within sized long =
    let none : zero * size ≡ 0 = omega arith in
    let whole : take (zero * size) bytes ++ (v ++ drop (zero * size + size) bytes) ≡ v ++ drop size bytes =
    ap (λ k. take k bytes ++ (v ++ drop (k + size) bytes)) none ∙ ap (λ k. v ++ drop k bytes) (let z : 0 + size ≡ size = omega arith in z) in
    ap (blocks_of size (suc n)) whole ∙ ap (λ (l : List ℕ). l ∷ blocks_of size n (drop size (v ++ drop size bytes))) (take_at v (drop size bytes) size sized)
    ∙ ap (λ (l : List ℕ). v ∷ blocks_of size n l) (drop_at v (drop size bytes) size sized)
blocks_of-put size (suc n) (suc b) bytes v within sized long =
    let rest = drop size bytes in
    let at = b * size in
    let is : suc b * size ≡ size + at = grind arith in
    let total : suc n * size ≡ size + n * size = grind arith in
    let room : at + size ≤ n * size = block_end size n b (omega arith) in
    let tail = v ++ drop (size + at + size) bytes in
    let text : take (suc b * size) bytes ++ (v ++ drop (suc b * size + size) bytes) ≡ take (size + at) bytes ++ tail = ap (λ k. take k bytes ++ (v ++ drop (k + size) bytes)) is in
    let long_front : size ≤ length (take (size + at) bytes) = simp length-take (omega arith) in
    let first : take size (take (size + at) bytes ++ tail) ≡ take size bytes =
    take-append-le size (take (size + at) bytes) tail long_front ∙ take-take size (size + at) bytes (omega arith) in
    let after : drop size (take (size + at) bytes ++ tail) ≡ take at rest ++ (v ++ drop (at + size) rest) =
    drop-append-le size (take (size + at) bytes) tail long_front ∙ ap (λ (l : List ℕ). l ++ tail) (drop-take size at bytes)
    ∙ ap (λ (l : List ℕ). take at rest ++ (v ++ l)) (sym (drop-drop (at + size) size bytes ∙ ap (λ k. drop k bytes) (let e : size + (at + size) ≡ size + at + size = omega arith in e))) in
    ap (blocks_of size (suc n)) text
    ∙ ap (λ (l : List ℕ). l ∷ blocks_of size n (drop size (take (size + at) bytes ++ tail))) first
    ∙ ap (λ (l : List ℕ). take size bytes ∷ blocks_of size n l) after
    ∙ ap (λ (l : List (List ℕ)). take size bytes ∷ l) (blocks_of-put size n b rest v (omega arith) sized (omega (arith, length-drop size bytes)))

-- a mark and a value more are a change more
pub changes-push : (size : ℕ) (ms : List Mark) (m : Mark) (vs v : List ℕ) → length vs ≡ length ms * size → length v ≡ size
    → changes size (ms ++ m ∷ []) (vs ++ v) ≡ changes size ms vs ++ record { call = m.call; block = m.block; value = v; flushed = m.flushed } ∷ []
changes-push size [] m vs v long sized =
    let none : vs ≡ [] = nil_from_length vs (omega arith) in
    let whole : take size (vs ++ v) ≡ v = ap (λ (l : List ℕ). take size (l ++ v)) none ∙ ap (take size) (let e : v ++ [] ≡ v = append-nil v in sym e) ∙ take_at v [] size sized in
    ap (λ (l : List ℕ). record { call = m.call; block = m.block; value = l; flushed = m.flushed } ∷ []) whole
changes-push size (x ∷ ms) m vs v long sized =
    let total : suc (length ms) * size ≡ size + length ms * size = grind arith in
    let room : size ≤ length vs = omega arith in
    ap (λ (l : List ℕ). record { call = x.call; block = x.block; value = l; flushed = x.flushed } ∷ changes size (ms ++ m ∷ []) (drop size (vs ++ v))) (take-append-le size vs v room)
    ∙ ap (λ (l : List ℕ). record { call = x.call; block = x.block; value = take size vs; flushed = x.flushed } ∷ changes size (ms ++ m ∷ []) l) (drop-append-le size vs v room)
    ∙ ap (λ (l : List Change). record { call = x.call; block = x.block; value = take size vs; flushed = x.flushed } ∷ l) (changes-push size ms m (drop size vs) v (omega (arith, length-drop size vs)) sized)

pub changes-flushed : (size f : ℕ) (ms : List Mark) (vs : List ℕ) → changes size (map (flush_mark f) ms) vs ≡ map (flush_change f) (changes size ms vs)
changes-flushed size f [] vs = refl
changes-flushed size f (m ∷ ms) vs = ap (λ (l : List Change). flush_change f (record { call = m.call; block = m.block; value = take size vs; flushed = m.flushed }) ∷ l) (changes-flushed size f ms (drop size vs))

pub length-changes : (size : ℕ) (ms : List Mark) (vs : List ℕ) → length (changes size ms vs) ≡ length ms
length-changes size [] vs = refl
length-changes size (m ∷ ms) vs = ap suc (length-changes size ms (drop size vs))
