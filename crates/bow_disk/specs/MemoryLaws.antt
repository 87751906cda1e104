-- The laws of a disk, at one in memory.
use Rattle.std.proofs.Common.{◌≡◌, inl, inr, ℕ, ◌<◌, ◌≤◌, true, List, [], ◌∷◌, ◌++◌, length, set, get_or, Some, refl, sym, ap, ◌∙◌, subst, arith}
use Rattle.std.specs.Prelude.{nat_le, Contains}
use Rattle.std.specs.List.{All}
use Rattle.std.proofs.lemmas.Bool.{le-leb, cases_eq, cases_Bool}
use Rattle.std.proofs.lemmas.List.{length-set, length-map, get_or-set_same, get_or-set_other, get_or-map}
use Rattle.std.proofs.lemmas.List.Elements.{All-head, All-tail, All-nil, All-push, Contains-push}
use Rattle.bow_units.specs.Blocks.{IsBlock}
use Rattle.bow_units.specs.declared.sizes.Geometry.{Geometry}
use Rattle.bow_disk.specs.Disk.{Content, IsCrash, IsImage, AreOfBlocks, IsShaped}
use Rattle.bow_disk.specs.Shapes.{crash_of_blocks}
use Rattle.bow_disk.specs.Memory.{Change, State, Memory, IsFit, IsPast, is_flushed_by, latest, alone, change_at, candidates_at, content, LeftSince}

-- all changes leave as many blocks
length-latest : (image : List (List ℕ)) (ws : List Change) → length (latest image ws) ≡ length image
length-latest image [] = refl
length-latest image (w ∷ ws) = length-latest (set image w.block w.value) ws ∙ length-set image w.block w.value

-- what each block holds is one of its candidates
abbrev pub Held : ℕ → List (List ℕ) → List (List (List ℕ)) → Type 0
Held n image cs = (b : ℕ) → b < n → Contains (get_or cs b []) (get_or image b [])

-- the candidates of a block that was never written
pub get_or-alone : (image : List (List ℕ)) (b : ℕ) → b < length image
    → get_or (alone image) b [] ≡ get_or image b [] ∷ []
get_or-alone image b within = get_or-map (λ (x : List ℕ). x ∷ []) image b [] [] within

-- each block of an image is its one candidate
held_alone : (n : ℕ) (image : List (List ℕ)) → length image ≡ n → Held n image (alone image)
held_alone n image long b within = let is = get_or-alone image b (omega arith) in (0, rw is (omega arith), rw is refl)

-- a block and its candidates may change together
held_set : (n b : ℕ) (image : List (List ℕ)) (cs : List (List (List ℕ))) (v : List ℕ) (c : List (List ℕ))
    → length image ≡ n → length cs ≡ n → Contains c v → Held n image cs → Held n (set image b v) (set cs b c)
held_set n b image cs v c long count has held k within = elim (cases_eq k b) [
  | inl same ↦
      let one : get_or (set cs b c) k [] ≡ c = ap (λ i. get_or (set cs b c) i []) same
      ∙ get_or-set_same cs b c [] (omega arith) in
      let other : get_or (set image b v) k [] ≡ v = ap (λ i. get_or (set image b v) i []) same
      ∙ get_or-set_same image b v [] (omega arith) in
      rw (one, other) has
  | inr apart ↦ rw (get_or-set_other cs b k c [] apart, get_or-set_other image b k v [] apart) (held k within)
]

-- a change keeps each block among its candidates
held_change : (c n size : ℕ) (image : List (List ℕ)) (cs : List (List (List ℕ))) (w : Change) → length image ≡ n
    → length cs ≡ n → IsPast c n size w → Held n image cs → Held n (set image w.block w.value) (change_at c cs w)
held_change c n size image cs w long count past held =
    let called : nat_le w.call c ≡ true = le-leb w.call c past.call in
    rw called (elim (cases_Bool (is_flushed_by c w.flushed)) [
      | inl hit ↦ rw hit (held_set n w.block image cs w.value (w.value ∷ []) long count (0, omega arith, refl) held)
      | inr miss ↦ rw miss (held_set n w.block image cs w.value (get_or cs w.block [] ++ w.value ∷ []) long count
          (Contains-push (get_or cs w.block []) w.value) held)
    ])

-- a change leaves as many lists of candidates
pub length-change_at : (k : ℕ) (cs : List (List (List ℕ))) (w : Change) → length (change_at k cs w) ≡ length cs
length-change_at k cs w = elim (cases_Bool (nat_le w.call k)) [
  | inr miss ↦ rw miss refl
  | inl hit ↦ rw hit (elim (cases_Bool (is_flushed_by k w.flushed)) [
    | inl flushed ↦ rw flushed (length-set cs w.block (w.value ∷ []))
    | inr open_yet ↦ rw open_yet (length-set cs w.block (get_or cs w.block [] ++ w.value ∷ []))
  ])
]

-- so do all changes
pub length-candidates_at : (k : ℕ) (cs : List (List (List ℕ))) (ws : List Change)
    → length (candidates_at k cs ws) ≡ length cs
length-candidates_at k cs [] = refl
length-candidates_at k cs (w ∷ ws) = length-candidates_at k (change_at k cs w) ws ∙ length-change_at k cs w

-- after all changes each block is one of its candidates
held_all : (c n size : ℕ) (image : List (List ℕ)) (cs : List (List (List ℕ))) (ws : List Change) → length image ≡ n
    → length cs ≡ n → All (IsPast c n size) ws → Held n image cs → Held n (latest image ws) (candidates_at c cs ws)
held_all c n size image cs [] long count past held = held
held_all c n size image cs (w ∷ ws) long count past held =
    held_all c n size (set image w.block w.value) (change_at c cs w) ws (length-set image w.block w.value
    ∙ long) (length-change_at c cs w ∙ count) (All-tail (IsPast c n size) w ws past)
    (held_change c n size image cs w long count (All-head (IsPast c n size) w ws past) held)

-- one candidate of bytes
one_block : (size : ℕ) (v : List ℕ) → IsBlock size v → All (IsBlock size) (v ∷ [])
one_block size v is = All-push (IsBlock size) [] v (All-nil (IsBlock size)) is

-- the blocks of an image, each alone
alone_blocks : (size n : ℕ) (image : List (List ℕ)) → length image ≡ n → All (IsBlock size) image
    → AreOfBlocks size n (alone image)
alone_blocks size n image long all b within = rw (get_or-alone image b (omega arith)) (one_block size (get_or image b
    []) (all b [] (omega arith)))

-- the candidates of one block may change
set_blocks : (size n b : ℕ) (cs : List (List (List ℕ))) (c : List (List ℕ)) → length cs ≡ n → b < n
    → All (IsBlock size) c → AreOfBlocks size n cs → AreOfBlocks size n (set cs b c)
set_blocks size n b cs c long on all blocks k within = elim (cases_eq k b) [
  | inl same ↦
      let is : get_or (set cs b c) k [] ≡ c = ap (λ i. get_or (set cs b c) i []) same
      ∙ get_or-set_same cs b c [] (omega arith) in
      rw is all
  | inr apart ↦ rw (get_or-set_other cs b k c [] apart) (blocks k within)
]

-- a change keeps all candidates bytes of a block, at the end of each call
change_blocks : (k c n size : ℕ) (cs : List (List (List ℕ))) (w : Change) → length cs ≡ n → IsPast c n size w
    → AreOfBlocks size n cs → AreOfBlocks size n (change_at k cs w)
change_blocks k c n size cs w long past blocks = elim (cases_Bool (nat_le w.call k)) [
  | inr miss ↦ rw miss blocks
  | inl hit ↦ rw hit (elim (cases_Bool (is_flushed_by k w.flushed)) [
    | inl flushed ↦ rw flushed (set_blocks size n w.block cs (w.value ∷ []) long past.block (one_block size w.value
        past.value) blocks)
    | inr open_yet ↦ rw open_yet (set_blocks size n w.block cs (get_or cs w.block [] ++ w.value ∷ []) long past.block
        (All-push (IsBlock size) (get_or cs w.block []) w.value (blocks w.block past.block) past.value) blocks)
  ])
]

-- so do all changes
all_blocks : (k c n size : ℕ) (cs : List (List (List ℕ))) (ws : List Change) → length cs ≡ n
    → All (IsPast c n size) ws → AreOfBlocks size n cs → AreOfBlocks size n (candidates_at k cs ws)
all_blocks k c n size cs [] long past blocks = blocks
all_blocks k c n size cs (w ∷ ws) long past blocks =
    all_blocks k c n size (change_at k cs w) ws (length-change_at k cs w ∙ long) (All-tail (IsPast c n size) w ws past)
    (change_blocks k c n size cs w long (All-head (IsPast c n size) w ws past) blocks)

-- the candidates at the end of each call are those of so many blocks
listed_at : (s : State) (k : ℕ) → IsFit s → length (candidates_at k (alone s.first) s.writes) ≡ s.geometry.blocks
listed_at s k fit = length-candidates_at k (alone s.first) s.writes ∙ length-map s.first (λ (x : List ℕ). x ∷ [])
    ∙ fit.blocks

-- and bytes of a block
blocks_at : (s : State) (k : ℕ) → IsFit s → AreOfBlocks s.geometry.block_size s.geometry.blocks (candidates_at k
    (alone s.first) s.writes)
blocks_at s k fit =
    let n = s.geometry.blocks in
    let size = s.geometry.block_size in
    let count : length (alone s.first) ≡ n = length-map s.first (λ (x : List ℕ). x ∷ []) ∙ fit.blocks in
    all_blocks k s.calls n size (alone s.first) s.writes count fit.past (alone_blocks size n s.first fit.blocks
    fit.sized)

-- what a disk in memory tells has its sizes
pub content_shaped : (s : State) → IsFit s → IsShaped s.geometry.block_size s.geometry.blocks (content s)
content_shaped s fit =
    let n = s.geometry.blocks in
    let size = s.geometry.block_size in
    let count : length (alone s.first) ≡ n = length-map s.first (λ (x : List ℕ). x ∷ []) ∙ fit.blocks in
    record {
      blocks = length-latest s.first s.writes ∙ fit.blocks;
      sized = blocks_at s s.calls fit;
      listed = listed_at s s.calls fit;
      held = held_all s.calls n size s.first (alone s.first) s.writes fit.blocks count fit.past (held_alone n s.first
          fit.blocks);
    }

-- what is told is one content
told : (a c : Content) → Some a ≡ Some c → a ≡ c
told a c is = cc

-- what is stated is one pair of sizes
same_sizes : (a g : Geometry) → Some a ≡ Some g → a ≡ g
same_sizes a g is = cc

-- what it tells has the sizes that it states
pub shaped_law : (d : Memory) (c : Content) → Some (content d.state) ≡ Some c → (g : Geometry)
    → Some d.state.geometry ≡ Some g → IsShaped g.block_size g.blocks c
shaped_law d c is g stated =
    subst (λ (h : Geometry). IsShaped h.block_size h.blocks c) (same_sizes d.state.geometry g stated)
    (subst (IsShaped d.state.geometry.block_size d.state.geometry.blocks) (told (content d.state) c is)
    (content_shaped d.state d.fit))

-- this moment is one of those since an earlier one
pub counts_law : (d : Memory) (c : Content) → Some (content d.state) ≡ Some c → (t : ℕ) (image : List (List ℕ))
    → t ≤ d.state.calls → IsCrash c.candidates image → LeftSince d.state t image
counts_law d c is t image le crash = (
  d.state.calls,
  le,
  omega arith,
  subst (λ (x : Content). IsCrash x.candidates
      image) (sym (told (content d.state) c is)) crash,
)

-- what a cut leaves from the last call on is of the candidates now
last_cut : (s : State) (t : ℕ) (image : List (List ℕ)) → s.calls ≤ t → LeftSince s t image
    → IsCrash (candidates_at s.calls (alone s.first) s.writes) image
last_cut s t image late left = let same : left.0 ≡ s.calls = omega (arith, late, left.1, left.2) in rw same at left.3

-- from this moment on a cut leaves nothing else
pub only_law : (d : Memory) (c : Content) → Some (content d.state) ≡ Some c → (t : ℕ) (image : List (List ℕ))
    → d.state.calls ≤ t → LeftSince d.state t image → IsCrash c.candidates image
only_law d c is t image late left = subst (λ (x : Content). IsCrash x.candidates image) (told (content d.state) c is)
    (last_cut d.state t image late left)

-- whatever a cut at some moment left is an image of the sizes that it states
pub cuts_law : (d : Memory) (c : Content) → Some (content d.state) ≡ Some c → (g : Geometry)
    → Some d.state.geometry ≡ Some g → (t : ℕ) (image : List (List ℕ)) → LeftSince d.state t image
    → IsImage g.block_size g.blocks image
cuts_law d c is g stated t image left =
    let s = d.state in
    subst (λ (h : Geometry). IsImage h.block_size h.blocks image) (same_sizes s.geometry g stated)
    (crash_of_blocks s.geometry.block_size s.geometry.blocks (candidates_at left.0 (alone s.first) s.writes) image
    (listed_at s left.0 d.fit) (blocks_at s left.0 d.fit) left.3)
