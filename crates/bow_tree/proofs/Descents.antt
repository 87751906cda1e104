-- From a tree to one of its parts.
use Rattle.std.proofs.Common.{◌≡◌, ℕ, zero, suc, ◌+◌, ◌*◌, ◌-◌, ◌/◌, ◌<◌, ◌≤◌, ◌==◌, true, false, cond, List, [], ◌∷◌, ◌++◌, length, take, drop, replicate, get_or, refl, sym, ap, ◌∙◌, subst, inl, inr, arith}
use Rattle.std.proofs.lemmas.List.{drop-drop, get_or-append_right, get_or_append_left}
use Rattle.std.proofs.lemmas.Bool.{cases_lt}
use Rattle.std.proofs.Math.Nat.{div-lt_iff_lt-mul}
use Rattle.bow_units.specs.declared.statuses.Kind.{Kind}
use Rattle.bow_units.specs.declared.statuses.Kind.TheVariants.{Unchanged, Free}
use Rattle.bow_ranges.specs.Kinds.{kind_at}
use Rattle.bow_tree.specs.declared.parts.Part.{Part}
use Rattle.bow_tree.specs.Rows.{front, longest_free, flat}
use Rattle.bow_tree.specs.Parts.{in_run, no_part, IsKnown, AreKnown}
use Rattle.bow_tree.specs.Trees.{Store, blocks_of, room_of, root_of, below_root, first_tree, other_trees, tree_at, rows_of, kinds_in, AreTrees, IsTree}
use Rattle.bow_tree.proofs.Rows.{same_refl, all_or_not, all_alike, front_replicate, longest_alike}
use Rattle.bow_tree.proofs.Runs.{in_run_cases}
use Rattle.bow_tree.proofs.Pieces.{times_less, flat_drop_length, differ, both}

pub blocks_some : (h : ℕ) → 1 ≤ blocks_of h
blocks_some zero = omega arith
blocks_some (suc h) = omega (arith, blocks_some h)

pub tree_known : (h : ℕ) (known : Part) (tree : Store) → IsTree h known tree → IsKnown (blocks_of h) (kinds_in h known tree) known
tree_known zero known tree t = t
tree_known (suc h) known tree t = t.0

pub rows_known : (h : ℕ) (parts : List Part) (trees : Store) → AreTrees (IsTree h) h parts trees → AreKnown (blocks_of h) (rows_of (kinds_in h) h parts trees) parts
rows_known h [] trees t = tt
rows_known h (p ∷ ps) trees t = (tree_known h p (first_tree h trees) t.0, rows_known h ps (other_trees h trees) t.1)

pub drops : {X : Type 0} (i n : ℕ) (xs : List X) → drop (i * n) (drop n xs) ≡ drop (suc i * n) xs
drops i n xs = let num : n + i * n ≡ suc i * n = omega arith in drop-drop (i * n) n xs ∙ ap (λ k. drop k xs) num

pub none_gone : {X : Type 0} (n : ℕ) (xs : List X) → xs ≡ drop (0 * n) xs
none_gone n xs = let num : 0 * n ≡ 0 = omega arith in sym (ap (λ k. drop k xs) num)

nearer : (h i : ℕ) (trees : Store) → tree_at h i (other_trees h trees) ≡ tree_at h (suc i) trees
nearer h i trees =
    both (ap (take (room_of h)) (drops i (room_of h) trees.0)) (ap (take (blocks_of h)) (drops i (blocks_of h) trees.1))

nearest : (h : ℕ) (trees : Store) → first_tree h trees ≡ tree_at h 0 trees
nearest h trees =
    both (ap (take (room_of h)) (none_gone (room_of h) trees.0)) (ap (take (blocks_of h)) (none_gone (blocks_of h) trees.1))

pub tree_is : (h : ℕ) (parts : List Part) (trees : Store) (i : ℕ) → AreTrees (IsTree h) h parts trees → i < length parts → IsTree h (get_or parts i no_part) (tree_at h i trees)
tree_is h [] trees i t inside = absurd (omega (arith, inside))
tree_is h (p ∷ ps) trees zero t inside = subst (IsTree h p) (nearest h trees) t.0
tree_is h (p ∷ ps) trees (suc i) t inside = subst (IsTree h (get_or ps i no_part)) (nearer h i trees) (tree_is h ps (other_trees h trees) i t.1 (omega (arith, inside)))

pub row_is : (h : ℕ) (parts : List Part) (trees : Store) (i : ℕ) → i < length parts → get_or (rows_of (kinds_in h) h parts trees) i [] ≡ kinds_in h (get_or parts i no_part) (tree_at h i trees)
row_is h [] trees i inside = absurd (omega (arith, inside))
row_is h (p ∷ ps) trees zero inside = ap (kinds_in h p) (nearest h trees)
row_is h (p ∷ ps) trees (suc i) inside = row_is h ps (other_trees h trees) i (omega (arith, inside)) ∙ ap (kinds_in h (get_or ps i no_part)) (nearer h i trees)

-- a tree whose first run has not all blocks: its nodes count, and its parts have the height g
pub record Opened (h g : ℕ) (known : Part) (tree : Store) : Type 0 where
  pub tall : 1 ≤ h
  pub sized : blocks_of h ≡ 16 * blocks_of g
  pub width : length (root_of g tree) ≡ 16
  pub kinds : kinds_in h known tree ≡ flat (rows_of (kinds_in g) g (root_of g tree) (below_root g tree))
  pub trees : AreTrees (IsTree g) g (root_of g tree) (below_root g tree)

lone_count : (known : Part) (tree : Store) → IsTree 0 known tree → known.first.count ≡ 1
lone_count known tree t =
    let here : cond true 1 0 ≡ _ = ap (λ b. cond b 1 0) (sym (same_refl known.first.kind)) ∙ t.first known.first.kind in
    elim (in_run_cases known.first.kind known.first) [ inl (e, n) ↦ omega (arith, here, n) | inr (e, n) ↦ absurd (e refl) ]

all_parts : (n size : ℕ) → 1 ≤ size → n * size ≡ 16 * size → n ≡ 16
all_parts n size some e = elim (cases_lt n 16) [
  | inl less ↦ absurd (omega (arith, times_less n 16 size less, e, some))
  | inr most ↦ elim (cases_lt 16 n) [ inl more ↦ absurd (omega (arith, times_less 16 n size more, e, some)) | inr few ↦ omega (arith, most, few) ]
]

opened_tall : (h : ℕ) (known : Part) (tree : Store) → IsTree (suc h) known tree → known.first.count < blocks_of (suc h) → Opened (suc h) h known tree
opened_tall h known tree t part =
    let other : (known.first.count == blocks_of (suc h)) ≡ false = differ known.first.count (blocks_of (suc h)) part in
    let trees = t.1 (λ e. omega (arith, e, part)) in
    let rows = rows_of (kinds_in h) h (root_of h tree) (below_root h tree) in
    let kinds : kinds_in (suc h) known tree ≡ flat rows = ap (λ b. cond b (replicate (blocks_of (suc h)) known.first.kind) (flat rows)) other in
    let sized = flat_drop_length (blocks_of h) rows (root_of h tree) 0 (rows_known h (root_of h tree) (below_root h tree) trees) (omega arith) in
    record {
      tall = omega arith;
      sized = refl;
      width = all_parts (length (root_of h tree)) (blocks_of h) (blocks_some h) (omega (arith, sized, ap length kinds, t.0.sized));
      kinds = kinds;
      trees = trees;
    }

pub opened : (h : ℕ) (known : Part) (tree : Store) → IsTree h known tree → known.first.count < blocks_of h → Opened h (h - 1) known tree
opened zero known tree t part = absurd (omega (arith, lone_count known tree t, part))
opened (suc h) known tree t part = let num : h ≡ suc h - 1 = omega arith in subst (λ g. Opened (suc h) g known tree) num (opened_tall h known tree t part)

-- one of the parts of such a tree
pub record Within (h g i : ℕ) (known : Part) (tree : Store) : Type 0 where
  pub is_tree : IsTree g (get_or (root_of g tree) i no_part) (tree_at g i (below_root g tree))
  pub row : get_or (rows_of (kinds_in g) g (root_of g tree) (below_root g tree)) i [] ≡ kinds_in g (get_or (root_of g tree) i no_part) (tree_at g i (below_root g tree))

pub within : (h g i : ℕ) (known : Part) (tree : Store) → Opened h g known tree → i < 16 → Within h g i known tree
within h g i known tree o inside = record {
  is_tree = tree_is g (root_of g tree) (below_root g tree) i o.trees (omega (arith, o.width, inside));
  row = row_is g (root_of g tree) (below_root g tree) i (omega (arith, o.width, inside));
}

-- the rows of such a tree
pub opened_known : (h g : ℕ) (known : Part) (tree : Store) → Opened h g known tree → AreKnown (blocks_of g) (rows_of (kinds_in g) g (root_of g tree) (below_root g tree)) (root_of g tree)
opened_known h g known tree o = rows_known g (root_of g tree) (below_root g tree) o.trees

-- the kind of a block of some rows
pub flat_kind : (size : ℕ) (rows : List (List Kind)) (parts : List Part) (i r : ℕ) → AreKnown size rows parts → i < length parts → r < size → kind_at (flat rows) (i * size + r) ≡ kind_at (get_or rows i []) r
flat_kind size [] [] i r known inside below = absurd (omega (arith, inside))
flat_kind size [] (p ∷ ps) i r known inside below = absurd known
flat_kind size (row ∷ rows) [] i r known inside below = absurd known
flat_kind size (row ∷ rows) (p ∷ ps) zero r known inside below =
    let num : 0 * size + r ≡ r = omega arith in
    ap (kind_at (row ++ flat rows)) num ∙ get_or_append_left row (flat rows) Unchanged r (omega (arith, known.0.sized, below))
flat_kind size (row ∷ rows) (p ∷ ps) (suc i) r known inside below =
    let num : suc i * size + r - size ≡ i * size + r = omega arith in
    get_or-append_right row (flat rows) size (suc i * size + r) Unchanged known.0.sized (omega arith)
    ∙ ap (kind_at (flat rows)) num ∙ flat_kind size rows ps i r known.1 (omega (arith, inside)) below

-- the kind of a block of such a tree
pub kind_within : (h g i r b : ℕ) (known : Part) (tree : Store) → Opened h g known tree → i < 16 → r < blocks_of g → b ≡ i * blocks_of g + r
    → kind_at (kinds_in g (get_or (root_of g tree) i no_part) (tree_at g i (below_root g tree))) r ≡ kind_at (kinds_in h known tree) b
kind_within h g i r b known tree o inside below e =
    let w = within h g i known tree o inside in
    let rows = rows_of (kinds_in g) g (root_of g tree) (below_root g tree) in
    sym (ap (λ l. kind_at l b) o.kinds ∙ ap (kind_at (flat rows)) e ∙ flat_kind (blocks_of g) rows (root_of g tree) i r (opened_known h g known tree o) (omega (arith, o.width, inside)) below ∙ ap (λ l. kind_at l r) w.row)

-- a tree whose first run has all blocks
pub tree_whole : (h : ℕ) (known : Part) (tree : Store) → IsTree h known tree → blocks_of h ≤ known.first.count → kinds_in h known tree ≡ replicate (blocks_of h) known.first.kind
tree_whole h known tree t all =
    let k = tree_known h known tree t in
    let kind = known.first.kind in
    let here = k.first kind in
    elim (in_run_cases kind known.first) [
      | inl (e, n) ↦
          let whole : front kind (kinds_in h known tree) ≡ length (kinds_in h known tree) =
          elim (all_or_not kind 0 (kinds_in h known tree)) [ inl w ↦ w.0 | inr p ↦ absurd (omega (arith, here, n, all, k.sized)) ] in
          all_alike kind (kinds_in h known tree) whole ∙ ap (λ m. replicate m kind) k.sized
      | inr (e, n) ↦ absurd (e refl)
    ]

-- where a block of a tree lies in the parts
pub place_below : (h g b : ℕ) (known : Part) (tree : Store) → Opened h g known tree → b < blocks_of h → b / blocks_of g < 16
place_below h g b known tree o below = (div-lt_iff_lt-mul (blocks_some g)).1 (omega (arith, o.sized, below))

-- a tree with a longer run of free blocks than its first one is not of one kind
pub not_whole : (h count : ℕ) (known : Part) (tree : Store) → IsTree h known tree → in_run Free known.first < count → count ≤ known.longest → known.first.count < blocks_of h
not_whole h count known tree t short fits = elim (cases_lt known.first.count (blocks_of h)) [
  | inl part ↦ part
  | inr all ↦
      let k = tree_known h known tree t in
      let whole = tree_whole h known tree t all in
      let front_is = sym (k.first Free) ∙ ap (front Free) whole ∙ front_replicate Free known.first.kind (blocks_of h) in
      let longest_is = k.longest ∙ ap longest_free whole ∙ longest_alike known.first.kind (blocks_of h) in
      absurd (omega (arith, front_is, longest_is, short, fits))
]

-- the heights of a table's tree
pub up_to_five : (P : ℕ → Type 0) → P 0 → P 1 → P 2 → P 3 → P 4 → P 5 → (h : ℕ) → h ≤ 5 → P h
up_to_five P a b c d e f zero few = a
up_to_five P a b c d e f (suc zero) few = b
up_to_five P a b c d e f (suc (suc zero)) few = c
up_to_five P a b c d e f (suc (suc (suc zero))) few = d
up_to_five P a b c d e f (suc (suc (suc (suc zero)))) few = e
up_to_five P a b c d e f (suc (suc (suc (suc (suc zero))))) few = f
up_to_five P a b c d e f (suc (suc (suc (suc (suc (suc n)))))) few = absurd (omega (arith, few))

pub blocks_few : (h : ℕ) → h ≤ 5 → blocks_of h ≤ 1048576
blocks_few = up_to_five (λ h. blocks_of h ≤ 1048576) (omega arith) (omega arith) (omega arith) (omega arith) (omega arith) (omega arith)

-- the rows of a node
abbrev pub rows_in : ℕ → Store → List (List Kind)
rows_in g tree = rows_of (kinds_in g) g (root_of g tree) (below_root g tree)

-- a tree in which the search goes on at the parts
pub record Deeper (h g count : ℕ) (known : Part) (tree : Store) : Type 0 where
  pub open_tree : Opened h g known tree
  pub rows_right : AreKnown (blocks_of g) (rows_in g tree) (root_of g tree)
  pub row_fits : count ≤ longest_free (flat (rows_in g tree))
  pub few : 16 * blocks_of g ≤ 1048576

pub deeper : (h count : ℕ) (known : Part) (tree : Store) → IsTree h known tree → h ≤ 5 → in_run Free known.first < count → count ≤ known.longest → Deeper h (h - 1) count known tree
deeper h count known tree t height short fits =
    let o = opened h known tree t (not_whole h count known tree t short fits) in
    let k = tree_known h known tree t in
    record {
      open_tree = o;
      rows_right = opened_known h (h - 1) known tree o;
      row_fits = omega (arith, fits, k.longest, ap longest_free o.kinds);
      few = omega (arith, o.sized, blocks_few h height);
    }
