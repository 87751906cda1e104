-- Trees after a change.
use Rattle.std.proofs.Common.{◌≡◌, ◌≢◌, ℕ, zero, suc, ◌+◌, ◌*◌, ◌-◌, ◌<◌, ◌≤◌, ◌==◌, min, true, false, cond, List, [], ◌∷◌, ◌++◌, length, map, take, drop, replicate, get_or, set, refl, sym, ap, ◌∙◌, subst, inl, inr, arith, append-nil}
use Rattle.std.proofs.lemmas.Bool.{cases_lt}
use Rattle.std.proofs.lemmas.List.{replicate-append-replicate, take_all, drop_all, take_min, drop_min, nil_from_length}
use Rattle.std.proofs.Math.Seq.{take-append_seam, drop-append_seam}
use Rattle.bow_units.specs.declared.statuses.Kind.{Kind}
use Rattle.bow_tree.specs.declared.parts.Run.{Run}
use Rattle.bow_tree.specs.declared.parts.Part.{Part}
use Rattle.bow_tree.specs.Rows.{front, flat, put}
use Rattle.bow_tree.specs.Parts.{lone, no_part, IsKnown}
use Rattle.bow_tree.specs.Trees.{Store, blocks_of, room_of, root_of, below_root, first_tree, other_trees, rows_of, kinds_in, AreTrees, IsTree, leaf_kinds}
use Rattle.bow_tree.proofs.Rows.{all_alike}
use Rattle.bow_tree.proofs.Runs.{in_run_cases, front_bound, alike_known}
use Rattle.bow_tree.proofs.Pieces.{level, levels, both}
use Rattle.bow_tree.proofs.Puts.{put_append, put_min}
use Rattle.bow_tree.proofs.Descents.{opened, tree_known, tree_whole}

-- the first of some parts
pub first_part : (parts first others : List Part) → 0 < length parts → first ≡ take 1 parts → others ≡ drop 1 parts → parts ≡ get_or first 0 no_part ∷ others
first_part [] first others some e f = absurd (omega (arith, some))
first_part (x ∷ xs) first others some e f = ap (λ (l : List Part). get_or l 0 no_part ∷ xs) (sym e) ∙ ap (λ (l : List Part). get_or first 0 no_part ∷ l) (sym f)

pub first_set : (parts first : List Part) (p : Part) → 0 < length parts → first ≡ take 1 parts → set first 0 p ≡ p ∷ []
first_set [] first p some e = absurd (omega (arith, some))
first_set (x ∷ xs) first p some e = ap (λ (l : List Part). set l 0 p) e

-- two pieces that were cut at `n`, or the first one alone where there were fewer
cut_seam : {X : Type 0} (n m : ℕ) (xs ys : List X) → length xs ≡ min n m → length ys ≡ m - min n m → (take n (xs ++ ys) ≡ xs) × (drop n (xs ++ ys) ≡ ys)
cut_seam n m xs ys low high = elim (cases_lt m n) [
  | inl few ↦
      let none : ys ≡ [] = nil_from_length ys (omega (arith, high, few)) in
      let all : xs ++ ys ≡ xs = ap (λ l. xs ++ l) none ∙ append-nil xs in
      let inside : length xs ≤ n = omega (arith, low) in
      (ap (take n) all ∙ take_all n xs inside, ap (drop n) all ∙ drop_all n xs inside ∙ sym none)
  | inr enough ↦
      let e : length xs ≡ n = omega (arith, low, enough) in
      (ap (λ k. take k (xs ++ ys)) (sym e) ∙ take-append_seam xs ys, ap (λ k. drop k (xs ++ ys)) (sym e) ∙ drop-append_seam xs ys)
]

-- trees, cut behind the first one
pub record Cut (h : ℕ) (trees tree rest : Store) : Type 0 where
  pub first : tree ≡ first_tree h trees
  pub others : rest ≡ other_trees h trees

pub cut : (h n m : ℕ) (trees : Store) (a b : List Part) (c d : List Kind) → n ≡ min (room_of h) (length trees.0) → m ≡ min (blocks_of h) (length trees.1) → a ≡ take n trees.0 → b ≡ drop n trees.0 → c ≡ take m trees.1 → d ≡ drop m trees.1
    → Cut h trees (a, c) (b, d)
cut h n m trees a b c d n_is m_is a_is b_is c_is d_is =
    let low_parts = a_is ∙ ap (λ k. take k trees.0) n_is ∙ take_min (room_of h) trees.0 in
    let low_kinds = c_is ∙ ap (λ k. take k trees.1) m_is ∙ take_min (blocks_of h) trees.1 in
    let high_parts = b_is ∙ ap (λ k. drop k trees.0) n_is ∙ drop_min (room_of h) trees.0 in
    let high_kinds = d_is ∙ ap (λ k. drop k trees.1) m_is ∙ drop_min (blocks_of h) trees.1 in
    record {
      first = both low_parts low_kinds;
      others = both high_parts high_kinds;
    }

-- a changed tree before the others
pub record Seam (h : ℕ) (tree rest after : Store) : Type 0 where
  pub first : first_tree h after ≡ tree
  pub others : other_trees h after ≡ rest

pub seam : (h n m : ℕ) (tree rest : Store) → length tree.0 ≡ min (room_of h) n → length rest.0 ≡ n - min (room_of h) n → length tree.1 ≡ min (blocks_of h) m → length rest.1 ≡ m - min (blocks_of h) m
    → Seam h tree rest (tree.0 ++ rest.0, tree.1 ++ rest.1)
seam h n m tree rest a b c d =
    let parts = cut_seam (room_of h) n tree.0 rest.0 a b in
    let kinds = cut_seam (blocks_of h) m tree.1 rest.1 c d in
    record {
      first = both parts.0 kinds.0;
      others = both parts.1 kinds.1;
    }

pub parts_put : (h from to : ℕ) (kind : Kind) (p q : Part) (ps qs : List Part) (trees tree rest after : Store) → Seam h tree rest after → length (kinds_in h p (first_tree h trees)) ≡ blocks_of h
    → kinds_in h q tree ≡ put (min from (blocks_of h)) (min to (blocks_of h)) kind (kinds_in h p (first_tree h trees))
    → flat (rows_of (kinds_in h) h qs rest) ≡ put (from - blocks_of h) (to - blocks_of h) kind (flat (rows_of (kinds_in h) h ps (other_trees h trees)))
    → flat (rows_of (kinds_in h) h (q ∷ qs) after) ≡ put from to kind (flat (rows_of (kinds_in h) h (p ∷ ps) trees))
parts_put h from to kind p q ps qs trees tree rest after s sized one others =
    let row = kinds_in h p (first_tree h trees) in
    let more = flat (rows_of (kinds_in h) h ps (other_trees h trees)) in
    let first : kinds_in h q (first_tree h after) ≡ put from to kind row =
    ap (kinds_in h q) s.first ∙ one ∙ ap (λ n. put (min from n) (min to n) kind row) (sym sized) ∙ put_min from to kind row in
    let behind : flat (rows_of (kinds_in h) h qs (other_trees h after)) ≡ put (from - length row) (to - length row) kind more =
    ap (λ l. flat (rows_of (kinds_in h) h qs l)) s.others ∙ others ∙ ap (λ n. put (from - n) (to - n) kind more) (sym sized) in
    ap (λ l. l ++ flat (rows_of (kinds_in h) h qs (other_trees h after))) first ∙ ap (λ l. put from to kind row ++ l) behind ∙ sym (put_append from to kind row more)

pub parts_trees : (h : ℕ) (q : Part) (qs : List Part) (tree rest after : Store) → Seam h tree rest after → IsTree h q tree → AreTrees (IsTree h) h qs rest → AreTrees (IsTree h) h (q ∷ qs) after
parts_trees h q qs tree rest after s one others = (subst (IsTree h q) (sym s.first) one, subst (AreTrees (IsTree h) h qs) (sym s.others) others)

-- a tree of blocks of one kind, whatever its nodes
pub alike_kinds : (h : ℕ) (kind : Kind) (part : Part) (tree : Store) → part.first ≡ record { kind = kind; count = blocks_of h } → kinds_in h part tree ≡ replicate (blocks_of h) kind
alike_kinds zero kind part tree e = ap (λ (r : Run). r.kind ∷ []) e
alike_kinds (suc h) kind part tree e =
    let count : part.first.count ≡ blocks_of (suc h) = ap (λ (r : Run). r.count) e in
    let whole : (part.first.count == blocks_of (suc h)) ≡ true = level part.first.count (blocks_of (suc h)) count in
    ap (λ b. cond b (replicate (blocks_of (suc h)) part.first.kind) (flat (rows_of (kinds_in h) h (root_of h tree) (below_root h tree)))) whole ∙ ap (λ (r : Run). replicate (blocks_of (suc h)) r.kind) e

pub alike_tree : (h : ℕ) (kind : Kind) (part : Part) (tree : Store) → part.first ≡ record { kind = kind; count = blocks_of h } → IsKnown (blocks_of h) (replicate (blocks_of h) kind) part → IsTree h part tree
alike_tree zero kind part tree e k = subst (λ (l : List Kind). IsKnown 1 l part) (ap (λ (r : Run). r.kind ∷ []) (sym e)) k
alike_tree (suc h) kind part tree e k = (
  subst (λ (l : List Kind). IsKnown (blocks_of (suc h)) l part) (sym (alike_kinds (suc h) kind part tree e)) k,
  λ other. absurd (other (ap (λ (r : Run). r.count) e)),
)

filled_rows : (n h : ℕ) (kind : Kind) (part : Part) (trees : Store) → part.first ≡ record { kind = kind; count = blocks_of h } → flat (rows_of (kinds_in h) h (replicate n part) trees) ≡ replicate (n * blocks_of h) kind
filled_rows zero h kind part trees e = let num : zero ≡ zero * blocks_of h = omega arith in ap (λ m. replicate m kind) num
filled_rows (suc n) h kind part trees e =
    let num : blocks_of h + n * blocks_of h ≡ suc n * blocks_of h = omega arith in
    ap (λ l. l ++ flat (rows_of (kinds_in h) h (replicate n part) (other_trees h trees))) (alike_kinds h kind part (first_tree h trees) e)
    ∙ ap (λ l. replicate (blocks_of h) kind ++ l) (filled_rows n h kind part (other_trees h trees) e)
    ∙ replicate-append-replicate (blocks_of h) (n * blocks_of h) kind ∙ ap (λ m. replicate m kind) num

filled_trees : (n h : ℕ) (kind : Kind) (part : Part) (trees : Store) → part.first ≡ record { kind = kind; count = blocks_of h } → IsKnown (blocks_of h) (replicate (blocks_of h) kind) part → AreTrees (IsTree h) h (replicate n part) trees
filled_trees zero h kind part trees e k = tt
filled_trees (suc n) h kind part trees e k = (alike_tree h kind part (first_tree h trees) e k, filled_trees n h kind part (other_trees h trees) e k)

-- a tree of several blocks
pub tall : (h from to : ℕ) → from < to → to ≤ blocks_of h → (from ≡ 0 → to ≡ blocks_of h → ⊥) → 1 ≤ h
tall zero from to some inside other = absurd (other (omega (arith, some, inside)) (omega (arith, some, inside)))
tall (suc h) from to some inside other = omega arith

pub record Shape (h g : ℕ) : Type 0 where
  pub next : h ≡ suc g
  pub sized : blocks_of h ≡ 16 * blocks_of g

pub shape : (h : ℕ) → 1 ≤ h → Shape h (h - 1)
shape zero some = absurd (omega (arith, some))
shape (suc h) some = let num : h ≡ suc h - 1 = omega arith in subst (λ g. Shape (suc h) g) num (record { next = refl; sized = refl })

-- a root of parts that are kept
pub record Kept (g : ℕ) (tree : Store) : Type 0 where
  pub root : root_of g tree ≡ take 16 tree.0
  pub below : below_root g tree ≡ (drop 16 tree.0, tree.1)

pub kept : (g : ℕ) (tree : Store) → 1 ≤ g → Kept g tree
kept zero tree some = absurd (omega (arith, some))
kept (suc g) tree some = record { root = refl; below = refl }

-- a node whose parts and trees count, for the kinds that the tree stood for
pub record Counts (g : ℕ) (kinds : List Kind) (node : List Part) (trees : Store) : Type 0 where
  pub trees_right : AreTrees (IsTree g) g node trees
  pub kinds_right : flat (rows_of (kinds_in g) g node trees) ≡ kinds

pub counts_filled : (h g : ℕ) (known part : Part) (tree : Store) (node : List Part) (trees : Store) → IsTree h known tree → Shape h g → known.first.count ≡ blocks_of h → part.first ≡ record { kind = known.first.kind; count = blocks_of g }
    → IsKnown (blocks_of g) (replicate (blocks_of g) known.first.kind) part → node ≡ replicate 16 part → Counts g (kinds_in h known tree) node trees
counts_filled h g known part tree node trees t s whole first known_part e = record {
  trees_right = subst (λ l. AreTrees (IsTree g) g l trees) (sym e) (filled_trees 16 g known.first.kind part trees first known_part);
  kinds_right = ap (λ l. flat (rows_of (kinds_in g) g l trees)) e ∙ filled_rows 16 g known.first.kind part trees first ∙ ap (λ n. replicate n known.first.kind) (sym s.sized) ∙ sym (tree_whole h known tree t (omega (arith, whole)));
}

pub counts_open : (h : ℕ) (known : Part) (tree : Store) (node : List Part) (trees : Store) → IsTree h known tree → known.first.count ≢ blocks_of h → node ≡ root_of (h - 1) tree → trees ≡ below_root (h - 1) tree → Counts (h - 1) (kinds_in h known tree) node trees
counts_open h known tree node trees t other e f =
    let k = tree_known h known tree t in
    let bound = front_bound (kinds_in h known tree) known.first k.first in
    let part : known.first.count < blocks_of h = elim (cases_lt known.first.count (blocks_of h)) [ inl p ↦ p | inr all ↦ absurd (other (omega (arith, bound, k.sized, all))) ] in
    let o = opened h known tree t part in
    subst (λ l. Counts (h - 1) (kinds_in h known tree) l trees) (sym e)
    (subst (λ l. Counts (h - 1) (kinds_in h known tree) (root_of (h - 1) tree) l) (sym f)
    (record { trees_right = o.trees; kinds_right = sym o.kinds }))

-- the tree of a node of which all is known
pub record Closed (g : ℕ) (node : List Part) (trees after : Store) : Type 0 where
  pub root : root_of g after ≡ node
  pub below : below_root g after ≡ trees

pub closed : (g : ℕ) (node : List Part) (trees : Store) → 1 ≤ g → length node ≡ 16 → Closed g node trees (node ++ trees.0, trees.1)
closed zero node trees some width = absurd (omega (arith, some))
closed (suc g) node trees some width = record {
  root = ap (λ n. take n (node ++ trees.0)) (sym width) ∙ take-append_seam node trees.0;
  below = ap (λ l. (l, trees.1)) (ap (λ n. drop n (node ++ trees.0)) (sym width) ∙ drop-append_seam node trees.0);
}

pub closed_kinds : (g : ℕ) (known : Part) (node : List Part) (trees after : Store) → Closed g node trees after → IsKnown (blocks_of (suc g)) (flat (rows_of (kinds_in g) g node trees)) known
    → kinds_in (suc g) known after ≡ flat (rows_of (kinds_in g) g node trees)
closed_kinds g known node trees after s k =
    let rows = flat (rows_of (kinds_in g) g node trees) in
    let at : flat (rows_of (kinds_in g) g (root_of g after) (below_root g after)) ≡ rows =
    ap (λ l. flat (rows_of (kinds_in g) g l (below_root g after))) s.root ∙ ap (λ l. flat (rows_of (kinds_in g) g node l)) s.below in
    elim (known.first.count == blocks_of (suc g)) as (λ b. (known.first.count == blocks_of (suc g)) ≡ b → cond b (replicate (blocks_of (suc g)) known.first.kind) (flat (rows_of (kinds_in g) g (root_of g after) (below_root g after))) ≡ rows) [
      | true ↦ λ e.
          let count : known.first.count ≡ blocks_of (suc g) = levels known.first.count (blocks_of (suc g)) e in
          let kind = known.first.kind in
          let here = k.first kind in
          elim (in_run_cases kind known.first) [
            | inl (f, n) ↦
                let whole : front kind rows ≡ length rows = omega (arith, here, n, count, k.sized) in
                sym (all_alike kind rows whole ∙ ap (λ m. replicate m kind) k.sized)
            | inr (f, n) ↦ absurd (f refl)
          ]
      | false ↦ λ e. at
    ] refl

pub closed_tree : (g : ℕ) (known : Part) (node : List Part) (trees after : Store) → Closed g node trees after → AreTrees (IsTree g) g node trees → IsKnown (blocks_of (suc g)) (flat (rows_of (kinds_in g) g node trees)) known
    → IsTree (suc g) known after
closed_tree g known node trees after s right k = (
  subst (λ l. IsKnown (blocks_of (suc g)) l known) (sym (closed_kinds g known node trees after s k)) k,
  λ other. subst (λ l. AreTrees (IsTree g) g l (below_root g after)) (sym s.root) (subst (AreTrees (IsTree g) g node) (sym s.below) right),
)

-- the parts of a leaf
pub leaf_rows : (kinds : List Kind) (trees : Store) → flat (rows_of (kinds_in 0) 0 (map lone kinds) trees) ≡ kinds
leaf_rows [] trees = refl
leaf_rows (x ∷ xs) trees = ap (λ l. x ∷ l) (leaf_rows xs (other_trees 0 trees))

pub leaf_trees : (kinds : List Kind) (trees : Store) → AreTrees (IsTree 0) 0 (map lone kinds) trees
leaf_trees [] trees = tt
leaf_trees (x ∷ xs) trees = (alike_known x 1 (lone x) refl refl refl refl, leaf_trees xs (other_trees 0 trees))

leaf_is : (known : Part) (tree : Store) → kinds_in 1 known tree ≡ leaf_kinds known tree.1
leaf_is known tree = ap (λ l. cond (known.first.count == 16) (replicate 16 known.first.kind) l) (leaf_rows (take 16 tree.1) (below_root 0 tree))

-- a change of a leaf
pub leaf_changed : (h from to : ℕ) (kind : Kind) (known new : Part) (parts : List Part) (kinds after : List Kind) → h ≡ 1 → IsKnown 16 (take 16 after) new → take 16 after ≡ put from to kind (leaf_kinds known kinds)
    → IsTree h new (parts, after) × (kinds_in h new (parts, after) ≡ put from to kind (kinds_in h known (parts, kinds)))
leaf_changed h from to kind known new parts kinds after e k p =
    let tree : Store = (parts, after) in
    let node = map lone (take 16 after) in
    let below : Store = below_root 0 tree in
    let s : Closed 0 node below tree = record { root = refl; below = refl } in
    let rows = leaf_rows (take 16 after) below in
    let right : IsKnown 16 (flat (rows_of (kinds_in 0) 0 node below)) new = subst (λ l. IsKnown 16 l new) (sym rows) k in
    let is_tree : IsTree 1 new tree = closed_tree 0 new node below tree s (leaf_trees (take 16 after) below) right in
    let is_put : kinds_in 1 new tree ≡ put from to kind (kinds_in 1 known (parts, kinds)) =
    closed_kinds 0 new node below tree s right ∙ rows ∙ p ∙ ap (put from to kind) (sym (leaf_is known (parts, kinds))) in
    subst (λ n. IsTree n new tree × (kinds_in n new tree ≡ put from to kind (kinds_in n known (parts, kinds)))) (sym e) (is_tree, is_put)
