-- Parts that lie before all that changes.
use Rattle.std.proofs.Common.{◌≡◌, ℕ, zero, suc, ◌+◌, ◌*◌, ◌-◌, ◌/◌, ◌≤◌, min, List, [], ◌∷◌, ◌++◌, length, take, drop, refl, sym, ap, ◌∙◌, subst, arith, length-take, length-drop, length-append, append_assoc}
use Rattle.std.proofs.Math.Seq.{take-add}
use Rattle.std.proofs.Math.Nat.{mul-le-mul_left}
use Rattle.std.proofs.lemmas.Nat.{le-div}
use Rattle.bow_units.specs.declared.statuses.Kind.{Kind}
use Rattle.bow_tree.specs.declared.parts.Part.{Part}
use Rattle.bow_tree.specs.Rows.{flat, put}
use Rattle.bow_tree.specs.Trees.{Store, blocks_of, room_of, first_tree, other_trees, rows_of, kinds_in, AreTrees, IsTree, IsPut}
use Rattle.bow_tree.specs.Rooms.{HaveRoom}
use Rattle.bow_tree.proofs.Pieces.{both}
use Rattle.bow_tree.proofs.Puts.{put_none}
use Rattle.bow_tree.proofs.Descents.{blocks_some, drops, none_gone, tree_known}
use Rattle.bow_tree.proofs.Rooms.{other_roomy}
use Rattle.bow_tree.proofs.Changes.{seam, parts_put, parts_trees}

-- the trees behind so many
abbrev pub behind : ℕ → ℕ → Store → Store
behind h n trees = (drop (n * room_of h) trees.0, drop (n * blocks_of h) trees.1)

further : (h n : ℕ) (trees : Store) → behind h n (other_trees h trees) ≡ behind h (suc n) trees
further h n trees = both (drops n (room_of h) trees.0) (drops n (blocks_of h) trees.1)

nearby : (h : ℕ) (trees : Store) → trees ≡ behind h 0 trees
nearby h trees = both (none_gone (room_of h) trees.0) (none_gone (blocks_of h) trees.1)

pub trees_behind : (h n : ℕ) (parts : List Part) (trees : Store) → AreTrees (IsTree h) h parts trees → AreTrees (IsTree h) h (drop n parts) (behind h n trees)
trees_behind h zero parts trees t = subst (AreTrees (IsTree h) h parts) (nearby h trees) t
trees_behind h (suc n) [] trees t = tt
trees_behind h (suc n) (p ∷ ps) trees t = subst (AreTrees (IsTree h) h (drop n ps)) (further h n trees) (trees_behind h n ps (other_trees h trees) t.1)

pub room_behind : (h n blocks : ℕ) (trees : Store) → 1 ≤ h → HaveRoom h blocks trees → HaveRoom h (blocks - n * blocks_of h) (behind h n trees)
room_behind h zero blocks trees some r =
    let num : blocks ≡ blocks - 0 * blocks_of h = omega arith in
    subst (λ m. HaveRoom h m (behind h 0 trees)) num (subst (HaveRoom h blocks) (nearby h trees) r)
room_behind h (suc n) blocks trees some r =
    let num : blocks - blocks_of h - n * blocks_of h ≡ blocks - suc n * blocks_of h = omega arith in
    subst (λ m. HaveRoom h m (behind h (suc n) trees)) num
    (subst (HaveRoom h (blocks - blocks_of h - n * blocks_of h)) (further h n trees) (room_behind h n (blocks - blocks_of h) (other_trees h trees) some (other_roomy h blocks trees some r)))

-- some trees as they were, and others behind them
abbrev pub before_and : ℕ → ℕ → Store → Store → Store
before_and h n trees rest = (take (n * room_of h) trees.0 ++ rest.0, take (n * blocks_of h) trees.1 ++ rest.1)

-- the others have as much room as what was there
pub record IsAsLong (h n : ℕ) (trees rest : Store) : Type 0 where
  pub parts : length rest.0 ≡ length trees.0 - n * room_of h
  pub kinds : length rest.1 ≡ length trees.1 - n * blocks_of h

joined_pieces : {X : Type 0} (n size : ℕ) (xs ys : List X) → take size xs ++ (take (n * size) (drop size xs) ++ ys) ≡ take (suc n * size) xs ++ ys
joined_pieces n size xs ys =
    let num : size + n * size ≡ suc n * size = omega arith in
    sym (append_assoc (take size xs) (take (n * size) (drop size xs)) ys) ∙ ap (λ l. l ++ ys) (sym (take-add size (n * size) xs)) ∙ ap (λ m. take m xs ++ ys) num

none_taken : {X : Type 0} (size : ℕ) (xs ys : List X) → take (0 * size) xs ++ ys ≡ ys
none_taken size xs ys = let num : 0 * size ≡ 0 = omega arith in ap (λ m. take m xs ++ ys) num

-- the new parts and trees are right, and differ from the old ones as they should
pub record IsChange (h from to : ℕ) (kind : Kind) (parts : List Part) (trees : Store) (new : List Part) (after : Store) : Type 0 where
  pub right : AreTrees (IsTree h) h new after
  pub changed : IsPut h from to kind parts trees new after

pub skipped : (h n from to : ℕ) (kind : Kind) (parts others : List Part) (trees rest : Store) → n ≤ length parts → n * blocks_of h ≤ from → AreTrees (IsTree h) h parts trees → IsAsLong h n trees rest
    → IsChange h (from - n * blocks_of h) (to - n * blocks_of h) kind (drop n parts) (behind h n trees) others rest
    → IsChange h from to kind parts trees (take n parts ++ others) (before_and h n trees rest)
skipped h zero from to kind parts others trees rest few below t long c =
    let same : rest ≡ before_and h 0 trees rest = both (sym (none_taken (room_of h) trees.0 rest.0)) (sym (none_taken (blocks_of h) trees.1 rest.1)) in
    let f : from - 0 * blocks_of h ≡ from = omega arith in
    let g : to - 0 * blocks_of h ≡ to = omega arith in
    record {
      right = subst (AreTrees (IsTree h) h others) same c.right;
      changed = ap (λ (l : Store). flat (rows_of (kinds_in h) h others l)) (sym same) ∙ c.changed
          ∙ ap (λ (l : Store). put (from - 0 * blocks_of h) (to - 0 * blocks_of h) kind (flat (rows_of (kinds_in h) h parts l))) (sym (nearby h trees))
          ∙ ap (λ m. put m (to - 0 * blocks_of h) kind (flat (rows_of (kinds_in h) h parts trees))) f ∙ ap (λ m. put from m kind (flat (rows_of (kinds_in h) h parts trees))) g;
    }
skipped h (suc n) from to kind [] others trees rest few below t long c = absurd (omega (arith, few))
skipped h (suc n) from to kind (p ∷ ps) others trees rest few below t long c =
    let size : ℕ = blocks_of h in
    let some = blocks_some h in
    let f : from - suc n * size ≡ from - size - n * size = omega arith in
    let g : to - suc n * size ≡ to - size - n * size = omega arith in
    let shorter : IsAsLong h n (other_trees h trees) rest = record {
      parts = omega (arith, long.parts, length-drop (room_of h) trees.0);
      kinds = omega (arith, long.kinds, length-drop size trees.1);
    } in
    let changed = c.changed ∙ ap (λ (l : Store). put (from - suc n * size) (to - suc n * size) kind (flat (rows_of (kinds_in h) h (drop n ps) l))) (sym (further h n trees))
    ∙ ap (λ m. put m (to - suc n * size) kind (flat (rows_of (kinds_in h) h (drop n ps) (behind h n (other_trees h trees))))) f
    ∙ ap (λ m. put (from - size - n * size) m kind (flat (rows_of (kinds_in h) h (drop n ps) (behind h n (other_trees h trees))))) g in
    let s = skipped h n (from - size) (to - size) kind ps others (other_trees h trees) rest (omega (arith, few)) (omega (arith, below)) t.1 shorter (record { right = c.right; changed = changed }) in
    let tree : Store = first_tree h trees in
    let after : Store = before_and h n (other_trees h trees) rest in
    let whole : (tree.0 ++ after.0, tree.1 ++ after.1) ≡ before_and h (suc n) trees rest = both (joined_pieces n (room_of h) trees.0 rest.0) (joined_pieces n size trees.1 rest.1) in
    let join = seam h (length trees.0) (length trees.1) tree after (omega (arith, length-take (room_of h) trees.0))
    (omega (arith, length-append (take (n * room_of h) (other_trees h trees).0) rest.0, length-take (n * room_of h) (other_trees h trees).0, length-drop (room_of h) trees.0, long.parts))
    (omega (arith, length-take size trees.1))
    (omega (arith, length-append (take (n * size) (other_trees h trees).1) rest.1, length-take (n * size) (other_trees h trees).1, length-drop size trees.1, long.kinds)) in
    let stays = sym (put_none (min from size) (min to size) kind (kinds_in h p tree) (omega (arith, below))) in
    record {
      right = subst (AreTrees (IsTree h) h (p ∷ take n ps ++ others)) whole (parts_trees h p (take n ps ++ others) tree after (tree.0 ++ after.0, tree.1 ++ after.1) join t.0 s.right);
      changed = ap (λ (l : Store). flat (rows_of (kinds_in h) h (p ∷ take n ps ++ others) l)) (sym whole)
          ∙ parts_put h from to kind p p ps (take n ps ++ others) trees tree after (tree.0 ++ after.0, tree.1 ++ after.1) join (tree_known h p tree t.0).sized stays s.changed;
    }

-- room for what lies before a block
pub room_before : (h n blocks : ℕ) (trees : Store) → n * blocks_of h ≤ blocks → HaveRoom h blocks trees → (n * room_of h ≤ length trees.0) × (n * blocks_of h ≤ length trees.1)
room_before h n blocks trees inside r =
    let whole : n ≤ blocks / blocks_of h = le-div n blocks (blocks_of h) (omega (arith, blocks_some h)) inside in
    (omega (arith, r.parts, mul-le-mul_left (room_of h) whole), omega (arith, r.kinds, inside))

-- no parts, nothing to change
pub no_parts_put : (h from to : ℕ) (kind : Kind) (parts : List Part) (trees : Store) → length parts ≡ 0 → IsPut h from to kind parts trees parts trees
no_parts_put h from to kind [] trees none = refl
no_parts_put h from to kind (p ∷ ps) trees none = absurd (omega (arith, none))
