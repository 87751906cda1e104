use Rattle.std.proofs.Common.{◌≡◌, ℕ, suc, ◌*◌, ◌-◌, ◌/◌, ◌≤◌, min, List, ◌∷◌, ◌++◌, length, take, drop, replicate, get_or, set, sym, ap, ◌∙◌, subst, arith}
use Rattle.std.proofs.Math.Nat.{div-mul-le_self}
use Rattle.bow_tree.specs.declared.parts.Part.{Part}
use Rattle.bow_tree.specs.Rows.{flat, put}
use Rattle.bow_tree.specs.Parts.{no_part, IsKnown}
use Rattle.bow_tree.specs.Trees.{Store, blocks_of, room_of, below_root, first_tree, other_trees, rows_of, kinds_in, AreTrees, IsTree}
use Rattle.bow_tree.specs.Rooms.{HasRoom, HaveRoom}
use Rattle.bow_tree.proofs.Pieces.{both, levels}
use Rattle.bow_tree.proofs.Puts.{put_none, put_all}
use Rattle.bow_tree.proofs.Skips.{IsChange, IsAsLong, before_and, behind, no_parts_put, room_before, room_behind, trees_behind, skipped}
use Rattle.bow_tree.proofs.Descents.{tree_known, rows_known}
use Rattle.bow_tree.proofs.Rooms.{first_roomy, other_roomy, open_roomy}
use Rattle.bow_tree.proofs.Changes.{first_part, first_set, Cut, cut, seam, parts_put, parts_trees, alike_kinds, tall, shape, kept, Counts, counts_filled, counts_open, closed, closed_kinds, closed_tree, leaf_changed}
use Rattle.bow_tree.proofs.writes.+writes.Goals.{set_next-then-from-to-via-then-from-to, set_next-then-from-to-via-else-from-to+then-is_empty, set_in-else-from-eq0-via-then-from-eq0+else-to-size, set_in-else-from-eq0-via-else-from-eq0, set_in-then-known-size, set_in-else-known-size}
use Rattle.bow_tree.proofs.writes.+writes.Goals.{set_in-Joined-known-size, set_next-After-min-4}
use Rattle.bow_tree.proofs.writes.+writes.Goals as goal

pub set_in-returns-then-from-to-clause-put : goal.set_in-returns-then-from-to-clause-put
set_in-returns-then-from-to-clause-put t c = sym (put_none c.args.from c.args.to c.args.kind (kinds_in c.args.height c.args.known (c.args.parts.now, c.args.kinds.now)) c.if-from-to.true)

pub set_in-returns-then-to-size-clause-put : goal.set_in-returns-then-to-size-clause-put
set_in-returns-then-to-size-clause-put t c =
    let h = c.args.height in
    let tree : Store = (c.args.parts.now, c.args.kinds.now) in
    let kinds = kinds_in h c.args.known tree in
    let k = tree_known h c.args.known tree c.requires.tree in
    let size = c.size_of-size.ensures.size in
    let first = ap (λ (p : Part). p.first) c.alike.ensures.part ∙ ap (λ n. record { kind = c.args.kind; count = n }) size in
    alike_kinds h c.args.kind c.alike.result tree first ∙ ap (λ n. replicate n c.args.kind) (sym k.sized)
    ∙ sym (put_all c.args.to c.args.kind kinds (omega (arith, k.sized, size))) ∙ ap (λ n. put n c.args.to c.args.kind kinds) (sym c.if-from-eq0.true)

-- a change of a leaf
leaf_is : (t : ℕ) (c : goal.set_in-After-kinds-1 t) → (IsTree c.args.height c.set_leaf.result (c.args.parts.now, c.set_leaf.new.kinds))
    × (kinds_in c.args.height c.set_leaf.result (c.args.parts.now, c.set_leaf.new.kinds) ≡ put c.args.from c.args.to c.args.kind (kinds_in c.args.height c.args.known (c.args.parts.now, c.args.kinds.now)))
leaf_is t c = leaf_changed c.args.height c.args.from c.args.to c.args.kind c.args.known c.set_leaf.result c.args.parts.now c.args.kinds.now c.set_leaf.new.kinds c.if-height-eq1.true c.set_leaf.ensures.known c.set_leaf.ensures.put

pub set_in-returns-then-height-eq1-clause-tree : goal.set_in-returns-then-height-eq1-clause-tree
set_in-returns-then-height-eq1-clause-tree t c = (leaf_is t c).0

pub set_in-returns-then-height-eq1-clause-put : goal.set_in-returns-then-height-eq1-clause-put
set_in-returns-then-height-eq1-clause-put t c = (leaf_is t c).1

-- a tree whose parts have parts
is_high : (t : ℕ) (c : goal.set_in-Joined-known-size t) → 2 ≤ c.args.height
is_high t c =
    let size = c.size_of-size.ensures.size in
    let high = tall c.args.height c.args.from c.args.to c.if-from-to.false c.requires.inside (elim c.else-from-eq0.branch as (λ _. c.args.from ≡ 0 → c.args.to ≡ blocks_of c.args.height → ⊥) [
      | set_in-else-from-eq0-via-then-from-eq0+else-to-size w ↦ λ e f. w.if-to-size.false (f ∙ sym size)
      | set_in-else-from-eq0-via-else-from-eq0 w ↦ λ e f. w.if-from-eq0.false e
    ]) in
    omega (arith, high, c.if-height-eq1.false)

-- the root's parts count, with their trees
parts_count : (t : ℕ) (c : goal.set_in-Joined-known-size t)
    → Counts (c.args.height - 1) (kinds_in c.args.height c.args.known (c.args.parts.now, c.args.kinds.now)) c.if-known-size.node (c.split_at_mut-node.result.1.now, c.args.kinds.now)
parts_count t c =
    let h = c.args.height in
    let g = h - 1 in
    let tree : Store = (c.args.parts.now, c.args.kinds.now) in
    let size = c.size_of-size.ensures.size in
    let s = shape h (omega (arith, is_high t c)) in
    let k = kept g tree (omega (arith, is_high t c)) in
    let trees : Store = (c.split_at_mut-node.result.1.now, c.args.kinds.now) in
    let behind : trees ≡ below_root g tree = ap (λ l. (l, c.args.kinds.now)) c.split_at_mut-node.ensures.back ∙ sym k.below in
    elim c.if-known-size.branch [
      | set_in-then-known-size w ↦
          let below = c.size_of-below.ensures.size in
          let part = w.alike-then-known-size.result in
          let first = ap (λ (p : Part). p.first) w.alike-then-known-size.ensures.part ∙ ap (λ n. record { kind = c.args.known.first.kind; count = n }) below in
          let known_part = rw below at w.alike-then-known-size.ensures.known in
          counts_filled h g c.args.known part tree c.if-known-size.node trees c.requires.tree s (w.if-known-size.true ∙ size) first known_part
          (w.node-is ∙ w.fill.ensures ∙ ap (λ n. replicate n part) c.split_at_mut-node.ensures.front_len)
      | set_in-else-known-size w ↦ counts_open h c.args.known tree c.if-known-size.node trees c.requires.tree (λ e. w.if-known-size.false (e ∙ sym size)) (w.node-is ∙ c.split_at_mut-node.ensures.front ∙ sym k.root) behind
    ]

pub set_in-set_parts-requires : goal.set_in-set_parts-requires
set_in-set_parts-requires t c =
    let before = (goal.at.set_in-set_parts-requires t c).Joined-known-size in
    let h = c.args.height in
    let g = h - 1 in
    let tree : Store = (c.args.parts.now, c.args.kinds.now) in
    let above : 1 ≤ g = omega (arith, is_high t before) in
    let s = shape h (omega (arith, above)) in
    let width : length c.if-known-size.node ≡ 16 = c.if-known-size.auto.node ∙ c.split_at_mut-node.ensures.front_len in
    let room = open_roomy h c.args.to tree (omega (arith, above)) (omega (arith, c.if-from-to.false)) c.requires.room in
    let roomy = subst (λ (l : Store). HaveRoom g c.args.to l) (ap (λ l. (l, c.args.kinds.now)) (sym c.split_at_mut-node.ensures.back)) room.1 in
    (omega (arith, c.decreases, width, above), (above, (omega (arith, c.requires.height), (omega (arith, c.if-from-to.false), (omega (arith, c.requires.inside, s.sized, ap (λ n. n * blocks_of g) width), (roomy, (parts_count t before).trees_right))))))

pub set_in-known_of-requires-clause-known : goal.set_in-known_of-requires-clause-known
set_in-known_of-requires-clause-known t c =
    let g = c.args.height - 1 in
    let after : Store = (c.set_parts.new.trees, c.set_parts.new.kinds) in (
      rows_of (kinds_in g) g c.set_parts.new.parts after,
      rw (c.size_of-below.ensures.size, c.of_parts.ensures) (rows_known g c.set_parts.new.parts after c.set_parts.ensures.trees),
    )

-- the changed tree
tree_is : (t : ℕ) (c : goal.set_in-After-parts-2-1 t) → let h = c.args.height in let after : Store = (c.set_parts.new.parts ++ c.set_parts.new.trees, c.set_parts.new.kinds) in
    (IsTree h c.known_of.result after) × (kinds_in h c.known_of.result after ≡ put c.args.from c.args.to c.args.kind (kinds_in h c.args.known (c.args.parts.now, c.args.kinds.now)))
tree_is t c =
    let before = (goal.at.set_in-returns-clause-put t c).Joined-known-size in
    let g = c.args.height - 1 in
    let above : 1 ≤ g = omega (arith, is_high t before) in
    let s = shape c.args.height (omega (arith, above)) in
    let parts = c.set_parts.new.parts in
    let after : Store = (c.set_parts.new.trees, c.set_parts.new.kinds) in
    let width : length parts ≡ 16 = c.set_parts.auto.parts ∙ c.if-known-size.auto.node ∙ c.split_at_mut-node.ensures.front_len in
    let right = rows_known g parts after c.set_parts.ensures.trees in
    let known = rw (c.size_of-below.ensures.size, c.of_parts.ensures) at c.known_of.ensures in
    let told : IsKnown (blocks_of (suc g)) (flat (rows_of (kinds_in g) g parts after)) c.known_of.result = known (rows_of (kinds_in g) g parts after) right in
    let whole : Store = (parts ++ after.0, after.1) in
    let join = closed g parts after above width in (
      subst (λ n. IsTree n c.known_of.result whole) (sym s.next) (closed_tree g c.known_of.result parts after whole join c.set_parts.ensures.trees told),
      ap (λ n. kinds_in n c.known_of.result whole) s.next ∙ closed_kinds g c.known_of.result parts after whole join told ∙ c.set_parts.ensures.put ∙ ap (put c.args.from c.args.to c.args.kind) (parts_count t before).kinds_right,
    )

pub set_in-returns-clause-tree : goal.set_in-returns-clause-tree
set_in-returns-clause-tree t c = (tree_is t c).0

pub set_in-returns-clause-put : goal.set_in-returns-clause-put
set_in-returns-clause-put t c = (tree_is t c).1

-- the first part and its tree, and the others with theirs
record Parted (h : ℕ) (all : List Part) (trees : Store) (first : Part) (others : List Part) (low rest : Store) : Type 0 where
  parts : all ≡ first ∷ others
  cut : Cut h trees low rest
  one : IsTree h first (first_tree h trees)
  more : AreTrees (IsTree h) h others (other_trees h trees)

parted : (t : ℕ) (c : goal.set_next-After-min-4 t)
    → Parted c.args.height c.args.parts.now (c.args.trees.now, c.args.kinds.now) (get_or c.split_at_mut-part.result.0.now 0 no_part) c.split_at_mut-part.result.1.now (c.split_at_mut-tree.result.0.now, c.split_at_mut-row.result.0.now)
    (c.split_at_mut-tree.result.1.now, c.split_at_mut-row.result.1.now)
parted t c =
    let h = c.args.height in
    let all : Store = (c.args.trees.now, c.args.kinds.now) in
    let parts = first_part c.args.parts.now c.split_at_mut-part.result.0.now c.split_at_mut-part.result.1.now (omega (arith, c.split_at_mut-part.ensures.back_len)) c.split_at_mut-part.ensures.front c.split_at_mut-part.ensures.back in
    let trees = subst (λ (l : List Part). AreTrees (IsTree h) h l all) parts c.requires.trees in
    let places = c.min.ensures ∙ ap (λ n. min n (length all.0)) c.parts_of.ensures.room in
    let blocks = c.min-2.ensures ∙ ap (λ n. min n (length all.1)) c.size_of-size.ensures.size in
    record {
      parts = parts;
      cut = cut h c.min.result c.min-2.result all c.split_at_mut-tree.result.0.now c.split_at_mut-tree.result.1.now c.split_at_mut-row.result.0.now c.split_at_mut-row.result.1.now places blocks
          c.split_at_mut-tree.ensures.front c.split_at_mut-tree.ensures.back c.split_at_mut-row.ensures.front c.split_at_mut-row.ensures.back;
      one = trees.0;
      more = trees.1;
    }

pub set_next-set_in-requires : goal.set_next-set_in-requires
set_next-set_in-requires t c =
    let h = c.args.height in
    let all : Store = (c.args.trees.now, c.args.kinds.now) in
    let low : Store = (c.split_at_mut-tree.result.0.now, c.split_at_mut-row.result.0.now) in
    let p = parted t c in
    let to_low : c.min-4.result ≡ min c.args.to (blocks_of h) = c.min-4.ensures ∙ ap (min c.args.to) c.size_of-size.ensures.size in
    let roomy = first_roomy h c.args.to all c.requires.some c.requires.room in
    let room = subst (λ n. HasRoom h n low) (sym to_low) (subst (HasRoom h (min c.args.to (blocks_of h))) (sym p.cut.first) roomy) in
    (omega (arith, c.decreases), (omega (arith, c.requires.height), (room, (subst (IsTree h (get_or c.split_at_mut-part.result.0.now 0 no_part)) (sym p.cut.first) p.one, omega (arith, to_low)))))

pub set_next-set_next-requires : goal.set_next-set_next-requires
set_next-set_next-requires t c =
    let h = c.args.height in
    let all : Store = (c.args.trees.now, c.args.kinds.now) in
    let rest : Store = (c.split_at_mut-tree.result.1.now, c.split_at_mut-row.result.1.now) in
    let p = parted t (goal.at.set_next-set_next-requires t c).After-min-4 in
    let to : c.saturating_sub-to.result ≡ c.args.to - blocks_of h = c.saturating_sub-to.ensures ∙ ap (λ n. c.args.to - n) c.size_of-size.ensures.size in
    let roomy = other_roomy h c.args.to all c.requires.some c.requires.room in
    let room = subst (λ n. HaveRoom h n rest) (sym to) (subst (HaveRoom h (c.args.to - blocks_of h)) (sym p.cut.others) roomy) in (
      omega (arith, c.decreases, c.split_at_mut-part.ensures.back_len),
      (c.requires.some, (omega (arith, c.requires.height), (room, subst (AreTrees (IsTree h) h c.split_at_mut-part.result.1.now) (sym p.cut.others) p.more))),
    )

-- the first part and the others after the change
next_changed : (t : ℕ) (c : goal.set_next-After-kinds-3-1 t)
    → IsChange c.args.height c.args.from c.args.to c.args.kind c.args.parts.now (c.args.trees.now, c.args.kinds.now) (set c.split_at_mut-part.result.0.now 0 c.set_in.result ++ c.set_next.new.parts)
    (c.set_in.new.parts ++ c.set_next.new.trees, c.set_in.new.kinds ++ c.set_next.new.kinds)
next_changed t c =
    let h = c.args.height in
    let first : Part = get_or c.split_at_mut-part.result.0.now 0 no_part in
    let others = c.split_at_mut-part.result.1.now in
    let all : Store = (c.args.trees.now, c.args.kinds.now) in
    let p = parted t (goal.at.set_next-returns-clause-put t c).After-min-4 in
    let size = c.size_of-size.ensures.size in
    let places : c.min.result ≡ min (room_of h) (length all.0) = c.min.ensures ∙ ap (λ n. min n (length all.0)) c.parts_of.ensures.room in
    let blocks : c.min-2.result ≡ min (blocks_of h) (length all.1) = c.min-2.ensures ∙ ap (λ n. min n (length all.1)) size in
    let set_is = first_set c.args.parts.now c.split_at_mut-part.result.0.now c.set_in.result (omega (arith, c.split_at_mut-part.ensures.back_len)) c.split_at_mut-part.ensures.front in
    let new_low : Store = (c.set_in.new.parts, c.set_in.new.kinds) in
    let new_rest : Store = (c.set_next.new.trees, c.set_next.new.kinds) in
    let join = seam h (length all.0) (length all.1) new_low new_rest (c.set_in.auto.parts ∙ c.split_at_mut-tree.ensures.front_len ∙ places) (omega (arith, c.set_next.auto.trees, c.split_at_mut-tree.ensures.back_len, places))
    (c.set_in.auto.kinds ∙ c.split_at_mut-row.ensures.front_len ∙ blocks) (omega (arith, c.set_next.auto.kinds, c.split_at_mut-row.ensures.back_len, blocks)) in
    let to_low : c.min-4.result ≡ min c.args.to (blocks_of h) = c.min-4.ensures ∙ ap (min c.args.to) size in
    let from_low : c.min-3.result ≡ min c.args.from (blocks_of h) = c.min-3.ensures ∙ ap (min c.args.from) size in
    let kinds = kinds_in h first (first_tree h all) in
    let more = flat (rows_of (kinds_in h) h others (other_trees h all)) in
    let from : c.saturating_sub-from.result ≡ c.args.from - blocks_of h = c.saturating_sub-from.ensures ∙ ap (λ n. c.args.from - n) size in
    let to : c.saturating_sub-to.result ≡ c.args.to - blocks_of h = c.saturating_sub-to.ensures ∙ ap (λ n. c.args.to - n) size in
    let one = c.set_in.ensures.put ∙ ap (λ (l : Store). put c.min-3.result c.min-4.result c.args.kind (kinds_in h first l)) p.cut.first
    ∙ ap (λ n. put n c.min-4.result c.args.kind kinds) from_low ∙ ap (λ n. put (min c.args.from (blocks_of h)) n c.args.kind kinds) to_low in
    let on = c.set_next.ensures.put ∙ ap (λ (l : Store). put c.saturating_sub-from.result c.saturating_sub-to.result c.args.kind (flat (rows_of (kinds_in h) h others l))) p.cut.others
    ∙ ap (λ n. put n c.saturating_sub-to.result c.args.kind more) from ∙ ap (λ n. put (c.args.from - blocks_of h) n c.args.kind more) to in
    let sized = (tree_known h first (first_tree h all) p.one).sized in
    let after : Store = (new_low.0 ++ new_rest.0, new_low.1 ++ new_rest.1) in
    record {
      right = subst (λ (l : List Part). AreTrees (IsTree h) h (l ++ c.set_next.new.parts) after) (sym set_is) (parts_trees h c.set_in.result c.set_next.new.parts new_low new_rest after join c.set_in.ensures.tree c.set_next.ensures.trees);
      changed = ap (λ (l : List Part). flat (rows_of (kinds_in h) h (l ++ c.set_next.new.parts) after)) set_is
          ∙ parts_put h c.args.from c.args.to c.args.kind first c.set_in.result others c.set_next.new.parts all new_low new_rest after join sized one on
          ∙ ap (λ (l : List Part). put c.args.from c.args.to c.args.kind (flat (rows_of (kinds_in h) h l all))) (sym p.parts);
    }

pub set_next-returns-clause-put : goal.set_next-returns-clause-put
set_next-returns-clause-put t c = (next_changed t c).changed

pub set_next-returns-clause-trees : goal.set_next-returns-clause-trees
set_next-returns-clause-trees t c = (next_changed t c).right

pub set_next-returns-then-from-to-clause-put : goal.set_next-returns-then-from-to-clause-put
set_next-returns-then-from-to-clause-put t c =
    let kinds = flat (rows_of (kinds_in c.args.height) c.args.height c.args.parts.now (c.args.trees.now, c.args.kinds.now)) in
    elim c.then-from-to.branch [
      | set_next-then-from-to-via-then-from-to w ↦ sym (put_none c.args.from c.args.to c.args.kind kinds w.if-from-to.true)
      | set_next-then-from-to-via-else-from-to+then-is_empty w ↦ no_parts_put c.args.height c.args.from c.args.to c.args.kind c.args.parts.now (c.args.trees.now, c.args.kinds.now) (levels (length c.args.parts.now) 0 (sym w.is_empty.ensures ∙ w.if-is_empty.true))
    ]

-- how far the parts before the first block go
passed : (h from size : ℕ) → size ≡ blocks_of h → from / size * blocks_of h ≤ from
passed h from size e = subst (λ n. from / size * n ≤ from) e (div-mul-le_self from size)

pub set_parts-split_at_mut-before-requires-2 : goal.set_parts-split_at_mut-before-requires-2
set_parts-split_at_mut-before-requires-2 t c =
    let h = c.args.height in
    let n = c.args.from / c.size_of-size.result in
    let trees : Store = (c.args.trees.now, c.args.kinds.now) in
    let inside = passed h c.args.from c.size_of-size.result c.size_of-size.ensures.size in
    rw c.parts_of.ensures.room (room_before h n c.args.to trees (omega (arith, inside, c.requires.any)) c.requires.room).0

pub set_parts-set_next-requires : goal.set_parts-set_next-requires
set_parts-set_next-requires t c =
    let h = c.args.height in
    let n = c.args.from / c.size_of-size.result in
    let trees : Store = (c.args.trees.now, c.args.kinds.now) in
    let size = c.size_of-size.ensures.size in
    let after : Store = (c.split_at_mut-before-2.result.1.now, c.split_at_mut-before-3.result.1.now) in
    let here : after ≡ behind h n trees = both (c.split_at_mut-before-2.ensures.back ∙ ap (λ m. drop (n * m) trees.0) c.parts_of.ensures.room) (c.split_at_mut-before-3.ensures.back ∙ ap (λ m. drop (n * m) trees.1) size) in
    let room = subst (λ m. HaveRoom h (c.args.to - n * m) after) (sym size) (subst (HaveRoom h (c.args.to - n * blocks_of h)) (sym here) (room_behind h n c.args.to trees c.requires.some c.requires.room)) in
    let right = subst (λ l. AreTrees (IsTree h) h l after) (sym c.split_at_mut-before.ensures.back) (subst (AreTrees (IsTree h) h (drop n c.args.parts.now)) (sym here) (trees_behind h n c.args.parts.now trees c.requires.trees)) in
    (omega (arith, c.decreases, c.split_at_mut-before.ensures.back_len), (c.requires.some, (c.requires.height, (room, right))))

changed_behind : (t : ℕ) (c : goal.set_parts-After-kinds-3-1 t)
    → IsChange c.args.height c.args.from c.args.to c.args.kind c.args.parts.now (c.args.trees.now, c.args.kinds.now)
    (c.split_at_mut-before.result.0.now ++ c.set_next.new.parts) (c.split_at_mut-before-2.result.0.now ++ c.set_next.new.trees, c.split_at_mut-before-3.result.0.now ++ c.set_next.new.kinds)
changed_behind t c =
    let h = c.args.height in
    let n = c.args.from / c.size_of-size.result in
    let trees : Store = (c.args.trees.now, c.args.kinds.now) in
    let size = c.size_of-size.ensures.size in
    let room = c.parts_of.ensures.room in
    let old : Store = (c.split_at_mut-before-2.result.1.now, c.split_at_mut-before-3.result.1.now) in
    let rest : Store = (c.set_next.new.trees, c.set_next.new.kinds) in
    let few : n ≤ length c.args.parts.now = omega (arith, c.split_at_mut-before.ensures.back_len) in
    let here : old ≡ behind h n trees = both (c.split_at_mut-before-2.ensures.back ∙ ap (λ m. drop (n * m) trees.0) room) (c.split_at_mut-before-3.ensures.back ∙ ap (λ m. drop (n * m) trees.1) size) in
    let low_parts = c.split_at_mut-before-2.ensures.front ∙ ap (λ m. take (n * m) trees.0) room in
    let low_kinds = c.split_at_mut-before-3.ensures.front ∙ ap (λ m. take (n * m) trees.1) size in
    let after : (c.split_at_mut-before-2.result.0.now ++ rest.0, c.split_at_mut-before-3.result.0.now ++ rest.1) ≡ before_and h n trees rest = both (ap (λ l. l ++ rest.0) low_parts) (ap (λ l. l ++ rest.1) low_kinds) in
    let long : IsAsLong h n trees rest = record {
      parts = omega (arith, c.set_next.auto.trees, c.split_at_mut-before-2.ensures.back_len, ap (λ m. n * m) room);
      kinds = omega (arith, c.set_next.auto.kinds, c.split_at_mut-before-3.ensures.back_len, ap (λ m. n * m) size);
    } in
    let kinds = flat (rows_of (kinds_in h) h (drop n c.args.parts.now) (behind h n trees)) in
    let put_behind = c.set_next.ensures.put
    ∙ ap (λ l. put (c.args.from - n * c.size_of-size.result) (c.args.to - n * c.size_of-size.result) c.args.kind (flat (rows_of (kinds_in h) h l old))) c.split_at_mut-before.ensures.back
    ∙ ap (λ l. put (c.args.from - n * c.size_of-size.result) (c.args.to - n * c.size_of-size.result) c.args.kind (flat (rows_of (kinds_in h) h (drop n c.args.parts.now) l))) here
    ∙ ap (λ m. put (c.args.from - n * m) (c.args.to - n * m) c.args.kind kinds) size in
    let change = skipped h n c.args.from c.args.to c.args.kind c.args.parts.now c.set_next.new.parts trees rest few (passed h c.args.from c.size_of-size.result size) c.requires.trees long (record { right = c.set_next.ensures.trees; changed = put_behind }) in
    subst (λ l. IsChange h c.args.from c.args.to c.args.kind c.args.parts.now trees (l ++ c.set_next.new.parts) (c.split_at_mut-before-2.result.0.now ++ rest.0, c.split_at_mut-before-3.result.0.now ++ rest.1)) (sym c.split_at_mut-before.ensures.front)
    (subst (IsChange h c.args.from c.args.to c.args.kind c.args.parts.now trees (take n c.args.parts.now ++ c.set_next.new.parts)) (sym after) change)

pub set_parts-returns-clause-trees : goal.set_parts-returns-clause-trees
set_parts-returns-clause-trees t c = (changed_behind t c).right

pub set_parts-returns-clause-put : goal.set_parts-returns-clause-put
set_parts-returns-clause-put t c = (changed_behind t c).changed
