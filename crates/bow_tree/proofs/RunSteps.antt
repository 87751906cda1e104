-- One step on the way to the run around a block.
use Rattle.std.proofs.Common.{◌≡◌, ℕ, zero, suc, ◌+◌, ◌*◌, ◌-◌, ◌/◌, ◌<◌, ◌≤◌, List, [], ◌∷◌, ◌++◌, length, take, drop, get_or, refl, sym, ap, ◌∙◌, arith, append_assoc, length-append, add-one}
use Rattle.bow_units.specs.declared.statuses.Kind.{Kind}
use Rattle.bow_tree.specs.declared.parts.Part.{Part}
use Rattle.bow_tree.specs.Rows.{flat}
use Rattle.bow_tree.specs.Parts.{no_part, AreKnown}
use Rattle.bow_tree.proofs.Pieces.{rows_length, flat_take_length, flat_drop_less, flat_drop_length}
use Rattle.bow_tree.specs.Trees.{Store, blocks_of, root_of, below_root, tree_at, kinds_in, IsTree}
use Rattle.bow_tree.proofs.Descents.{Opened, Within, tree_known, rows_in, opened, opened_known, within, place_below}

flat_split : (i : ℕ) (rows : List (List Kind)) → flat rows ≡ flat (take i rows) ++ flat (drop i rows)
flat_split zero rows = refl
flat_split (suc i) [] = refl
flat_split (suc i) (r ∷ rs) = ap (λ l. r ++ l) (flat_split i rs) ∙ sym (append_assoc r (flat (take i rs)) (flat (drop i rs)))

-- what a step needs and gives; the block lies in the part at `place`
pub record RunStep (h g place : ℕ) (known : Part) (tree : Store) (whole pre post : List Kind) : Type 0 where
  pub open_tree : Opened h g known tree
  pub below : place < 16
  pub rows_right : AreKnown (blocks_of g) (rows_in g tree) (root_of g tree)
  pub inner : Within h g place known tree
  pub low_room : length pre + length (root_of g tree) * blocks_of g ≤ 1048576
  pub high_room : length post + length (root_of g tree) * blocks_of g ≤ 1048576
  pub parts : whole ≡ (pre ++ flat (take place (rows_in g tree))) ++ (kinds_in g (get_or (root_of g tree) place no_part) (tree_at g place (below_root g tree)) ++ (flat (drop (place + 1) (rows_in g tree)) ++ post))
  pub sized : length (pre ++ flat (take place (rows_in g tree))) ≡ length pre + place * blocks_of g
  pub limit : length pre + place * blocks_of g ≤ 1048576

pub run_step : (h block : ℕ) (known : Part) (tree : Store) (whole pre post : List Kind) → IsTree h known tree → known.first.count < blocks_of h → block < blocks_of h
    → whole ≡ pre ++ (kinds_in h known tree ++ post) → length whole ≤ 1048576 → RunStep h (h - 1) (block / blocks_of (h - 1)) known tree whole pre post
run_step h block known tree whole pre post t part inside e few =
    let g = h - 1 in
    let o = opened h known tree t part in
    let place = block / blocks_of g in
    let below = place_below h g block known tree o inside in
    let w = within h g place known tree o below in
    let rows = rows_in g tree in
    let right = opened_known h g known tree o in
    let k = tree_known h known tree t in
    let total : length whole ≡ length pre + (blocks_of h + length post) = ap length e ∙ length-append pre (kinds_in h known tree ++ post) ∙ ap (λ n. length pre + n) (length-append (kinds_in h known tree) post ∙ ap (λ n. n + length post) k.sized) in
    let inside_rows : place < length rows = omega (arith, rows_length (blocks_of g) rows (root_of g tree) right, o.width, below) in
    let row = get_or rows place [] in
    let split : kinds_in h known tree ≡ flat (take place rows) ++ (row ++ flat (drop (place + 1) rows)) =
    o.kinds ∙ flat_split place rows ∙ ap (λ l. flat (take place rows) ++ l) (flat_drop_less rows place inside_rows ∙ ap (λ n. row ++ flat (drop n rows)) (sym (add-one place))) in
    let moved : pre ++ ((flat (take place rows) ++ (row ++ flat (drop (place + 1) rows))) ++ post) ≡ (pre ++ flat (take place rows)) ++ (row ++ (flat (drop (place + 1) rows) ++ post)) =
    ap (λ l. pre ++ l) (append_assoc (flat (take place rows)) (row ++ flat (drop (place + 1) rows)) post ∙ ap (λ l. flat (take place rows) ++ l) (append_assoc row (flat (drop (place + 1) rows)) post))
    ∙ sym (append_assoc pre (flat (take place rows)) (row ++ (flat (drop (place + 1) rows) ++ post))) in
    let times : length (root_of g tree) * blocks_of g ≡ 16 * blocks_of g = ap (λ n. n * blocks_of g) o.width in
    let front_sized = flat_take_length (blocks_of g) rows (root_of g tree) place right (omega (arith, o.width, below)) in
    let back_sized = flat_drop_length (blocks_of g) rows (root_of g tree) place right (omega (arith, o.width, below)) in
    record {
      open_tree = o;
      below = below;
      rows_right = right;
      inner = w;
      low_room = omega (arith, total, few, o.sized, times);
      high_room = omega (arith, total, few, o.sized, times);
      parts = e ∙ ap (λ l. pre ++ (l ++ post)) split ∙ moved ∙ ap (λ l. (pre ++ flat (take place rows)) ++ (l ++ (flat (drop (place + 1) rows) ++ post))) w.row;
      sized = length-append pre (flat (take place rows)) ∙ ap (λ n. length pre + n) front_sized;
      limit = omega (arith, total, few, o.sized, back_sized, times);
    }
