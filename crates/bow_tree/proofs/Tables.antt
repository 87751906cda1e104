-- A table's kinds, and those of its tree.
use Rattle.std.proofs.Common.{◌≡◌, ℕ, ◌+◌, ◌-◌, ◌<◌, ◌≤◌, min, List, ◌++◌, length, take, drop, replicate, Some, sym, ap, ◌∙◌, inl, inr, arith, take-append-drop}
use Rattle.std.proofs.lemmas.Bool.{cases_lt}
use Rattle.std.proofs.lemmas.List.{length-take-le, get_or-take, take-replicate, drop-replicate}
use Rattle.std.proofs.Math.Seq.{take-append_seam, drop-append_seam}
use Rattle.bow_units.specs.declared.sizes.Extent.{Extent}
use Rattle.bow_units.specs.declared.statuses.Kind.{Kind}
use Rattle.bow_units.specs.declared.statuses.Kind.TheVariants.{Unchanged, Free}
use Rattle.bow_ranges.specs.Kinds.{is_free, kind_at, count_of, with_kind}
use Rattle.bow_ranges.specs.Picks.{picked}
use Rattle.bow_ranges.proofs.RunReads.{count-append, count-replicate}
use Rattle.bow_tree.specs.declared.parts.Part.{Part}
use Rattle.bow_tree.specs.Rows.{longest_free, fit, put}
use Rattle.bow_tree.specs.Trees.{Store, blocks_of, kinds_in, IsTree}
use Rattle.bow_tree.specs.Rooms.{HasRoom}
use Rattle.bow_tree.specs.Tables.{kinds_of, IsTable}
use Rattle.bow_tree.proofs.Rows.{front_replicate, longest_append, longest_alike}
use Rattle.bow_tree.proofs.Fits.{fit_append, ending_le}
use Rattle.bow_tree.proofs.Picks.{picked_none, picked_some}
use Rattle.bow_tree.proofs.Puts.{put_none, put_append, put_length, put_is}
use Rattle.bow_tree.proofs.Descents.{tree_known, blocks_few}

-- the blocks beyond the device
abbrev pub pad : ℕ → ℕ → List Kind
pad blocks height = replicate (blocks_of height - blocks) Unchanged

pub whole_is : (blocks height : ℕ) (known : Part) (tree : Store) → IsTable blocks height known tree → kinds_in height known tree ≡ kinds_of blocks height known tree ++ pad blocks height
whole_is blocks height known tree t = sym (take-append-drop blocks (kinds_in height known tree)) ∙ ap (λ l. kinds_of blocks height known tree ++ l) t.beyond

pub table_size : (blocks height : ℕ) (known : Part) (tree : Store) → IsTable blocks height known tree → length (kinds_of blocks height known tree) ≡ blocks
table_size blocks height known tree t = length-take-le blocks (kinds_in height known tree) (omega (arith, (tree_known height known tree t.is_tree).sized, t.fits))

-- the table's size, by its view
pub view_size : (blocks height : ℕ) (known : Part) (tree : Store) (kinds : List Kind) → IsTable blocks height known tree → kinds_of blocks height known tree ≡ kinds → length kinds ≡ blocks
view_size blocks height known tree kinds t e = ap length (sym e) ∙ table_size blocks height known tree t

pub table_few : (blocks height : ℕ) (known : Part) (tree : Store) → IsTable blocks height known tree → blocks ≤ 1048576
table_few blocks height known tree t = omega (arith, t.fits, blocks_few height t.tall)

-- blocks that are not free, behind the others
longest_padded : (xs : List Kind) (n : ℕ) → longest_free (xs ++ replicate n Unchanged) ≡ longest_free xs
longest_padded xs n = omega (arith, longest_append xs (replicate n Unchanged), front_replicate Free Unchanged n, longest_alike Unchanged n, ending_le xs)

pub picked_padded : (xs : List Kind) (n want : ℕ) → 1 ≤ want → picked (xs ++ replicate n Unchanged) want ≡ picked xs want
picked_padded xs n want some =
    let long = longest_padded xs n in
    elim (cases_lt 0 (longest_free xs)) [
      | inr none ↦ picked_none (xs ++ replicate n Unchanged) want (omega (arith, long, none)) ∙ sym (picked_none xs want (omega (arith, none)))
      | inl any ↦
          let count = min want (longest_free xs) in
          let first = fit_append count xs (replicate n Unchanged) (omega arith) (omega arith) in
          picked_some (xs ++ replicate n Unchanged) want some (omega (arith, long, any))
          ∙ ap (λ m. Some (record { first = fit (min want m) (xs ++ replicate n Unchanged); count = min want m })) long
          ∙ ap (λ p. Some (record { first = p; count = count })) first
          ∙ sym (picked_some xs want some any)
    ]

pub table_picked : (blocks height want : ℕ) (known : Part) (tree : Store) → IsTable blocks height known tree → 1 ≤ want → picked (kinds_in height known tree) want ≡ picked (kinds_of blocks height known tree) want
table_picked blocks height want known tree t some = ap (λ (l : List Kind). picked l want) (whole_is blocks height known tree t) ∙ picked_padded (kinds_of blocks height known tree) (blocks_of height - blocks) want some

pub table_free : (blocks height : ℕ) (known : Part) (tree : Store) → IsTable blocks height known tree → known.free ≡ count_of is_free (kinds_of blocks height known tree)
table_free blocks height known tree t =
    let k = tree_known height known tree t.is_tree in
    let none = count-replicate is_free (blocks_of height - blocks) Unchanged in
    let both = count-append is_free (kinds_of blocks height known tree) (pad blocks height) in
    k.free ∙ ap (count_of is_free) (whole_is blocks height known tree t) ∙ omega (arith, both, none)

pub table_kind : (blocks height b : ℕ) (known : Part) (tree : Store) → b < blocks → kind_at (kinds_in height known tree) b ≡ kind_at (kinds_of blocks height known tree) b
table_kind blocks height b known tree inside = sym (get_or-take blocks (kinds_in height known tree) b Unchanged inside)

-- a change of the device's blocks
changed : (from to : ℕ) (kind : Kind) (xs ys : List Kind) → to ≤ length xs → put from to kind (xs ++ ys) ≡ put from to kind xs ++ ys
changed from to kind xs ys inside = put_append from to kind xs ys ∙ ap (λ l. put from to kind xs ++ l) (put_none (from - length xs) (to - length xs) kind ys (omega (arith, inside)))

pub table_changed : (blocks height from to : ℕ) (kind : Kind) (known new : Part) (tree after : Store) → IsTable blocks height known tree → to ≤ blocks → IsTree height new after → length after.0 ≡ length tree.0 → length after.1 ≡ length tree.1
    → kinds_in height new after ≡ put from to kind (kinds_in height known tree) → (IsTable blocks height new after) × (kinds_of blocks height new after ≡ put from to kind (kinds_of blocks height known tree))
table_changed blocks height from to kind known new tree after t inside is_tree same_parts same_kinds e =
    let kinds = kinds_of blocks height known tree in
    let sized = table_size blocks height known tree t in
    let whole : kinds_in height new after ≡ put from to kind kinds ++ pad blocks height = e ∙ ap (put from to kind) (whole_is blocks height known tree t) ∙ changed from to kind kinds (pad blocks height) (omega (arith, sized, inside)) in
    let count : length (put from to kind kinds) ≡ blocks = put_length from to kind kinds ∙ sized in (
      record {
        tall = t.tall;
        roomy = record { parts = omega (arith, same_parts, t.roomy.parts); kinds = omega (arith, same_kinds, t.roomy.kinds) };
        is_tree = is_tree;
        some = t.some;
        fits = t.fits;
        beyond = ap (λ n. drop n (kinds_in height new after)) (sym count) ∙ ap (drop (length (put from to kind kinds))) whole ∙ drop-append_seam (put from to kind kinds) (pad blocks height);
      },
      ap (λ n. take n (kinds_in height new after)) (sym count) ∙ ap (take (length (put from to kind kinds))) whole ∙ take-append_seam (put from to kind kinds) (pad blocks height),
    )

pub put_extent : (kinds : List Kind) (e : Extent) (kind : Kind) → e.first + e.count ≤ length kinds → put e.first (e.first + e.count) kind kinds ≡ with_kind kinds e kind
put_extent kinds e kind inside = put_is e.first e.count kind kinds inside

-- all blocks Unchanged
pub new_table : (blocks height : ℕ) (known : Part) (tree : Store) → height ≤ 5 → HasRoom height blocks tree → IsTree height known tree → 1 ≤ blocks → blocks ≤ blocks_of height
    → kinds_in height known tree ≡ replicate (blocks_of height) Unchanged → (IsTable blocks height known tree) × (kinds_of blocks height known tree ≡ replicate blocks Unchanged)
new_table blocks height known tree tall roomy is_tree some fits e = (
  record { tall = tall; roomy = roomy; is_tree = is_tree; some = some; fits = fits; beyond = ap (drop blocks) e ∙ drop-replicate blocks (blocks_of height) Unchanged },
  ap (take blocks) e ∙ take-replicate blocks (blocks_of height) Unchanged fits,
)
