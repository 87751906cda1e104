-- Trees of parts, and the kinds that they stand for.
use Rattle.std.specs.Prelude.{◌≡◌, ◌≢◌, ◌==◌, ℕ, zero, suc, ◌+◌, ◌*◌, if◌then◌else◌, List, [], ◌∷◌, map, take, drop, replicate}
use Rattle.bow_units.specs.declared.statuses.Kind.{Kind}
use Rattle.bow_tree.specs.declared.parts.Part.{Part}
use Rattle.bow_tree.specs.Rows.{flat, put}
use Rattle.bow_tree.specs.Parts.{lone, IsKnown}

-- the parts and the kinds that trees are kept in
abbrev pub Store : Type 0
Store = List Part × List Kind

-- how many blocks a tree of this height has
abbrev pub blocks_of : ℕ → ℕ
blocks_of zero = 1
blocks_of (suc height) = 16 * blocks_of height

-- how many parts are kept of a root whose parts have this height: none of single blocks
abbrev pub width_of : ℕ → ℕ
width_of zero = 0
width_of (suc height) = 16

-- how many parts are kept of a tree in all
abbrev pub room_of : ℕ → ℕ
room_of zero = 0
room_of (suc height) = width_of height + 16 * room_of height

-- the sixteen parts of a root, which have this height; of single blocks the kinds are kept
abbrev pub root_of : ℕ → Store → List Part
root_of zero tree = map lone (take 16 tree.1)
root_of (suc height) tree = take 16 tree.0

-- what is kept of the trees of these parts
abbrev pub below_root : ℕ → Store → Store
below_root height tree = (drop (width_of height) tree.0, tree.1)

-- the first of some trees of this height
abbrev pub first_tree : ℕ → Store → Store
first_tree height trees = (take (room_of height) trees.0, take (blocks_of height) trees.1)

-- the trees behind the first one
abbrev pub other_trees : ℕ → Store → Store
other_trees height trees = (drop (room_of height) trees.0, drop (blocks_of height) trees.1)

-- the tree at a place among these
abbrev pub tree_at : ℕ → ℕ → Store → Store
tree_at height place trees = (
  take (room_of height) (drop (place * room_of height) trees.0),
  take (blocks_of height) (drop (place * blocks_of height) trees.1),
)

-- the rows that some parts of this height stand for, with their trees
abbrev pub rows_of : (Part → Store → List Kind) → ℕ → List Part → Store → List (List Kind)
rows_of kinds height [] trees = []
rows_of kinds height (part ∷ parts) trees =
    kinds part (first_tree height trees) ∷ rows_of kinds height parts (other_trees height trees)

-- the kinds that a tree stands for: where its first run has all blocks, nothing below it counts
abbrev pub kinds_in : ℕ → Part → Store → List Kind
kinds_in zero known tree = known.first.kind ∷ []
kinds_in (suc height) known tree =
    if known.first.count == blocks_of (suc height)
    then replicate (blocks_of (suc height)) known.first.kind
    else flat (rows_of (kinds_in height) height (root_of height tree) (below_root height tree))

-- each of the parts, with its tree, is one of these
abbrev pub AreTrees : (Part → Store → Type 0) → ℕ → List Part → Store → Type 0
AreTrees Is height [] trees = Unit {0}
AreTrees Is height (part ∷ parts) trees =
    Is part (first_tree height trees) × AreTrees Is height parts (other_trees height trees)

-- what is known is right at every node that counts
abbrev pub IsTree : ℕ → Part → Store → Type 0
IsTree zero known tree = IsKnown 1 (known.first.kind ∷ []) known
IsTree (suc height) known tree =
    IsKnown (blocks_of (suc height)) (kinds_in (suc height) known tree) known
    × (known.first.count ≢ blocks_of (suc height)
    → AreTrees (IsTree height) height (root_of height tree) (below_root height tree))

-- the parts, with their trees of this height, are right
abbrev pub ArePartsRight : ℕ → List Part → Store → Type 0
ArePartsRight height parts trees = AreTrees (IsTree height) height parts trees

-- the kinds that some parts stand for, with their trees of this height
abbrev pub kinds_of_parts : ℕ → List Part → Store → List Kind
kinds_of_parts height parts trees = flat (rows_of (kinds_in height) height parts trees)

-- what the parts stand for afterwards is what they stood for, with this kind from `from` to before `to`
abbrev pub IsPut : ℕ → ℕ → ℕ → Kind → List Part → Store → List Part → Store → Type 0
IsPut height from to kind parts trees new_parts new_trees =
    kinds_of_parts height new_parts new_trees ≡ put from to kind (kinds_of_parts height parts trees)

-- what a leaf of sixteen blocks stands for: where its first run has all of them, its kinds do not count
abbrev pub leaf_kinds : Part → List Kind → List Kind
leaf_kinds known kinds = if known.first.count == 16 then replicate 16 known.first.kind else take 16 kinds
