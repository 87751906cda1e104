-- A table: a tree of which the first blocks count.
use Rattle.std.specs.Prelude.{◌≡◌, ℕ, ◌-◌, ◌≤◌, List, take, drop, replicate}
use Rattle.bow_units.specs.declared.statuses.Kind.{Kind}
use Rattle.bow_units.specs.declared.statuses.Kind.TheVariants.{Unchanged}
use Rattle.bow_tree.specs.declared.parts.Part.{Part}
use Rattle.bow_tree.specs.Trees.{Store, blocks_of, kinds_in, IsTree}
use Rattle.bow_tree.specs.Rooms.{HasRoom}

-- the kinds of the blocks of the device
abbrev pub kinds_of : ℕ → ℕ → Part → Store → List Kind
kinds_of blocks height known tree = take blocks (kinds_in height known tree)

-- the tree is right and has as many blocks as the device or more, the further ones Unchanged
pub record IsTable (blocks height : ℕ) (known : Part) (tree : Store) : Type 0 where
  pub tall : height ≤ 5
  pub roomy : HasRoom height blocks tree
  pub is_tree : IsTree height known tree
  pub some : 1 ≤ blocks
  pub fits : blocks ≤ blocks_of height
  pub beyond : drop blocks (kinds_in height known tree) ≡ replicate (blocks_of height - blocks) Unchanged
