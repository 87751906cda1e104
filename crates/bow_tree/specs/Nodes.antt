-- Nodes of a tree.
use Rattle.std.specs.Prelude.{List, map}
use Rattle.bow_tree.specs.declared.nodes.Cells.{Cells}
use Rattle.bow_tree.specs.declared.nodes.Cells.TheVariants.{Parts, Kinds}
use Rattle.bow_tree.specs.declared.parts.Part.{Part}
use Rattle.bow_tree.specs.Parts.{lone}

-- the parts of a node; of single blocks it has the kinds
abbrev pub parts_in : Cells → List Part
parts_in (Parts parts) = parts.now
parts_in (Kinds kinds) = map lone kinds.now
