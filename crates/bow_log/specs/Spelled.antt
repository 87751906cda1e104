-- From a block to a generation: whatever is said of chains reads blocks by this alone.
use Rattle.std.specs.Prelude.{ℕ, List, Option, Some, None, is_none, if◌then◌else◌}
use Rattle.bow_units.specs.declared.sizes.Geometry.{Geometry}
use Rattle.bow_log.specs.Generations.{Generation, generation_of}
use Rattle.bow_log.specs.Faults.{fault_of, parts_of}

-- the generation that a block spells, in blocks, or none where the block has a fault
abbrev pub generation_in : Geometry → List ℕ → Option Generation
generation_in g block = if is_none (fault_of g block) then Some (generation_of g (parts_of block)) else None
