-- A disk over a file. It tells no content.
use Rattle.std.specs.Prelude.{◌≡◌, ℕ, ◌*◌, ◌<◌, ◌^◌, Option, None, Some}
use Rattle.bow_units.specs.declared.sizes.Geometry.{Geometry}
use Rattle.bow_disk.specs.Disk.{Content}

-- a disk over a file, as contracts see it: the size of a block that it was given, the sizes, once they are known, and
-- how often a call has failed
pub record FileState : Type 0 where
  pub block_size : ℕ
  pub sizes : Option Geometry
  pub faults : ℕ

-- each of these blocks begins at a place that a file can have
abbrev pub HasPlaces : Geometry → Type 0
HasPlaces g = g.blocks * g.block_size < 2 ^ 64

-- the sizes are those of a file in blocks of this size, each of which begins at a place that a file can have
pub record IsOfBlocks (block_size : ℕ) (g : Geometry) : Type 0 where
  pub size : g.block_size ≡ block_size
  pub places : HasPlaces g

-- no content is told
pub nothing : (c : Content) → None ≡ Some c → ⊥
nothing c is = cc
