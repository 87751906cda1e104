-- Which blocks an extent has.
use Rattle.std.specs.Prelude.{ℕ, ◌+◌, min, max, Bool, ◌&&◌, nat_le, nat_lt, IsTrue, ◌↔◌}
use Rattle.bow_units.specs.declared.sizes.Extent.{Extent}

-- the extent has this block
abbrev pub covers : Extent → ℕ → Bool
covers extent block = nat_le extent.first block && nat_lt block (extent.first + extent.count)

-- a device of so many blocks has all blocks of the extent
abbrev pub is_on_device : ℕ → Extent → Bool
is_on_device blocks extent = nat_le (extent.first + extent.count) blocks

-- the later of the two begins before the earlier end
abbrev pub overlaps : Extent → Extent → Bool
overlaps one other = nat_lt (max one.first other.first) (min (one.first + one.count) (other.first + other.count))

-- two extents overlap exactly where both cover some block
abbrev pub OverlapsShareABlock : Type 0
OverlapsShareABlock = (one other : Extent) → IsTrue (overlaps one other)
    ↔ ((block : ℕ) × IsTrue (covers one block) × IsTrue (covers other block))
