-- Notes on the blocks of a device: which were dests of entries that were replayed since the log in block 0 was written.
use Rattle.std.specs.Prelude.{ℕ, ◌+◌, ◌<◌, ◌≡◌, ◌&&◌, ◌||◌, Bool, false, nat_le, nat_lt, List, [], ◌∷◌, length, slice_index_or}
use Rattle.bow_units.specs.declared.sizes.Geometry.{Geometry}
use Rattle.bow_log.specs.Generations.{Backup}

-- whether there is a note on this block
abbrev pub is_noted : List Bool → ℕ → Bool
is_noted dests x = slice_index_or dests x false

-- whether the block is in the dest of one of these
abbrev pub is_dest : List Backup → ℕ → Bool
is_dest [] x = false
is_dest (b ∷ bs) x = (nat_le b.dest x && nat_lt x (b.dest + b.count)) || is_dest bs x

-- each block of the device has a note exactly where it is in the dest of one of these
pub record AreNoted (g : Geometry) (since : List Backup) (dests : List Bool) : Type 0 where
  pub long : length dests ≡ g.blocks
  pub each : (x : ℕ) → x < g.blocks → is_noted dests x ≡ is_dest since x
