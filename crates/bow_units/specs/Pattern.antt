-- The pattern of a block: bytes that tell which block they were written for, and with which seed.
use Rattle.std.specs.Prelude.{◌≡◌, ℕ, ◌+◌, ◌*◌, ◌/◌, ◌<◌, ◌^◌, List, length}
use Rattle.std.specs.List.{flat_map, range_with_len}
use Rattle.byteorder.specs.Endian.{little_bytes}

-- the 8-byte group number j, counted from 0
abbrev pub pattern_group : ℕ → ℕ → ℕ → List ℕ
pattern_group b s j = little_bytes 8 (s * 2 ^ 32 + b * 512 + j)

-- the pattern of block b with seed s, in n bytes
unfoldable pub pattern : ℕ → ℕ → ℕ → List ℕ
pattern b s n = flat_map (pattern_group b s) (range_with_len 0 (n / 8))

-- these bytes are the pattern of block b with seed s
pub record IsPatternOf (bytes : List ℕ) (b s : ℕ) : Type 0 where
  pub block : b < 1048576
  pub seed : s < 2 ^ 32
  pub same : bytes ≡ pattern b s (length bytes)
