-- The sum of an entry: of the blocks that it copied, with the numbers that they had.
use Rattle.std.specs.Prelude.{ℕ, zero, suc, ◌/◌, List, [], ◌∷◌, ◌++◌, take, drop, length, bit_xor}
use Rattle.std.specs.Int.{w64, to_le_bytes}
use Rattle.bow_crc.specs.Crc.{crc_of}

-- the checksum of a block's number, in eight bytes, and its content
abbrev pub block_sum : ℕ → List ℕ → ℕ
block_sum number block = crc_of (to_le_bytes w64 number ++ block)

-- the exclusive or over blocks whose numbers follow one another from this one on
abbrev pub sum_of : ℕ → List (List ℕ) → ℕ
sum_of number [] = 0
sum_of number (block ∷ blocks) = bit_xor (block_sum number block) (sum_of (suc number) blocks)

-- the first so many blocks of this size
abbrev pub first_blocks : ℕ → ℕ → List ℕ → List (List ℕ)
first_blocks zero size bytes = []
first_blocks (suc n) size bytes = take size bytes ∷ first_blocks n size (drop size bytes)

-- bytes as blocks of this size
abbrev pub blocks_of : ℕ → List ℕ → List (List ℕ)
blocks_of size bytes = first_blocks (length bytes / size) size bytes
