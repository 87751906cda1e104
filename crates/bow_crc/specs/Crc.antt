-- CRC-32: reflected, with the polynomial 0xEDB88320, one bit at a time.
use Rattle.std.specs.Prelude.{ℕ, zero, suc, ◌-◌, ◌/◌, ◌%◌, cond, eqb, List, [], ◌∷◌, bit_xor}

-- the register after its lowest bit has gone out
abbrev pub bit_out : ℕ → ℕ
bit_out r = cond (eqb (r % 2) 1) (bit_xor (r / 2) 0xEDB88320) (r / 2)

-- after so many bits
abbrev pub bits_out : ℕ → ℕ → ℕ
bits_out zero r = r
bits_out (suc n) r = bits_out n (bit_out r)

-- the register after one byte more
unfoldable pub byte_in : ℕ → ℕ → ℕ
byte_in r byte = bits_out 8 (bit_xor r byte)

-- the register after a text
abbrev pub register : ℕ → List ℕ → ℕ
register r [] = r
register r (byte ∷ bytes) = register (byte_in r byte) bytes

-- the checksum: all ones at the start, and the complement at the end
unfoldable pub crc_of : List ℕ → ℕ
crc_of bytes = 0xFFFFFFFF - register 0xFFFFFFFF bytes
