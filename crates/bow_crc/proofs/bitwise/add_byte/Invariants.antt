use Rattle.std.proofs.Common.{◌≡◌, ◌-◌, ◌/◌, ◌^◌}
use Rattle.std.specs.Prelude.{bit_xor}
use Rattle.bow_crc.specs.Crc.{bits_out}
use Rattle.bow_crc.proofs.bitwise.add_byte.Given as goal

-- with the bits that are left in it, the register leads to the one after all eight
abbrev pub invariant-loop-index : goal.invariant-loop-index
invariant-loop-index l = bits_out (8 - l.index) (bit_xor l.register (l.byte / 2 ^ l.index)) ≡ bits_out 8 (bit_xor l.fn.register l.byte)
