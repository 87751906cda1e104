use Rattle.std.proofs.Common.{◌≡◌, drop}
use Rattle.bow_crc.specs.Crc.{register}
use Rattle.bow_crc.proofs.bitwise.crc.Given as goal

-- the bytes that are left lead to the register after all of them
abbrev pub invariant-loop-byte : goal.invariant-loop-byte
invariant-loop-byte l = register l.register (drop l.byte-index l.bytes) ≡ register 0xFFFFFFFF l.bytes
