use Rattle.std.proofs.Common.{◌≡◌, drop}
use Rattle.bow_crc.specs.Crc.{register}
use Rattle.bow_crc.proofs.table.add_each.Given as goal

-- the bytes that are left lead to the register after all of them
abbrev pub invariant-loop-byte : goal.invariant-loop-byte
invariant-loop-byte l = register l.register (drop l.byte-index l.bytes) ≡ register l.start l.bytes
