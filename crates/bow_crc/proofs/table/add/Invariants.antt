use Rattle.std.proofs.Common.{◌≡◌, length}
use Rattle.bow_crc.specs.Crc.{register}
use Rattle.bow_crc.proofs.table.add.Given as goal

-- the bytes that are left lead to the register after all of them
abbrev pub invariant-loop-sixteen : goal.invariant-loop-sixteen
invariant-loop-sixteen l = register l.register l.rest ≡ register l.start l.bytes

abbrev pub decreases-loop-sixteen : goal.decreases-loop-sixteen
decreases-loop-sixteen l = length l.rest
