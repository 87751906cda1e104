use Rattle.std.proofs.Common.{◌≡◌, ◌*◌, ◌≤◌, ◌++◌, length}
use Rattle.std.specs.Prelude.{bit_xor}
use Rattle.std.specs.Int.{w64, to_le_bytes}
use Rattle.bow_crc.specs.Crc.{bits_out, register}
use Rattle.bow_crc.specs.Lanes.{number, behind}
use Rattle.bow_crc.proofs.pairs.of_long.Given as goal

-- with what has changed in it, the rest of the block leads to the register after the whole
abbrev pub invariant-loop-rest : goal.invariant-loop-rest
invariant-loop-rest l = record {
  enough : 48 ≤ length l.rest;
  leads : bits_out (8 * length l.rest) (bit_xor (behind l.near l.far l.near_odd l.far_odd) (number l.rest)) ≡ register 0xFFFFFFFF (to_le_bytes w64 l.number ++ l.block);
}

abbrev pub decreases-loop-rest : goal.decreases-loop-rest
decreases-loop-rest l = length l.rest
