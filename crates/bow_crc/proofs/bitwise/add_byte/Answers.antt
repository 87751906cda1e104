use Rattle.std.proofs.Common.{ℕ, ◌≡◌, ◌+◌, ◌-◌, ◌/◌, ◌^◌, suc, sym, ap, ◌∙◌, arith}
use Rattle.std.specs.Prelude.{bit_xor}
use Rattle.std.proofs.Math.Nat.{div-one}
use Rattle.bow_crc.specs.Crc.{bits_out, byte_in}
use Rattle.bow_crc.proofs.Bits.{bits_taken, all_taken}
use Rattle.bow_crc.proofs.bitwise.add_byte.Goals as goal

pub loop-index-init : goal.loop-index-init
loop-index-init c = ap (λ (x : ℕ). bits_out 8 (bit_xor c.args.register x)) (div-one c.args.byte)

pub loop-index-preserved : goal.loop-index-preserved
loop-index-preserved c =
    let i = c.loop-index.index in
    let left = 8 - (i + 1) in
    let next : 8 - i ≡ suc left = omega arith in
    ap (λ (r : ℕ). bits_out left (bit_xor r (c.args.byte / 2 ^ (i + 1)))) c.shift-register.ensures
    ∙ bits_taken (8 - i) left c.loop-index.register c.args.byte i next
    ∙ c.loop-index.invariant

pub returns : goal.returns
unfolding byte_in
returns c = sym (all_taken c.loop-index.register c.args.byte c.loop-index.index c.ranges.byte.fits (omega arith)) ∙ c.loop-index.invariant
