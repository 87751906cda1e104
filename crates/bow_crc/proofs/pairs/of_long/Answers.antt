use Rattle.std.proofs.Common.{◌-◌, ◌*◌, ◌∙◌, sym, ap, length, arith, refl}
use Rattle.std.specs.Prelude.{bit_xor}
use Rattle.bow_crc.specs.Crc.{bits_out, crc_of}
use Rattle.bow_crc.specs.Lanes.{number, behind}
use Rattle.bow_crc.proofs.Numbers.{starts, goes_on, joined}
use Rattle.bow_crc.proofs.Twos.{zeroes_first}
use Rattle.bow_crc.proofs.Vectors.{five}
use Rattle.bow_crc.proofs.pairs.of_long.Goals as goal

pub loop-rest-init : goal.loop-rest-init
loop-rest-init c =
    let block = c.args.block.now in
    let start = bit_xor c.args.number 0xFFFFFFFF in
    record {
      enough = c.requires;
      leads = starts c.args.number start _ block c.ranges.number.fits refl (sym (zeroes_first (8 * length block) start (number block)) ∙ c.go_out.ensures (8 * length block) (number block) (omega arith));
    }

pub loop-rest-preserved : goal.loop-rest-preserved
loop-rest-preserved c =
    let l = c.loop-rest in
    let left = l.rest.now in
    let x = c.split_at.result.0.now in
    let middle = c.split_at.result.1.now in
    let y = c.split_at-in-loop-rest.result.0.now in
    let right = c.split_at-in-loop-rest.result.1.now in
    let one = c.go_out-in-loop-rest.result in
    let two = c.go_out-in-loop-rest-2.result in
    let ms = c.split_at.ensures.back_len in
    let rs = c.split_at-in-loop-rest.ensures.back_len in
    let first = goes_on 16 (behind l.near l.far l.near_odd l.far_odd) (behind one.0 one.1 one.2 one.3) _ _ x middle left c.split_at.ensures.front_len (joined 16 left x middle c.split_at.ensures.front c.split_at.ensures.back) c.two_groups.ensures l.invariant.leads
    (c.go_out-in-loop-rest.ensures (8 * length middle) (number middle) (omega (arith, ms, c.loop-rest-test.true))) in
    record {
      enough = omega (arith, ms, rs, c.loop-rest-test.true);
      leads = goes_on 16 (behind one.0 one.1 one.2 one.3) (behind two.0 two.1 two.2 two.3) _ _ y right middle c.split_at-in-loop-rest.ensures.front_len (joined 16 middle y right c.split_at-in-loop-rest.ensures.front c.split_at-in-loop-rest.ensures.back) c.two_groups-in-loop-rest.ensures first
          (c.go_out-in-loop-rest-2.ensures (8 * length right) (number right) (omega (arith, ms, rs, c.loop-rest-test.true)));
    }

pub returns : goal.returns
unfolding crc_of
returns c =
    let l = c.loop-rest in
    ap (λ r. 0xFFFFFFFF - r)
    (c.last_in.ensures
    ∙ ap (λ k. bits_out (8 * length l.rest.now) (bit_xor k (number l.rest.now))) (five l.near l.far l.near_odd l.far_odd c.between.result l.auto.far.0 c.between.ensures)
    ∙ l.invariant.leads)
