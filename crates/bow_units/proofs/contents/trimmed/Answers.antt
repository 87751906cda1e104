use Rattle.std.proofs.Common.{◌≡◌, ◌-◌, suc, sym, ap, ◌∙◌, take, drop, true, arith}
use Rattle.bow_units.specs.Blocks.{are_zero}
use Rattle.bow_units.proofs.ContentTexts.{trimmed_at, trimmed_zero, more_zeros}
use Rattle.bow_units.proofs.contents.trimmed.Goals as goal

pub returns-then-bytes-end-ne0 : goal.returns-then-bytes-end-ne0
returns-then-bytes-end-ne0 c =
    let end = c.loop-end.end in
    let next : end ≡ suc (end - 1) = omega (arith, c.loop-end-test.true) in
    let zeros : are_zero (drop (suc (end - 1)) c.args.bytes.now) ≡ true = ap (λ n. are_zero (drop n c.args.bytes.now)) (sym next) ∙ c.loop-end.invariant.zeros in
    ap (λ n. take n c.args.bytes.now) next ∙ sym (trimmed_at c.args.bytes.now (end - 1) (omega (arith, c.loop-end-test.true, c.loop-end.invariant.low)) c.if-bytes-end-ne0.true zeros)

pub loop-end-preserved : goal.loop-end-preserved
loop-end-preserved c =
    let end = c.loop-end.end in
    let next : end ≡ suc (end - 1) = omega (arith, c.loop-end-test.true) in
    let zeros : are_zero (drop (suc (end - 1)) c.args.bytes.now) ≡ true = ap (λ n. are_zero (drop n c.args.bytes.now)) (sym next) ∙ c.loop-end.invariant.zeros in
    record {
      low = omega (arith, c.loop-end.invariant.low);
      zeros = more_zeros c.args.bytes.now (end - 1) (omega (arith, c.loop-end-test.true, c.loop-end.invariant.low)) c.if-bytes-end-ne0.false zeros;
    }

pub returns : goal.returns
returns c =
    let none : c.loop-end.end ≡ 0 = omega (arith, c.loop-end-test.false) in
    let zeros : are_zero (drop 0 c.args.bytes.now) ≡ true = ap (λ n. are_zero (drop n c.args.bytes.now)) (sym none) ∙ c.loop-end.invariant.zeros in
    sym (trimmed_zero c.args.bytes.now zeros)
