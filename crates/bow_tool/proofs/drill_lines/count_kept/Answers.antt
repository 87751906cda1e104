use Rattle.std.proofs.Common.{arith}
use Rattle.bow_tool.specs.Drills.{HoldsPattern}
use Rattle.bow_tool.proofs.Patterns.{count_on}
use Rattle.bow_tool.proofs.drill_lines.count_kept.Goals as goal

pub loop-number-preserved : goal.loop-number-preserved
loop-number-preserved c =
    let before = c.loop-number.invariant.few in
    let here = c.kept_at-kept.ensures.few in
    record {
      few = omega (arith, before, here);
      all = count_on (HoldsPattern c.args.image.now) c.loop-number.kept c.loop-number.number c.kept_at-kept.result c.loop-number.invariant.all c.kept_at-kept.ensures.one;
    }
