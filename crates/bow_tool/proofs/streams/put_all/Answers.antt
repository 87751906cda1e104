use Rattle.std.proofs.Common.{arith, rules}
use Rattle.bow_tool.proofs.Transfers.{appends_more, take_on}
use Rattle.bow_tool.proofs.streams.put_all.Goals as goal

pub loop-at-preserved : goal.loop-at-preserved
loop-at-preserved g c =
    let bytes = c.args.bytes.now in
    let more = appends_more _ _ _ _ _ c.loop-at.invariant.bytes c.in-Ok.ensures.appends in
    record {
      within = search rules;
      bytes = rw (← take_on bytes c.loop-at.at c.in-Ok.count) more;
      faults = omega (arith, c.put.ensures.cause.later);
    }
