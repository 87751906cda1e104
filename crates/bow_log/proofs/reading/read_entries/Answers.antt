use Rattle.std.proofs.Common.{◌≡◌, ◌+◌, ◌-◌, ◌*◌, suc, arith}
use Rattle.bow_log.proofs.Rows.{pushed}
use Rattle.bow_log.proofs.reading.read_entries.Goals as goal

pub loop-index-preserved : goal.loop-index-preserved
loop-index-preserved c =
    let left : c.args.count - c.loop-index.index ≡ suc (c.args.count - (c.loop-index.index + 1)) = omega arith in
    record {
      count = omega (arith, c.push.ensures.len, c.loop-index.invariant.count);
      items = pushed _ _ (28 + 24 * c.loop-index.index) _ c.args.block.now c.loop-index.into.items c.push.new.self.items _ c.entry_at.result left (omega arith) c.entry_at.ensures c.push.ensures.items c.loop-index.invariant.items;
    }
