use Rattle.std.proofs.Common.{◌≡◌, ◌+◌, ◌-◌, suc, ◌∙◌, arith, rules}
use Rattle.bow_log.proofs.Rows.{fault_here, fault_on}
use Rattle.bow_log.proofs.reading.entry_fault_in.Goals as goal

pub returns-then-not-keeps_rules : goal.returns-then-not-keeps_rules
returns-then-not-keeps_rules c =
    let left : c.args.count - c.loop-index.index ≡ suc (c.args.count - (c.loop-index.index + 1)) = omega arith in
    fault_here c.args.geometry c.loop-index.index _ _ _ c.args.block.now c.entry_at.result left c.entry_at.ensures (search rules) ∙ c.loop-index.invariant

pub loop-index-preserved : goal.loop-index-preserved
loop-index-preserved c =
    let left : c.args.count - c.loop-index.index ≡ suc (c.args.count - (c.loop-index.index + 1)) = omega arith in
    fault_on c.args.geometry c.loop-index.index _ _ _ _ c.args.block.now c.entry_at.result left (omega arith) c.entry_at.ensures (search rules) ∙ c.loop-index.invariant
