use Rattle.std.proofs.Common.{refl}
use Rattle.bow_receipts.proofs.Calling.{goes_further, goes_same}
use Rattle.bow_receipts.proofs.callers.call_all.Goals as goal

pub loop-i-init : goal.loop-i-init
loop-i-init g c = goes_same g.J.Naming.sizes c.args.script.now c.args.pass.now c.args.pass.now refl

pub loop-i-preserved : goal.loop-i-preserved
loop-i-preserved g c = goes_further g.J.Naming.sizes c.args.script.now c.args.pass.now c.loop-i.pass c.call_next.new.pass c.loop-i.invariant c.call_next.ensures
