use Rattle.std.proofs.Common.{arith}
use Rattle.bow_receipts.proofs.Passing.{called}
use Rattle.bow_receipts.proofs.desk.Desk.call.Goals as goal

pub invariant_of-pass : goal.invariant_of-pass
invariant_of-pass g c =
    let carry = c.carry_out-answer.ensures in
    called g.J.Naming.table g.J.Naming.sizes.block_size g.J.Naming.callers g.J.Naming.allowed g.J.Naming.section c.pass.inside.seat c.post.new.seat c.carry_out-answer.new.seat c.pass.inside.lane c.pass.inside.made c.pass.inside.may c.pass.inside.section c.pass.invariant (omega (arith, c.if-pass.false))
    c.in-Ok.ask c.post.ensures.same.0 c.post.ensures.posts carry.same carry.size carry.idle carry.lane carry.next c.carry_out-answer.result carry.got
