use Rattle.std.proofs.Common.{rules}
use Rattle.bow_receipts.proofs.Passing.{two_in_order}
use Rattle.bow_receipts.proofs.tests.by_two.Goals as goal

pub close-requires-clause-order : goal.close-requires-clause-order
close-requires-clause-order g c =
    two_in_order c.new-all.result.items c.push.new.self.items c.push-2.new.self.items _ _ c.new-all.ensures.items c.in_ok-push.ensures.items c.in_ok-push-2.ensures.items
    (search rules) (search rules)
