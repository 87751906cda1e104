use Rattle.std.proofs.Common.{suc, arith}
use Rattle.bow_queue.proofs.iter.IterIterator.next.Goals as goal

-- the tickets that are left are stored, as all were
pub invariant_of-self : goal.invariant_of-self
invariant_of-self c =
    let stored = rw c.in_ok-ticket.ensures.cases.0 at c.self.invariant in
    λ k d within. stored (suc k) d (omega arith)
