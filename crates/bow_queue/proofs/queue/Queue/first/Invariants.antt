use Rattle.std.proofs.Common.{◌≡◌}
use Rattle.std.specs.List.{find}
use Rattle.bow_queue.specs.Insides.{is_wanted}
use Rattle.bow_queue.proofs.queue.Queue.first.Given as goal

-- the requests left give the answer
abbrev pub invariant-loop-request : goal.invariant-loop-request
invariant-loop-request l = find (is_wanted l.wanted) l.request-iterator ≡ find (is_wanted l.wanted) l.self.waiting
