use Rattle.std.proofs.Common.{◌≡◌, ◌+◌, ◌≤◌, ◌++◌, length}
use Rattle.std.specs.List.{All}
use Rattle.bow_queue.specs.Requests.{open_writes}
use Rattle.bow_queue.proofs.queue.Queue.open_writes.Given as goal

-- the extents so far, and those of the requests left
abbrev pub invariant-loop-request : goal.invariant-loop-request
invariant-loop-request l = record {
  few : length l.extents.items + length l.request-iterator ≤ 16;
  on_device : All (λ extent. extent.first + extent.count ≤ l.self.blocks) l.extents.items;
  writes : l.extents.items ++ open_writes l.self.blocks l.request-iterator ≡ open_writes l.self.blocks l.self.waiting;
}
