use Rattle.std.proofs.Common.{◌≡◌}
use Rattle.std.specs.List.{AllByRecursion as Each}
use Rattle.std.specs.Prelude.{find}
use Rattle.bow_machine.specs.MemoryIsSound.{IsWaiting}
use Rattle.bow_machine.specs.Tasks.{needs_worker, head}
use Rattle.bow_core.proofs.state.State.head.Given as goal

-- the requests left were taken in, and give the answer
abbrev pub invariant-loop-request : goal.invariant-loop-request
invariant-loop-request g l = Each (IsWaiting l.self.geometry) l.request-iterator
    × (find (λ r. needs_worker l.self.geometry l.self.memory r r.op) l.request-iterator ≡ head l.self.geometry l.self.memory)
