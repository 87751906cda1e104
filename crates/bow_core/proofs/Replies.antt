-- A reply that a call may have had is one that it can have.
use Rattle.std.proofs.Common.{Option, Some, None}
use Rattle.bow_units.specs.declared.sizes.Geometry.{Geometry}
use Rattle.bow_machine.specs.Calls.{Call, Reply}
use Rattle.bow_machine.specs.MemoryLaws.{CanHaveIt}
use Rattle.bow_core.specs.Calls.{RepliesTo}

pub can_have : (g : Geometry) (call : Option Call) (reply : Reply) → RepliesTo g call reply → CanHaveIt g call reply
can_have g None reply may = tt
can_have g (Some call) reply may = may
