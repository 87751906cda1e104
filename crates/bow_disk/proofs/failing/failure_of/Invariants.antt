use Rattle.std.proofs.Common.{◌≡◌, take}
use Rattle.bow_disk.specs.Memory.{listed}
use Rattle.bow_disk.proofs.failing.failure_of.Given as goal

abbrev pub invariant-loop-number : goal.invariant-loop-number
invariant-loop-number l = l.mode ≡ listed (take l.number-index l.failing) l.call
