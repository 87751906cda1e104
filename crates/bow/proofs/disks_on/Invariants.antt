use Rattle.std.proofs.Common.{◌≡◌, ◌+◌, length}
use Rattle.bow.proofs.disks_on.Given as goal

abbrev pub invariant-loop-path : goal.invariant-loop-path
invariant-loop-path l = length l.disks.items ≡ 1 + l.path-index
