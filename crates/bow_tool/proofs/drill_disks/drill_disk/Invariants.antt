use Rattle.std.proofs.Common.{◌≡◌}
use Rattle.bow_tool.proofs.Patterns.{pattern_bytes}
use Rattle.bow_tool.proofs.drill_disks.drill_disk.Given as goal

abbrev pub invariant-loop-number : goal.invariant-loop-number
invariant-loop-number l = l.image.items ≡ pattern_bytes l.number
