use Rattle.std.proofs.Common.{◌≡◌, ◌++◌, map, take, drop}
use Rattle.bow_disk.specs.Layout.{flush_mark}
use Rattle.bow_disk.proofs.history.flush_each.Given as goal

abbrev pub invariant-loop-mark : goal.invariant-loop-mark
invariant-loop-mark l = l.marks ≡ map (flush_mark l.call) (take l.mark-index l.fn.marks) ++ drop l.mark-index l.fn.marks
