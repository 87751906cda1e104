use Rattle.std.proofs.Common.{◌≡◌, ◌++◌, take, drop}
use Rattle.bow_disk.specs.Cuts.{choices}
use Rattle.bow_disk.specs.Picking.{pick_of}
use Rattle.bow_disk.proofs.history.choose_each.Given as goal

abbrev pub invariant-loop-block : goal.invariant-loop-block
invariant-loop-block l = take l.block l.lasts.items ++ choices (pick_of l.picker) (drop l.block l.lasts.items) ≡ choices l.fn.pick l.fn.lasts.items
