use Rattle.std.proofs.Common.{◌≡◌, ◌≤◌, take}
use Rattle.std.specs.List.{sum_by}
use Rattle.bow_past.specs.Lines.{is_got}
use Rattle.bow_past.proofs.lines.blocks_got.Given as goal

abbrev pub invariant-loop-ended : goal.invariant-loop-ended
invariant-loop-ended l = (l.got ≡ sum_by is_got (take l.ended-index l.all)) × (l.got ≤ l.ended-index)
