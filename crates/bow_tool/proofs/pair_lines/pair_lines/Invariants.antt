use Rattle.std.proofs.Common.{◌≡◌}
use Rattle.bow_tool.specs.PairLines.{devices_text}
use Rattle.bow_tool.proofs.pair_lines.pair_lines.Given as goal

abbrev pub invariant-loop-device : goal.invariant-loop-device
invariant-loop-device g l = l.text.items ≡ devices_text l.device l.pair.openings l.pair.laters
