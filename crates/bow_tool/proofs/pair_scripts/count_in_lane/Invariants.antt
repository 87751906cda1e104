use Rattle.std.proofs.Common.{take}
use Rattle.std.specs.List.{All}
use Rattle.bow_pair.specs.Pairs.{IsPlayed}
use Rattle.bow_tool.proofs.pair_scripts.count_in_lane.Given as goal

abbrev pub invariant-loop-line : goal.invariant-loop-line
invariant-loop-line l = All IsPlayed (take l.line-index l.line-items)
