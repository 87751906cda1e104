use Rattle.std.proofs.Common.{Some, take}
use Rattle.bow_script.specs.Scripts.{concat}
use Rattle.bow_tool.specs.PairScripts.{CountsPlayed}
use Rattle.bow_tool.proofs.pair_scripts.count_in_section.Given as goal

abbrev pub invariant-loop-lane : goal.invariant-loop-lane
invariant-loop-lane l = CountsPlayed (concat (take l.lane-index l.lane-items)) (Some l.count)
