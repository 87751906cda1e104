use Rattle.std.proofs.Common.{Some, take}
use Rattle.bow_script.specs.Scripts.{requests_of}
use Rattle.bow_tool.specs.PairScripts.{CountsPlayed}
use Rattle.bow_tool.proofs.pair_scripts.count_in_script.Given as goal

abbrev pub invariant-loop-section : goal.invariant-loop-section
invariant-loop-section l = CountsPlayed (requests_of (take l.section-index l.section-items)) (Some l.count)
