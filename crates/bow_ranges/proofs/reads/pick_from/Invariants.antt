use Rattle.std.proofs.Common.{◌≡◌, take, drop, None}
use Rattle.bow_ranges.specs.Picks.{picked_of}
use Rattle.bow_ranges.specs.Runs.{kind_of, free_parts, IsNormal}
use Rattle.bow_ranges.proofs.RunPicks.{found_in}
use Rattle.bow_ranges.proofs.reads.pick_from.Given as goal

abbrev pub invariant-loop-run : goal.invariant-loop-run
invariant-loop-run l = record {
  normal : IsNormal l.start (kind_of None (take l.run-index l.runs)) (drop l.run-index l.runs);
  told : found_in l.want l.best (free_parts l.start (drop l.run-index l.runs)) ≡ picked_of (free_parts 0 l.runs) l.want;
}
