use Rattle.std.proofs.Common.{◌≡◌, ◌+◌, ◌≤◌, take, drop, None}
use Rattle.bow_ranges.specs.Kinds.{is_free, count_of}
use Rattle.bow_ranges.specs.Runs.{spread, kind_of, IsNormal}
use Rattle.bow_ranges.proofs.reads.count_free.Given as goal

abbrev pub invariant-loop-run : goal.invariant-loop-run
invariant-loop-run l = record {
  normal : IsNormal l.start (kind_of None (take l.run-index l.runs)) (drop l.run-index l.runs);
  told : l.free + count_of is_free (spread l.start (drop l.run-index l.runs)) ≡ count_of is_free (spread 0 l.runs);
  bound : l.free ≤ l.start;
}
