use Rattle.std.proofs.Common.{◌≡◌, ◌+◌, ◌-◌, ◌*◌, ◌++◌, length}
use Rattle.bow_log.specs.Faults.{entries_at}
use Rattle.bow_log.proofs.reading.read_entries.Given as goal

-- the entries so far stand in the list
abbrev pub invariant-loop-index : goal.invariant-loop-index
invariant-loop-index l = record {
  count : length l.into.items ≡ l.index;
  items : l.into.items ++ entries_at (l.count - l.index) (28 + 24 * l.index) l.block ≡ entries_at l.count 28 l.block;
}
