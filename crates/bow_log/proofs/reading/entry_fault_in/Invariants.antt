use Rattle.std.proofs.Common.{◌≡◌, ◌+◌, ◌-◌, ◌*◌}
use Rattle.bow_log.specs.Faults.{entries_at}
use Rattle.bow_log.specs.Rules.{entry_fault}
use Rattle.bow_log.proofs.reading.entry_fault_in.Given as goal

-- the entries so far keep the rules
abbrev pub invariant-loop-index : goal.invariant-loop-index
invariant-loop-index l = entry_fault l.geometry l.index (entries_at (l.count - l.index) (28 + 24 * l.index) l.block) ≡ entry_fault l.geometry 0 (entries_at l.count 28 l.block)
