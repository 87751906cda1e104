use Rattle.std.proofs.Common.{◌≡◌, drop}
use Rattle.bow_log.specs.Rules.{entry_fault}
use Rattle.bow_log.proofs.logs.entry_fault.Given as goal

-- the entries so far keep the rules
abbrev pub invariant-loop-index : goal.invariant-loop-index
invariant-loop-index l = entry_fault l.geometry l.index (drop l.index l.entries) ≡ entry_fault l.geometry 0 l.entries
