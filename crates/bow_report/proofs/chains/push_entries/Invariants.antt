use Rattle.std.proofs.Common.{◌≡◌, ◌++◌, drop}
use Rattle.std.specs.String.{string_bytes}
use Rattle.bow_report.specs.Chains.{entry_lines}
use Rattle.bow_report.proofs.chains.push_entries.Given as goal

abbrev pub invariant-loop-index : goal.invariant-loop-index
invariant-loop-index l = string_bytes l.out ++ entry_lines l.index (drop l.index l.entries) ≡ string_bytes l.initial.out ++ entry_lines 0 l.entries
