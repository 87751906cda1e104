use Rattle.std.proofs.Common.{◌≡◌, ◌++◌, ◌+◌, drop}
use Rattle.std.specs.String.{string_bytes}
use Rattle.bow_past.specs.Lines.{ended_lines}
use Rattle.bow_past.proofs.lines.push_ended.Given as goal

abbrev pub invariant-loop-index : goal.invariant-loop-index
invariant-loop-index l = string_bytes l.out ++ ended_lines (l.first + l.index) (drop l.index l.all) ≡ string_bytes l.initial.out ++ ended_lines l.first l.all
