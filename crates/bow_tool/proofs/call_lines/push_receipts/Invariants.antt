use Rattle.std.proofs.Common.{◌≡◌, ◌++◌, take}
use Rattle.std.specs.List.{flat_map}
use Rattle.bow_receipts.specs.Asking.{given_of}
use Rattle.bow_receipts.specs.Closing.{entries_of}
use Rattle.bow_tool.specs.CallLines.{receipt_line}
use Rattle.bow_tool.proofs.call_lines.push_receipts.Given as goal

abbrev pub invariant-loop-call : goal.invariant-loop-call
invariant-loop-call l = l.text.items ≡ l.initial.text.items ++ flat_map receipt_line (given_of l.lane (entries_of (take l.call-index l.calls)))
