use Rattle.std.proofs.Common.{◌≡◌, ◌++◌}
use Rattle.bow_report.specs.Texts.{transcript_text}
use Rattle.bow_receipts.specs.Closing.{entries_of, plan_by}
use Rattle.bow_tool.specs.CallLines.{bytes_by, receipts_text}
use Rattle.bow_tool.proofs.call_lines.call_lines.Given as goal

abbrev pub invariant-loop-lane : goal.invariant-loop-lane
invariant-loop-lane l = l.text.items ≡ transcript_text (plan_by l.fn.geometry l.lanes (entries_of l.calls)) (bytes_by (entries_of l.calls)) l.journal ++ receipts_text l.lane (entries_of l.calls)
