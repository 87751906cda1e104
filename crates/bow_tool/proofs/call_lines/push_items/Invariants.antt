use Rattle.std.proofs.Common.{◌≡◌, ◌≤◌, ◌++◌, ℕ, take}
use Rattle.bow_report.specs.Texts.{transcript_text}
use Rattle.bow_receipts.specs.Closing.{entries_of, plan_by}
use Rattle.bow_tool.specs.CallLines.{bytes_by}
use Rattle.bow_tool.proofs.call_lines.push_items.Given as goal

abbrev pub invariant-loop-item : goal.invariant-loop-item
invariant-loop-item l = record {
  few : l.answers ≤ l.item-index;
  told : (callers : ℕ) → l.text.items ≡ l.initial.text.items ++ transcript_text (plan_by l.geometry callers (entries_of l.calls)) (bytes_by (entries_of l.calls)) (take l.item-index l.journal);
}
