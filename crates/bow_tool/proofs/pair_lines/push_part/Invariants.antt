use Rattle.std.proofs.Common.{◌≡◌, ◌++◌, take}
use Rattle.bow_report.specs.Texts.{transcript_text}
use Rattle.bow_session.specs.Parts.{buffers_in, plan_at}
use Rattle.bow_tool.proofs.pair_lines.push_part.Given as goal

abbrev pub invariant-loop-item : goal.invariant-loop-item
invariant-loop-item l = l.text.items ≡ l.initial.text.items ++ transcript_text (plan_at l.part) (buffers_in l.part) (take l.item-index l.item-items)
