use Rattle.std.proofs.Common.{length, refl}
use Rattle.std.proofs.lemmas.Option.{slice_get_read}
use Rattle.bow_tool.proofs.Spelling.{receipts_next}
use Rattle.bow_tool.proofs.call_lines.push_receipts.Goals as goal

pub loop-call-preserved : goal.loop-call-preserved
loop-call-preserved c =
    let calls = c.args.calls.now in
    let i = c.loop-call.call-index in
    let here = slice_get_read calls (length calls) i c.call-item.result refl c.loop-call-test.true c.call-item.is in
    receipts_next c.args.lane c.args.text.now.items c.loop-call.text.items c.push_receipt_of.new.text.items calls i c.call-item.result here c.loop-call.invariant c.in_ok-push_receipt_of.ensures
