use Rattle.std.proofs.Common.{◌++◌, List, ℕ, refl, sym, ap, ◌∙◌, append-nil}
use Rattle.std.specs.List.{flat_map}
use Rattle.bow_report.specs.Texts.{transcript_text}
use Rattle.bow_receipts.specs.Closing.{entries_of, plan_by}
use Rattle.bow_receipts.specs.Asking.{given_of}
use Rattle.bow_tool.specs.CallLines.{bytes_by, receipt_line, receipts_text}
use Rattle.bow_tool.proofs.Spelling.{turn_next}
use Rattle.bow_tool.proofs.call_lines.call_lines.Goals as goal

pub loop-lane-init : goal.loop-lane-init
loop-lane-init c =
    let calls = entries_of c.args.calls.now in
    let all : List ℕ = transcript_text (plan_by c.args.geometry c.args.lanes calls) (bytes_by calls) c.args.journal.now in
    c.in_ok-push_items.ensures c.args.lanes ∙ ap (λ (xs : List ℕ). xs ++ all) c.new-text.ensures.items ∙ sym (append-nil all)

pub loop-lane-preserved : goal.loop-lane-preserved
loop-lane-preserved c =
    let calls = entries_of c.args.calls.now in
    let all : List ℕ = transcript_text (plan_by c.args.geometry c.args.lanes calls) (bytes_by calls) c.args.journal.now in
    turn_next (λ (lanes : ℕ). receipts_text lanes calls) (λ (lane : ℕ). flat_map receipt_line (given_of lane calls)) (λ lane. refl)
    all c.loop-lane.text.items c.push_receipts.new.text.items c.loop-lane.lane c.loop-lane.invariant c.in_ok-push_receipts.ensures
