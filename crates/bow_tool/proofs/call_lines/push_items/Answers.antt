use Rattle.std.proofs.Common.{◌≡◌, ◌++◌, ◌∙◌, ap, arith, length, take, List}
use Rattle.std.proofs.Math.Seq.{take-length}
use Rattle.std.specs.Prelude.{slice_index_or}
use Rattle.std.proofs.lemmas.Option.{slice_get-get_or}
use Rattle.bow_report.specs.Texts.{item_line, transcript_text}
use Rattle.bow_session.specs.Contents.{content_in}
use Rattle.bow_receipts.specs.Closing.{entries_of, plan_by}
use Rattle.bow_history.specs.declared.items.Item.{Item}
use Rattle.bow_history.specs.declared.items.Item.TheVariants.{Wrote}
use Rattle.bow_tool.specs.CallLines.{bytes_by}
use Rattle.bow_tool.proofs.Spelling.{told_next}
use Rattle.bow_tool.proofs.call_lines.push_items.Goals as goal

pub loop-item-preserved : goal.loop-item-preserved
loop-item-preserved c =
    let calls = entries_of c.args.calls.now in
    let items = c.args.journal.now in
    let i = c.loop-item.item-index in
    let item : Item = slice_index_or items i (Wrote 0 0 0) in
    record {
      few = (let one = c.answers_with-answers.ensures in let before = c.loop-item.invariant.few in omega (arith, one, before));
      told = λ callers. told_next (λ (x : Item). item_line x (content_in (plan_by c.args.geometry callers calls) (bytes_by calls) x)) c.args.text.now.items c.loop-item.text.items c.push_told.new.text.items items i item
          (slice_get-get_or items i (Wrote 0 0 0) c.loop-item-test.true) (c.loop-item.invariant.told callers) (c.in_ok-push_told.ensures callers);
    }

pub returns : goal.returns
returns c callers =
    let calls = entries_of c.args.calls.now in
    let items = c.args.journal.now in
    let i = c.loop-item.item-index in
    let all : i ≡ length items = (let least = c.loop-item-test.false in let most = c.loop-item.auto.item-index-end in omega (arith, least, most)) in
    c.loop-item.invariant.told callers ∙ ap (λ (xs : List Item). c.args.text.now.items ++ transcript_text (plan_by c.args.geometry callers calls) (bytes_by calls) xs) (ap (λ n. take n items) all ∙ take-length items)
