use Rattle.std.proofs.Common.{◌≡◌, ◌++◌, ◌↔◌, IsTrue, List, ℕ, IfOk, ap, ◌∙◌, subst}
use Rattle.bow_units.specs.declared.sizes.Geometry.{Geometry}
use Rattle.bow_history.specs.declared.items.Item.{Item}
use Rattle.bow_report.specs.Texts.{transcript_text}
use Rattle.bow_receipts.specs.declared.asks.Call.{Call}
use Rattle.bow_receipts.specs.Closing.{entries_of, plan_by}
use Rattle.bow_tool.specs.CallLines.{bytes_by, receipts_text}
use Rattle.bow_tool.specs.Callers.{HasCommitted}
use Rattle.bow_tool.specs.Outcomes.{IsCalledTold}
use Rattle.bow_tool.specs.Outside.{keeper_view}
use Rattle.bow_tool.proofs.Telling.{called_told, clears_for}
use Rattle.bow_tool.proofs.callers.end_calls.Goals as goal

pub returns-clause-told : goal.returns-clause-told
returns-clause-told g c =
    let closed = c.args.called.closed in
    let calls : c.as_slice-answers.result.now ≡ closed.calls.items = c.as_slice-answers.ensures.value in
    let journal : c.as_slice-items.result.now ≡ closed.journal.items = c.as_slice-items.ensures.value in
    let sizes : c.geometry-geometry.result ≡ closed.core.geometry = c.geometry-geometry.ensures.is in
    let has = subst (λ (xs : List Call). IsTrue c.has_committed.result ↔ HasCommitted (entries_of xs)) calls c.has_committed.ensures in
    let spelled : Geometry → List Item → List Call → List ℕ = λ z items xs. transcript_text (plan_by z c.args.lanes (entries_of xs)) (bytes_by (entries_of xs)) items ++ receipts_text c.args.lanes (entries_of xs) in
    let same : spelled c.geometry-geometry.result c.as_slice-items.result.now c.as_slice-answers.result.now ≡ spelled closed.core.geometry closed.journal.items closed.calls.items =
    ap (λ z. spelled z c.as_slice-items.result.now c.as_slice-answers.result.now) sizes ∙ ap (λ items. spelled closed.core.geometry items c.as_slice-answers.result.now) journal ∙ ap (λ xs. spelled closed.core.geometry closed.journal.items xs) calls in (
      c.clear_after-cleared.result,
      clears_for (keeper_view g.K.Keeper.kept g.K.Keeper.moment g.K.Keeper.left_since g.K.Keeper.faults) (IsTrue c.has_committed.result) (HasCommitted (entries_of closed.calls.items)) c.args.keeper c.clear_after-cleared.new.keeper c.clear_after-cleared.result
          has.0 has.1 c.clear_after-cleared.ensures,
      subst (λ (text : List ℕ). IsCalledTold c.args.called.whole text c.clear_after-cleared.result c.told.result) same
          (called_told (spelled c.geometry-geometry.result c.as_slice-items.result.now c.as_slice-answers.result.now) c.lines_of-text.result c.args.called.whole c.clear_after-cleared.result c.told.result c.lines_of-text.ensures.whole c.lines_of-text.ensures.text c.told.ensures),
    )
