use Rattle.std.proofs.Common.{◌≡◌, ◌++◌, ℕ, inl, refl, sym, ap, ◌∙◌, subst, true}
use Rattle.bow_units.specs.Sizes.{IsBlockSize}
use Rattle.bow_units.specs.declared.sizes.Geometry.{Geometry}
use Rattle.bow_history.specs.Complete.{IsComplete}
use Rattle.bow_session.specs.Requests.{lanes_of, plan_of}
use Rattle.bow_report.specs.Texts.{transcript_text}
use Rattle.bow_play.specs.declared.faults.PlayFault.TheVariants.{NoMemory}
use Rattle.bow_receipts.specs.Called.{IsCalled}
use Rattle.bow_receipts.specs.Closing.{entries_of, plan_by}
use Rattle.bow_receipts.specs.Served.{HaveBlocksRead}
use Rattle.bow_tool.specs.CallLines.{bytes_by, receipts_text}
use Rattle.bow_tool.specs.Callers.{CallersRun, IsWhole, WasCalled}
use Rattle.bow_tool.specs.Outcomes.{IsCalledTold}
use Rattle.bow_tool.specs.Outside.{Call, call_of, disk_view, keeper_view, source_view}
use Rattle.bow_tool.proofs.Calling.{not_called, numbered, was_called}
use Rattle.bow_tool.proofs.Telling.{called_came}
use Rattle.bow_tool.proofs.callers.call_script.Goals as goal

pub returns-in-Err-run_calls : goal.returns-in-Err-run_calls
returns-in-Err-run_calls g c =
    let opened = c.in-Ok.ensures in
    let call : Call = call_of (source_view g.S.Source.left g.S.Source.gave g.S.Source.ended g.S.Source.faults) (disk_view g.D.Disk.stated g.D.Disk.content g.D.Disk.moment g.D.Disk.left_since g.D.Disk.faults) (keeper_view g.K.Keeper.kept g.K.Keeper.moment g.K.Keeper.left_since g.K.Keeper.faults) c.args.source.now c.open.new.source c.args.disk c.close-disk.result c.args.keeper c.args.keeper in
    inl (NoMemory, refl, not_called call c.in-Ok.opened.0 opened.opened refl (c.close-disk.ensures.same ∙ ap (λ v. v.disk) c.in-Err-run_calls.ensures.kept))

pub returns-in-Ok-run_calls : goal.returns-in-Ok-run_calls
returns-in-Ok-run_calls g c =
    let law = c.disk_law.ensures in
    let opened = c.in-Ok.ensures in
    let called = c.in-Ok-run_calls.called in
    let ran = c.in-Ok-run_calls.ensures in
    let end = c.end_calls in
    let call : Call = call_of (source_view g.S.Source.left g.S.Source.gave g.S.Source.ended g.S.Source.faults) (disk_view g.D.Disk.stated g.D.Disk.content g.D.Disk.moment g.D.Disk.left_since g.D.Disk.faults) (keeper_view g.K.Keeper.kept g.K.Keeper.moment g.K.Keeper.left_since g.K.Keeper.faults) c.args.source.now c.open.new.source c.args.disk end.result.1 c.args.keeper end.result.2 in
    let r : CallersRun g.row.D.Denot = record { script = c.in-Ok.opened.1; core = called.closed.core; journal = called.closed.journal.items; calls = entries_of called.closed.calls.items } in
    let same : c.in-Ok.opened.0.geometry ≡ called.closed.core.geometry = sym ((ran.called).closed).sizes in
    let left_over = subst (λ (z : Geometry). IsCalled g.D.Disk.content g.D.Disk.moment g.D.Disk.left_since g.D.Disk.faults z (lanes_of r.script) (λ v. v ≡ c.in-Ok.opened.0) r.script r.core r.journal r.calls) same ran.called in
    let was : WasCalled call r = was_called call c.in-Ok.opened.0 opened.opened r opened.given end.ensures.disk end.ensures.sizes same left_over law.cuts_shaped law.counts_now law.only_now in
    let whole : called.whole ≡ true → IsWhole r = λ all. subst (λ (z : Geometry). IsComplete (plan_of z r.script) r.journal) same (ran.complete all) in
    let told = subst (λ (n : ℕ). IsCalledTold called.whole (transcript_text (plan_by r.core.geometry n r.calls) (bytes_by r.calls) r.journal ++ receipts_text n r.calls) end.ensures.told.0 end.result.0) c.lanes_of-lanes.ensures end.ensures.told.2 in
    called_came call r called.whole end.ensures.told.0 end.result.0 was whole end.ensures.told.1 told

pub end_calls-requires-clause-numbers : goal.end_calls-requires-clause-numbers
end_calls-requires-clause-numbers g c =
    let closed = c.in-Ok-run_calls.ensures.called.closed in
    numbered c.in-Ok-run_calls.called.closed.journal.items (entries_of c.in-Ok-run_calls.called.closed.calls.items) closed.order closed.of_journal

pub end_calls-requires-clause-blocks : goal.end_calls-requires-clause-blocks
end_calls-requires-clause-blocks g c =
    let closed = c.in-Ok-run_calls.ensures.called.closed in
    subst (λ (z : Geometry). HaveBlocksRead z.block_size (entries_of c.in-Ok-run_calls.called.closed.calls.items)) (sym closed.sizes) closed.blocks

pub end_calls-requires-clause-size : goal.end_calls-requires-clause-size
end_calls-requires-clause-size g c =
    let closed = c.in-Ok-run_calls.ensures.called.closed in
    subst (λ (z : Geometry). IsBlockSize z.block_size) (sym closed.sizes) c.in-Ok.ensures.opened.valid.size
