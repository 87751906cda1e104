use Rattle.std.proofs.Common.{inl, refl, ap, ◌∙◌}
use Rattle.bow_play.specs.declared.faults.PlayFault.TheVariants.{NoMemory}
use Rattle.bow_tool.specs.Outside.{Call, call_of, disk_view, keeper_view, source_view}
use Rattle.bow_tool.specs.Play.{WasRun}
use Rattle.bow_tool.proofs.Running.{not_begun, was_run}
use Rattle.bow_tool.proofs.Telling.{run_came, run_outcome}
use Rattle.bow_tool.proofs.plays.run_script.Goals as goal

pub returns-in-Ok-run_session : goal.returns-in-Ok-run_session
returns-in-Ok-run_session g c =
    let begun = c.in-Ok.session in
    let load = c.in-Ok.ensures in
    let s = c.in-Ok-run_session.session in
    let law = c.disk_law.ensures in
    let ran = c.in-Ok-run_session.ensures in
    let end = c.end_session in
    let call : Call = call_of (source_view g.S.Source.left g.S.Source.gave g.S.Source.ended g.S.Source.faults) (disk_view g.D.Disk.stated g.D.Disk.content g.D.Disk.moment g.D.Disk.left_since g.D.Disk.faults) (keeper_view g.K.Keeper.kept g.K.Keeper.moment g.K.Keeper.left_since g.K.Keeper.faults) c.args.source.now c.load.new.source c.args.disk end.result.1 c.args.keeper end.result.2 in
    let was : WasRun call s = was_run call begun load.begun s load.given ran.script end.ensures.disk (ran.loaded (load.begun).first (load.begun).loaded_over) ran.over ran.idle ran.buffers (ran.complete (load.begun).first (load.begun).loaded_over)
    law.shaped law.cuts_shaped law.counts_now law.only_now in
    run_outcome c.args.servers call end.result.0 (run_came call (WasRun call) s end.ensures.told.0 end.result.0 was end.ensures.told.1 end.ensures.told.2)

pub returns-in-Err-run_session : goal.returns-in-Err-run_session
returns-in-Err-run_session g c =
    let begun = c.in-Ok.session in
    let call : Call = call_of (source_view g.S.Source.left g.S.Source.gave g.S.Source.ended g.S.Source.faults) (disk_view g.D.Disk.stated g.D.Disk.content g.D.Disk.moment g.D.Disk.left_since g.D.Disk.faults) (keeper_view g.K.Keeper.kept g.K.Keeper.moment g.K.Keeper.left_since g.K.Keeper.faults) c.args.source.now c.load.new.source c.args.disk c.close-disk.result c.args.keeper c.args.keeper in
    inl (NoMemory, refl, not_begun call begun c.in-Ok.ensures.begun refl (c.close-disk.ensures.same ∙ ap (λ v. v.disk) c.close.ensures.same ∙ ap (λ v. v.core.disk) c.in-Err-run_session.ensures.kept))
