use Rattle.std.proofs.Common.{inl, refl, ap, ◌∙◌}
use Rattle.bow_play.specs.declared.faults.PlayFault.TheVariants.{NoMemory}
use Rattle.bow_tool.specs.Outside.{Call, call_of, disk_view, keeper_view, source_view}
use Rattle.bow_tool.specs.Pasts.{WasRunBeside, blocks_from}
use Rattle.bow_tool.proofs.Beside.{first_blocks, past_came, past_outcome, plays_blocks}
use Rattle.bow_tool.proofs.Running.{not_begun, ran_beside}
use Rattle.bow_tool.proofs.pasts.play_beside.Goals as goal

pub end_beside-requires : goal.end_beside-requires
end_beside-requires g c =
    let D = g.D.Disk in
    let e = blocks_from c.args.first c.args.count in
    let begun = c.in-Ok.session in
    let first = c.in-Ok-begin_reader.past in
    let steps = c.run_beside-past.ensures.steps in
    plays_blocks D.stated D.content D.moment D.left_since D.faults e steps.0 c.args.number first begun c.run_beside-past.result c.run_beside-past.new.session (first_blocks begun.core.geometry e first c.in-Ok-begin_reader.ensures.first) steps.1

pub returns-in-Ok-begin_reader : goal.returns-in-Ok-begin_reader
returns-in-Ok-begin_reader g c =
    let D = g.D.Disk in
    let e = blocks_from c.args.first c.args.count in
    let begun = c.in-Ok.session in
    let load = c.in-Ok.ensures in
    let first = c.in-Ok-begin_reader.past in
    let ran = c.run_beside-past.ensures in
    let s = c.run_beside-past.new.session in
    let r = c.run_beside-past.result in
    let end = c.end_beside in
    let b = load.begun in
    let call : Call = call_of (source_view g.S.Source.left g.S.Source.gave g.S.Source.ended g.S.Source.faults) (disk_view D.stated D.content D.moment D.left_since D.faults) (keeper_view g.K.Keeper.kept g.K.Keeper.moment g.K.Keeper.left_since g.K.Keeper.faults) c.args.source.now c.load.new.source c.args.disk end.result.1 c.args.keeper end.result.2 in
    let was : WasRunBeside c.args.number e call r s = ran_beside call begun b c.args.number e first r s load.given c.in-Ok-begin_reader.ensures.first end.ensures.disk ran.script ran.steps ran.over ran.read (ran.complete c.args.disk b) (ran.sizes c.args.disk b) (ran.ran c.args.disk b) (ran.faults c.args.disk b) (ran.leads c.args.disk b) (ran.ahead c.args.disk b) (ran.reads c.args.disk b) g.met.D.Disk.cuts_shaped g.met.D.Disk.counts_now in
    past_outcome c.args.number c.args.first c.args.count call end.result.0 (past_came c.args.number e call s r end.ensures.told.0 end.result.0 was end.ensures.told.1 end.ensures.told.2)

pub returns-in-Err-begin_reader : goal.returns-in-Err-begin_reader
returns-in-Err-begin_reader g c =
    let begun = c.in-Ok.session in
    let call : Call = call_of (source_view g.S.Source.left g.S.Source.gave g.S.Source.ended g.S.Source.faults) (disk_view g.D.Disk.stated g.D.Disk.content g.D.Disk.moment g.D.Disk.left_since g.D.Disk.faults) (keeper_view g.K.Keeper.kept g.K.Keeper.moment g.K.Keeper.left_since g.K.Keeper.faults) c.args.source.now c.load.new.source c.args.disk c.close-disk.result c.args.keeper c.args.keeper in
    inl (NoMemory, refl, not_begun call begun c.in-Ok.ensures.begun refl (c.close-disk.ensures.same ∙ ap (λ v. v.disk) c.close.ensures.same))
