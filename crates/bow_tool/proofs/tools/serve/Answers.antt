use Rattle.bow_tool.specs.Outside.{call_of, disk_view, keeper_view, source_view}
use Rattle.bow_tool.proofs.Telling.{outcome_told}
use Rattle.bow_tool.proofs.tools.serve.Goals as goal

pub returns : goal.returns
returns g c =
    let call = call_of (source_view g.S.Source.left g.S.Source.gave g.S.Source.ended g.S.Source.faults) (disk_view g.D.Disk.stated g.D.Disk.content g.D.Disk.moment g.D.Disk.left_since g.D.Disk.faults) (keeper_view g.K.Keeper.kept g.K.Keeper.moment g.K.Keeper.left_since g.K.Keeper.faults) c.args.source.now c.obey_with-outcome.new.source c.args.disk c.obey_with-outcome.result.1 c.args.keeper c.obey_with-outcome.result.2 in
    outcome_told c.fault_law.ensures.not_sound c.args.command call c.obey_with-outcome.result.0 _ _ _ _ _ c.obey_with-outcome.ensures c.put_outcome-status.ensures
