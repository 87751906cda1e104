use Rattle.std.proofs.Common.{sym, subst}
use Rattle.bow_tool.specs.Commands.{IsOutcome}
use Rattle.bow_tool.specs.Outside.{Call, call_of, disk_view, keeper_view, source_view}
use Rattle.bow_tool.proofs.Telling.{callers_outcome}
use Rattle.bow_tool.proofs.tools.obey_with.Goals as goal

pub returns-in-Run : goal.returns-in-Run
returns-in-Run g c =
    let call : Call = call_of (source_view g.S.Source.left g.S.Source.gave g.S.Source.ended g.S.Source.faults) (disk_view g.D.Disk.stated g.D.Disk.content g.D.Disk.moment g.D.Disk.left_since g.D.Disk.faults) (keeper_view g.K.Keeper.kept g.K.Keeper.moment g.K.Keeper.left_since g.K.Keeper.faults) c.args.source.now c.run_script.new.source c.args.disk c.run_script.result.1 c.args.keeper c.run_script.result.2 in
    subst (λ command. IsOutcome command call c.run_script.result.0) (sym c.in-Run.is) c.run_script.ensures

pub returns-in-Callers : goal.returns-in-Callers
returns-in-Callers g c =
    let call : Call = call_of (source_view g.S.Source.left g.S.Source.gave g.S.Source.ended g.S.Source.faults) (disk_view g.D.Disk.stated g.D.Disk.content g.D.Disk.moment g.D.Disk.left_since g.D.Disk.faults) (keeper_view g.K.Keeper.kept g.K.Keeper.moment g.K.Keeper.left_since g.K.Keeper.faults) c.args.source.now c.call_script.new.source c.args.disk c.call_script.result.1 c.args.keeper c.call_script.result.2 in
    subst (λ command. IsOutcome command call c.call_script.result.0) (sym c.in-Callers.is) (callers_outcome call c.call_script.result.0 c.call_script.ensures)
