use Rattle.std.proofs.Common.{refl, sym, subst}
use Rattle.bow_tool.specs.Outside.{Call, call_of, disk_view, keeper_view, source_view}
use Rattle.bow_tool.specs.Check.{OnlyReads}
use Rattle.bow_tool.specs.Commands.{IsOutcome}
use Rattle.bow_tool.proofs.Telling.{check_came}
use Rattle.bow_tool.proofs.tools.obey.Goals as goal

pub returns-in-Check : goal.returns-in-Check
returns-in-Check g c =
    let outcome = c.outcome_of-in-Check.result in
    let call : Call = call_of (source_view g.S.Source.left g.S.Source.gave g.S.Source.ended g.S.Source.faults) (disk_view g.D.Disk.stated g.D.Disk.content g.D.Disk.moment g.D.Disk.left_since g.D.Disk.faults) (keeper_view g.K.Keeper.kept g.K.Keeper.moment g.K.Keeper.left_since g.K.Keeper.faults) c.args.source.now c.args.source.now c.args.disk c.check.new.disk c.args.keeper c.args.keeper in
    let reads : OnlyReads call = record { source = refl; keeper = refl; content = c.check.ensures.step; cuts = c.check.ensures.cuts } in
    subst (λ command. IsOutcome command call outcome) (sym c.in-Check.is) (check_came call c.check.result outcome reads c.check.ensures.text c.check.ensures.cause c.outcome_of-in-Check.ensures)
