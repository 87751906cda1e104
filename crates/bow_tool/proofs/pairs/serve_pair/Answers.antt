use Rattle.bow_tool.specs.Outside.{disk_view, keeper_view, source_view}
use Rattle.bow_tool.specs.PairCalls.{PairCall, pair_call_of}
use Rattle.bow_tool.proofs.PairTelling.{pair_outcome_told}
use Rattle.bow_tool.proofs.pairs.serve_pair.Goals as goal

pub returns : goal.returns
returns g c =
    let call : PairCall = pair_call_of (source_view g.S.Source.left g.S.Source.gave g.S.Source.ended g.S.Source.faults) (disk_view g.D.Disk.stated g.D.Disk.content g.D.Disk.moment g.D.Disk.left_since g.D.Disk.faults) (keeper_view g.K.Keeper.kept g.K.Keeper.moment g.K.Keeper.left_since g.K.Keeper.faults) c.args.source.now c.obey_pair-outcome.new.source c.args.disks.items c.obey_pair-outcome.result.1.items c.args.keeper c.obey_pair-outcome.result.2 in
    pair_outcome_told c.fault_law.ensures.not_sound c.args.command call c.obey_pair-outcome.result.0 _ _ _ _ _ c.obey_pair-outcome.ensures c.put_outcome-status.ensures
