use Rattle.bow_words.specs.Words.{Asks}
use Rattle.bow_tool.specs.Commands.{meaning_in}
use Rattle.bow_tool.specs.Outside.{AllLeft, Call, call_of, disk_view, keeper_view, source_view}
use Rattle.bow_tool.proofs.Telling.{words_told}
use Rattle.bow_tool.proofs.tools.tool.Goals as goal

pub returns-in-Ok : goal.returns-in-Ok
returns-in-Ok g c =
    let call : Call = call_of (source_view g.S.Source.left g.S.Source.gave g.S.Source.ended g.S.Source.faults) (disk_view g.D.Disk.stated g.D.Disk.content g.D.Disk.moment g.D.Disk.left_since g.D.Disk.faults) (keeper_view g.K.Keeper.kept g.K.Keeper.moment g.K.Keeper.left_since g.K.Keeper.faults) c.args.source.now c.serve.new.source c.args.disk c.serve.result.disk c.args.keeper c.serve.result.keeper in
    words_told (Asks c.args.words.now) (AllLeft call) (meaning_in call) (c.words_law.ensures.one c.args.words.now) c.in-Ok.command _ _ _ _ _ c.in-Ok.ensures.ok c.serve.ensures
