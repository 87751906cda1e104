use Rattle.std.proofs.Common.{arith}
use Rattle.std.specs.Prelude.{length}
use Rattle.bow_tool.specs.Outside.{disk_view, keeper_view, source_view}
use Rattle.bow_tool.specs.PairCalls.{NoneTouched, PairCall, pair_call_of}
use Rattle.bow_tool.specs.PairCommands.{AsksPairOn, pair_meaning}
use Rattle.bow_tool.proofs.Telling.{no_words_told, words_told}
use Rattle.bow_tool.proofs.pairs.pair_tool.Goals as goal

pub returns-in-Ok : goal.returns-in-Ok
returns-in-Ok g c =
    let call : PairCall = pair_call_of (source_view g.S.Source.left g.S.Source.gave g.S.Source.ended g.S.Source.faults) (disk_view g.D.Disk.stated g.D.Disk.content g.D.Disk.moment g.D.Disk.left_since g.D.Disk.faults) (keeper_view g.K.Keeper.kept g.K.Keeper.moment g.K.Keeper.left_since g.K.Keeper.faults) c.args.source.now c.serve_pair.new.source c.args.disks.items c.serve_pair.result.disks.items c.args.keeper c.serve_pair.result.keeper in
    words_told (AsksPairOn (length c.args.disks.items) c.args.words.now) (NoneTouched call) (pair_meaning call) (λ a b x y. c.pair_words_law.ensures.one c.args.words.now a b x.0 y.0) c.in-Ok.command _ _ _ _ _ (c.in-Ok.ensures.ok.0, (let many = c.in-Ok.ensures.ok.1 in let long = c.len.ensures in let whole = c.args.disks.ok in omega (arith, many, long, whole))) c.serve_pair.ensures
