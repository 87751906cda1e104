use Rattle.std.proofs.Common.{arith}
use Rattle.bow_tool.specs.Outside.{disk_view, keeper_view, source_view}
use Rattle.bow_tool.specs.PairCalls.{PairCall, pair_call_of}
use Rattle.bow_tool.specs.PairPlays.{WereJoined}
use Rattle.bow_tool.proofs.PairKeeping.{Laws}
use Rattle.bow_tool.proofs.PairPlaying.{joined_came}
use Rattle.bow_tool.proofs.pair_plays.play_pair.Goals as goal

pub returns-in-Ok-join_up : goal.returns-in-Ok-join_up
returns-in-Ok-join_up g c =
    let call : PairCall = pair_call_of (source_view g.S.Source.left g.S.Source.gave g.S.Source.ended g.S.Source.faults) (disk_view g.D.Disk.stated g.D.Disk.content g.D.Disk.moment g.D.Disk.left_since g.D.Disk.faults) (keeper_view g.K.Keeper.kept g.K.Keeper.moment g.K.Keeper.left_since g.K.Keeper.faults) c.args.source.now c.pair_script.new.source c.args.disks.items c.play_joined.result.1.items c.args.keeper c.play_joined.result.2 in
    let j : WereJoined call = record {
      script = c.in-Ok.script;
      given = c.in-Ok.ensures.given;
      dealt = c.in-Ok.ensures.dealt;
      read = c.keeps_nothing.new.keeper;
      only_read = c.keeps_nothing.ensures.read;
      nothing = c.in_default.ensures.nothing;
      opened = c.in-Ok-join_up.pair.cores;
      over = c.in-Ok-join_up.ensures.opened;
    } in
    let at_once = c.pair_sessions_law.ensures in
    let in_the_end = c.pair_runs_law.ensures in
    let laws : Laws call.views = record {
      complete = at_once.complete;
      legal = at_once.legal;
      faults = at_once.faults;
      prepares = at_once.prepares;
      prepared = in_the_end.prepared;
      ran = in_the_end.ran;
      decided = in_the_end.decided;
    } in
    joined_came call laws j c.len-count.result (let long = c.len-count.ensures in let whole = c.args.disks.ok in omega (arith, long, whole)) c.play_joined.result.0 c.play_joined.ensures
