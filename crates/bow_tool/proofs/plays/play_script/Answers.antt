use Rattle.bow_tool.specs.Outside.{Call, call_of, disk_view, keeper_view, source_view}
use Rattle.bow_tool.specs.Play.{WasPlayed}
use Rattle.bow_tool.proofs.Telling.{play_outcome, run_came}
use Rattle.bow_promise.proofs.Played.{plays_are_promised}
use Rattle.bow_promise.proofs.Spaced.{plays_find_no_space_truly}
use Rattle.bow_tool.proofs.plays.play_script.Goals as goal

pub returns : goal.returns
returns g c =
    let D = g.D.Disk in
    let s = c.in-Ok.session in
    let told = c.in-Ok.ensures in
    let end = c.end_session in
    let call : Call = call_of (source_view g.S.Source.left g.S.Source.gave g.S.Source.ended g.S.Source.faults) (disk_view g.D.Disk.stated g.D.Disk.content g.D.Disk.moment g.D.Disk.left_since g.D.Disk.faults) (keeper_view g.K.Keeper.kept g.K.Keeper.moment g.K.Keeper.left_since g.K.Keeper.faults) c.args.source.now c.play.new.source c.args.disk end.result.1 c.args.keeper end.result.2 in
    let was : WasPlayed c.args.number call s = (record { given = told.given; disk = end.ensures.disk; sizes = told.sizes; over = told.over; complete = told.complete; ran = (told.played).ran; faults = told.faults; plain = told.plain; leads = told.leads; ahead = told.ahead; space = plays_find_no_space_truly D.stated D.content D.moment D.left_since D.faults c.args.disk s told.sizes.1 (told.played).ran; promised = λ k is. plays_are_promised D.stated D.content D.moment D.left_since g.met.D.Disk.cuts_shaped g.met.D.Disk.counts_now c.args.disk k s (record { sizes = told.sizes.0; valid = told.sizes.1; plain = told.plain k is; leads = told.leads k is }) }, told.played) in
    play_outcome c.args.number call end.result.0 (run_came call (WasPlayed c.args.number call) s end.ensures.told.0 end.result.0 was end.ensures.told.1 end.ensures.told.2)
