use Rattle.std.proofs.Common.{IsTrue}
use Rattle.bow_play.specs.Committing.{HasCommitted}
use Rattle.bow_session.specs.Sessions.{plan_in}
use Rattle.bow_tool.specs.Outside.{keeper_view}
use Rattle.bow_tool.specs.Play.{transcript_of}
use Rattle.bow_tool.proofs.Telling.{clears_for, told_of}
use Rattle.bow_tool.proofs.plays.end_session.Goals as goal

pub returns-clause-told : goal.returns-clause-told
returns-clause-told g c =
    let s = c.args.session in
    let has = c.has_committed.ensures in (
      c.clear_after-cleared.result,
      clears_for (keeper_view g.K.Keeper.kept g.K.Keeper.moment g.K.Keeper.left_since g.K.Keeper.faults) (IsTrue c.has_committed.result) (HasCommitted (plan_in s) s.journal) c.args.keeper c.clear_after-cleared.new.keeper c.clear_after-cleared.result
          has.0 has.1 c.clear_after-cleared.ensures,
      told_of (transcript_of s) c.transcript-text.result c.clear_after-cleared.result c.told.result c.transcript-text.ensures c.told.ensures,
    )
