use Rattle.std.proofs.Common.{IsTrue}
use Rattle.bow_play.specs.Committing.{HasCommitted}
use Rattle.bow_session.specs.Sessions.{plan_in}
use Rattle.bow_tool.specs.Outside.{keeper_view}
use Rattle.bow_tool.proofs.Beside.{told_beside}
use Rattle.bow_tool.proofs.Telling.{clears_for}
use Rattle.bow_tool.proofs.pasts.end_beside.Goals as goal

pub returns-clause-told : goal.returns-clause-told
returns-clause-told g c =
    let s = c.args.session in
    let has = c.has_committed.ensures in (
      c.clear_after-cleared.result,
      clears_for (keeper_view g.K.Keeper.kept g.K.Keeper.moment g.K.Keeper.left_since g.K.Keeper.faults) (IsTrue c.has_committed.result) (HasCommitted (plan_in s) s.journal) c.args.keeper c.clear_after-cleared.new.keeper c.clear_after-cleared.result
          has.0 has.1 c.clear_after-cleared.ensures,
      told_beside c.args.extent s c.args.past c.text_beside-text.result c.clear_after-cleared.result c.told.result c.text_beside-text.ensures c.told.ensures,
    )
