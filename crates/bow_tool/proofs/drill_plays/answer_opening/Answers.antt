use Rattle.std.proofs.Common.{◌<◌, ◌∙◌, sym, ap, subst, refl}
use Rattle.bow_session.specs.Runs.{begun_over}
use Rattle.bow_session.specs.Sessions.{plan_in}
use Rattle.bow_session.specs.Sessions.{Run}
use Rattle.bow_tool.specs.Drills.{Waits}
use Rattle.bow_tool.proofs.Drilling.{still_waits, waited_on}
use Rattle.bow_tool.proofs.drill_plays.answer_opening.Goals as goal

pub loop-session-init : goal.loop-session-init
loop-session-init g c = (λ first seed k none. (k, subst (Waits (plan_in c.args.session.now) (begun_over first)) (sym none) tt), refl)

pub loop-session-preserved : goal.loop-session-preserved
loop-session-preserved g c =
    let turn = c.turn.ensures.turn c.if-turn.true in (
      λ first seed k none. (
          let before = c.loop-session.invariant.0 first seed k none in
          waited_on g.D.Disk.stated g.D.Disk.content g.D.Disk.moment g.D.Disk.left_since g.D.Disk.faults g.met.D.Disk.shaped g.met.D.Disk.only_now seed first c.loop-session.session c.turn.new.self c.loop-session.draws c.turn.new.draws before.0 before.1 turn.0 turn.1 turn.2 (c.turn.ensures.number c.if-turn.true) (subst (λ n. n < 2) c.answered.ensures c.loop-session-test.true)
          ),
      (turn.2).script ∙ c.loop-session.invariant.1,
    )

pub returns-else-turn-clause-turns : goal.returns-else-turn-clause-turns
returns-else-turn-clause-turns g c first seed k none =
    let still = c.turn.ensures.still c.if-turn.false in
    still_waits g.D.Disk.stated g.D.Disk.content g.D.Disk.moment g.D.Disk.left_since g.D.Disk.faults seed first c.loop-session.session c.turn.new.self c.loop-session.draws c.turn.new.draws still.0 still.1 (c.loop-session.invariant.0 first seed k none)

pub returns-else-turn-clause-script : goal.returns-else-turn-clause-script
returns-else-turn-clause-script g c = ap (λ (s : Run g.row.D.Denot). s.script) (c.turn.ensures.still c.if-turn.false).0 ∙ c.loop-session.invariant.1

pub returns-after-loop-session-clause-turns : goal.returns-after-loop-session-clause-turns
returns-after-loop-session-clause-turns g c = c.loop-session.invariant.0

pub returns-after-loop-session-clause-script : goal.returns-after-loop-session-clause-script
returns-after-loop-session-clause-script g c = c.loop-session.invariant.1
