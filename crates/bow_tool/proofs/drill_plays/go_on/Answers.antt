use Rattle.std.proofs.Common.{◌∙◌, inl, inr, sym, ap, subst, refl, arith}
use Rattle.bow_session.specs.Sessions.{IsOver, Run, plan_in}
use Rattle.bow_session.proofs.Cutting.{plan_stays}
use Rattle.bow_tool.proofs.Drilling.{draws_none, drew_on, still_draws}
use Rattle.bow_tool.proofs.drill_plays.go_on.Goals as goal

pub loop-turns-init : goal.loop-turns-init
loop-turns-init g c = record {
  draws = λ first seed k. draws_none g.D.Disk.stated g.D.Disk.content g.D.Disk.moment g.D.Disk.left_since g.D.Disk.faults g.met.D.Disk.shaped g.met.D.Disk.only_now seed first c.args.session.now c.args.draws.now k;
  most = omega arith;
  script = refl;
  plan = refl;
}

pub loop-turns-preserved : goal.loop-turns-preserved
loop-turns-preserved g c =
    let turn = c.turn.ensures.turn c.if-turn.true in
    record {
      draws = λ first seed k. drew_on g.D.Disk.stated g.D.Disk.content g.D.Disk.moment g.D.Disk.left_since g.D.Disk.faults g.met.D.Disk.shaped g.met.D.Disk.only_now seed first k.turns c.loop-turns.turns c.loop-turns.session c.turn.new.self c.loop-turns.draws c.turn.new.draws (c.loop-turns.invariant.draws first seed k) turn.0 turn.1 turn.2 (c.turn.ensures.number c.if-turn.true);
      most = omega (arith, c.loop-turns-test.true);
      script = (turn.2).script ∙ c.loop-turns.invariant.script;
      plan = plan_stays g.D.Disk.stated g.D.Disk.content g.D.Disk.moment g.D.Disk.left_since g.D.Disk.faults c.loop-turns.session turn.0 c.turn.new.self turn.2 ∙ c.loop-turns.invariant.plan;
    }

pub returns-else-turn : goal.returns-else-turn
returns-else-turn g c =
    let still = c.turn.ensures.still c.if-turn.false in
    record {
      turns = λ first seed k. still_draws g.D.Disk.stated g.D.Disk.content g.D.Disk.moment g.D.Disk.left_since g.D.Disk.faults seed first k.turns c.loop-turns.turns c.loop-turns.session c.turn.new.self c.loop-turns.draws c.turn.new.draws still.0 still.1 (c.loop-turns.invariant.draws first seed k);
      enough = inr (c.loop-turns.invariant.most, subst (λ (s : Run g.row.D.Denot). IsOver s) (sym still.0) (c.turn.ensures.over.0 c.if-turn.false));
      script = ap (λ (s : Run g.row.D.Denot). s.script) still.0 ∙ c.loop-turns.invariant.script;
      plan = ap (λ (s : Run g.row.D.Denot). plan_in s) still.0 ∙ c.loop-turns.invariant.plan;
    }

pub returns-after-loop-turns : goal.returns-after-loop-turns
returns-after-loop-turns g c =
    record {
      turns = c.loop-turns.invariant.draws;
      enough = inl (omega (arith, c.loop-turns-test.false, c.loop-turns.invariant.most));
      script = c.loop-turns.invariant.script;
      plan = c.loop-turns.invariant.plan;
    }
