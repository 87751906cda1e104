use Rattle.std.proofs.Common.{◌≡◌, ◌-◌, true, false, length, sym, ap, arith, rules, ◌∙◌, subst}
use Rattle.bow_history.specs.Ready.{is_actor_ready}
use Rattle.bow_history.specs.Schedule.{first_ready}
use Rattle.bow_session.specs.declared.desks.Desk.{Desk}
use Rattle.bow_session.specs.Desks.{run_of}
use Rattle.bow_session.specs.Sessions.{plan_in, state_in}
use Rattle.bow_session.proofs.Ending.{chosen_here, chosen_round, lanes_here, round_ready, search_on, steps_down, steps_drawn}
use Rattle.bow_session.proofs.desks.Desk.turn.Goals as goal

pub returns-then-attempt-clause-turn : goal.returns-then-attempt-clause-turn
returns-then-attempt-clause-turn g c =
    let s = c.args.self.now in
    let i = c.loop-left.invariant in
    let long : c.len-lanes.result ≡ length s.records.seats.items = search rules in
    let ready = subst (λ (x : Desk g.row.D.Denot g.row.R.Denot). is_actor_ready (plan_in (run_of x)) (state_in (run_of x)) c.actor_at.result ≡ true) i.still (sym c.attempt.ensures.ready ∙ c.if-attempt.true) in
    steps_drawn s c.requires.fits c.len-lanes.result long c.args.draws.now _ c.draw-number.result c.draw-number.ensures.number c.draw-number.ensures.value g.D.Disk.stated g.D.Disk.content g.D.Disk.moment g.D.Disk.left_since g.D.Disk.faults _ c.attempt.new.self i.still c.actor_at.result (c.attempt.ensures.turn c.if-attempt.true)
    (chosen_here s c.requires.fits c.len-lanes.result long c.draw-number.result c.loop-left.number c.loop-left.left i.first c.actor_at.result (c.actor_at.ensures (plan_in (run_of s)) (lanes_here s c.requires.fits c.len-lanes.result long)) c.loop-left-test.true ready)

pub returns-then-attempt-clause-fewer : goal.returns-then-attempt-clause-fewer
returns-then-attempt-clause-fewer g c =
    let s = c.args.self.now in
    let i = c.loop-left.invariant in
    let long : c.len-lanes.result ≡ length s.records.seats.items = search rules in
    steps_down s c.requires.fits c.len-lanes.result long c.args.draws.now _ c.draw-number.result c.draw-number.ensures.number c.draw-number.ensures.value g.D.Disk.stated g.D.Disk.content g.D.Disk.moment g.D.Disk.left_since g.D.Disk.faults _ c.attempt.new.self i.still c.actor_at.result (c.attempt.ensures.turn c.if-attempt.true)
    (subst (λ (x : Desk g.row.D.Denot g.row.R.Denot). is_actor_ready (plan_in (run_of x)) (state_in (run_of x)) c.actor_at.result ≡ true) i.still (sym c.attempt.ensures.ready ∙ c.if-attempt.true))

pub loop-left-preserved : goal.loop-left-preserved
loop-left-preserved g c =
    let s = c.args.self.now in
    let plan = plan_in (run_of s) in
    let i = c.loop-left.invariant in
    let long : c.len-lanes.result ≡ length s.records.seats.items = search rules in
    let lanes = lanes_here s c.requires.fits c.len-lanes.result long in
    let not_ready = subst (λ (x : Desk g.row.D.Denot g.row.R.Denot). is_actor_ready (plan_in (run_of x)) (state_in (run_of x)) c.actor_at.result ≡ false) i.still (sym c.attempt.ensures.ready ∙ c.if-attempt.false) in
    record {
      still = c.attempt.ensures.idle c.if-attempt.false ∙ i.still;
      inside = omega (arith, c.after_actor-number.ensures.inside, lanes);
      first = ap (λ k. first_ready plan (state_in (run_of s)) k (c.loop-left.left - 1)) (c.after_actor-number.ensures.next plan lanes)
          ∙ search_on s c.requires.fits c.len-lanes.result long c.draw-number.result c.loop-left.number c.loop-left.left i.first c.actor_at.result (c.actor_at.ensures plan lanes) c.loop-left-test.true not_ready;
    }

pub step-requires-clause-ready : goal.step-requires-clause-ready
step-requires-clause-ready g c =
    let s = c.args.self.now in
    let i = c.loop-left.invariant in
    let long : c.len-lanes.result ≡ length s.records.seats.items = search rules in
    let here = chosen_round s c.requires.fits c.len-lanes.result long c.draw-number.result c.loop-left.number c.loop-left.left i.first c.actor_at-2.result (c.actor_at-2.ensures (plan_in (run_of s)) (lanes_here s c.requires.fits c.len-lanes.result long)) c.loop-left-test.false in
    subst (λ (x : Desk g.row.D.Denot g.row.R.Denot). is_actor_ready (plan_in (run_of x)) (state_in (run_of x)) c.actor_at-2.result ≡ true) (sym i.still)
    (round_ready s c.requires.fits c.len-lanes.result long c.args.draws.now _ c.draw-number.result c.draw-number.ensures.number c.draw-number.ensures.value c.actor_at-2.result here c.requires.left)

pub returns-clause-turn : goal.returns-clause-turn
returns-clause-turn g c =
    let s = c.args.self.now in
    let i = c.loop-left.invariant in
    let long : c.len-lanes.result ≡ length s.records.seats.items = search rules in
    let here = chosen_round s c.requires.fits c.len-lanes.result long c.draw-number.result c.loop-left.number c.loop-left.left i.first c.actor_at-2.result (c.actor_at-2.ensures (plan_in (run_of s)) (lanes_here s c.requires.fits c.len-lanes.result long)) c.loop-left-test.false in
    steps_drawn s c.requires.fits c.len-lanes.result long c.args.draws.now _ c.draw-number.result c.draw-number.ensures.number c.draw-number.ensures.value g.D.Disk.stated g.D.Disk.content g.D.Disk.moment g.D.Disk.left_since g.D.Disk.faults _ c.step.new.self i.still c.actor_at-2.result c.step.ensures.turn here

pub returns-clause-fewer : goal.returns-clause-fewer
returns-clause-fewer g c =
    let s = c.args.self.now in
    let i = c.loop-left.invariant in
    let long : c.len-lanes.result ≡ length s.records.seats.items = search rules in
    let here = chosen_round s c.requires.fits c.len-lanes.result long c.draw-number.result c.loop-left.number c.loop-left.left i.first c.actor_at-2.result (c.actor_at-2.ensures (plan_in (run_of s)) (lanes_here s c.requires.fits c.len-lanes.result long)) c.loop-left-test.false in
    steps_down s c.requires.fits c.len-lanes.result long c.args.draws.now _ c.draw-number.result c.draw-number.ensures.number c.draw-number.ensures.value g.D.Disk.stated g.D.Disk.content g.D.Disk.moment g.D.Disk.left_since g.D.Disk.faults _ c.step.new.self i.still c.actor_at-2.result c.step.ensures.turn (round_ready s c.requires.fits c.len-lanes.result long c.args.draws.now _ c.draw-number.result c.draw-number.ensures.number c.draw-number.ensures.value c.actor_at-2.result here c.requires.left)
