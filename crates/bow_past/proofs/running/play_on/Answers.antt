use Rattle.std.proofs.Common.{◌<◌, ap, ◌∙◌, subst}
use Rattle.bow_history.specs.Ends.{turns_left}
use Rattle.bow_session.specs.Requests.{requests_in}
use Rattle.bow_session.specs.Sessions.{Run, plan_in, state_in}
use Rattle.bow_session.proofs.Ending.{fewer}
use Rattle.bow_past.proofs.Keeping.{beside_turned}
use Rattle.bow_past.proofs.running.play_on.Goals as goal

pub turns-smaller : goal.turns-smaller
turns-smaller g c =
    let v = c.next_actor.new.session in
    let steps = c.step.ensures.turn (c.step.ensures.ready ∙ c.in-Some.ensures.ready) in
    let less = fewer g.D.Disk.stated g.D.Disk.content g.D.Disk.moment g.D.Disk.left_since g.D.Disk.faults v c.in-Some.actor c.step.new.self c.geometry.ensures.sound c.in-Some.ensures.ready steps in
    subst (λ n. turns_left (plan_in c.step.new.self) (requests_in c.step.new.self.script) (state_in c.step.new.self) < n)
    (ap (λ (x : Run g.row.D.Denot). turns_left (plan_in x) (requests_in x.script) (state_in x)) c.in-Some.ensures.still) less

pub turns-preserved : goal.turns-preserved
turns-preserved g c =
    let v = c.next_actor.new.session in
    let w = c.step.new.self in
    let steps = c.step.ensures.turn (c.step.ensures.ready ∙ c.in-Some.ensures.ready) in
    let one = steps.2 in
    let still = c.in-Some.ensures.still in (
      beside_turned g.D.Disk.stated g.D.Disk.content g.D.Disk.moment g.D.Disk.left_since g.D.Disk.faults g.met.D.Disk.shaped c.next_actor.new.past v c.in-Some.actor w c.in-Some.ensures.beside c.geometry.ensures.sound steps,
      (one.script ∙ ap (λ (x : Run g.row.D.Denot). x.script) still ∙ c.turns.invariant.1.0, one.geometry ∙ ap (λ (x : Run g.row.D.Denot). x.core.geometry) still ∙ c.turns.invariant.1.1),
      λ m t end plays. let lead = c.in-Some.ensures.leads m t w end steps plays in c.turns.invariant.2 lead.0 t end lead.1,
    )
