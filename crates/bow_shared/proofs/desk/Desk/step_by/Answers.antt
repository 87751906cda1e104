use Rattle.std.proofs.Common.{ap, ◌∙◌}
use Rattle.bow_units.specs.declared.statuses.Seen.{Seen}
use Rattle.bow_units.specs.declared.statuses.Status.{Status}
use Rattle.bow_shared.proofs.Steps.{step_goes_on, step_is_counted}
use Rattle.bow_shared.proofs.desk.Desk.step_by.Goals as goal

pub invariant_of-self-2 : goal.invariant_of-self-2
invariant_of-self-2 g c =
    let d = g.D.Disk in
    let n = g.J.Naming in
    let p = c.publish_next-self-inside in
    let turn = (c.step.ensures.turn c.if-not-step.false).2 in (
      step_goes_on d.stated d.content d.moment d.left_since d.faults n.loaded n.script n.sizes c.self.inside.session c.step.new.self c.step.ensures.loaded turn.script turn.geometry c.self.invariant.0,
      step_is_counted d.stated d.content d.moment d.left_since d.faults n.begun c.self.inside.steps p.result c.self.inside.session c.step.new.self (λ first turns r. c.step.ensures.run first turns r c.if-not-step.false) p.ensures.next c.self.invariant.1,
      record {
        below = p.ensures.below;
        last = λ _ less. p.ensures.last less
            ∙ ap (λ (s : Status). let x : Seen = record { version = p.result; status = s } in x) c.status-status.ensures.is;
      },
      p.ensures.same ∙ c.self.invariant.3,
    )
