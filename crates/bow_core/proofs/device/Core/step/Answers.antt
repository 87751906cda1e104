-- Each clause follows from the step of what the device keeps, which is one of the device.
use Rattle.std.proofs.Common.{subst}
use Rattle.bow_core.specs.Steps.{IsStep}
use Rattle.bow_core.specs.Views.{View, view_of, IsOpened}
use Rattle.bow_core.proofs.GivenOut.{turn_opened}
use Rattle.bow_core.proofs.Leading.{step_cause, unready_idle, idle_unready, idle_same, one_call, step_leads, step_keeps_on, step_space, step_tied, step_refuses, failure_told}
use Rattle.bow_core.proofs.Forward.{step_flushes, step_forward}
use Rattle.bow_core.proofs.Stepped.{stepped}
use Rattle.bow_core.proofs.device.Core.step.Given.{Over}
use Rattle.bow_core.proofs.device.Core.step.Goals.{After-step_turn}
use Rattle.bow_core.proofs.device.Core.step.Goals as goal

module _ (g : Over) (c : After-step_turn g) where
  abbrev new : View g.row.D.Denot
  new = view_of c.step_turn.new.port.disk c.step_turn.new.state c.step_turn.new.port.calls

  step : IsStep g.D.Disk.stated g.D.Disk.content g.D.Disk.moment g.D.Disk.left_since g.D.Disk.faults c.args.self.now c.args.turn c.step_turn.result new
  step =
      let i = c.self.inside in
      subst (λ (v : View g.row.D.Denot). IsStep g.D.Disk.stated g.D.Disk.content g.D.Disk.moment g.D.Disk.left_since g.D.Disk.faults v c.args.turn c.step_turn.result new) c.self.view_is
      (stepped g.D.Disk.stated g.D.Disk.content g.D.Disk.moment g.D.Disk.left_since g.D.Disk.faults i.state c.step_turn.new.state c.args.turn c.step_turn.result i.port.disk c.step_turn.new.port.disk i.port.calls c.step_turn.new.port.calls c.step_turn.ensures.done c.step_turn.ensures.kept)

  opened : IsOpened g.D.Disk.stated c.args.self.now
  opened = subst (λ (v : View g.row.D.Denot). IsOpened g.D.Disk.stated v) c.self.view_is c.self.invariant

  still_opened : IsOpened g.D.Disk.stated new
  still_opened = turn_opened g.D.Disk.stated g.D.Disk.content g.D.Disk.moment g.D.Disk.left_since g.D.Disk.faults c.args.self.now c.args.turn c.step_turn.result new opened step

pub invariant_of-self : goal.invariant_of-self
invariant_of-self g c = still_opened g (goal.at.invariant_of-self g c).After-step_turn

pub returns-clause-step : goal.returns-clause-step
returns-clause-step g c = let k = (goal.at.returns-clause-step g c).After-step_turn in step g k

pub returns-clause-idle : goal.returns-clause-idle
returns-clause-idle g c = let k = (goal.at.returns-clause-idle g c).After-step_turn in (idle_unready g.D.Disk.stated g.D.Disk.content g.D.Disk.moment g.D.Disk.left_since g.D.Disk.faults c.args.self.now c.args.turn c.step_turn.result (new g k) (opened g k) (step g k), unready_idle g.D.Disk.stated g.D.Disk.content g.D.Disk.moment g.D.Disk.left_since g.D.Disk.faults c.args.self.now c.args.turn c.step_turn.result (new g k) (opened g k) (step g k))

pub returns-clause-still : goal.returns-clause-still
returns-clause-still g c = let k = (goal.at.returns-clause-still g c).After-step_turn in idle_same g.D.Disk.stated g.D.Disk.content g.D.Disk.moment g.D.Disk.left_since g.D.Disk.faults c.args.self.now c.args.turn c.step_turn.result (new g k) (opened g k) (step g k)

pub returns-clause-cause : goal.returns-clause-cause
returns-clause-cause g c = let k = (goal.at.returns-clause-cause g c).After-step_turn in step_cause g.D.Disk.stated g.D.Disk.content g.D.Disk.moment g.D.Disk.left_since g.D.Disk.faults c.args.self.now c.args.turn c.step_turn.result (new g k) (opened g k) (step g k)

pub returns-clause-calls : goal.returns-clause-calls
returns-clause-calls g c = let k = (goal.at.returns-clause-calls g c).After-step_turn in one_call g.D.Disk.stated g.D.Disk.content g.D.Disk.moment g.D.Disk.left_since g.D.Disk.faults c.args.self.now c.args.turn c.step_turn.result (new g k) (opened g k) (step g k)

pub returns-clause-space : goal.returns-clause-space
returns-clause-space g c = let k = (goal.at.returns-clause-space g c).After-step_turn in step_space g.D.Disk.stated g.D.Disk.content g.D.Disk.moment g.D.Disk.left_since g.D.Disk.faults c.args.self.now c.args.turn c.step_turn.result (new g k) (opened g k) (step g k)

pub returns-clause-tied : goal.returns-clause-tied
returns-clause-tied g c = let k = (goal.at.returns-clause-tied g c).After-step_turn in step_tied g.D.Disk.stated g.D.Disk.content g.D.Disk.moment g.D.Disk.left_since g.D.Disk.faults c.args.self.now c.args.turn c.step_turn.result (new g k) (opened g k) (step g k)

pub returns-clause-opened : goal.returns-clause-opened
returns-clause-opened g c = let k = (goal.at.returns-clause-opened g c).After-step_turn in still_opened g k

pub returns-clause-leads : goal.returns-clause-leads
returns-clause-leads g c = let k = (goal.at.returns-clause-leads g c).After-step_turn in step_leads g.D.Disk.stated g.D.Disk.content g.D.Disk.moment g.D.Disk.left_since g.D.Disk.faults c.args.self.now c.args.turn c.step_turn.result (new g k) (opened g k) (step g k) g.met.D.Disk.shaped

pub returns-clause-further : goal.returns-clause-further
returns-clause-further g c = let k = (goal.at.returns-clause-further g c).After-step_turn in step_keeps_on g.D.Disk.stated g.D.Disk.content g.D.Disk.moment g.D.Disk.left_since g.D.Disk.faults c.args.self.now c.args.turn c.step_turn.result (new g k) (opened g k) (step g k) g.met.D.Disk.shaped

pub returns-clause-failed : goal.returns-clause-failed
returns-clause-failed g c = let k = (goal.at.returns-clause-failed g c).After-step_turn in failure_told g.D.Disk.stated g.D.Disk.content g.D.Disk.moment g.D.Disk.left_since g.D.Disk.faults c.args.self.now c.args.turn c.step_turn.result (new g k) (opened g k)

pub returns-clause-flushed : goal.returns-clause-flushed
returns-clause-flushed g c = let k = (goal.at.returns-clause-flushed g c).After-step_turn in step_flushes g.D.Disk.stated g.D.Disk.content g.D.Disk.moment g.D.Disk.left_since g.D.Disk.faults c.args.self.now c.args.turn c.step_turn.result (new g k) (opened g k) (step g k) g.met.D.Disk.shaped

pub returns-clause-forward : goal.returns-clause-forward
returns-clause-forward g c = let k = (goal.at.returns-clause-forward g c).After-step_turn in step_forward g.D.Disk.stated g.D.Disk.content g.D.Disk.moment g.D.Disk.left_since g.D.Disk.faults c.args.self.now c.args.turn c.step_turn.result (new g k) (opened g k) (step g k) g.met.D.Disk.shaped

pub returns-clause-refused : goal.returns-clause-refused
returns-clause-refused g c = let k = (goal.at.returns-clause-refused g c).After-step_turn in step_refuses g.D.Disk.stated g.D.Disk.content g.D.Disk.moment g.D.Disk.left_since g.D.Disk.faults c.args.self.now c.args.turn c.step_turn.result (new g k) (opened g k) (step g k)
