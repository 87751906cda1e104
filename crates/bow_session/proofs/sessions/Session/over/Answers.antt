use Rattle.std.proofs.Common.{◌≡◌, ◌<◌, ◌+◌, List, true, ap, sym, ◌∙◌, subst}
use Rattle.std.specs.List.{list_all}
use Rattle.bow_history.specs.SoundSessions.{IsSoundSession}
use Rattle.bow_session.specs.declared.seats.Seat.{Seat}
use Rattle.bow_session.specs.Seats.{is_over}
use Rattle.bow_session.specs.Sessions.{IsOver, Run, plan_in, state_in}
use Rattle.bow_session.proofs.Cutting.{over_is_complete, sound_is_idle}
use Rattle.bow_history.specs.Ready.{is_actor_ready}
use Rattle.bow_history.specs.Schedule.{chosen}
use Rattle.bow_session.proofs.Ending.{chosen_ready}
use Rattle.bow_session.proofs.Leading.{kept_agrees}
use Rattle.bow_session.proofs.Over.{is_over_then, then_over}
use Rattle.bow_session.proofs.sessions.Session.over.Goals as goal

pub returns-clause-over : goal.returns-clause-over
returns-clause-over g c =
    let s = c.self.inside.desk in
    let is = c.are_over.ensures ∙ ap (λ (xs : List Seat). list_all is_over xs) c.deref.ensures.value in
    (λ t. subst IsOver c.self.view_is (is_over_then s c.self.invariant (sym is ∙ t)), λ o. is ∙ then_over s c.self.invariant (subst IsOver (sym c.self.view_is) o))

pub returns-clause-ready : goal.returns-clause-ready
returns-clause-ready g c t k below =
    let s = c.self.inside.desk in
    let is = c.are_over.ensures ∙ ap (λ (xs : List Seat). list_all is_over xs) c.deref.ensures.value in
    subst (λ (v : Run g.row.D.Denot). k < (plan_in v).lanes + 2 → is_actor_ready (plan_in v) (state_in v) (chosen (plan_in v) (state_in v) k) ≡ true) c.self.view_is
    (λ low. chosen_ready s c.self.invariant k low (sym is ∙ t)) below

pub returns-clause-idle : goal.returns-clause-idle
returns-clause-idle g c t =
    let v = c.args.self.now in
    sound_is_idle v (subst (λ (x : Run g.row.D.Denot). IsSoundSession (plan_in x) (state_in x)) c.self.view_is c.self.invariant.sound) ((returns-clause-over g c).0 t)

pub returns-clause-buffers : goal.returns-clause-buffers
returns-clause-buffers g c t =
    let v = c.args.self.now in
    kept_agrees v (subst (λ (x : Run g.row.D.Denot). IsSoundSession (plan_in x) (state_in x)) c.self.view_is c.self.invariant.sound) ((returns-clause-over g c).0 t)

pub returns-clause-complete : goal.returns-clause-complete
returns-clause-complete g c first k t =
    over_is_complete g.D.Disk.stated g.D.Disk.content g.D.Disk.faults first k.turns c.args.self.now k.run ((returns-clause-over g c).0 t) k.sound k.idle
