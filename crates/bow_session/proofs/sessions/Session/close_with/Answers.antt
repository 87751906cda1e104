use Rattle.std.proofs.Common.{◌+◌, ◌≤◌, arith, rules, sym, subst}
use Rattle.bow_units.specs.declared.sizes.Geometry.{Geometry}
use Rattle.bow_history.specs.Prepared.{IsPrepared}
use Rattle.bow_session.specs.Desks.{AreFit, run_of}
use Rattle.bow_session.specs.Leads.{WasLoaded, requests_of, taken_by}
use Rattle.bow_session.proofs.Anew.{may_begin_anew}
use Rattle.bow_session.specs.Requests.{lanes_of, plan_of, requests_in}
use Rattle.bow_session.specs.Sessions.{IsOver, Run, plan_in, state_in}
use Rattle.bow_session.proofs.Cutting.{sound_is_idle}
use Rattle.bow_session.proofs.Taking.{taken_few}
use Rattle.bow_session.proofs.sessions.Session.close_with.Goals as goal

pub returns-clause-idle : goal.returns-clause-idle
returns-clause-idle g c over =
    let s = c.self.inside.desk in
    sound_is_idle (run_of s) c.self.invariant.sound (subst IsOver (sym c.self.view_is) over)

pub returns-clause-admitted : goal.returns-clause-admitted
returns-clause-admitted g c first k =
    let s = c.self.inside.desk in
    let low = subst (λ (v : Run g.row.D.Denot). v.core.admitted ≤ first.admitted + taken_by (state_in v) (lanes_of v.script)) (sym c.self.view_is) k.admitted in
    let few = taken_few s c.self.invariant in
    subst (λ (v : Run g.row.D.Denot). s.core.admitted ≤ first.admitted + requests_of v.script) c.self.view_is (omega (arith, low, few))

pub returns-clause-anew : goal.returns-clause-anew
returns-clause-anew g c first k over prepared =
    let s = c.self.inside.desk in
    let own : IsOver (run_of s) = subst IsOver (sym c.self.view_is) over in
    let idle = sound_is_idle (run_of s) c.self.invariant.sound own in
    may_begin_anew g.D.Disk.stated g.D.Disk.content g.D.Disk.moment g.D.Disk.left_since g.D.Disk.faults first (run_of s) (subst (λ (v : Run g.row.D.Denot). WasLoaded g.D.Disk.stated g.D.Disk.content g.D.Disk.moment g.D.Disk.left_since g.D.Disk.faults first v) (sym c.self.view_is) k) idle
    (λ at. subst (λ (v : Run g.row.D.Denot). IsPrepared (plan_in v) v.journal) (sym c.self.view_is) (prepared at))

pub invariant_of-part : goal.invariant_of-part
invariant_of-part g c =
    let s = c.self.inside.desk in
    record {
      valid = search rules;
      seats = subst (λ (z : Geometry). AreFit (plan_of z s.script) (requests_in s.script) s.records.seats.items) (sym c.geometry-geometry.ensures.is) c.self.invariant.seats;
    }
