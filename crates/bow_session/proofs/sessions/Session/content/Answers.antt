use Rattle.std.proofs.Common.{sym, subst}
use Rattle.bow_units.specs.declared.sizes.Geometry.{Geometry}
use Rattle.bow_session.specs.Desks.{AreFit}
use Rattle.bow_session.specs.Requests.{plan_of, requests_in}
use Rattle.bow_session.proofs.sessions.Session.content.Goals as goal

pub content-requires-clause-fit : goal.content-requires-clause-fit
content-requires-clause-fit g c =
    let s = c.self.inside.desk in
    subst (λ (z : Geometry). AreFit (plan_of z s.script) (requests_in s.script) s.records.seats.items) (sym c.geometry-geometry.ensures.is) c.self.invariant.seats
