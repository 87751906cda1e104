use Rattle.std.proofs.Common.{length, arith, ap}
use Rattle.bow_session.proofs.sessions.Session.moment.Goals as goal

pub bounds-as_slice-item : goal.bounds-as_slice-item
bounds-as_slice-item g c =
    let shown = ap (λ v. length v.journal) c.self.view_is in
    let whole = ap length c.as_slice.ensures in
    omega (arith, shown, whole, c.self.invariant.paired, c.requires)
