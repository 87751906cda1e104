use Rattle.bow_session.proofs.Lent.{fits_beside}
use Rattle.bow_session.proofs.sessions.Session.raw.Goals as goal

pub invariant_of-self : goal.invariant_of-self
invariant_of-self g c = fits_beside c.self.inside.desk c.self.invariant c.raw.new.self c.raw.ensures.kept
