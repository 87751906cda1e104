use Rattle.std.proofs.Common.{subst}
use Rattle.bow_history.specs.SoundSessions.{IsSoundSession}
use Rattle.bow_session.specs.Sessions.{Run, plan_in, state_in}
use Rattle.bow_session.proofs.sessions.Session.geometry.Goals as goal

pub returns-clause-sound : goal.returns-clause-sound
returns-clause-sound g c = subst (λ (x : Run g.row.D.Denot). IsSoundSession (plan_in x) (state_in x)) c.self.view_is c.self.invariant.sound
