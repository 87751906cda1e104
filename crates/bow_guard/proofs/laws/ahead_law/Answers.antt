use Rattle.bow_guard.proofs.Proved.{cuts_are_ahead}
use Rattle.bow_guard.proofs.laws.ahead_law.Goals as goal

pub returns : goal.returns
returns c = cuts_are_ahead
