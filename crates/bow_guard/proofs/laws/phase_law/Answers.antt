use Rattle.bow_guard.proofs.Proved.{cuts_stand}
use Rattle.bow_guard.proofs.laws.phase_law.Goals as goal

pub returns : goal.returns
returns c = cuts_stand
