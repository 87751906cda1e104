use Rattle.bow_guard.proofs.Proved.{held_together}
use Rattle.bow_guard.proofs.laws.together_law.Goals as goal

pub returns : goal.returns
returns c = held_together
