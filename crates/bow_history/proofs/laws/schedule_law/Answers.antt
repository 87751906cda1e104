use Rattle.bow_history.proofs.Chosen.{chosen_is_ready}
use Rattle.bow_history.proofs.laws.schedule_law.Goals as goal

pub returns : goal.returns
returns c = chosen_is_ready
