use Rattle.bow_machine.proofs.Consequences.{none_is_picked}
use Rattle.bow_machine.proofs.laws.picks_law.Goals as goal

pub returns : goal.returns
returns c = none_is_picked
