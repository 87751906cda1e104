use Rattle.bow_machine.proofs.Whole.{opening_stands}
use Rattle.bow_machine.proofs.laws.opening_law.Goals as goal

pub returns : goal.returns
returns c = opening_stands
