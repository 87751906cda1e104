use Rattle.bow_machine.proofs.Whole.{admit_stands}
use Rattle.bow_machine.proofs.laws.admit_law.Goals as goal

pub returns : goal.returns
returns c = admit_stands
