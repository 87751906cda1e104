use Rattle.bow_machine.proofs.Cuts.{machine_cut}
use Rattle.bow_machine.proofs.laws.cut_law.Goals as goal

pub returns : goal.returns
returns c = machine_cut
