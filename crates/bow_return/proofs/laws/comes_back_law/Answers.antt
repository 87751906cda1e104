use Rattle.bow_return.proofs.Back.{held_from_the_checkpoint, held_from_any_cut, boots_bring_back}
use Rattle.bow_return.proofs.laws.comes_back_law.Goals as goal

pub returns : goal.returns
returns c = record { image = held_from_the_checkpoint; machine = held_from_any_cut; boots = boots_bring_back }
