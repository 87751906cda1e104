use Rattle.bow_ranges.proofs.PickLaws.{picked_is}
use Rattle.bow_ranges.proofs.laws.picked_law.Goals as goal

pub returns : goal.returns
returns c = picked_is
