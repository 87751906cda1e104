use Rattle.bow_disk.proofs.Settling.{cut_settled, settled_cut}
use Rattle.bow_disk.proofs.device.settled_law.Goals as goal

pub returns : goal.returns
returns c = λ image content settled cut. (cut_settled image content settled cut, settled_cut image content settled cut)
