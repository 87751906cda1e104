use Rattle.bow_copy.proofs.ActsInOrder.{fitting_copy}
use Rattle.bow_copy.proofs.batches.acts_of_fitting_blocks_law.Goals as goal

pub returns : goal.returns
returns c = fitting_copy
