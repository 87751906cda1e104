use Rattle.bow_crc.proofs.Blocks.{cuts_joined}
use Rattle.bow_crc.proofs.laws.cut_law.Goals as goal

pub returns : goal.returns
returns c = cuts_joined
