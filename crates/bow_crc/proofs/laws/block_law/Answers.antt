use Rattle.bow_crc.proofs.Blocks.{sum_tells}
use Rattle.bow_crc.proofs.laws.block_law.Goals as goal

pub returns : goal.returns
returns c = λ number before after front a b back are_front ha hb are_back other same. other (sum_tells number before after front a b back are_front ha hb are_back same)
