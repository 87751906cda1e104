use Rattle.bow_crc.proofs.Texts.{byte_tells}
use Rattle.bow_crc.proofs.laws.byte_law.Goals as goal

pub returns : goal.returns
returns c = λ front a b back are_front ha hb are_back other same. other (byte_tells front a b back are_front ha hb are_back same)
