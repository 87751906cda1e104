use Rattle.bow_crc.proofs.Texts.{register_append}
use Rattle.bow_crc.proofs.laws.register_law.Goals as goal

pub returns : goal.returns
returns c = register_append
