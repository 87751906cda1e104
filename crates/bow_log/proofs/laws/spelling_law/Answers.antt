use Rattle.bow_log.proofs.Clean.{valid_spelling}
use Rattle.bow_log.proofs.laws.spelling_law.Goals as goal

pub returns : goal.returns
returns c = valid_spelling
