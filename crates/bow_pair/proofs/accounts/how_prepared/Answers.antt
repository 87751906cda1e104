use Rattle.std.proofs.Common.{refl}
use Rattle.bow_pair.proofs.accounts.how_prepared.Goals as goal

pub returns-in-None : goal.returns-in-None
returns-in-None c = c.in-None.ensures.none refl
