use Rattle.bow_history.proofs.Prepared.{prepared_is_untouched}
use Rattle.bow_history.proofs.laws.prepared_law.Goals as goal

pub returns : goal.returns
returns c = prepared_is_untouched
