use Rattle.bow_history.proofs.Cutting.{cuts_are_on_the_way, cuts_are_ahead}
use Rattle.bow_history.proofs.laws.cuts_law.Goals as goal

pub returns-clause-stand : goal.returns-clause-stand
returns-clause-stand c = cuts_are_on_the_way

pub returns-clause-ahead : goal.returns-clause-ahead
returns-clause-ahead c = cuts_are_ahead
