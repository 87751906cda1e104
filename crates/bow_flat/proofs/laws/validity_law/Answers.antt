use Rattle.bow_flat.proofs.Valid.{stays_valid, opening_valid}
use Rattle.bow_flat.proofs.laws.validity_law.Goals as goal

pub returns-clause-events : goal.returns-clause-events
returns-clause-events c = stays_valid

pub returns-clause-opening : goal.returns-clause-opening
returns-clause-opening c = opening_valid
