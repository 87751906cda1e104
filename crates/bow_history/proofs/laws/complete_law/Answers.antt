use Rattle.bow_history.proofs.SoundTurns.{runs_go_in_order, over_is_empty, runs_are_complete}
use Rattle.bow_history.proofs.laws.complete_law.Goals as goal

pub returns-clause-order : goal.returns-clause-order
returns-clause-order c = runs_go_in_order

pub returns-clause-empty : goal.returns-clause-empty
returns-clause-empty c = over_is_empty

pub returns-clause-complete : goal.returns-clause-complete
returns-clause-complete c = runs_are_complete
