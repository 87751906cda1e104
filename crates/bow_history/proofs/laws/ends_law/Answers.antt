use Rattle.bow_history.proofs.Ending.{turns_go_down, items_go_down}
use Rattle.bow_history.proofs.laws.ends_law.Goals as goal

pub returns-clause-turns : goal.returns-clause-turns
returns-clause-turns c = turns_go_down

pub returns-clause-items : goal.returns-clause-items
returns-clause-items c = items_go_down
