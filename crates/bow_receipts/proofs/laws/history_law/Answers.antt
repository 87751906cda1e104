use Rattle.bow_receipts.proofs.Histories.{loaded_is_history, turns_keep_history, histories_are_legal, histories_go_in_order, histories_count_faults}
use Rattle.bow_receipts.proofs.laws.history_law.Goals as goal

pub returns-clause-loaded : goal.returns-clause-loaded
returns-clause-loaded c = loaded_is_history

pub returns-clause-turns : goal.returns-clause-turns
returns-clause-turns c = turns_keep_history

pub returns-clause-legal : goal.returns-clause-legal
returns-clause-legal c = histories_are_legal

pub returns-clause-order : goal.returns-clause-order
returns-clause-order c = histories_go_in_order

pub returns-clause-faults : goal.returns-clause-faults
returns-clause-faults c = histories_count_faults
