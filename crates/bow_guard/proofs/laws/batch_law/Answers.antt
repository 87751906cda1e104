use Rattle.bow_guard.proofs.Proved.{copies_logged, link_is_logged, move_is_logged, log_rewritten, last_flush}
use Rattle.bow_guard.proofs.laws.batch_law.Goals as goal

pub returns-clause-copies : goal.returns-clause-copies
returns-clause-copies c = copies_logged

pub returns-clause-link : goal.returns-clause-link
returns-clause-link c = link_is_logged

pub returns-clause-moves : goal.returns-clause-moves
returns-clause-moves c = move_is_logged

pub returns-clause-rewrites : goal.returns-clause-rewrites
returns-clause-rewrites c = log_rewritten

pub returns-clause-last_flush : goal.returns-clause-last_flush
returns-clause-last_flush c = last_flush
