use Rattle.bow_guard.proofs.Proved.{writes_to_free, prepare_arms, first_log_given, reads_arming, prepare_ends}
use Rattle.bow_guard.proofs.laws.prepare_law.Goals as goal

pub returns-clause-copies : goal.returns-clause-copies
returns-clause-copies c = writes_to_free

pub returns-clause-arms : goal.returns-clause-arms
returns-clause-arms c = prepare_arms

pub returns-clause-first_log : goal.returns-clause-first_log
returns-clause-first_log c = first_log_given

pub returns-clause-reads : goal.returns-clause-reads
returns-clause-reads c = reads_arming

pub returns-clause-ends : goal.returns-clause-ends
returns-clause-ends c = prepare_ends
