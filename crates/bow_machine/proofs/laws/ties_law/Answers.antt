use Rattle.bow_machine.proofs.SoundTies.{saved_is_next, touched_is_left, covered_stays_touched, logs_go_on, arming_is_untouched, checkpoint_follows}
use Rattle.bow_machine.proofs.LogStays.{log_stays}
use Rattle.bow_machine.proofs.laws.ties_law.Goals as goal

pub returns-clause-saved : goal.returns-clause-saved
returns-clause-saved c = saved_is_next

pub returns-clause-touched : goal.returns-clause-touched
returns-clause-touched c = touched_is_left

pub returns-clause-logs : goal.returns-clause-logs
returns-clause-logs c = logs_go_on

pub returns-clause-arming : goal.returns-clause-arming
returns-clause-arming c = arming_is_untouched

pub returns-clause-covered : goal.returns-clause-covered
returns-clause-covered c = covered_stays_touched

pub returns-clause-phases : goal.returns-clause-phases
returns-clause-phases c = checkpoint_follows

pub returns-clause-log : goal.returns-clause-log
returns-clause-log c = log_stays
