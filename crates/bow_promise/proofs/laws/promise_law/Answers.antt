use Rattle.bow_promise.proofs.Fulfilled.{cuts_are_promised}
use Rattle.bow_promise.proofs.Promised.{cuts_end_well, checkpoints_stay, commits_stay}
use Rattle.bow_promise.proofs.Rerunning.{boots_are_reruns}
use Rattle.bow_promise.proofs.laws.promise_law.Goals as goal

pub returns-clause-promised : goal.returns-clause-promised
returns-clause-promised c = cuts_are_promised

pub returns-clause-ends : goal.returns-clause-ends
returns-clause-ends c = cuts_end_well

pub returns-clause-checkpoint : goal.returns-clause-checkpoint
returns-clause-checkpoint c = checkpoints_stay

pub returns-clause-committed : goal.returns-clause-committed
returns-clause-committed c = commits_stay

pub returns-clause-boots : goal.returns-clause-boots
returns-clause-boots c = boots_are_reruns
