use Rattle.bow_guard.proofs.Proved.{commit_decides, decides_again, flushes_deciding, reads_deciding, commit_ends}
use Rattle.bow_guard.proofs.laws.commit_law.Goals as goal

pub returns-clause-decides : goal.returns-clause-decides
returns-clause-decides c = commit_decides

pub returns-clause-again : goal.returns-clause-again
returns-clause-again c = decides_again

pub returns-clause-flush : goal.returns-clause-flush
returns-clause-flush c = flushes_deciding

pub returns-clause-reads : goal.returns-clause-reads
returns-clause-reads c = reads_deciding

pub returns-clause-ends : goal.returns-clause-ends
returns-clause-ends c = commit_ends
