use Rattle.bow_guard.proofs.Joined.{crashes_are_cuts, writes_are_given, writes_are_put, flushes_are_done}
use Rattle.bow_guard.proofs.laws.disk_law.Goals as goal

pub returns-clause-crashes : goal.returns-clause-crashes
returns-clause-crashes c = crashes_are_cuts

pub returns-clause-writes : goal.returns-clause-writes
returns-clause-writes c = writes_are_given

pub returns-clause-put : goal.returns-clause-put
returns-clause-put c = writes_are_put

pub returns-clause-flush : goal.returns-clause-flush
returns-clause-flush c = flushes_are_done
