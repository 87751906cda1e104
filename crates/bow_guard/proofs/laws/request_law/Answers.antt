use Rattle.bow_guard.proofs.Proved.{loose_writes, loose_kinds, flush_keeps}
use Rattle.bow_guard.proofs.laws.request_law.Goals as goal

pub returns-clause-writes : goal.returns-clause-writes
returns-clause-writes c = loose_writes

pub returns-clause-kinds : goal.returns-clause-kinds
returns-clause-kinds c = loose_kinds

pub returns-clause-flush : goal.returns-clause-flush
returns-clause-flush c = flush_keeps
