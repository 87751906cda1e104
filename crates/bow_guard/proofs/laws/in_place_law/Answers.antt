use Rattle.bow_guard.proofs.Proved.{writes_in_place, reads_in_place, flushes_in_place, discards_in_place}
use Rattle.bow_guard.proofs.laws.in_place_law.Goals as goal

pub returns-clause-writes : goal.returns-clause-writes
returns-clause-writes c = writes_in_place

pub returns-clause-flush : goal.returns-clause-flush
returns-clause-flush c = flushes_in_place

pub returns-clause-discards : goal.returns-clause-discards
returns-clause-discards c = discards_in_place

pub returns-clause-reads : goal.returns-clause-reads
returns-clause-reads c = reads_in_place
