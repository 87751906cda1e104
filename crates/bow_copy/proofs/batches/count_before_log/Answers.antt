use Rattle.std.proofs.Common.{sym}
use Rattle.bow_copy.proofs.ActsInOrder.{length-before-copy}
use Rattle.bow_copy.proofs.batches.count_before_log.Goals as goal

pub returns-in-Copy-clause-count : goal.returns-in-Copy-clause-count
returns-in-Copy-clause-count c = rw c.in-Copy.is (sym (length-before-copy c.in-Copy.source c.in-Copy.dest c.in-Copy.count))
