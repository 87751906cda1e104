use Rattle.std.proofs.Common.{max, arith}
use Rattle.std.proofs.lemmas.Bool.Decides.{nat_tests}
use Rattle.bow_queue.proofs.extents.overlap_law.Goals as goal

-- where they overlap, the later first block is covered by both
pub returns : goal.returns
returns c one other = (
  λ overlapping. (max one.first other.first, grind (arith, nat_tests), grind (arith, nat_tests)),
  λ shared. grind (arith, nat_tests, shared.1, shared.2),
)
