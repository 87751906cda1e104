use Rattle.std.proofs.Common.{refl, arith}
use Rattle.bow_log.proofs.tests.the_first_log_byte_by_byte.Goals as goal

pub first-log-requires : goal.first-log-requires
first-log-requires g c = record { device = record { size = refl; enough = omega arith; few = omega arith }; block_size = refl; some = omega arith; few = omega arith; sector0 = refl; entries = refl }
