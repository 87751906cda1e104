use Rattle.std.proofs.Common.{rules}
use Rattle.bow_units.proofs.Parts.{taken}
use Rattle.bow_units.proofs.memory_ends.copy_from.Goals as goal

pub returns-clause-moved : goal.returns-clause-moved
returns-clause-moved c = taken c.args.bytes.now c.args.into.now c.copy_from_slice.new.self c.args.at c.min-count.result c.requires (search rules) (search rules)
