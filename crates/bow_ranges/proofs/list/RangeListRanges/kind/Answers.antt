use Rattle.std.proofs.Common.{arith}
use Rattle.bow_ranges.proofs.RunReads.{kept_size}
use Rattle.bow_ranges.proofs.list.RangeListRanges.kind.Goals as goal

pub overflow_cast-block : goal.overflow_cast-block
overflow_cast-block c = omega (arith, kept_size c.self.inside.runs.items c.args.self.now _ c.self.invariant c.self.view_is, c.self.invariant.few)

pub kind_in-requires-clause-inside : goal.kind_in-requires-clause-inside
kind_in-requires-clause-inside c = rw c.deref.ensures.value (omega (arith, kept_size c.self.inside.runs.items c.args.self.now _ c.self.invariant c.self.view_is))
