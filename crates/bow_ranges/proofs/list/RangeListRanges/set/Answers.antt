use Rattle.std.proofs.Common.{arith}
use Rattle.bow_ranges.proofs.RunReads.{kept_size}
use Rattle.bow_ranges.proofs.list.RangeListRanges.set.Goals as goal

pub overflow_add-end : goal.overflow_add-end
overflow_add-end c = omega (arith, kept_size c.self.inside.runs.items c.args.self.now _ c.self.invariant c.self.view_is, c.self.invariant.few)

pub overflow_cast-extent : goal.overflow_cast-extent
overflow_cast-extent c = omega (arith, kept_size c.self.inside.runs.items c.args.self.now _ c.self.invariant c.self.view_is, c.self.invariant.few)

pub overflow_cast-end : goal.overflow_cast-end
overflow_cast-end c = omega (arith, kept_size c.self.inside.runs.items c.args.self.now _ c.self.invariant c.self.view_is, c.self.invariant.few)

pub put-requires-clause-inside : goal.put-requires-clause-inside
put-requires-clause-inside c = omega (arith, kept_size c.self.inside.runs.items c.args.self.now _ c.self.invariant c.self.view_is)
