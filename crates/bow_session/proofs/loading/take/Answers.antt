use Rattle.std.proofs.Common.{arith}
use Rattle.bow_session.proofs.Loads.{few_lanes}
use Rattle.bow_session.proofs.loading.take.Goals as goal

pub most_items-items-requires-clause-lanes : goal.most_items-items-requires-clause-lanes
most_items-items-requires-clause-lanes c = let few = few_lanes c.args.script.now c.requires.limits in let is = c.lanes_of-lanes.ensures in omega (arith, few, is)
