use Rattle.std.proofs.Common.{◌≡◌}
use Rattle.bow_history.specs.Ends.{over_lanes}
use Rattle.bow_session.specs.Loading.{lane_items}
use Rattle.bow_session.proofs.loading.most_items.Given as goal

abbrev pub invariant-loop-lane : goal.invariant-loop-lane
invariant-loop-lane l = l.items ≡ over_lanes (lane_items l.script) l.lane
