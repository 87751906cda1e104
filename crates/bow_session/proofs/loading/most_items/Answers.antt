use Rattle.std.proofs.Common.{◌+◌, ◌≤◌, arith}
use Rattle.bow_session.proofs.Loads.{few_items, lanes_below}
use Rattle.bow_session.specs.Loading.{lane_items}
use Rattle.bow_session.proofs.loading.most_items.Goals as goal

pub overflow_add-items : goal.overflow_add-items
overflow_add-items c =
    let below = lanes_below (lane_items c.args.script.now) c.loop-lane.lane (few_items c.args.script.now c.requires.limits) in
    let is = c.loop-lane.invariant in
    let few = c.items_in_lane-items.ensures.few in
    let lanes = c.requires.lanes in
    let inside = c.loop-lane-test.true in
    let sum : c.loop-lane.items + c.items_in_lane-items.result ≤ 2228224 = omega (arith, below, is, few, lanes, inside) in
    omega (arith, sum)
