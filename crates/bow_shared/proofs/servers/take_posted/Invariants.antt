use Rattle.std.proofs.Common.{◌≡◌}
use Rattle.bow_shared.specs.Hands.{InHand}
use Rattle.bow_shared.proofs.servers.take_posted.Given as goal

abbrev pub invariant-loop-lane : goal.invariant-loop-lane
invariant-loop-lane l = record {
  own : l.seat.table ≡ l.initial.seat.table;
  hand : InHand l.seat.view.jobs l.jobs.items;
}
