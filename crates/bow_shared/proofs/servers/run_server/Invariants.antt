use Rattle.std.proofs.Common.{◌≡◌}
use Rattle.bow_shared.specs.Hands.{InHand}
use Rattle.bow_shared.proofs.servers.run_server.Given as goal

abbrev pub invariant-loop : goal.invariant-loop
invariant-loop g l = record {
  own : l.seat.table ≡ l.initial.seat.table;
  hand : InHand l.seat.view.jobs l.jobs.items;
  can : (goal.iterator-loop g).can_next l.iterator' × (goal.iterator-loop g).is_finite l.iterator';
}
