use Rattle.std.proofs.Common.{◌≡◌}
use Rattle.bow_tags.proofs.tests.run_server.Given as goal

abbrev pub invariant-loop : goal.invariant-loop
invariant-loop g l = record {
  own : l.seat.table ≡ l.initial.seat.table;
  can : (goal.iterator-loop g).can_next l.iterator' × (goal.iterator-loop g).is_finite l.iterator';
}
