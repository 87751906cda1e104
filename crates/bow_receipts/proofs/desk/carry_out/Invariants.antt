use Rattle.std.proofs.Common.{◌≡◌}
use Rattle.bow_receipts.proofs.desk.carry_out.Given as goal

abbrev pub invariant-loop : goal.invariant-loop
invariant-loop g l = record {
  own : l.seat.table ≡ l.initial.seat.table;
  size : l.seat.view.size ≡ l.initial.seat.view.size;
  lanes : l.seat.view.lanes ≡ l.initial.seat.view.lanes;
  got : l.seat.view.got ≡ l.initial.seat.view.got;
  can : (goal.iterator-loop g).can_next l.iterator' × (goal.iterator-loop g).is_finite l.iterator';
}
