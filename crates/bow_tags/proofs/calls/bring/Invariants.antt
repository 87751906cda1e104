use Rattle.std.proofs.Common.{◌≡◌, ◌<◌, ◌==◌}
use Rattle.bow_tags.specs.Seats.{IsTurn, with_empty, before}
use Rattle.bow_tags.specs.Rule.{times}
use Rattle.bow_tags.proofs.calls.bring.Given as goal

abbrev pub invariant-loop-seat : goal.invariant-loop-seat
invariant-loop-seat g l = record {
  table : l.seat.table_id ≡ l.initial.seat.table_id;
  id : l.seat.id ≡ l.initial.seat.id;
  me : l.seat.me ≡ (l.initial.seat.me.0, with_empty l.held.items);
  turned : IsTurn l.initial.held.items l.held.items;
  has : 0 < times (λ x. x == l.lane) l.held.items;
}

abbrev pub decreases-loop-seat : goal.decreases-loop-seat
decreases-loop-seat g l = before l.lane l.held.items
