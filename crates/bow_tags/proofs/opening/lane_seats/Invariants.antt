use Rattle.std.proofs.Common.{◌≡◌, [], length}
use Rattle.bow_tags.specs.Seats.{IsFirstLane, Numbered, first_view}
use Rattle.bow_tags.proofs.opening.lane_seats.Given as goal

abbrev pub invariant-loop-lane : goal.invariant-loop-lane
invariant-loop-lane g l = record {
  table : l.first.table_id ≡ l.initial.first.table_id;
  me : l.first.me ≡ (first_view l.fn.opening.lanes l.fn.opening.servers l.fn.opening.size l.lane 0, []);
  many : length l.seats.items ≡ l.lane;
  each : Numbered (IsFirstLane l.initial.first.table_id l.fn.opening.servers l.fn.opening.size) l.seats.items;
}
