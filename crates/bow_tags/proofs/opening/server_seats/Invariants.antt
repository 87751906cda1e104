use Rattle.std.proofs.Common.{◌≡◌, [], length}
use Rattle.bow_tags.specs.Seats.{IsFirstServer, Numbered, first_view}
use Rattle.bow_tags.proofs.opening.server_seats.Given as goal

abbrev pub invariant-loop-server : goal.invariant-loop-server
invariant-loop-server g l = record {
  table : l.first.table_id ≡ l.initial.first.table_id;
  me : l.first.me ≡ (first_view l.fn.opening.lanes l.fn.opening.servers l.fn.opening.size l.fn.opening.lanes l._server, []);
  many : length l.seats.items ≡ l._server;
  each : Numbered (IsFirstServer l.initial.first.table_id l.fn.opening.servers l.fn.opening.size) l.seats.items;
}
