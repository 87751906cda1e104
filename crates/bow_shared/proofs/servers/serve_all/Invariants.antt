use Rattle.std.proofs.Common.{◌≡◌}
use Rattle.bow_shared.specs.Hands.{InHand}
use Rattle.bow_shared.proofs.servers.serve_all.Given as goal

abbrev pub invariant-loop-i : goal.invariant-loop-i
invariant-loop-i g l = record {
  own : l.seat.table ≡ l.initial.seat.table;
  hand : InHand l.seat.view.jobs l.jobs.items;
}
