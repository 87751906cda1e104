use Rattle.std.proofs.Common.{◌≡◌, ◌<◌, ◌++◌, All, length}
use Rattle.bow_shared.specs.Works.{MayBegin}
use Rattle.bow_shared.proofs.workers.add_servers.Given as goal

abbrev pub invariant-loop-seat : goal.invariant-loop-seat
invariant-loop-seat l = record {
  split : l.yielded ++ l.seat-iterator.rest.items ≡ l.fn.seats.items;
  some : 0 < length l.workers.items;
  may : All (MayBegin l.tags l.cell) l.workers.items;
}
