use Rattle.std.proofs.Common.{◌≡◌, ◌+◌, ◌≤◌, ◌++◌, All, length}
use Rattle.bow_status.specs.Rising.{IsFirstWatcher}
use Rattle.bow_shared.specs.Works.{MayBegin}
use Rattle.bow_shared.proofs.workers.add_lanes.Given as goal

abbrev pub invariant-loop-seat : goal.invariant-loop-seat
invariant-loop-seat g l = record {
  split : l.yielded ++ l.seat-iterator.rest.items ≡ l.fn.seats.items;
  few : length l.yielded + length l.seat-iterator.rest.items ≤ 16;
  many : length l.workers.items ≡ length l.yielded;
  may : All (MayBegin l.tags l.cell) l.workers.items;
  left : length l.watchers.items ≡ length l.seat-iterator.rest.items;
  fresh : All (IsFirstWatcher l.cell) l.watchers.items;
}
