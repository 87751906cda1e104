use Rattle.std.proofs.Common.{◌≡◌}
use Rattle.bow_shared.proofs.lanes.pass.Given as goal

abbrev pub invariant-loop : goal.invariant-loop
invariant-loop g l = record {
  cell : l.watcher.cell ≡ l.initial.watcher.cell;
  can : (goal.iterator-loop g).can_next l.iterator' × (goal.iterator-loop g).is_finite l.iterator';
}
