use Rattle.std.proofs.Common.{◌≡◌}
use Rattle.bow_tags.specs.declared.view.Stance.TheVariants.{Idle}
use Rattle.bow_tags.specs.Steps.{lane_of}
use Rattle.bow_shared.proofs.lanes.run_lane.Given as goal

abbrev pub invariant-loop-number : goal.invariant-loop-number
invariant-loop-number g l = record {
  cell : l.watcher.cell ≡ l.initial.watcher.cell;
  own : l.seat.table ≡ l.initial.seat.table;
  idle : (lane_of l.seat.view).stance ≡ Idle;
  next : (lane_of l.seat.view).number ≡ l.number;
}
