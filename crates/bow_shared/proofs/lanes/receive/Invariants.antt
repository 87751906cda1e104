use Rattle.std.proofs.Common.{◌≡◌}
use Rattle.bow_tags.specs.declared.view.Stance.TheVariants.{Posted}
use Rattle.bow_tags.specs.Steps.{lane_of}
use Rattle.bow_shared.proofs.lanes.receive.Given as goal

abbrev pub invariant-loop : goal.invariant-loop
invariant-loop g l = record {
  own : l.seat.table ≡ l.initial.seat.table;
  posted : (lane_of l.seat.view).stance ≡ Posted;
  number : (lane_of l.seat.view).number ≡ (lane_of l.initial.seat.view).number;
  can : (goal.iterator-loop g).can_next l.iterator' × (goal.iterator-loop g).is_finite l.iterator';
}
