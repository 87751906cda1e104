use Rattle.std.proofs.Common.{◌≡◌, ◌<◌, ◌-◌}
use Rattle.bow_past.specs.Readings.{kept_of, past_logs}
use Rattle.bow_past.proofs.readers.Past.place.Given as goal

abbrev pub invariant-loop-sequence : goal.invariant-loop-sequence
invariant-loop-sequence l = record {
  on : l.place < l.self.geometry.blocks;
  so_far : l.place ≡ past_logs l.self.geometry (kept_of l.self) l.low (l.sequence - l.low) l.block;
}
