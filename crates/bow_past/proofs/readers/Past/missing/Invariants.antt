use Rattle.std.proofs.Common.{◌≡◌, ◌≤◌}
use Rattle.bow_past.specs.Readings.{kept_of, missing_below}
use Rattle.bow_past.proofs.readers.Past.missing.Given as goal

abbrev pub invariant-loop-left : goal.invariant-loop-left
invariant-loop-left l = (l.left ≤ l.present) × (missing_below (kept_of l.self) l.present ≡ missing_below (kept_of l.self) l.left)

abbrev pub decreases-loop-left : goal.decreases-loop-left
decreases-loop-left l = l.left
