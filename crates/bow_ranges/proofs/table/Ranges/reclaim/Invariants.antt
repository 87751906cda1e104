use Rattle.std.proofs.Common.{◌≡◌, ◌+◌, ◌-◌, ◌≤◌, length}
use Rattle.bow_ranges.specs.Kinds.{reclaimed}
use Rattle.bow_ranges.proofs.table.Ranges.reclaim.Given as goal

abbrev pub invariant-pieces : goal.invariant-pieces
invariant-pieces g l =
    let kinds = g.Self.Ranges.kinds in
    record {
      reclaimed : kinds l.self ≡ reclaimed (kinds l.fn.self) (record { first = l.fn.extent.first; count = l.at - l.fn.extent.first }) l.but;
      order : l.fn.extent.first ≤ l.at;
      place : l.at + l.left ≡ l.fn.extent.first + l.fn.extent.count;
      blocks : length (kinds l.self) ≡ length (kinds l.fn.self);
    }

abbrev pub decreases-pieces : goal.decreases-pieces
decreases-pieces g l = l.left
