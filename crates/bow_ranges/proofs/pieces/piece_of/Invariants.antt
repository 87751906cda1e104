use Rattle.std.proofs.Common.{◌≡◌, ℕ, ◌+◌, ◌<◌, ◌≤◌, false, take}
use Rattle.bow_ranges.proofs.KindLists.{held}
use Rattle.bow_ranges.proofs.pieces.piece_of.Given as goal

abbrev pub invariant-loop-other : goal.invariant-loop-other
invariant-loop-other l = record {
  some : 0 < l.count;
  most : l.count ≤ l.limit;
  none : (b : ℕ) → l.at ≤ b → b < l.at + l.count → held (take l.other-index l.but) b ≡ false;
}
