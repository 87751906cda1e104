use Rattle.std.proofs.Common.{◌≡◌, ℕ, ◌<◌, ◌≤◌, length, get_or, drop}
use Rattle.bow_disk.specs.Picking.{last_number}
use Rattle.bow_disk.proofs.history.last_candidates.Given as goal

abbrev pub invariant-loop-write : goal.invariant-loop-write
invariant-loop-write l = record {
  long : length l.numbers.items ≡ l.blocks;
  small : (b : ℕ) → b < l.blocks → get_or l.numbers.items b 0 ≤ l.write;
  rest : (b : ℕ) → b < l.blocks → last_number b (get_or l.numbers.items b 0) (drop l.write l.marks) ≡ last_number b 0 l.marks;
}
