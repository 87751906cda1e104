use Rattle.std.proofs.Common.{ℕ, ◌≡◌, ◌≤◌, ◌<◌, ◌+◌, ◌⊎◌, length}
use Rattle.bow_restore.specs.Dests.{is_noted}
use Rattle.bow_restore.proofs.dests.set_notes.Given as goal

abbrev pub invariant-loop-offset : goal.invariant-loop-offset
invariant-loop-offset l = record {
  long : length l.dests ≡ length l.initial.dests;
  inside : (x : ℕ) → l.first ≤ x → x < l.first + l.offset → is_noted l.dests x ≡ l.noted;
  outside : (x : ℕ) → (x < l.first) ⊎ (l.first + l.offset ≤ x) → is_noted l.dests x ≡ is_noted l.initial.dests x;
}
