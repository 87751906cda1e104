use Rattle.std.proofs.Common.{◌≡◌, ◌<◌, ℕ, length, true}
use Rattle.std.specs.Prelude.{slice_index_or}
use Rattle.bow_receipts.specs.Passes.{Caller}
use Rattle.bow_receipts.proofs.callers.have_made.Given as goal

abbrev pub invariant-loop-pass : goal.invariant-loop-pass
invariant-loop-pass g l = record {
  all : l.all ≡ true → (i : ℕ) (d : Caller) → i < l.pass-index → (slice_index_or l.passes i d).made ≡ (slice_index_or l.passes i d).may;
  many : (i : ℕ) (d : Caller) → i < l.pass-index → length (slice_index_or l.passes i d).got ≡ (slice_index_or l.passes i d).made;
}
