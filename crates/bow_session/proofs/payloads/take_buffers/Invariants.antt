use Rattle.std.proofs.Common.{◌≡◌, ◌*◌, ◌<◌, ℕ, length}
use Rattle.std.specs.Prelude.{slice_get}
use Rattle.bow_session.specs.Buffers.{IsThere}
use Rattle.bow_session.proofs.payloads.take_buffers.Given as goal

abbrev pub invariant-loop-count : goal.invariant-loop-count
invariant-loop-count l = (length l.buffers.items ≡ l.count)
    × ((n : ℕ) → n < l.count → IsThere (n * l.size) (slice_get l.buffers.items n))
