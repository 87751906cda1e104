use Rattle.std.proofs.Common.{◌≡◌, ℕ, ◌<◌, ◌≤◌, Some}
use Rattle.std.specs.Prelude.{slice_get}
use Rattle.bow_session.specs.Sessions.{IsOver, Run}
use Rattle.bow_pair.proofs.playing.first_unfinished.Given as goal

abbrev pub invariant-loop-device : goal.invariant-loop-device
invariant-loop-device g l = (k : ℕ) (s : Run g.row.D.Denot) → l.from ≤ k → k < l.device → slice_get l.sessions k ≡ Some s → IsOver s
