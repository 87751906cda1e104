use Rattle.std.proofs.Common.{ℕ, ◌<◌}
use Rattle.std.specs.Prelude.{◌≡◌, Some, slice_get}
use Rattle.bow_history.specs.declared.items.Item.{Item}
use Rattle.bow_session.specs.Sessions.{plan_in}
use Rattle.bow_play.specs.Committing.{IsCommitDone}
use Rattle.bow_play.proofs.commits.has_committed.Given as goal

-- none of the items so far
abbrev pub invariant-loop-item : goal.invariant-loop-item
invariant-loop-item g l = (k : ℕ) (item : Item) → k < l.item-index → slice_get l.item-items k ≡ Some item → IsCommitDone (plan_in l.session) item → ⊥
