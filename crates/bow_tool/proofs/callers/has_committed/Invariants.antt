use Rattle.std.proofs.Common.{◌≡◌, ◌<◌, ℕ}
use Rattle.std.specs.Prelude.{Some, slice_get}
use Rattle.bow_receipts.specs.declared.asks.Call.{Call}
use Rattle.bow_receipts.specs.Served.{entry_of}
use Rattle.bow_tool.specs.Callers.{IsCommitCall}
use Rattle.bow_tool.proofs.callers.has_committed.Given as goal

-- none of the calls so far
abbrev pub invariant-loop-call : goal.invariant-loop-call
invariant-loop-call l = (k : ℕ) (call : Call) → k < l.call-index → slice_get l.calls k ≡ Some call → IsCommitCall (entry_of call) → ⊥
