use Rattle.std.proofs.Common.{◌≡◌, ℕ, ◌+◌, List, length}
use Rattle.bow_script.specs.declared.scripts.Line.{Line}
use Rattle.bow_session.specs.Loading.{AreFirst, AreThere}
use Rattle.bow_session.specs.Requests.{plan_of}
use Rattle.bow_session.proofs.loading.add_requests.Given as goal

abbrev pub invariant-loop-line : goal.invariant-loop-line
invariant-loop-line l = (length l.pending.items ≡ length l.initial.pending.items + l.line-index)
    × ((script : List (List (List Line))) (lane : ℕ) → AreThere script lane (length l.initial.pending.items) l.section l.lines
    → AreFirst (plan_of l.geometry script) lane l.initial.pending.items → AreFirst (plan_of l.geometry script) lane l.pending.items)
