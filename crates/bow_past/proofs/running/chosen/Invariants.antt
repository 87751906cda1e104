use Rattle.std.proofs.Common.{◌≡◌, ◌<◌, ◌+◌}
use Rattle.bow_session.specs.Sessions.{plan_in, state_in}
use Rattle.bow_past.specs.Beside.{first_ready_at}
use Rattle.bow_past.specs.Running.{first_from, is_reading, is_ready_at}
use Rattle.bow_past.proofs.running.chosen.Given as goal

abbrev pub invariant-loop-left : goal.invariant-loop-left
invariant-loop-left g l = (l.number < (plan_in l.session).lanes + 3)
    × (first_from (is_ready_at (plan_in l.session) (state_in l.session) (is_reading l.past l.session.core.memory.phase)) ((plan_in l.session).lanes + 3) l.number l.left
    ≡ first_ready_at l.past l.session l.drawn)

abbrev pub decreases-loop-left : goal.decreases-loop-left
decreases-loop-left g l = l.left
