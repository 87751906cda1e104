use Rattle.std.proofs.Common.{◌≡◌, ◌≤◌, ◌+◌}
use Rattle.bow_history.specs.Schedule.{first_ready}
use Rattle.bow_session.specs.Desks.{run_of}
use Rattle.bow_session.specs.Sessions.{plan_in, state_in}
use Rattle.bow_session.specs.Requests.{lanes_of}
use Rattle.bow_session.proofs.desks.Desk.turn.Given as goal

-- of those before the number none was ready, so nothing has changed
abbrev pub invariant-loop-left : goal.invariant-loop-left
invariant-loop-left g l = record {
  still : l.self ≡ l.initial.self;
  inside : l.number ≤ lanes_of l.initial.self.script + 1;
  first : first_ready (plan_in (run_of l.initial.self)) (state_in (run_of l.initial.self)) l.number l.left
      ≡ first_ready (plan_in (run_of l.initial.self)) (state_in (run_of l.initial.self)) l.initial.number (lanes_of l.initial.self.script + 2);
}

abbrev pub decreases-loop-left : goal.decreases-loop-left
decreases-loop-left g l = l.left
