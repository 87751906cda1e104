use Rattle.std.proofs.Common.{◌≡◌, ◌+◌, ◌<◌, arith, sym, ap, ◌∙◌}
use Rattle.bow_history.specs.Ready.{is_actor_ready}
use Rattle.bow_session.specs.Requests.{lanes_of}
use Rattle.bow_session.specs.Sessions.{plan_in, state_in}
use Rattle.bow_past.specs.Running.{is_reading}
use Rattle.bow_past.proofs.Choosing.{session_at}
use Rattle.bow_past.proofs.running.is_ready.Goals as goal

pub returns : goal.returns
returns g c =
    let s = c.args.session.now in
    let lanes : lanes_of s.script ≡ c.lanes-lanes.result = sym c.lanes-lanes.ensures.is in
    let inside = c.requires.inside in
    let other = c.if-number-lanes.false in
    let below : c.args.number < lanes_of s.script + 2 = grind (arith, inside, other, lanes) in
    c.ready.ensures ∙ ap (is_actor_ready (plan_in s) (state_in s)) (c.actor_at.ensures (plan_in s) lanes)
    ∙ sym (session_at (plan_in s) (state_in s) (is_reading c.args.past.now s.core.memory.phase) c.args.number below)
