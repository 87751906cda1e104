use Rattle.std.proofs.Common.{◌≡◌, ℕ, []}
use Rattle.bow_core.specs.Views.{View}
use Rattle.bow_session.specs.Requests.{requests_in}
use Rattle.bow_session.specs.Runs.{begun_over}
use Rattle.bow_session.specs.Sessions.{plan_in, state_in}
use Rattle.bow_history.specs.Ends.{turns_left}
use Rattle.bow_tool.specs.Outside.{disk_view}
use Rattle.bow_tool.specs.Drills.{IsDrawn, Waits}
use Rattle.bow_tool.proofs.drill_plays.answer_opening.Given as goal

abbrev pub invariant-loop-session : goal.invariant-loop-session
invariant-loop-session g l =
    let v = disk_view g.D.Disk.stated g.D.Disk.content g.D.Disk.moment g.D.Disk.left_since g.D.Disk.faults in
    ((first : View g.row.D.Denot) (seed : ℕ) → (k : IsDrawn v seed first l.fn.session l.fn.draws) → k.turns ≡ [] → (j : IsDrawn v seed first l.session l.draws) × Waits (plan_in l.session) (begun_over first) j.turns)
    × (l.session.script ≡ l.fn.session.script)

abbrev pub decreases-loop-session : goal.decreases-loop-session
decreases-loop-session g l = turns_left (plan_in l.session) (requests_in l.session.script) (state_in l.session)
