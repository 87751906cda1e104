use Rattle.std.proofs.Common.{List}
use Rattle.bow_history.specs.Sessions.{Turned}
use Rattle.bow_history.specs.Ends.{turns_left}
use Rattle.bow_session.specs.Desks.{Fits, run_of}
use Rattle.bow_session.specs.Plays.{Plays}
use Rattle.bow_session.specs.Requests.{requests_in}
use Rattle.bow_session.specs.Sessions.{Run, plan_in, state_in}
use Rattle.bow_session.proofs.desks.Desk.finish.Given as goal

abbrev pub invariant-loop-draws : goal.invariant-loop-draws
invariant-loop-draws g l = Fits l.self
    × ((rest : List Turned) (new : Run g.row.D.Denot) → Plays g.D.Disk.stated g.D.Disk.content g.D.Disk.moment g.D.Disk.left_since g.D.Disk.faults l.draws (run_of l.self) rest new
    → (turns : List Turned) × Plays g.D.Disk.stated g.D.Disk.content g.D.Disk.moment g.D.Disk.left_since g.D.Disk.faults l.initial.draws (run_of l.initial.self) turns new)

abbrev pub decreases-loop-draws : goal.decreases-loop-draws
decreases-loop-draws g l = turns_left (plan_in (run_of l.self)) (requests_in l.self.script) (state_in (run_of l.self))
