use Rattle.std.proofs.Common.{sym, subst}
use Rattle.bow_session.specs.Desks.{run_of}
use Rattle.bow_session.specs.Runs.{IsRun}
use Rattle.bow_session.specs.Sessions.{Run}
use Rattle.bow_session.specs.Leads.{WasLoaded}
use Rattle.bow_session.proofs.Cutting.{goes_on}
use Rattle.bow_session.proofs.Leading.{loaded_on}
use Rattle.bow_session.proofs.sessions.Session.step.Goals as goal

pub returns-then-ready-clause-run : goal.returns-then-ready-clause-run
returns-then-ready-clause-run g c first turns k is =
    let turn = c.step.ensures.turn in
    let before = subst (λ (v : Run g.row.D.Denot). IsRun g.D.Disk.stated g.D.Disk.content g.D.Disk.faults first turns v) (sym c.self.view_is) k in
    (turn.0, rw (sym c.self.view_is) (goes_on g.D.Disk.stated g.D.Disk.content g.D.Disk.moment g.D.Disk.left_since g.D.Disk.faults g.met.D.Disk.shaped g.met.D.Disk.only_now first turns (run_of c.self.inside.desk) turn.0 (run_of c.step.new.self) before turn.2))

pub returns-then-ready-clause-loaded : goal.returns-then-ready-clause-loaded
returns-then-ready-clause-loaded g c first k =
    let turn = c.step.ensures.turn in
    let before = subst (λ (v : Run g.row.D.Denot). WasLoaded g.D.Disk.stated g.D.Disk.content g.D.Disk.moment g.D.Disk.left_since g.D.Disk.faults first v) (sym c.self.view_is) k in
    loaded_on g.D.Disk.stated g.D.Disk.content g.D.Disk.moment g.D.Disk.left_since g.D.Disk.faults g.met.D.Disk.shaped g.met.D.Disk.only_now first (run_of c.self.inside.desk) turn.0 (run_of c.step.new.self) before turn.2
