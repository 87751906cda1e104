use Rattle.std.proofs.Common.{sym, ap, refl, ◌∙◌, subst, List, [], ◌∷◌}
use Rattle.std.specs.List.{list_all}
use Rattle.bow_history.specs.Sessions.{Turned}
use Rattle.bow_session.specs.declared.seats.Seat.{Seat}
use Rattle.bow_session.specs.Desks.{run_of}
use Rattle.bow_session.specs.Plays.{Plays}
use Rattle.bow_session.specs.Seats.{is_over}
use Rattle.bow_session.proofs.desks.Desk.finish.Goals as goal

pub turn-requires-clause-left : goal.turn-requires-clause-left
turn-requires-clause-left g c = ap (λ (xs : List Seat). list_all is_over xs) (sym c.deref.ensures.value) ∙ sym c.loop-draws-test.ensures

pub loop-draws-preserved : goal.loop-draws-preserved
loop-draws-preserved g c =
    let turn = c.turn.ensures.turn in (
      c.turn.ensures.fits,
      λ rest new p. c.loop-draws.invariant.1 (turn.0 ∷ rest) new (
        run_of c.turn.new.self,
        turn.1,
        turn.2,
        subst (λ x. Plays g.D.Disk.stated g.D.Disk.content g.D.Disk.moment g.D.Disk.left_since g.D.Disk.faults x (run_of c.turn.new.self) rest new) c.turn.ensures.number p,
      ),
    )

pub returns-clause-plays : goal.returns-clause-plays
returns-clause-plays g c =
    subst (λ n. (turns : List Turned) × Plays g.D.Disk.stated g.D.Disk.content g.D.Disk.moment g.D.Disk.left_since g.D.Disk.faults n (run_of c.args.self.now) turns (run_of c.loop-draws.self)) c.new-draws.ensures
    (c.loop-draws.invariant.1 [] (run_of c.loop-draws.self) refl)
