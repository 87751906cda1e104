use Rattle.std.proofs.Common.{List, sym, ap, ◌∙◌, subst, refl}
use Rattle.std.specs.List.{list_all}
use Rattle.std.proofs.lemmas.Bool.{false≢true}
use Rattle.bow_session.specs.declared.seats.Seat.{Seat}
use Rattle.bow_session.specs.Desks.{run_of}
use Rattle.bow_session.specs.Leads.{WasLoaded}
use Rattle.bow_session.specs.Seats.{is_over}
use Rattle.bow_session.specs.Sessions.{IsOver, Run}
use Rattle.bow_session.proofs.Leading.{loaded_on}
use Rattle.bow_session.proofs.Over.{is_over_then, then_over}
use Rattle.bow_session.proofs.sessions.Session.turn.Goals as goal

pub returns-then-are_over-clause-over : goal.returns-then-are_over-clause-over
returns-then-are_over-clause-over g c =
    let s = c.self.inside.desk in
    let is = c.are_over.ensures ∙ ap (λ (xs : List Seat). list_all is_over xs) c.deref.ensures.value in
    (λ t. subst IsOver c.self.view_is (is_over_then s c.self.invariant (sym is ∙ c.if-are_over.true)), λ over. refl)

pub turn-requires-clause-left : goal.turn-requires-clause-left
turn-requires-clause-left g c =
    let is = c.are_over.ensures ∙ ap (λ (xs : List Seat). list_all is_over xs) c.deref.ensures.value in
    sym is ∙ c.if-are_over.false

pub returns-clause-over : goal.returns-clause-over
returns-clause-over g c =
    let s = c.self.inside.desk in
    let is = c.are_over.ensures ∙ ap (λ (xs : List Seat). list_all is_over xs) c.deref.ensures.value in
    (λ t. absurd (false≢true (sym t)), λ over. absurd (false≢true (sym (sym is ∙ c.if-are_over.false) ∙ then_over s c.self.invariant (subst IsOver (sym c.self.view_is) over))))

pub returns-clause-turn : goal.returns-clause-turn
returns-clause-turn g c t = rw (sym c.self.view_is) c.turn.ensures.turn

pub returns-clause-loaded : goal.returns-clause-loaded
returns-clause-loaded g c first k =
    let turn = c.turn.ensures.turn in
    let before = subst (λ (v : Run g.row.D.Denot). WasLoaded g.D.Disk.stated g.D.Disk.content g.D.Disk.moment g.D.Disk.left_since g.D.Disk.faults first v) (sym c.self.view_is) k in
    loaded_on g.D.Disk.stated g.D.Disk.content g.D.Disk.moment g.D.Disk.left_since g.D.Disk.faults g.met.D.Disk.shaped g.met.D.Disk.only_now first (run_of c.self.inside.desk) turn.0 (run_of c.turn.new.self) before turn.2
