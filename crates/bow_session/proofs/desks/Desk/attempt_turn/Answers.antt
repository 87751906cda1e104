use Rattle.std.proofs.Common.{◌++◌, refl, sym, ap, ◌∙◌, subst, rules}
use Rattle.bow_core.specs.Views.{View}
use Rattle.bow_history.specs.Promises.{more}
use Rattle.bow_session.specs.Desks.{Fits}
use Rattle.bow_session.specs.Records.{item_told}
use Rattle.bow_session.proofs.Turned.{is_of_lane, one_turn, fits_after}
use Rattle.bow_session.proofs.desks.Desk.attempt_turn.Goals as goal
use Rattle.bow_session.proofs.desks.Desk.attempt_turn.Goals.{in-Idle, in_default}

pub returns-then-matches-clause-fits : goal.returns-then-matches-clause-fits
returns-then-matches-clause-fits g c =
    let s = c.args.self.now in
    subst (λ (core : View g.row.D.Denot). Fits {D = g.row.D.Denot} {R = g.row.R.Denot} (record { core = core; script = s.script; records = s.records })) (sym (search (rules, c.step-told.ensures.still))) c.requires.fits

pub note-requires : goal.note-requires
note-requires g c =
    let a = c.requires.actor in
    record { told = is_of_lane g.D.Disk.stated g.D.Disk.content g.D.Disk.moment g.D.Disk.left_since g.D.Disk.faults c.args.self.now c.requires.fits c.args.turn c.step-told.result c.step-told.new.self c.step-told.ensures.step a.0 a.1 a.2 }

pub returns-clause-fits : goal.returns-clause-fits
returns-clause-fits g c =
    let a = c.requires.actor in
    let moments = c.note.ensures.moments ∙ ap (λ n. c.args.self.now.records.moments.items ++ more (item_told c.args.self.now.records.seats.items c.step-told.result) n) c.calls-calls.ensures in
    fits_after g.D.Disk.stated g.D.Disk.content g.D.Disk.moment g.D.Disk.left_since g.D.Disk.faults c.args.self.now c.requires.fits c.args.turn c.step-told.result c.step-told.new.self c.step-told.ensures.step a.0 a.1 a.2
    c.note.new.self c.note.ensures.journal moments c.note.ensures.seats c.note.ensures.room c.note.ensures.room_of_moments

pub returns-clause-turn : goal.returns-clause-turn
returns-clause-turn g c made actor is_actor is_turn =
    let moments = c.note.ensures.moments ∙ ap (λ n. c.args.self.now.records.moments.items ++ more (item_told c.args.self.now.records.seats.items c.step-told.result) n) c.calls-calls.ensures in (
      _,
      refl,
      one_turn g.D.Disk.stated g.D.Disk.content g.D.Disk.moment g.D.Disk.left_since g.D.Disk.faults c.args.self.now c.requires.fits c.args.turn c.step-told.result c.step-told.new.self c.step-told.ensures.step actor is_actor is_turn
          c.note.new.self c.note.ensures.journal moments c.note.ensures.seats,
    )
