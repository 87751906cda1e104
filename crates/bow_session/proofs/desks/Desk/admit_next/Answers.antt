use Rattle.std.proofs.Common.{◌≡◌, ◌∙◌, length, refl, sym, ap, rules, Some}
use Rattle.std.specs.Prelude.{slice_get}
use Rattle.std.specs.Vec.{with_item}
use Rattle.bow_session.specs.declared.seats.Hand.{Hand}
use Rattle.bow_session.specs.declared.seats.Seat.{Seat}
use Rattle.bow_session.specs.declared.records.Records.{Records}
use Rattle.bow_session.specs.Requests.{lane_lines}
use Rattle.bow_session.proofs.Entering.{entered, has_place, is_whole, never_empty, own_buffer, own_buffers}
use Rattle.bow_session.proofs.Loads.{line_fits}
use Rattle.bow_history.specs.declared.items.Actor.TheVariants.{Lane as LaneActor}
use Rattle.bow_session.specs.declared.desks.Desk.{Desk}
use Rattle.bow_session.specs.Desks.{Fits, run_of}
use Rattle.bow_session.specs.Turns.{StepsBy}
use Rattle.bow_session.proofs.desks.Desk.admit_next.Given.{Over}
use Rattle.bow_session.proofs.desks.Desk.admit_next.Goals.{After-admit-ticket}
use Rattle.bow_session.proofs.desks.Desk.admit_next.Goals as goal

pub returns-in_default-pop_front-clause-fits : goal.returns-in_default-pop_front-clause-fits
returns-in_default-pop_front-clause-fits g c =
    let s = c.args.self.now in
    let none : length c.index_mut-seat.result.now.pending.items ≡ 0 = search (rules, c.in_default-pop_front.ensures.cases.0) in
    absurd (never_empty s c.requires.fits c.args.lane c.requires.ready c.requires.free c.index_mut-seat.result.now c.index_mut-seat.ensures.value none)

pub returns-in_default-pop_front-clause-turn : goal.returns-in_default-pop_front-clause-turn
returns-in_default-pop_front-clause-turn g c =
    let s = c.args.self.now in
    let none : length c.index_mut-seat.result.now.pending.items ≡ 0 = search (rules, c.in_default-pop_front.ensures.cases.0) in
    absurd (never_empty s c.requires.fits c.args.lane c.requires.ready c.requires.free c.index_mut-seat.result.now c.index_mut-seat.ensures.value none)

pub request-requires-clause-numbers : goal.request-requires-clause-numbers
request-requires-clause-numbers g c =
    let s = c.args.self.now in
    let seat = c.index_mut-seat.result.now in
    let line = c.in-Some.line.now in
    let found : Some line ≡ slice_get (lane_lines s.script c.args.lane) (length seat.answered.items) = c.in-Some.ensures ∙ ap (slice_get (lane_lines s.script c.args.lane)) c.len.ensures in
    line_fits s.script c.args.lane (length seat.answered.items) line c.requires.fits.numbers (sym found)

pub request-requires-clause-own : goal.request-requires-clause-own
request-requires-clause-own g c =
    let s = c.args.self.now in
    own_buffer s c.requires.fits c.args.lane c.requires.ready c.requires.free c.index_mut-seat.result.now c.index_mut-seat.ensures.value _ c.geometry-geometry.ensures.is c.in-Some.line.now _ c.in-Some.ensures c.len.ensures c.in-Some-pop_front.asked c.pop_front.new.self.items (c.in-Some-pop_front.ensures).items

pub request-requires-clause-buffers : goal.request-requires-clause-buffers
request-requires-clause-buffers g c =
    let s = c.args.self.now in
    own_buffers s c.requires.fits c.args.lane c.requires.ready c.requires.free c.index_mut-seat.result.now c.index_mut-seat.ensures.value _ c.geometry-geometry.ensures.is

pub admit-ticket-requires-clause-place : goal.admit-ticket-requires-clause-place
admit-ticket-requires-clause-place g c =
    let s = c.args.self.now in
    has_place s c.requires.fits c.args.lane c.requires.ready c.requires.free c.index_mut-seat.result.now c.index_mut-seat.ensures.value

pub admit-ticket-requires-clause-whole : goal.admit-ticket-requires-clause-whole
admit-ticket-requires-clause-whole g c =
    let s = c.args.self.now in
    is_whole s c.requires.fits c.args.lane c.requires.ready c.requires.free c.index_mut-seat.result.now c.index_mut-seat.ensures.value _ c.geometry-geometry.ensures.is c.in-Some.line.now _ c.in-Some.ensures c.len.ensures c.in-Some-pop_front.asked c.pop_front.new.self.items (c.in-Some-pop_front.ensures).items
    c.in-Some-request.op c.in-Some-request.ensures.is

module _ (g : Over) (c : After-admit-ticket g) where
  abbrev hand : Hand
  hand = record { ticket = c.admit-ticket.result; section = c.in-Some-pop_front.asked.section; first = c.first_block-first.result; lent = c.lent_blocks-lent.result }

  abbrev new : Seat
  new = record { pending = c.pop_front.new.self; hand = Some hand; answered = c.index_mut-seat.result.now.answered; buffers = c.request.new.buffers }

  abbrev rec : Records
  rec = record { seats = with_item c.args.self.now.records.seats c.args.lane new; journal = c.args.self.now.records.journal; moments = c.args.self.now.records.moments }

  -- the desk that is left
  abbrev desk : Desk g.row.D.Denot g.row.R.Denot
  desk = record { core = c.admit-ticket.new.self; script = c.args.self.now.script; records = rec }

  done : Fits desk × StepsBy g.D.Disk.stated g.D.Disk.content g.D.Disk.moment g.D.Disk.left_since g.D.Disk.faults (run_of c.args.self.now) (LaneActor c.args.lane) (run_of desk)
  done =
      entered c.args.self.now c.requires.fits c.args.lane c.requires.ready c.requires.free c.index_mut-seat.result.now c.index_mut-seat.ensures.value _ c.geometry-geometry.ensures.is c.in-Some.line.now _ c.in-Some.ensures c.len.ensures c.in-Some-pop_front.asked c.pop_front.new.self.items (c.in-Some-pop_front.ensures).items
      c.in-Some-request.op c.in-Some-request.ensures.is c.admit-ticket.result c.admit-ticket.ensures.serial new hand refl refl refl c.first_block-first.ensures c.lent_blocks-lent.ensures refl refl c.in-Some-request.ensures.buffers rec refl refl refl _ c.admit-ticket.ensures.waits
      g.D.Disk.stated g.D.Disk.content g.D.Disk.moment g.D.Disk.left_since g.D.Disk.faults

pub returns-clause-fits : goal.returns-clause-fits
returns-clause-fits g c = (done g (goal.at.returns-clause-fits g c).After-admit-ticket).0

pub returns-clause-turn : goal.returns-clause-turn
returns-clause-turn g c = (done g (goal.at.returns-clause-turn g c).After-admit-ticket).1
