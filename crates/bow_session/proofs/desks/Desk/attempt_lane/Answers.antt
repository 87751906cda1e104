use Rattle.std.proofs.Common.{◌<◌, length, refl, ap, arith}
use Rattle.std.specs.Option.{option_map}
use Rattle.std.proofs.lemmas.Option.{slice_get_read}
use Rattle.bow_machine.specs.declared.turns.Turn.TheVariants.{Map}
use Rattle.bow_history.specs.declared.items.Actor.TheVariants.{Lane}
use Rattle.bow_session.proofs.Admitted.{hand_found}
use Rattle.bow_session.proofs.desks.Desk.attempt_lane.Goals as goal

pub attempt_turn-requires-clause-actor : goal.attempt_turn-requires-clause-actor
attempt_turn-requires-clause-actor g c =
    let s = c.args.self.now in
    let inside : c.args.lane < length s.records.seats.items = omega arith in
    let here = slice_get_read s.records.seats.items (length s.records.seats.items) c.args.lane c.index-seat.result.now refl inside c.index-seat.ensures in
    let hand = hand_found s.records.seats.items c.args.lane c.index-seat.result.now c.in-Some.hand here c.in-Some.is in
    (Lane c.args.lane, (omega (arith, inside, c.requires.fits.lanes), c.in-Some.hand.ticket, hand), ap (option_map Map) hand)

pub returns-in-Some-clause-turn : goal.returns-in-Some-clause-turn
returns-in-Some-clause-turn g c made =
    let s = c.args.self.now in
    let inside : c.args.lane < length s.records.seats.items = omega arith in
    let here = slice_get_read s.records.seats.items (length s.records.seats.items) c.args.lane c.index-seat.result.now refl inside c.index-seat.ensures in
    let hand = hand_found s.records.seats.items c.args.lane c.index-seat.result.now c.in-Some.hand here c.in-Some.is in
    c.attempt_turn.ensures.turn made (Lane c.args.lane) (omega (arith, inside, c.requires.fits.lanes), c.in-Some.hand.ticket, hand) (ap (option_map Map) hand)
