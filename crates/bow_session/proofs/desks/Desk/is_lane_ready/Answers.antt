use Rattle.std.proofs.Common.{◌<◌, length, refl, sym, ap, arith, Some, None, List, ◌∙◌}
use Rattle.std.specs.List.{list_all}
use Rattle.std.proofs.lemmas.Option.{slice_get_read}
use Rattle.bow_session.specs.declared.seats.Seat.{Seat}
use Rattle.bow_session.specs.Desks.{run_of}
use Rattle.bow_session.specs.Requests.{requests_in}
use Rattle.bow_session.specs.Seats.{is_from_there}
use Rattle.bow_session.specs.Sessions.{plan_in}
use Rattle.bow_session.proofs.Admitted.{free_ready}
use Rattle.bow_session.proofs.desks.Desk.is_lane_ready.Goals as goal

pub returns-in-Some-section : goal.returns-in-Some-section
returns-in-Some-section g c =
    let s = c.args.self.now in
    let k = c.requires.fits in
    let seat = c.index-seat.result.now in
    let inside : c.args.lane < length s.records.seats.items = omega arith in
    let here = slice_get_read s.records.seats.items (length s.records.seats.items) c.args.lane seat refl inside c.index-seat.ensures in
    c.is_from.ensures ∙ ap (λ (xs : List Seat). list_all (is_from_there c.in-Some-section.section) xs) c.deref.ensures.value
    ∙ sym (free_ready (plan_in (run_of s)) (requests_in s.script) s.core.memory s.core.admitted s.records.seats.items c.args.lane seat k.seats (sym k.lanes) here c.in_default.is (Some c.in-Some-section.section) (sym c.section.ensures ∙ c.in-Some-section.is))

pub returns-in-None : goal.returns-in-None
returns-in-None g c =
    let s = c.args.self.now in
    let k = c.requires.fits in
    let seat = c.index-seat.result.now in
    let inside : c.args.lane < length s.records.seats.items = omega arith in
    let here = slice_get_read s.records.seats.items (length s.records.seats.items) c.args.lane seat refl inside c.index-seat.ensures in
    sym (free_ready (plan_in (run_of s)) (requests_in s.script) s.core.memory s.core.admitted s.records.seats.items c.args.lane seat k.seats (sym k.lanes) here c.in_default.is None (sym c.section.ensures ∙ c.in-None.is))
