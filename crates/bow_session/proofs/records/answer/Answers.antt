use Rattle.std.proofs.Common.{length, refl}
use Rattle.std.proofs.lemmas.Option.{slice_get_read}
use Rattle.bow_session.proofs.Changed.{answered_one}
use Rattle.bow_session.proofs.records.answer.Goals as goal

pub returns : goal.returns
returns c =
    let seats = c.args.seats.now.items in
    let here = slice_get_read seats (length seats) c.args.lane c.index_mut-seat.result.now refl c.requires.inside c.index_mut-seat.ensures.value in
    answered_one c.args.lane c.args.op seats c.index_mut-seat.result.now c.answer.new.self here c.answer.ensures
