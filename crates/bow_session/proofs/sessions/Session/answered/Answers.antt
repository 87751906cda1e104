use Rattle.std.proofs.Common.{◌<◌, length, refl, arith, rules}
use Rattle.std.proofs.lemmas.Option.{slice_get_read}
use Rattle.bow_session.proofs.sessions.Session.answered.Goals as goal

pub number-requires : goal.number-requires
number-requires g c =
    let s = c.self.inside.desk in
    let k = c.self.invariant in
    let inside : c.args.lane < length s.records.seats.items = search rules in
    let here = slice_get_read s.records.seats.items (length s.records.seats.items) c.args.lane c.index-seat.result.now refl inside c.index-seat.ensures in
    let f = k.seats c.args.lane c.index-seat.result.now here in
    omega (arith, f.within, k.small c.args.lane)
