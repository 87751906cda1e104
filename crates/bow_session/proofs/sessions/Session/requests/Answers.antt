use Rattle.std.proofs.Common.{◌<◌, ◌≤◌, length, refl, arith, rules, sym, ap, ◌∙◌}
use Rattle.std.proofs.lemmas.Option.{slice_get_read}
use Rattle.bow_session.specs.Requests.{requests_in}
use Rattle.bow_session.specs.Sessions.{Run}
use Rattle.bow_session.proofs.Counted.{no_requests, seat_count}
use Rattle.bow_session.proofs.sessions.Session.requests.Goals as goal

pub requests-requires : goal.requests-requires
requests-requires g c =
    let s = c.self.inside.desk in
    let inside : c.args.lane < length s.records.seats.items = search rules in
    let here = slice_get_read s.records.seats.items (length s.records.seats.items) c.args.lane c.index-seat.result.now refl inside c.index-seat.ensures in
    let is = seat_count s c.self.invariant c.args.lane c.index-seat.result.now here in
    omega (arith, is, c.self.invariant.small c.args.lane)

pub returns-then-lane-len-clause-is : goal.returns-then-lane-len-clause-is
returns-then-lane-len-clause-is g c =
    let s = c.self.inside.desk in
    let inside : c.args.lane < length s.records.seats.items = search rules in
    let here = slice_get_read s.records.seats.items (length s.records.seats.items) c.args.lane c.index-seat.result.now refl inside c.index-seat.ensures in
    c.requests.ensures ∙ seat_count s c.self.invariant c.args.lane c.index-seat.result.now here ∙ ap (λ (v : Run g.row.D.Denot). requests_in v.script c.args.lane) c.self.view_is

pub returns-then-lane-len-clause-few : goal.returns-then-lane-len-clause-few
returns-then-lane-len-clause-few g c =
    let s = c.self.inside.desk in
    let is = returns-then-lane-len-clause-is g c in
    let same = ap (λ (v : Run g.row.D.Denot). requests_in v.script c.args.lane) c.self.view_is in
    omega (arith, is, same, c.self.invariant.small c.args.lane)

pub returns-else-lane-len-clause-is : goal.returns-else-lane-len-clause-is
returns-else-lane-len-clause-is g c =
    let s = c.self.inside.desk in
    let past : length s.records.seats.items ≤ c.args.lane = search rules in
    sym (no_requests s c.self.invariant c.args.lane past) ∙ ap (λ (v : Run g.row.D.Denot). requests_in v.script c.args.lane) c.self.view_is
