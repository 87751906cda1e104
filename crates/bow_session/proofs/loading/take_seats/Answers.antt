use Rattle.std.proofs.Common.{◌≡◌, ◌++◌, ◌∷◌, [], List, length, sym, ap, subst, arith, length-append}
use Rattle.bow_session.specs.declared.seats.Seat.{Seat}
use Rattle.bow_session.specs.Loading.{IsNewSeat, AreNewSeats}
use Rattle.bow_session.specs.Requests.{plan_of, requests_in}
use Rattle.bow_session.proofs.Loads.{pushed}
use Rattle.bow_session.proofs.loading.take_seats.Goals as goal

pub loop-lane-preserved : goal.loop-lane-preserved
loop-lane-preserved c =
    let plan = plan_of c.args.geometry c.args.script.now in
    let counts = requests_in c.args.script.now in
    let old = c.loop-lane.seats.items in
    let new = c.in_ok-seat_of.field-0 in
    let more : c.push.new.self.items ≡ old ++ new ∷ [] = (c.in_ok-push.ensures).items in
    let len = length-append old (new ∷ []) in
    let count = c.loop-lane.invariant.0 in
    let here : IsNewSeat plan (counts (length old)) (length old) new = subst (λ n. IsNewSeat plan (counts n) n new) (sym count) c.in_ok-seat_of.ensures in (
      (let e = ap (λ (l : List Seat). length l) more in omega (arith, e, len, count)),
      subst (λ (l : List Seat). AreNewSeats plan counts l) (sym more) (pushed (λ n seat. IsNewSeat plan (counts n) n seat) old new c.loop-lane.invariant.1 here),
    )
