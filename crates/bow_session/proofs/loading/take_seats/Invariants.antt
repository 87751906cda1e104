use Rattle.std.proofs.Common.{◌≡◌, length}
use Rattle.bow_session.specs.Loading.{AreNewSeats}
use Rattle.bow_session.specs.Requests.{plan_of, requests_in}
use Rattle.bow_session.proofs.loading.take_seats.Given as goal

abbrev pub invariant-loop-lane : goal.invariant-loop-lane
invariant-loop-lane l = (length l.seats.items ≡ l.lane)
    × AreNewSeats (plan_of l.geometry l.script) (requests_in l.script) l.seats.items
