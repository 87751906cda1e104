use Rattle.std.proofs.Common.{◌≡◌, drop}
use Rattle.std.specs.List.{list_all}
use Rattle.bow_session.specs.Seats.{is_from_there}
use Rattle.bow_session.proofs.seats.is_from.Given as goal

abbrev pub invariant-loop-seat : goal.invariant-loop-seat
invariant-loop-seat l =
    list_all (is_from_there l.low) (drop l.seat-index l.seats) ≡ list_all (is_from_there l.low) l.seats
