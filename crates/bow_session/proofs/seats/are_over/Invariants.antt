use Rattle.std.proofs.Common.{◌≡◌, drop}
use Rattle.std.specs.List.{list_all}
use Rattle.bow_session.specs.Seats.{is_over}
use Rattle.bow_session.proofs.seats.are_over.Given as goal

abbrev pub invariant-loop-seat : goal.invariant-loop-seat
invariant-loop-seat l = list_all is_over (drop l.seat-index l.seats) ≡ list_all is_over l.seats
