use Rattle.std.proofs.Common.{◌≡◌, ◌≤◌, length}
use Rattle.bow_history.specs.Sessions.{lane_of}
use Rattle.bow_session.specs.Seats.{hands_of}
use Rattle.bow_session.proofs.seats.lane_of.Given as goal

abbrev pub invariant-loop-lane : goal.invariant-loop-lane
invariant-loop-lane l = (l.lane ≤ length l.seats)
    × (lane_of (hands_of l.seats) l.ticket l.lane ≡ lane_of (hands_of l.seats) l.ticket (length l.seats))

abbrev pub decreases-loop-lane : goal.decreases-loop-lane
decreases-loop-lane l = l.lane
