use Rattle.std.proofs.Common.{◌≡◌, ◌≤◌, length}
use Rattle.bow_history.specs.Sessions.{lane_of}
use Rattle.bow_receipts.specs.Hands.{tickets_of}
use Rattle.bow_receipts.proofs.hands.lane_of.Given as goal

abbrev pub invariant-loop-lane : goal.invariant-loop-lane
invariant-loop-lane l = (l.lane ≤ length l.hands)
    × (lane_of (tickets_of l.hands) l.ticket l.lane ≡ lane_of (tickets_of l.hands) l.ticket (length l.hands))

abbrev pub decreases-loop-lane : goal.decreases-loop-lane
decreases-loop-lane l = l.lane
