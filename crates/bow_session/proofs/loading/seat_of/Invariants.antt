use Rattle.std.proofs.Common.{◌≡◌, take, length}
use Rattle.bow_session.specs.Loading.{AreFirst}
use Rattle.bow_session.specs.Requests.{lane_lines, plan_of}
use Rattle.bow_session.proofs.loading.seat_of.Given as goal

abbrev pub invariant-loop-section : goal.invariant-loop-section
invariant-loop-section l = (l.number ≡ l.section-index)
    × (length l.pending.items ≡ length (lane_lines (take l.section-index l.section-items) l.lane))
    × AreFirst (plan_of l.geometry l.section-items) l.lane l.pending.items
