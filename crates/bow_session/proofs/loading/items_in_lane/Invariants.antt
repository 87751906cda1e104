use Rattle.std.proofs.Common.{◌≡◌, take}
use Rattle.std.specs.List.{sum_by}
use Rattle.bow_session.specs.Loading.{line_items}
use Rattle.bow_session.specs.Requests.{lane_lines}
use Rattle.bow_session.proofs.loading.items_in_lane.Given as goal

abbrev pub invariant-loop-section : goal.invariant-loop-section
invariant-loop-section l = l.items ≡ sum_by line_items (lane_lines (take l.section-index l.section-items) l.lane)
