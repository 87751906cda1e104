use Rattle.std.proofs.Common.{◌≡◌, ◌++◌, drop}
use Rattle.bow_deal.specs.Dealing.{every}
use Rattle.bow_deal.proofs.dealing.deal_section.Given as goal

abbrev pub invariant-loop-lane : goal.invariant-loop-lane
invariant-loop-lane l = l.lanes.items ++ every l.count l.skip (drop l.lane-index l.lane-items) ≡ every l.count l.fn.device l.lane-items
