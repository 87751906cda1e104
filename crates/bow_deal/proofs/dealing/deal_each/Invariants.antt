use Rattle.std.proofs.Common.{◌≡◌, ◌++◌, drop}
use Rattle.bow_deal.specs.Dealing.{dealt}
use Rattle.bow_deal.proofs.dealing.deal_each.Given as goal

abbrev pub invariant-loop-section : goal.invariant-loop-section
invariant-loop-section l = l.parts.items ++ dealt l.device l.count (drop l.section-index l.sections) ≡ dealt l.device l.count l.sections
