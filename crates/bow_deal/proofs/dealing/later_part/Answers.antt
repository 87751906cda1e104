use Rattle.std.proofs.Common.{◌≡◌, arith, sym, ap, ◌∙◌, subst}
use Rattle.std.proofs.lemmas.Grind.{common_steps}
use Rattle.bow_script.specs.Scripts.{IsWellFormed, IsWithinLimits}
use Rattle.bow_deal.specs.Dealing.{lane_in, later_part}
use Rattle.bow_deal.proofs.Dealt.{later_formed, later_lane, later_within}
use Rattle.bow_deal.proofs.dealing.later_part.Goals as goal

pub returns-clause-lanes : goal.returns-clause-lanes
returns-clause-lanes c section lane =
    let is : c.new.result ≡ later_part c.args.device c.args.count c.args.script.now = grind (arith, common_steps) in
    ap (λ s. lane_in s section lane) is ∙ later_lane c.args.device c.args.count c.args.script.now section lane c.requires.on

pub returns-clause-limits : goal.returns-clause-limits
returns-clause-limits c limits =
    let is : c.new.result ≡ later_part c.args.device c.args.count c.args.script.now = grind (arith, common_steps) in
    subst IsWithinLimits (sym is) (later_within c.args.device c.args.count c.args.script.now limits)

pub returns-clause-numbers : goal.returns-clause-numbers
returns-clause-numbers c formed =
    let is : c.new.result ≡ later_part c.args.device c.args.count c.args.script.now = grind (arith, common_steps) in
    subst IsWellFormed (sym is) (later_formed c.args.device c.args.count c.args.script.now formed)
