use Rattle.std.proofs.Common.{◌≡◌, rules, sym, ap, ◌∙◌, subst}
use Rattle.bow_script.specs.Scripts.{IsWellFormed, IsWithinLimits}
use Rattle.bow_deal.specs.Dealing.{lane_in, opening_part}
use Rattle.bow_deal.proofs.Dealt.{opening_formed, opening_lane, opening_within}
use Rattle.bow_deal.proofs.dealing.opening_part.Goals as goal

pub returns-clause-lanes : goal.returns-clause-lanes
returns-clause-lanes c lane =
    let is : c.new-2.result ≡ opening_part c.args.device c.args.count c.args.script.now = search rules in
    ap (λ s. lane_in s 0 lane) is ∙ opening_lane c.args.device c.args.count c.args.script.now lane c.requires.on

pub returns-clause-limits : goal.returns-clause-limits
returns-clause-limits c limits few =
    let is : c.new-2.result ≡ opening_part c.args.device c.args.count c.args.script.now = search rules in
    subst IsWithinLimits (sym is) (opening_within c.args.device c.args.count c.args.script.now limits few)

pub returns-clause-numbers : goal.returns-clause-numbers
returns-clause-numbers c formed =
    let is : c.new-2.result ≡ opening_part c.args.device c.args.count c.args.script.now = search rules in
    subst IsWellFormed (sym is) (opening_formed c.args.device c.args.count c.args.script.now formed)
