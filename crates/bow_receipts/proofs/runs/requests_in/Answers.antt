use Rattle.std.proofs.Common.{◌+◌, List, length, ap, ◌∙◌, arith}
use Rattle.bow_script.specs.declared.scripts.Line.{Line}
use Rattle.bow_session.specs.Requests.{requests_in}
use Rattle.bow_session.proofs.Loads.{few_requests}
use Rattle.bow_receipts.proofs.Calling.{all_counted, before_most, here_more}
use Rattle.bow_receipts.proofs.runs.requests_in.Goals as goal

pub overflow_add-total : goal.overflow_add-total
overflow_add-total c =
    let items = c.deref-section-items.result.now in
    let k = c.loop-section.section-index in
    let more = here_more items k c.args.lane c.section-item.result c.loop-section-test.true c.section-item.is in
    let most = before_most items (k + 1) c.args.lane in
    let same = ap (λ s. requests_in s c.args.lane) (c.deref-section-items.ensures.value ∙ c.script.view_is) in
    let few = few_requests c.args.script.now c.requires c.args.lane in
    let lines = ap (λ (l : List Line). length l) c.lines_of.ensures in
    let old = c.loop-section.invariant in
    omega (arith, more, most, same, few, lines, old)

pub loop-section-preserved : goal.loop-section-preserved
loop-section-preserved c =
    let more = here_more c.deref-section-items.result.now c.loop-section.section-index c.args.lane c.section-item.result c.loop-section-test.true c.section-item.is in
    let lines = ap (λ (l : List Line). length l) c.lines_of.ensures in
    let old = c.loop-section.invariant in
    omega (arith, more, lines, old)

pub returns-clause-is : goal.returns-clause-is
returns-clause-is c =
    all_counted c.deref-section-items.result.now c.args.script.now c.loop-section.section-index c.args.lane c.loop-section.total (let t = c.loop-section-test.false in omega (arith, t)) (c.deref-section-items.ensures.value ∙ c.script.view_is) c.loop-section.invariant

pub returns-clause-few : goal.returns-clause-few
returns-clause-few c =
    let all = all_counted c.deref-section-items.result.now c.args.script.now c.loop-section.section-index c.args.lane c.loop-section.total (let t = c.loop-section-test.false in omega (arith, t)) (c.deref-section-items.ensures.value ∙ c.script.view_is) c.loop-section.invariant in
    let few = few_requests c.args.script.now c.requires c.args.lane in
    omega (arith, all, few)
