use Rattle.std.proofs.Common.{◌≡◌, suc, ◌+◌, ◌≤◌, length, take, refl, ap, ◌∙◌, arith}
use Rattle.std.specs.List.{sum_by}
use Rattle.std.proofs.lemmas.Option.{slice_get_read}
use Rattle.bow_session.specs.Loading.{line_items, lane_items}
use Rattle.bow_session.specs.Requests.{lane_lines}
use Rattle.bow_session.proofs.Loads.{more_items, few_with, few_items, taken_all}
use Rattle.bow_session.proofs.loading.items_in_lane.Goals as goal

pub items_of-items-requires : goal.items_of-items-requires
items_of-items-requires c =
    let items = c.deref-section-items.result.now in
    let here = slice_get_read items (length items) c.loop-section.section-index c.section-item.result refl c.loop-section-test.true c.section-item.is in
    let few = few_with c.args.script.now items c.args.lane c.loop-section.section-index c.section-item.result (c.deref-section-items.ensures.value ∙ c.script.view_is) c.requires.limits here in
    let e = ap (sum_by line_items) c.lines_of.ensures in
    omega (arith, few, e)

pub overflow_add-items : goal.overflow_add-items
overflow_add-items c =
    let items = c.deref-section-items.result.now in
    let here = slice_get_read items (length items) c.loop-section.section-index c.section-item.result refl c.loop-section-test.true c.section-item.is in
    let few = few_with c.args.script.now items c.args.lane c.loop-section.section-index c.section-item.result (c.deref-section-items.ensures.value ∙ c.script.view_is) c.requires.limits here in
    let e = ap (sum_by line_items) c.lines_of.ensures in
    let old = c.loop-section.invariant in
    let new = c.items_of-items.ensures in
    let sum : c.loop-section.items + c.items_of-items.result ≤ 131072 = omega (arith, few, e, old, new) in
    omega (arith, sum)

pub loop-section-preserved : goal.loop-section-preserved
loop-section-preserved c =
    let items = c.deref-section-items.result.now in
    let k = c.loop-section.section-index in
    let here = slice_get_read items (length items) k c.section-item.result refl c.loop-section-test.true c.section-item.is in
    let more = more_items items c.args.lane k c.section-item.result here in
    let e = ap (sum_by line_items) c.lines_of.ensures in
    let old = c.loop-section.invariant in
    let new = c.items_of-items.ensures in
    let next : suc k ≡ k + 1 = omega arith in
    let sum : c.loop-section.items + c.items_of-items.result ≡ sum_by line_items (lane_lines (take (suc k) items) c.args.lane) = omega (arith, more, e, old, new) in
    sum ∙ ap (λ n. sum_by line_items (lane_lines (take n items) c.args.lane)) next

pub returns-clause-few : goal.returns-clause-few
returns-clause-few c =
    let items = c.deref-section-items.result.now in
    let past : length items ≤ c.loop-section.section-index = (let t = c.loop-section-test.false in omega (arith, t)) in
    let all = ap (λ s. lane_items s c.args.lane) (taken_all items c.loop-section.section-index past ∙ c.deref-section-items.ensures.value ∙ c.script.view_is) in
    let few = few_items c.args.script.now c.requires.limits c.args.lane in
    let old = c.loop-section.invariant in
    omega (arith, all, few, old)
