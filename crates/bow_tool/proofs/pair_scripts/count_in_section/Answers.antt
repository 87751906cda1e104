use Rattle.std.proofs.Common.{◌≤◌, List, length, refl, sym, ap, ◌∙◌, subst, arith, Some}
use Rattle.std.specs.List.{All}
use Rattle.std.proofs.lemmas.Option.{slice_get_read}
use Rattle.bow_script.specs.declared.scripts.Line.{Line}
use Rattle.bow_script.specs.Scripts.{concat}
use Rattle.bow_pair.specs.Pairs.{IsPlayed}
use Rattle.bow_tool.specs.PairScripts.{CountsPlayed}
use Rattle.bow_tool.proofs.Counting.{count_all, count_fits, count_more, not_all}
use Rattle.bow_tool.proofs.pair_scripts.count_in_section.Goals as goal

pub overflow_add-count : goal.overflow_add-count
overflow_add-count c =
    let items = c.deref-lane-items.result.now in
    let i = c.loop-lane.lane-index in
    let at = slice_get_read items (length items) i c.lane-item.result refl c.loop-lane-test.true c.lane-item.is in
    let fits = count_fits (λ (lane : List Line). lane) items i c.lane-item.result at c.loop-lane.count c.in_ok-requests.requests c.loop-lane.invariant c.in_ok-requests.ensures in
    let same = ap (λ (xs : List (List Line)). length (concat xs)) (c.deref-lane-items.ensures.value ∙ c.section.view_is) in
    let few = c.requires in
    omega (arith, fits, same, few)

pub loop-lane-preserved : goal.loop-lane-preserved
loop-lane-preserved c =
    let items = c.deref-lane-items.result.now in
    let i = c.loop-lane.lane-index in
    let at = slice_get_read items (length items) i c.lane-item.result refl c.loop-lane-test.true c.lane-item.is in
    count_more (λ (lane : List Line). lane) items i c.lane-item.result at c.loop-lane.count c.in_ok-requests.requests c.loop-lane.invariant c.in_ok-requests.ensures

pub returns-in_err-requests : goal.returns-in_err-requests
returns-in_err-requests c =
    let items = c.deref-lane-items.result.now in
    let i = c.loop-lane.lane-index in
    let at = slice_get_read items (length items) i c.lane-item.result refl c.loop-lane-test.true c.lane-item.is in
    rw c.from_residual.ensures (λ played. not_all (λ (lane : List Line). lane) items i c.lane-item.result at c.in_err-requests.ensures
    (subst (λ (xs : List (List Line)). All IsPlayed (concat xs)) (sym (c.deref-lane-items.ensures.value ∙ c.section.view_is)) played))

pub returns : goal.returns
returns c =
    let items = c.deref-lane-items.result.now in
    let past : length items ≤ c.loop-lane.lane-index = (let t = c.loop-lane-test.false in omega (arith, t)) in
    subst (λ (xs : List (List Line)). CountsPlayed (concat xs) (Some c.loop-lane.count)) (c.deref-lane-items.ensures.value ∙ c.section.view_is)
    (count_all (λ (lane : List Line). lane) items c.loop-lane.lane-index c.loop-lane.count past c.loop-lane.invariant)
