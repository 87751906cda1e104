use Rattle.std.proofs.Common.{◌≤◌, List, length, refl, sym, ap, ◌∙◌, subst, arith, Some}
use Rattle.std.specs.List.{All}
use Rattle.std.proofs.lemmas.Option.{slice_get_read}
use Rattle.bow_script.specs.declared.scripts.Line.{Line}
use Rattle.bow_script.specs.Scripts.{concat, requests_of}
use Rattle.bow_pair.specs.Pairs.{IsPlayed}
use Rattle.bow_tool.specs.PairScripts.{CountsPlayed}
use Rattle.bow_tool.proofs.Counting.{count_all, count_fits, count_more, not_all, part_fits}
use Rattle.bow_tool.proofs.pair_scripts.count_in_script.Goals as goal

pub count_in_section-requires : goal.count_in_section-requires
count_in_section-requires c =
    let items = c.deref-section-items.result.now in
    let at = slice_get_read items (length items) c.loop-section.section-index c.section-item.result refl c.loop-section-test.true c.section-item.is in
    let fits = part_fits (concat {A = Line}) items c.loop-section.section-index c.section-item.result at in
    let same = ap (λ (xs : List (List (List Line))). length (requests_of xs)) (c.deref-section-items.ensures.value ∙ c.script.view_is) in
    let few = c.requires in
    omega (arith, fits, same, few)

pub overflow_add-count : goal.overflow_add-count
overflow_add-count c =
    let items = c.deref-section-items.result.now in
    let i = c.loop-section.section-index in
    let at = slice_get_read items (length items) i c.section-item.result refl c.loop-section-test.true c.section-item.is in
    let fits = count_fits (concat {A = Line}) items i c.section-item.result at c.loop-section.count c.in_ok-requests.requests c.loop-section.invariant c.in_ok-requests.ensures in
    let same = ap (λ (xs : List (List (List Line))). length (requests_of xs)) (c.deref-section-items.ensures.value ∙ c.script.view_is) in
    let few = c.requires in
    omega (arith, fits, same, few)

pub loop-section-preserved : goal.loop-section-preserved
loop-section-preserved c =
    let items = c.deref-section-items.result.now in
    let i = c.loop-section.section-index in
    let at = slice_get_read items (length items) i c.section-item.result refl c.loop-section-test.true c.section-item.is in
    count_more (concat {A = Line}) items i c.section-item.result at c.loop-section.count c.in_ok-requests.requests c.loop-section.invariant c.in_ok-requests.ensures

pub returns-in_err-requests : goal.returns-in_err-requests
returns-in_err-requests c =
    let items = c.deref-section-items.result.now in
    let i = c.loop-section.section-index in
    let at = slice_get_read items (length items) i c.section-item.result refl c.loop-section-test.true c.section-item.is in
    rw c.from_residual.ensures (λ played. not_all (concat {A = Line}) items i c.section-item.result at c.in_err-requests.ensures
    (subst (λ (xs : List (List (List Line))). All IsPlayed (requests_of xs)) (sym (c.deref-section-items.ensures.value ∙ c.script.view_is)) played))

pub returns : goal.returns
returns c =
    let items = c.deref-section-items.result.now in
    let past : length items ≤ c.loop-section.section-index = (let t = c.loop-section-test.false in omega (arith, t)) in
    subst (λ (xs : List (List (List Line))). CountsPlayed (requests_of xs) (Some c.loop-section.count)) (c.deref-section-items.ensures.value ∙ c.script.view_is)
    (count_all (concat {A = Line}) items c.loop-section.section-index c.loop-section.count past c.loop-section.invariant)
