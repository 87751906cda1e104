use Rattle.std.proofs.Common.{◌≡◌, ◌≤◌, List, length, refl, sym, ◌∙◌, subst, arith, rules}
use Rattle.std.specs.List.{All}
use Rattle.std.proofs.lemmas.Option.{slice_get_read}
use Rattle.bow_script.specs.Grammar.{IsFitting}
use Rattle.bow_script.specs.Scripts.{IsWellFormed}
use Rattle.bow_script.specs.declared.scripts.Line.{Line}
use Rattle.bow_session.proofs.Loads.{all_fit, section_on, lane_whole}
use Rattle.bow_session.proofs.loading.seat_of.Goals as goal

pub add_requests-requires-clause-numbers : goal.add_requests-requires-clause-numbers
add_requests-requires-clause-numbers c =
    let items = c.deref-section-items.result.now in
    let same = c.deref-section-items.ensures.value ∙ c.script.view_is in
    let here = slice_get_read items (length items) c.loop-section.section-index c.section-item.result refl c.loop-section-test.true c.section-item.is in
    subst (λ (l : List Line). All IsFitting l) (sym c.lines_of.ensures)
    (all_fit items c.args.lane c.loop-section.section-index c.section-item.result (subst IsWellFormed (sym same) c.requires.numbers) here)

pub loop-section-preserved : goal.loop-section-preserved
loop-section-preserved c =
    let items = c.deref-section-items.result.now in
    let k = c.loop-section.section-index in
    let here = slice_get_read items (length items) k c.section-item.result refl c.loop-section-test.true c.section-item.is in
    let n = c.in_ok-add_requests.ensures in
    let old = c.loop-section.invariant in
    let on = section_on c.args.geometry items c.args.lane k c.loop-section.number c.section-item.result c.loop-section.pending.items c.add_requests.new.pending.items c.lines_of.result.now here old.0 old.1 c.lines_of.ensures n.count n.next old.2 in
    ((let e = old.0 in omega (arith, e)), on.0, on.1)

pub returns : goal.returns
returns c =
    let items = c.deref-section-items.result.now in
    let same = c.deref-section-items.ensures.value ∙ c.script.view_is in
    let past : length items ≤ c.loop-section.section-index = (let t = c.loop-section-test.false in omega (arith, t)) in
    let old = c.loop-section.invariant in
    let w = lane_whole c.args.geometry c.args.script.now items c.args.lane c.loop-section.section-index c.loop-section.pending.items same past old.1 old.2 in
    let len : c.len.result ≡ length c.loop-section.pending.items = search rules in
    record { hand = refl; answered = (c.in_ok-answered.ensures).empty; room = (c.in_ok-answered.ensures).room ∙ len ∙ w.1; pending = w.0; many = w.1; buffers = c.in_ok-buffers.ensures }
