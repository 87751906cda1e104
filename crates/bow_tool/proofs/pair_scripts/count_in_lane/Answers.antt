use Rattle.std.proofs.Common.{◌≤◌, length, refl, sym, ap, ◌∙◌, subst, arith, rules}
use Rattle.std.specs.List.{All}
use Rattle.std.proofs.lemmas.List.{take_all}
use Rattle.std.proofs.lemmas.Option.{slice_get_read}
use Rattle.bow_pair.specs.Pairs.{IsPlayed}
use Rattle.bow_tool.proofs.Counting.{played_at, played_more}
use Rattle.bow_tool.proofs.Spelling.{not_both}
use Rattle.bow_tool.proofs.pair_scripts.count_in_lane.Goals as goal

pub loop-line-preserved : goal.loop-line-preserved
loop-line-preserved c =
    let items = c.deref-line-items.result.now in
    let i = c.loop-line.line-index in
    let at = slice_get_read items (length items) i c.line-item.result refl c.loop-line-test.true c.line-item.is in
    played_more items i c.line-item.result at c.loop-line.invariant (c.is_played.ensures.0 (search rules))

pub returns-then-not-is_played : goal.returns-then-not-is_played
returns-then-not-is_played c =
    let items = c.deref-line-items.result.now in
    let i = c.loop-line.line-index in
    let at = slice_get_read items (length items) i c.line-item.result refl c.loop-line-test.true c.line-item.is in
    λ played.
    let here = played_at items i c.line-item.result at (subst (All IsPlayed) (sym (c.deref-line-items.ensures.value ∙ c.lane.view_is)) played) in
    not_both c.is_played.result (c.is_played.ensures.1 here) (search rules)

pub returns : goal.returns
returns c =
    let items = c.deref-line-items.result.now in
    let past : length items ≤ c.loop-line.line-index = (let t = c.loop-line-test.false in omega (arith, t)) in
    let whole = c.deref-line-items.ensures.value ∙ c.lane.view_is in
    ((let count = c.len.ensures in let same = ap length c.lane.view_is in omega (arith, count, same)), subst (All IsPlayed) whole (subst (All IsPlayed) (take_all c.loop-line.line-index items past) c.loop-line.invariant))
