use Rattle.std.proofs.Common.{◌≡◌, ◌<◌, List, [], length, replicate, get_or, ◌∙◌, subst, arith}
use Rattle.bow_units.specs.declared.statuses.Kind.TheVariants.{Free}
use Rattle.bow_units.specs.declared.statuses.Kind.{Kind}
use Rattle.bow_tree.specs.Parts.{AreKnown}
use Rattle.bow_tree.proofs.Pieces.{row_read, times_less}
use Rattle.bow_tree.proofs.Rows.{ending_alike}
use Rattle.bow_tree.proofs.Runs.{front_bound, in_run_bound}
use Rattle.bow_tree.proofs.Fits.{fit_at, fit_in_row, run_on, run_bound, run_limit, search_on, fit_missed, Searched}
use Rattle.bow_tree.proofs.reads.fit_in.Goals as goal

pub overflow_add-run : goal.overflow_add-run
overflow_add-run c =
    let inside : c.loop-place.place < length c.args.node.now = omega arith in
    let part = c.part-part.result in
    let row = row_read c.args.size c.requires.known.0 c.args.node.now c.loop-place.place part c.part-part.ensures c.requires.known.1 inside in
    let bound = front_bound (get_or c.requires.known.0 c.loop-place.place []) part.first row.first in
    let fits = times_less c.loop-place.place 16 c.args.size (omega arith) in
    omega (arith, c.free_in.ensures, in_run_bound Free part.first, bound, row.sized, fits, c.loop-place.invariant.behind)

pub returns-then-count-run : goal.returns-then-count-run
returns-then-count-run c = λ rows known h.
    let told = c.loop-place.invariant.told rows known h in
    let here = fit_at c.args.size c.args.count c.loop-place.run c.loop-place.place rows c.args.node.now known (omega arith) c.requires.wanted told (omega (arith, rw c.part-part.ensures at c.free_in.ensures)) in
    omega (arith, here)

pub returns-then-count-part : goal.returns-then-count-part
returns-then-count-part c = λ rows known h.
    let told = c.loop-place.invariant.told rows known h in
    let here = fit_in_row c.args.size c.args.count c.loop-place.run c.loop-place.place rows c.args.node.now known (omega arith) c.requires.wanted told (omega (arith, rw c.part-part.ensures at c.free_in.ensures)) (rw c.part-part.ensures at c.if-count-part.true) in
    (omega arith, here.0, here.1)

pub loop-place-preserved : goal.loop-place-preserved
loop-place-preserved c =
    let run = c.loop-place.run in
    let place = c.loop-place.place in
    let inside : place < length c.args.node.now = omega arith in
    let rows0 = c.requires.known.0 in
    let known0 = c.requires.known.1 in
    let part = c.part-part.result in
    let row0 = row_read c.args.size rows0 c.args.node.now place part c.part-part.ensures known0 inside in
    let next = λ (rows : List (List Kind)) (known : AreKnown c.args.size rows c.args.node.now).
    let row = row_read c.args.size rows c.args.node.now place part c.part-part.ensures known inside in
    c.free_in-run.ensures ∙ run_on c.args.count run (get_or rows place []) c.last_behind.result
    (c.last_behind.ensures (replicate run Free) (get_or rows place []) c.requires.some row.sized (λ k. ending_alike k Free run) row.last) in
    record {
      behind = omega (arith, next rows0 known0, run_limit run (get_or rows0 place []), row0.sized, c.loop-place.invariant.behind);
      short = omega (arith, next rows0 known0, run_bound c.args.count run (get_or rows0 place []) (omega (arith, row0.first Free, c.free_in.ensures)) (omega (arith, row0.longest)));
      told = λ rows known h.
          search_on c.args.size c.args.count run place c.free_in-run.result rows c.args.node.now known inside (c.loop-place.invariant.told rows known h)
          (omega (arith, rw c.part-part.ensures at c.free_in.ensures)) (rw c.part-part.ensures at c.if-count-part.false) (next rows known);
    }

pub unreachable-requires : goal.unreachable-requires
unreachable-requires c =
    let all : c.loop-place.place ≡ 16 = omega arith in
    let told = c.loop-place.invariant.told c.requires.known.0 c.requires.known.1 c.requires.known.2 in
    fit_missed c.args.size c.args.count c.loop-place.run c.requires.known.0 c.args.node.now c.requires.known.1 c.requires.width c.requires.wanted c.requires.known.2 c.loop-place.invariant.short
    (subst (λ n. Searched c.args.size c.args.count c.loop-place.run n c.requires.known.0) all told)
