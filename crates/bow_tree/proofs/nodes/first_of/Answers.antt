use Rattle.std.proofs.Common.{◌≡◌, suc, ◌+◌, ◌-◌, ◌<◌, ◌≤◌, ◌++◌, List, [], length, drop, get_or, sym, ap, ◌∙◌, subst, arith, append_assoc, length-append}
use Rattle.std.proofs.lemmas.List.{drop_all}
use Rattle.bow_units.specs.declared.statuses.Kind.{Kind}
use Rattle.bow_tree.specs.Rows.{flat}
use Rattle.bow_tree.specs.Parts.{IsFront}
use Rattle.bow_tree.proofs.Pieces.{rows_length, row_read, flat_drop_less, flat_drop_length, times_less}
use Rattle.bow_tree.proofs.Runs.{front_bound}
use Rattle.bow_tree.proofs.nodes.first_of.Goals as goal

pub loop-high-init : goal.loop-high-init
loop-high-init c = record {
  from = c.requires.place;
  inside = omega arith;
  told = λ row rows behind known.
      let none : drop 16 rows ≡ [] = drop_all 16 rows (omega (arith, rows_length c.args.size rows c.args.node.now known, c.requires.width)) in
      subst (λ l. IsFront (flat l ++ row) c.args.after) (sym none) behind;
}

pub first_before-first-requires : goal.first_before-first-requires
first_before-first-requires c =
    let row = c.requires.known.0 in
    let rows = c.requires.known.1 in
    let high = c.loop-high.high - 1 in
    let told = c.loop-high.invariant.told row rows c.requires.known.2 c.requires.known.3 in
    let bound = front_bound (flat (drop c.loop-high.high rows) ++ row) c.loop-high.first told in
    let sized = flat_drop_length c.args.size rows c.args.node.now c.loop-high.high c.requires.known.3 c.loop-high.invariant.inside in
    let one : 0 + 1 ≤ c.loop-high.high = omega arith in
    let fits = times_less 0 c.loop-high.high c.args.size (omega arith) in
    omega (arith, bound, sized, length-append (flat (drop c.loop-high.high rows)) row, fits, c.requires.known.4)

pub loop-high-preserved : goal.loop-high-preserved
loop-high-preserved c =
    let high = c.loop-high.high - 1 in
    let next : suc high ≡ c.loop-high.high = omega arith in
    record {
      from = omega arith;
      inside = omega (arith, c.loop-high.invariant.inside);
      told = λ row rows behind known.
          let inside : high < length c.args.node.now = omega (arith, c.loop-high.invariant.inside) in
          let here = row_read c.args.size rows c.args.node.now high c.part.result c.part.ensures known inside in
          let inside_rows : high < length rows = omega (arith, rows_length c.args.size rows c.args.node.now known, inside) in
          let more : get_or rows high [] ++ (flat (drop c.loop-high.high rows) ++ row) ≡ flat (drop high rows) ++ row =
          sym (append_assoc (get_or rows high []) (flat (drop c.loop-high.high rows)) row) ∙ ap (λ l. l ++ row) (ap (λ n. get_or rows high [] ++ flat (drop n rows)) (sym next) ∙ sym (flat_drop_less rows high inside_rows)) in
          subst (λ (l : List Kind). IsFront l c.first_before-first.result) more
          (c.first_before-first.ensures (get_or rows high []) (flat (drop c.loop-high.high rows) ++ row) c.requires.some here.sized here.first (c.loop-high.invariant.told row rows behind known));
    }
