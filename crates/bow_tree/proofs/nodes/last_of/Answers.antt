use Rattle.std.proofs.Common.{◌≡◌, ◌+◌, ◌<◌, ◌++◌, List, [], length, take, get_or, sym, ap, ◌∙◌, subst, arith, append_assoc, add-one, length-append}
use Rattle.bow_units.specs.declared.statuses.Kind.{Kind}
use Rattle.bow_tree.specs.Rows.{flat}
use Rattle.bow_tree.specs.Parts.{IsBack}
use Rattle.bow_tree.proofs.Pieces.{rows_length, row_read, flat_take_more, flat_take_length, times_less}
use Rattle.bow_tree.proofs.Runs.{back_bound}
use Rattle.bow_tree.proofs.nodes.last_of.Goals as goal

pub last_behind-last-requires : goal.last_behind-last-requires
last_behind-last-requires c =
    let row = c.requires.known.0 in
    let rows = c.requires.known.1 in
    let told = c.loop-low.invariant row rows c.requires.known.2 c.requires.known.3 in
    let bound = back_bound (row ++ flat (take c.loop-low.low rows)) c.loop-low.last told in
    let sized = flat_take_length c.args.size rows c.args.node.now c.loop-low.low c.requires.known.3 (omega arith) in
    let fits = times_less c.loop-low.low (length c.args.node.now) c.args.size (omega arith) in
    omega (arith, bound, sized, length-append row (flat (take c.loop-low.low rows)), fits, c.requires.known.4)

pub loop-low-preserved : goal.loop-low-preserved
loop-low-preserved c = λ row rows behind known.
    let low = c.loop-low.low in
    let inside : low < length c.args.node.now = omega arith in
    let here = row_read c.args.size rows c.args.node.now low c.part.result c.part.ensures known inside in
    let inside_rows : low < length rows = omega (arith, rows_length c.args.size rows c.args.node.now known, inside) in
    let more : (row ++ flat (take low rows)) ++ get_or rows low [] ≡ row ++ flat (take (low + 1) rows) =
    append_assoc row (flat (take low rows)) (get_or rows low []) ∙ ap (λ l. row ++ l) (sym (flat_take_more rows low inside_rows) ∙ ap (λ n. flat (take n rows)) (sym (add-one low))) in
    subst (λ (l : List Kind). IsBack l c.last_behind-last.result) more
    (c.last_behind-last.ensures (row ++ flat (take low rows)) (get_or rows low []) c.requires.some here.sized (c.loop-low.invariant row rows behind known) here.last)
