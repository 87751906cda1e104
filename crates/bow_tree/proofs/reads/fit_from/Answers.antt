use Rattle.std.proofs.Common.{◌-◌, length, get_or, ap, arith}
use Rattle.bow_tree.specs.Parts.{no_part}
use Rattle.bow_tree.proofs.Pieces.{times_less}
use Rattle.bow_tree.specs.declared.parts.Part.{Part}
use Rattle.bow_units.specs.declared.statuses.Kind.TheVariants.{Free}
use Rattle.bow_tree.specs.Rows.{flat, fit, longest_free}
use Rattle.bow_tree.specs.Trees.{blocks_of, root_of, below_root, tree_at, kinds_in}
use Rattle.bow_tree.proofs.Fits.{fit_here, fit_inside}
use Rattle.bow_tree.proofs.Descents.{tree_known, within, deeper, rows_in, blocks_few}
use Rattle.bow_tree.proofs.reads.fit_from.Goals as goal

pub descent-init : goal.descent-init
descent-init g c = record {
  height = c.requires.height;
  is_tree = c.requires.tree;
  fits = c.requires.fits;
  inside = omega (arith, blocks_few c.args.height c.requires.height);
  told = omega arith;
  visits = omega arith;
}

pub visit-node-requires : goal.visit-node-requires
visit-node-requires g c =
    let d = deeper c.descent.height c.args.count c.descent.known c.descent.tree c.descent.invariant.is_tree c.descent.invariant.height (omega (arith, c.free_in.ensures)) c.descent.invariant.fits in
    d.open_tree.width

pub fit_in-requires-clause-few : goal.fit_in-requires-clause-few
fit_in-requires-clause-few g c =
    let d = deeper c.descent.height c.args.count c.descent.known c.descent.tree c.descent.invariant.is_tree c.descent.invariant.height (omega (arith, c.free_in.ensures)) c.descent.invariant.fits in
    omega (arith, c.size_of-size.ensures.size, d.few)

pub fit_in-requires-clause-known : goal.fit_in-requires-clause-known
fit_in-requires-clause-known g c =
    let d = deeper c.descent.height c.args.count c.descent.known c.descent.tree c.descent.invariant.is_tree c.descent.invariant.height (omega (arith, c.free_in.ensures)) c.descent.invariant.fits in
    (rows_in (c.descent.height - 1) c.descent.tree, rw (c.size_of-size.ensures.size, c.visit-node.ensures.node) d.rows_right, d.row_fits)

pub overflow_add-result : goal.overflow_add-result
overflow_add-result g c =
    let d = deeper c.descent.height c.args.count c.descent.known c.descent.tree c.descent.invariant.is_tree c.descent.invariant.height (omega (arith, c.free_in.ensures)) c.descent.invariant.fits in
    let rows = rows_in (c.descent.height - 1) c.descent.tree in
    let block = c.in-At.ensures rows (rw (c.size_of-size.ensures.size, c.visit-node.ensures.node) d.rows_right) d.row_fits in
    let inside = fit_inside c.args.count (flat rows) c.requires.wanted d.row_fits in
    let k = tree_known c.descent.height c.descent.known c.descent.tree c.descent.invariant.is_tree in
    let sized = ap length d.open_tree.kinds in
    omega (arith, block, inside, k.sized, sized, c.descent.invariant.inside)

pub returns-in-At-clause-fit : goal.returns-in-At-clause-fit
returns-in-At-clause-fit g c =
    let d = deeper c.descent.height c.args.count c.descent.known c.descent.tree c.descent.invariant.is_tree c.descent.invariant.height (omega (arith, c.free_in.ensures)) c.descent.invariant.fits in
    let rows = rows_in (c.descent.height - 1) c.descent.tree in
    let block = c.in-At.ensures rows (rw (c.size_of-size.ensures.size, c.visit-node.ensures.node) d.rows_right) d.row_fits in
    omega (arith, block, c.descent.invariant.told, ap (fit c.args.count) d.open_tree.kinds)

pub overflow_cast-first : goal.overflow_cast-first
overflow_cast-first g c =
    let d = deeper c.descent.height c.args.count c.descent.known c.descent.tree c.descent.invariant.is_tree c.descent.invariant.height (omega (arith, c.free_in.ensures)) c.descent.invariant.fits in
    let rows = rows_in (c.descent.height - 1) c.descent.tree in
    let place = c.in-Within.ensures rows (rw (c.size_of-size.ensures.size, c.visit-node.ensures.node) d.rows_right) d.row_fits in
    omega (arith, place.0)

pub overflow_mul-first : goal.overflow_mul-first
overflow_mul-first g c =
    let d = deeper c.descent.height c.args.count c.descent.known c.descent.tree c.descent.invariant.is_tree c.descent.invariant.height (omega (arith, c.free_in.ensures)) c.descent.invariant.fits in
    let rows = rows_in (c.descent.height - 1) c.descent.tree in
    let place = c.in-Within.ensures rows (rw (c.size_of-size.ensures.size, c.visit-node.ensures.node) d.rows_right) d.row_fits in
    let less = times_less c.in-Within.place 16 (blocks_of (c.descent.height - 1)) place.0 in
    rw c.size_of-size.ensures.size (omega (arith, less, d.few))

pub overflow_add-first : goal.overflow_add-first
overflow_add-first g c =
    let d = deeper c.descent.height c.args.count c.descent.known c.descent.tree c.descent.invariant.is_tree c.descent.invariant.height (omega (arith, c.free_in.ensures)) c.descent.invariant.fits in
    let rows = rows_in (c.descent.height - 1) c.descent.tree in
    let place = c.in-Within.ensures rows (rw (c.size_of-size.ensures.size, c.visit-node.ensures.node) d.rows_right) d.row_fits in
    let less = times_less c.in-Within.place 16 (blocks_of (c.descent.height - 1)) place.0 in
    rw c.size_of-size.ensures.size (omega (arith, less, d.open_tree.sized, c.descent.invariant.inside))

pub part-known-requires-clause-place : goal.part-known-requires-clause-place
part-known-requires-clause-place g c =
    let d = deeper c.descent.height c.args.count c.descent.known c.descent.tree c.descent.invariant.is_tree c.descent.invariant.height (omega (arith, c.free_in.ensures)) c.descent.invariant.fits in
    let rows = rows_in (c.descent.height - 1) c.descent.tree in
    (c.in-Within.ensures rows (rw (c.size_of-size.ensures.size, c.visit-node.ensures.node) d.rows_right) d.row_fits).0

pub below-tree-requires-clause-place : goal.below-tree-requires-clause-place
below-tree-requires-clause-place g c =
    let d = deeper c.descent.height c.args.count c.descent.known c.descent.tree c.descent.invariant.is_tree c.descent.invariant.height (omega (arith, c.free_in.ensures)) c.descent.invariant.fits in
    let rows = rows_in (c.descent.height - 1) c.descent.tree in
    (c.in-Within.ensures rows (rw (c.size_of-size.ensures.size, c.visit-node.ensures.node) d.rows_right) d.row_fits).0

pub descent-smaller : goal.descent-smaller
descent-smaller g c =
    let d = deeper c.descent.height c.args.count c.descent.known c.descent.tree c.descent.invariant.is_tree c.descent.invariant.height (omega (arith, c.free_in.ensures)) c.descent.invariant.fits in
    omega (arith, d.open_tree.tall)

pub descent-preserved : goal.descent-preserved
descent-preserved g c =
    let h = c.descent.height in
    let tree = c.descent.tree in
    let d = deeper h c.args.count c.descent.known tree c.descent.invariant.is_tree c.descent.invariant.height (omega (arith, c.free_in.ensures)) c.descent.invariant.fits in
    let rows = rows_in (h - 1) tree in
    let i = c.in-Within.place in
    let place = c.in-Within.ensures rows (rw (c.size_of-size.ensures.size, c.visit-node.ensures.node) d.rows_right) d.row_fits in
    let w = within h (h - 1) i c.descent.known tree d.open_tree place.0 in
    let part : Part = get_or (root_of (h - 1) tree) i no_part in
    let k = tree_known (h - 1) part (tree_at (h - 1) i (below_root (h - 1) tree)) w.is_tree in
    let less = times_less i 16 (blocks_of (h - 1)) place.0 in
    rw (c.below-tree.ensures, c.part-known.ensures, c.visit-node.ensures.node, c.size_of-size.ensures.size)
    record {
      height = omega (arith, c.descent.invariant.height);
      is_tree = w.is_tree;
      fits = omega (arith, place.1, k.longest, ap longest_free w.row);
      inside = omega (arith, less, d.open_tree.sized, c.descent.invariant.inside);
      told = omega (arith, c.descent.invariant.told, ap (fit c.args.count) d.open_tree.kinds, rw c.size_of-size.ensures.size at place.2, ap (fit c.args.count) w.row);
      visits = omega (arith, c.descent.invariant.visits, c.visit-node.ensures.ticked, d.open_tree.tall);
    }

pub returns-clause-fit : goal.returns-clause-fit
returns-clause-fit g c =
    let k = tree_known c.descent.height c.descent.known c.descent.tree c.descent.invariant.is_tree in
    let here = fit_here c.args.count (kinds_in c.descent.height c.descent.known c.descent.tree) c.requires.wanted (omega (arith, c.free_in.ensures, k.first Free)) in
    omega (arith, here, c.descent.invariant.told)
