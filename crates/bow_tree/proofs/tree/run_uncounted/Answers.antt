use Rattle.std.proofs.Common.{◌-◌, List, ap, subst, arith}
use Rattle.bow_units.specs.declared.statuses.Kind.{Kind}
use Rattle.bow_ranges.specs.Kinds.{IsRunOf}
use Rattle.bow_tree.specs.Trees.{kinds_in}
use Rattle.bow_tree.proofs.Tables.{view_size, table_few}
use Rattle.bow_tree.proofs.Descents.{tree_known, blocks_few}
use Rattle.bow_tree.proofs.Around.{run_cut}
use Rattle.bow_tree.proofs.tree.run_uncounted.Goals as goal

pub overflow_cast-block : goal.overflow_cast-block
overflow_cast-block g c =
    let s = c.tree.inside in
    let size = view_size s.blocks s.height s.known (s.parts.items, s.cells.items) c.args.tree.now c.tree.invariant c.tree.view_is in
    omega (arith, size, table_few s.blocks s.height s.known (s.parts.items, s.cells.items) c.tree.invariant, c.requires.inside)

pub run_in-run-requires-clause-inside : goal.run_in-run-requires-clause-inside
run_in-run-requires-clause-inside g c =
    let s = c.tree.inside in
    let size = view_size s.blocks s.height s.known (s.parts.items, s.cells.items) c.args.tree.now c.tree.invariant c.tree.view_is in
    omega (arith, size, c.tree.invariant.fits, c.requires.inside)

pub overflow_add-run : goal.overflow_add-run
overflow_add-run g c =
    let s = c.tree.inside in
    let run = rw (c.over-nodes.ensures, c.deref.ensures.value, c.deref-2.ensures.value) at c.run_in-run.ensures in
    let k = tree_known s.height s.known (s.parts.items, s.cells.items) c.tree.invariant.is_tree in
    omega (arith, run.inside, k.sized, blocks_few s.height c.tree.invariant.tall)

pub returns-clause-few : goal.returns-clause-few
returns-clause-few g c =
    let s = c.tree.inside in
    omega (arith, view_size s.blocks s.height s.known (s.parts.items, s.cells.items) c.args.tree.now c.tree.invariant c.tree.view_is, table_few s.blocks s.height s.known (s.parts.items, s.cells.items) c.tree.invariant)

pub returns-clause-run : goal.returns-clause-run
returns-clause-run g c =
    let s = c.tree.inside in
    let size = view_size s.blocks s.height s.known (s.parts.items, s.cells.items) c.args.tree.now c.tree.invariant c.tree.view_is in
    let run = rw (c.over-nodes.ensures, c.deref.ensures.value, c.deref-2.ensures.value) at c.run_in-run.ensures in
    let k = tree_known s.height s.known (s.parts.items, s.cells.items) c.tree.invariant.is_tree in
    subst (λ (l : List Kind). IsRunOf l c.args.block (record { first = c.run_in-run.result.first; count = c.min-end.result - c.run_in-run.result.first })) c.tree.view_is
    (run_cut (kinds_in s.height s.known (s.parts.items, s.cells.items)) c.args.block s.blocks (c.min-end.result - c.run_in-run.result.first) c.run_in-run.result run (omega (arith, size, c.requires.inside)) (omega (arith, k.sized, c.tree.invariant.fits))
    (ap (λ n. n - c.run_in-run.result.first) c.min-end.ensures))
