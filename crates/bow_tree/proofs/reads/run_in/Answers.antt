use Rattle.std.proofs.Common.{◌≡◌, ℕ, ◌+◌, ◌*◌, ◌-◌, ◌/◌, ◌%◌, ◌<◌, ◌++◌, List, [], length, take, drop, sym, ap, ◌∙◌, arith, refl, append-nil, length-append}
use Rattle.bow_units.specs.declared.statuses.Kind.{Kind}
use Rattle.bow_units.specs.declared.statuses.Kind.TheVariants.{Unchanged}
use Rattle.bow_tree.specs.declared.parts.Part.{Part}
use Rattle.bow_tree.specs.Rows.{flat}
use Rattle.bow_tree.specs.Trees.{Store, blocks_of, kinds_in, IsTree}
use Rattle.bow_tree.proofs.Runs.{in_run_bound, front_bound, back_bound, none_in_run}
use Rattle.bow_tree.proofs.Descents.{tree_known, tree_whole, rows_in, blocks_few, blocks_some}
use Rattle.bow_tree.proofs.Around.{run_found}
use Rattle.bow_tree.proofs.RunSteps.{RunStep, run_step}
use Rattle.bow_tree.proofs.reads.run_in.Given.{Over}
use Rattle.bow_tree.proofs.reads.run_in.Goals as goal
use Rattle.bow_tree.proofs.reads.run_in.Goals.{After-size_of}

pub descent-init : goal.descent-init
descent-init g c = record {
  height = c.requires.height;
  is_tree = c.requires.tree;
  inside = c.requires.inside;
  at = omega arith;
  pre = [];
  post = [];
  parts = sym (append-nil (kinds_in c.args.height c.args.known c.args.tree));
  sized = refl;
  low = λ k. none_in_run k Unchanged;
  high = λ k. none_in_run k Unchanged;
}

module _ (g : Over) where
  -- the next step of the descent
  next : (c : After-size_of g) → c.descent.known.first.count < blocks_of c.descent.height
      → RunStep c.descent.height (c.descent.height - 1) (c.descent.block / blocks_of (c.descent.height - 1)) c.descent.known c.descent.tree (kinds_in c.args.height c.args.known c.args.tree) c.descent.invariant.pre c.descent.invariant.post
  next c part =
      let inv = c.descent.invariant in
      let top = tree_known c.args.height c.args.known c.args.tree c.requires.tree in
      run_step c.descent.height c.descent.block c.descent.known c.descent.tree (kinds_in c.args.height c.args.known c.args.tree) inv.pre inv.post inv.is_tree part inv.inside inv.parts (omega (arith, top.sized, blocks_few c.args.height c.requires.height))

pub visit-node-requires : goal.visit-node-requires
visit-node-requires g c =
    let s = next g (goal.at.visit-node-requires g c).After-size_of (omega (arith, c.size_of.ensures.size)) in
    s.open_tree.width

pub overflow_sub-height : goal.overflow_sub-height
overflow_sub-height g c =
    let s = next g (goal.at.overflow_sub-height g c).After-size_of (omega (arith, c.size_of.ensures.size)) in
    omega (arith, s.open_tree.tall)

pub last_of-before-requires-clause-place : goal.last_of-before-requires-clause-place
last_of-before-requires-clause-place g c =
    let s = next g (goal.at.last_of-before-requires-clause-place g c).After-size_of (omega (arith, c.size_of.ensures.size)) in
    rw c.size_of-size.ensures.size (omega (arith, s.below))

pub last_of-before-requires-clause-known : goal.last_of-before-requires-clause-known
last_of-before-requires-clause-known g c =
    let inv = c.descent.invariant in
    let s = next g (goal.at.last_of-before-requires-clause-known g c).After-size_of (omega (arith, c.size_of.ensures.size)) in
    rw (c.visit-node.ensures.node, c.size_of-size.ensures.size) (inv.pre, rows_in (c.descent.height - 1) c.descent.tree, inv.low, s.rows_right, s.low_room)

pub first_of-after-requires-clause-place : goal.first_of-after-requires-clause-place
first_of-after-requires-clause-place g c =
    let s = next g (goal.at.first_of-after-requires-clause-place g c).After-size_of (omega (arith, c.size_of.ensures.size)) in
    rw c.size_of-size.ensures.size (omega (arith, s.below))

pub first_of-after-requires-clause-known : goal.first_of-after-requires-clause-known
first_of-after-requires-clause-known g c =
    let inv = c.descent.invariant in
    let s = next g (goal.at.first_of-after-requires-clause-known g c).After-size_of (omega (arith, c.size_of.ensures.size)) in
    rw (c.visit-node.ensures.node, c.size_of-size.ensures.size) (inv.post, rows_in (c.descent.height - 1) c.descent.tree, inv.high, s.rows_right, s.high_room)

pub part-known-requires-clause-place : goal.part-known-requires-clause-place
part-known-requires-clause-place g c =
    let s = next g (goal.at.part-known-requires-clause-place g c).After-size_of (omega (arith, c.size_of.ensures.size)) in
    rw c.size_of-size.ensures.size s.below

pub below-tree-requires-clause-place : goal.below-tree-requires-clause-place
below-tree-requires-clause-place g c =
    let s = next g (goal.at.below-tree-requires-clause-place g c).After-size_of (omega (arith, c.size_of.ensures.size)) in
    rw c.size_of-size.ensures.size s.below

pub descent-smaller : goal.descent-smaller
descent-smaller g c =
    let s = next g (goal.at.descent-smaller g c).After-size_of (omega (arith, c.size_of.ensures.size)) in
    omega (arith, s.open_tree.tall)

pub descent-preserved : goal.descent-preserved
descent-preserved g c =
    let inv = c.descent.invariant in
    let s = next g (goal.at.descent-preserved g c).After-size_of (omega (arith, c.size_of.ensures.size)) in
    let size = blocks_of (c.descent.height - 1) in
    let some = blocks_some (c.descent.height - 1) in
    let rows = rows_in (c.descent.height - 1) c.descent.tree in
    let place = c.descent.block / size in
    let rest : c.descent.block % size < size = omega arith in
    let split : c.descent.block ≡ place * size + c.descent.block % size = omega arith in
    let behind = rw (c.size_of-size.ensures.size, c.visit-node.ensures.node) at c.last_of-before.ensures in
    let ahead = rw (c.size_of-size.ensures.size, c.visit-node.ensures.node) at c.first_of-after.ensures in
    rw (c.below-tree.ensures, c.part-known.ensures, c.visit-node.ensures.node, c.size_of-size.ensures.size)
    record {
      height = omega (arith, inv.height);
      is_tree = s.inner.is_tree;
      inside = rest;
      at = omega (arith, inv.at, split);
      pre = inv.pre ++ flat (take place rows);
      post = flat (drop (place + 1) rows) ++ inv.post;
      parts = s.parts;
      sized = omega (arith, s.sized, inv.sized);
      low = behind inv.pre rows inv.low s.rows_right;
      high = ahead inv.post rows inv.high s.rows_right;
    }

-- the parts of the whole, at the end
totals : (h : ℕ) (known : Part) (tree : Store) (whole pre post : List Kind) → IsTree h known tree → whole ≡ pre ++ (kinds_in h known tree ++ post) → length whole ≡ length pre + (blocks_of h + length post)
totals h known tree whole pre post t e =
    ap length e ∙ length-append pre (kinds_in h known tree ++ post) ∙ ap (λ n. length pre + n) (length-append (kinds_in h known tree) post ∙ ap (λ n. n + length post) (tree_known h known tree t).sized)

pub overflow_sub-result : goal.overflow_sub-result
overflow_sub-result g c =
    omega (arith, c.alike_in-low.ensures, in_run_bound c.descent.known.first.kind c.descent.before, back_bound c.descent.invariant.pre c.descent.before c.descent.invariant.low, c.descent.invariant.sized)

pub overflow_add-result : goal.overflow_add-result
overflow_add-result g c =
    let inv = c.descent.invariant in
    let top = tree_known c.args.height c.args.known c.args.tree c.requires.tree in
    let total = totals c.descent.height c.descent.known c.descent.tree (kinds_in c.args.height c.args.known c.args.tree) inv.pre inv.post inv.is_tree inv.parts in
    let low = back_bound inv.pre c.descent.before inv.low in
    omega (arith, c.alike_in-low.ensures, in_run_bound c.descent.known.first.kind c.descent.before, low, total, top.sized, blocks_few c.args.height c.requires.height, c.size_of-2.ensures.size)

pub overflow_add-result-2 : goal.overflow_add-result-2
overflow_add-result-2 g c =
    let inv = c.descent.invariant in
    let top = tree_known c.args.height c.args.known c.args.tree c.requires.tree in
    let total = totals c.descent.height c.descent.known c.descent.tree (kinds_in c.args.height c.args.known c.args.tree) inv.pre inv.post inv.is_tree inv.parts in
    let low = back_bound inv.pre c.descent.before inv.low in
    let high = front_bound inv.post c.descent.after inv.high in
    omega (arith, c.alike_in-low.ensures, in_run_bound c.descent.known.first.kind c.descent.before, low, c.alike_in-high.ensures, in_run_bound c.descent.known.first.kind c.descent.after, high, total, top.sized, blocks_few c.args.height c.requires.height, c.size_of-2.ensures.size)

pub returns : goal.returns
returns g c =
    let inv = c.descent.invariant in
    let h = c.descent.height in
    let kind = c.descent.known.first.kind in
    let whole = tree_whole h c.descent.known c.descent.tree inv.is_tree (omega (arith, c.size_of.ensures.size)) in
    let parts = inv.parts ∙ ap (λ l. inv.pre ++ (l ++ inv.post)) whole in
    rw c.size_of-2.ensures.size
    (run_found (kinds_in c.args.height c.args.known c.args.tree) inv.pre inv.post kind (blocks_of h) c.descent.first c.args.block c.alike_in-low.result c.alike_in-high.result
    parts inv.sized (omega (arith, inv.at)) (omega (arith, inv.at, inv.inside)) (c.alike_in-low.ensures ∙ sym (inv.low kind)) (c.alike_in-high.ensures ∙ sym (inv.high kind)))
