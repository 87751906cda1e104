use Rattle.std.proofs.Common.{◌≡◌, ◌+◌, ◌*◌, ◌-◌, ◌/◌, ◌%◌, ◌<◌, sym, ap, ◌∙◌, arith}
use Rattle.std.proofs.lemmas.List.{get_or-replicate}
use Rattle.bow_units.specs.declared.statuses.Kind.TheVariants.{Unchanged}
use Rattle.bow_ranges.specs.Kinds.{kind_at}
use Rattle.bow_tree.specs.Trees.{blocks_of}
use Rattle.bow_tree.proofs.Descents.{opened, within, kind_within, place_below, tree_whole, blocks_some}
use Rattle.bow_tree.proofs.reads.kind_in.Goals as goal

pub visit-node-requires : goal.visit-node-requires
visit-node-requires g c =
    let o = opened c.descent.height c.descent.known c.descent.tree c.descent.invariant.tree (omega (arith, c.size_of.ensures.size)) in
    o.width

pub part-known-requires-clause-place : goal.part-known-requires-clause-place
part-known-requires-clause-place g c =
    let o = opened c.descent.height c.descent.known c.descent.tree c.descent.invariant.tree (omega (arith, c.size_of.ensures.size)) in
    rw c.size_of-size.ensures.size (place_below c.descent.height (c.descent.height - 1) c.descent.block c.descent.known c.descent.tree o c.descent.invariant.inside)

pub below-tree-requires-clause-place : goal.below-tree-requires-clause-place
below-tree-requires-clause-place g c =
    let o = opened c.descent.height c.descent.known c.descent.tree c.descent.invariant.tree (omega (arith, c.size_of.ensures.size)) in
    rw c.size_of-size.ensures.size (place_below c.descent.height (c.descent.height - 1) c.descent.block c.descent.known c.descent.tree o c.descent.invariant.inside)

pub descent-smaller : goal.descent-smaller
descent-smaller g c =
    let o = opened c.descent.height c.descent.known c.descent.tree c.descent.invariant.tree (omega (arith, c.size_of.ensures.size)) in
    omega (arith, o.tall)

pub descent-preserved : goal.descent-preserved
descent-preserved g c =
    let h = c.descent.height in
    let tree = c.descent.tree in
    let o = opened h c.descent.known tree c.descent.invariant.tree (omega (arith, c.size_of.ensures.size)) in
    let size = blocks_of (h - 1) in
    let place = c.descent.block / size in
    let below = place_below h (h - 1) c.descent.block c.descent.known tree o c.descent.invariant.inside in
    let w = within h (h - 1) place c.descent.known tree o below in
    let some = blocks_some (h - 1) in
    let rest : c.descent.block % size < size = omega arith in
    let split : c.descent.block ≡ place * size + c.descent.block % size = omega arith in
    let told = kind_within h (h - 1) place (c.descent.block % size) c.descent.block c.descent.known tree o below rest split in
    rw (c.below-tree.ensures, c.part-known.ensures, c.visit-node.ensures.node, c.size_of-size.ensures.size)
    record {
      height = omega (arith, c.descent.invariant.height);
      tree = w.is_tree;
      inside = rest;
      told = told ∙ c.descent.invariant.told;
      visits = omega (arith, c.descent.invariant.visits, c.visit-node.ensures.ticked, o.tall);
    }

pub returns-clause-kind : goal.returns-clause-kind
returns-clause-kind g c =
    let whole = tree_whole c.descent.height c.descent.known c.descent.tree c.descent.invariant.tree (omega (arith, c.size_of.ensures.size)) in
    sym (sym c.descent.invariant.told ∙ ap (λ l. kind_at l c.descent.block) whole ∙ get_or-replicate (blocks_of c.descent.height) c.descent.block c.descent.known.first.kind Unchanged c.descent.invariant.inside)
