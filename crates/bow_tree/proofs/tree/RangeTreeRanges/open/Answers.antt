use Rattle.std.proofs.Common.{◌≡◌, replicate, ap, ◌∙◌, arith}
use Rattle.bow_units.specs.declared.statuses.Kind.TheVariants.{Unchanged}
use Rattle.bow_tree.specs.declared.parts.Part.{Part}
use Rattle.bow_tree.specs.Trees.{Store}
use Rattle.bow_tree.specs.Rooms.{HasRoom}
use Rattle.bow_tree.specs.Tables.{kinds_of, IsTable}
use Rattle.bow_tree.proofs.Changes.{alike_kinds, alike_tree}
use Rattle.bow_tree.proofs.Tables.{new_table}
use Rattle.bow_tree.proofs.tree.RangeTreeRanges.open.Goals as goal

-- a table of blocks that are all Unchanged
opened : (c : goal.In_ok-cells) → let h = c.height_for-height.result in let tree : Store = (c.in_ok-parts.parts.items, c.in_ok-cells.cells.items) in
    (IsTable c.args.blocks h c.alike-known.result tree) × (kinds_of c.args.blocks h c.alike-known.result tree ≡ replicate c.args.blocks Unchanged)
opened c =
    let h = c.height_for-height.result in
    let size = c.size_of.ensures.size in
    let first = ap (λ (p : Part). p.first) c.alike-known.ensures.part ∙ ap (λ n. record { kind = Unchanged; count = n }) size in
    let known = rw size at c.alike-known.ensures.known in
    let tree : Store = (c.in_ok-parts.parts.items, c.in_ok-cells.cells.items) in
    let roomy : HasRoom h c.args.blocks tree = record {
      parts = omega (arith, c.in_ok-parts.ensures.len, c.in_ok-parts.parts.ok.0, c.parts_for.ensures);
      kinds = omega (arith, c.in_ok-cells.ensures.len, c.in_ok-cells.cells.ok.0, c.kinds_for.ensures);
    } in
    new_table c.args.blocks h c.alike-known.result tree c.height_for-height.ensures.few roomy
    (alike_tree h Unchanged c.alike-known.result tree first known) c.requires.some c.height_for-height.ensures.enough (alike_kinds h Unchanged c.alike-known.result tree first)

pub invariant_of-result : goal.invariant_of-result
invariant_of-result c = (opened c).0

pub returns : goal.returns
returns c = (opened c).1
