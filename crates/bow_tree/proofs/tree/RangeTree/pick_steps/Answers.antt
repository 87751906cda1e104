use Rattle.std.proofs.Common.{◌≤◌, List, length, ap, ◌∙◌, arith}
use Rattle.bow_units.specs.declared.statuses.Kind.{Kind}
use Rattle.bow_ranges.specs.Picks.{picked}
use Rattle.bow_tree.specs.Trees.{kinds_in}
use Rattle.bow_tree.proofs.Pieces.{both}
use Rattle.bow_tree.proofs.Tables.{view_size, table_picked}
use Rattle.bow_tree.proofs.Visits.{few_visits}
use Rattle.bow_tree.proofs.tree.RangeTree.pick_steps.Goals as goal

pub returns-clause-picked : goal.returns-clause-picked
returns-clause-picked g c =
    let s = c.self.inside in
    let nodes = c.over.ensures ∙ both c.deref.ensures.value c.deref-2.ensures.value in
    c.pick_in.ensures.picked ∙ ap (λ l. picked (kinds_in s.height s.known l) c.args.want) nodes
    ∙ table_picked s.blocks s.height c.args.want s.known (s.parts.items, s.cells.items) c.self.invariant c.requires ∙ ap (λ (l : List Kind). picked l c.args.want) c.self.view_is

pub returns-clause-visits : goal.returns-clause-visits
returns-clause-visits g c = λ h root.
    let s = c.self.inside in
    let size = view_size s.blocks s.height s.known (s.parts.items, s.cells.items) c.args.self.now c.self.invariant c.self.view_is in
    let some : 1 ≤ length c.args.self.now = omega (arith, size, c.self.invariant.some) in
    omega (arith, few_visits c.args.self.now h some root, c.pick_in.ensures.visits, c.self.invariant.tall)
