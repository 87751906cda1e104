use Rattle.std.proofs.Common.{◌≤◌, length, ap, ◌∙◌, arith}
use Rattle.bow_ranges.specs.Kinds.{kind_at}
use Rattle.bow_tree.specs.Trees.{kinds_in}
use Rattle.bow_tree.proofs.Pieces.{both}
use Rattle.bow_tree.proofs.Tables.{view_size, table_few, table_kind}
use Rattle.bow_tree.proofs.Visits.{few_visits}
use Rattle.bow_tree.proofs.tree.RangeTree.kind_steps.Goals as goal

pub overflow_cast-block : goal.overflow_cast-block
overflow_cast-block g c =
    let s = c.self.inside in
    let size = view_size s.blocks s.height s.known (s.parts.items, s.cells.items) c.args.self.now c.self.invariant c.self.view_is in
    omega (arith, size, table_few s.blocks s.height s.known (s.parts.items, s.cells.items) c.self.invariant, c.requires)

pub kind_in-requires-clause-inside : goal.kind_in-requires-clause-inside
kind_in-requires-clause-inside g c =
    let s = c.self.inside in
    let size = view_size s.blocks s.height s.known (s.parts.items, s.cells.items) c.args.self.now c.self.invariant c.self.view_is in
    omega (arith, size, c.self.invariant.fits, c.requires)

pub returns-clause-kind : goal.returns-clause-kind
returns-clause-kind g c =
    let s = c.self.inside in
    let size = view_size s.blocks s.height s.known (s.parts.items, s.cells.items) c.args.self.now c.self.invariant c.self.view_is in
    let nodes = c.over.ensures ∙ both c.deref.ensures.value c.deref-2.ensures.value in
    c.kind_in.ensures.kind ∙ ap (λ l. kind_at (kinds_in s.height s.known l) c.args.block) nodes
    ∙ table_kind s.blocks s.height c.args.block s.known (s.parts.items, s.cells.items) (omega (arith, size, c.requires)) ∙ ap (λ l. kind_at l c.args.block) c.self.view_is

pub returns-clause-visits : goal.returns-clause-visits
returns-clause-visits g c = λ h root.
    let some : 1 ≤ length c.args.self.now = omega (arith, c.requires) in
    omega (arith, few_visits c.args.self.now h some root, c.kind_in.ensures.visits, c.self.invariant.tall)
