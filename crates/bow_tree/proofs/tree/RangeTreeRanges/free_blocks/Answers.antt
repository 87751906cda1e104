use Rattle.std.proofs.Common.{ap, ◌∙◌}
use Rattle.bow_ranges.specs.Kinds.{is_free, count_of}
use Rattle.bow_tree.proofs.Tables.{table_free}
use Rattle.bow_tree.proofs.tree.RangeTreeRanges.free_blocks.Goals as goal

pub returns : goal.returns
returns c =
    let s = c.self.inside in
    table_free s.blocks s.height s.known (s.parts.items, s.cells.items) c.self.invariant ∙ ap (count_of is_free) c.self.view_is
