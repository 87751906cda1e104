use Rattle.std.proofs.Common.{◌≡◌, ◌+◌, drop}
use Rattle.std.specs.List.{sum_by}
use Rattle.bow_session.specs.Loading.{line_items}
use Rattle.bow_session.proofs.loading.items_of.Given as goal

abbrev pub invariant-loop-line : goal.invariant-loop-line
invariant-loop-line l = l.items + sum_by line_items (drop l.line-index l.lines) ≡ sum_by line_items l.lines
