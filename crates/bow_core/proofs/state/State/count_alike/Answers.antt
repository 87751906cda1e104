use Rattle.std.proofs.Common.{◌≡◌, ◌+◌, ◌≤◌, true, List, length, ap, sym, ◌∙◌, subst}
use Rattle.bow_units.specs.declared.statuses.Kind.{Kind}
use Rattle.bow_ranges.specs.Kinds.{kind_at}
use Rattle.bow_machine.specs.Tasks.{is_source, alike_from}
use Rattle.bow_core.specs.Held.{Held}
use Rattle.bow_core.proofs.Alike.{run_alike}
use Rattle.bow_core.proofs.state.State.count_alike.Goals as goal

pub returns : goal.returns
returns g c =
    let first = c.args.first in
    let most = c.args.most in
    let run = c.run-run.result in
    let table = g.R.Ranges.kinds c.self.inside.table in
    let same = ap (λ (h : Held). h.memory.kinds) c.self.view_is in
    let inside = subst (λ (l : List Kind). first + most ≤ length l) (sym same) c.requires.inside in
    let source = subst (λ (l : List Kind). is_source (kind_at l first) (kind_at l first) ≡ true) (sym same) c.requires.source in
    c.min.ensures ∙ run_alike table first most run c.run-run.ensures.run inside source ∙ ap (λ (l : List Kind). alike_from l (kind_at l first) first most) same
