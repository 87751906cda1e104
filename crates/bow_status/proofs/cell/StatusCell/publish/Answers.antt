use Rattle.std.proofs.Common.{rules, ap, ◌∙◌, ◌<◌, ℕ, subst, sym}
use Rattle.crossbeam_utils.specs.Seq.{cell_view}
use Rattle.bow_status.specs.Rising.{newest, seen_of, opening_value}
use Rattle.bow_status.proofs.Turning.{publish_turns, last_snoc}
use Rattle.bow_status.proofs.cell.StatusCell.publish.Goals as goal

pub swap_as-requires : goal.swap_as-requires
swap_as-requires g c =
    let less : (newest (cell_view c.publisher.inside.pass).sent).version < c.shown_of.result.version = subst (λ (n : ℕ). (newest (cell_view c.publisher.inside.pass).sent).version < n) (sym (ap (λ s. s.version) c.shown_of.ensures)) (subst (λ z. (newest z.sent).version < c.args.seen.version) (sym c.publisher.view_is) c.requires.rises) in
    (search rules, (search rules, (ap (λ z. z.cell) c.publisher.view_is ∙ (c.requires.own ∙ sym c.self.view_is), publish_turns c.publisher.inside.pass.id (cell_view c.publisher.inside.pass) c.shown_of.result c.publisher.invariant less)))

pub returns-clause-newest : goal.returns-clause-newest
returns-clause-newest g c = ap (λ v. newest v.sent) c.swap_as.ensures.rule ∙ (last_snoc opening_value (cell_view c.publisher.inside.pass).sent (seen_of c.shown_of.result) ∙ c.shown_of.ensures)
