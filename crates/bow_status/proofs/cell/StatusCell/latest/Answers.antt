use Rattle.std.proofs.Common.{rules, ap, ◌∙◌, sym}
use Rattle.crossbeam_utils.specs.Seq.{cell_view}
use Rattle.bow_status.proofs.Turning.{read_turns}
use Rattle.bow_status.proofs.cell.StatusCell.latest.Goals as goal

pub load_as-requires : goal.load_as-requires
load_as-requires g c = (search rules, (search rules, (ap (λ z. z.cell) c.publisher.view_is ∙ (c.requires.own ∙ sym c.self.view_is), read_turns c.publisher.inside.pass.id (cell_view c.publisher.inside.pass) c.publisher.invariant)))
