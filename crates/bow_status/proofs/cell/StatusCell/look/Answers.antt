use Rattle.std.proofs.Common.{rules, ap, ◌∙◌, sym}
use Rattle.crossbeam_utils.specs.Seq.{cell_view}
use Rattle.bow_status.proofs.Turning.{look_turns}
use Rattle.bow_status.proofs.cell.StatusCell.look.Goals as goal

pub load_as-requires : goal.load_as-requires
load_as-requires g c = (search rules, (search rules, (ap (λ z. z.cell) c.watcher.view_is ∙ (c.requires.own ∙ sym c.self.view_is), look_turns c.watcher.inside.pass.id (cell_view c.watcher.inside.pass))))
