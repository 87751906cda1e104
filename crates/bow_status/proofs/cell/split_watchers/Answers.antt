use Rattle.std.proofs.Common.{rules}
use Rattle.crossbeam_utils.specs.Seq.{cell_view}
use Rattle.bow_status.proofs.Turning.{watcher_forks}
use Rattle.bow_status.proofs.cell.split_watchers.Goals as goal

pub split_pass-pass-requires : goal.split_pass-pass-requires
split_pass-pass-requires c = (search rules, (search rules, (search rules, watcher_forks c.loop.pass.id (cell_view c.loop.pass))))
