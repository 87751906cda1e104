use Rattle.bow_pair.proofs.InTheEnd.{decisions_settle, members_take_part}
use Rattle.bow_pair.proofs.laws.pair_law.Goals as goal

pub returns : goal.returns
returns g c = record { members = members_take_part g.D.Disk.content; settles = decisions_settle }
