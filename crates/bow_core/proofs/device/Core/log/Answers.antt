use Rattle.bow_core.proofs.Beside.{readable}
use Rattle.bow_core.proofs.device.Core.log.Goals as goal

pub returns-clause-readable : goal.returns-clause-readable
returns-clause-readable g c f log stands phase some = readable g.D.Disk.content c.args.self.now f log stands phase some
