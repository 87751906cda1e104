use Rattle.bow_crc.proofs.Vectors.{changes}
use Rattle.bow_crc.proofs.lanes.changes.Goals as goal

pub returns : goal.returns
returns c = changes c.args.w c.fits-w.0 c.fits-w.1
