use Rattle.std.proofs.Common.{rules}
use Rattle.bow_crc.proofs.Vectors.{two_out}
use Rattle.bow_crc.proofs.pairs.go_out.Goals as goal

pub returns : goal.returns
returns c =
    two_out c.args.next c.args.near c.args.far c.args.near_odd c.args.far_odd c.changes.result.0 c.changes.result.1 c.changes.result.2 c.changes.result.3 c.between.result
    c.fits-next.0 c.fits-next.1 c.fits-near.0 c.fits-near.1 c.fits-far.0 c.fits-far_odd.0 (search rules) (search rules) c.between.ensures c.changes.ensures
