use Rattle.bow_crc.proofs.Rows.{table_at}
use Rattle.bow_crc.proofs.table.row.Goals as goal

pub returns : goal.returns
returns c = table_at c.args.table c.args.byte c.requires c.ranges.byte.fits
