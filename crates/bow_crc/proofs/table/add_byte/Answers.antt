use Rattle.bow_crc.proofs.Bits.{byte_by_row}
use Rattle.bow_crc.proofs.table.add_byte.Goals as goal

pub returns : goal.returns
returns c = byte_by_row c.args.register c.args.byte c.row.result c.row.ensures
