use Rattle.std.proofs.Common.{arith}
use Rattle.bow_crc.proofs.Sixteen.{all_in, none_in, one_more}
use Rattle.bow_crc.proofs.table.add_sixteen.Goals as goal

pub loop-table-init : goal.loop-table-init
loop-table-init c = none_in c.args.start c.args.bytes.now c.ranges.start.fits c.told-bytes

pub loop-table-preserved : goal.loop-table-preserved
loop-table-preserved c =
    one_more c.args.start c.loop-table.table c.loop-table.register c.row-register.result c.args.bytes.now c.to_le_bytes-from.result
    c.told-bytes c.to_le_bytes-from.ensures c.loop-table-test.true c.loop-table.invariant c.row-register.ensures

pub returns : goal.returns
returns c = all_in c.args.start c.loop-table.table c.loop-table.register c.args.bytes.now (omega arith) c.loop-table.invariant
