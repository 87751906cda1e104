use Rattle.std.proofs.Common.{◌-◌, length}
use Rattle.byteorder.specs.Endian.{little_bytes}
use Rattle.byteorder.specs.Numbers.{length-bytes_low_first}
use Rattle.bow_units.proofs.PatternGroups.{take-write}
use Rattle.bow_units.proofs.patterns.write_group.Goals as goal

pub returns : goal.returns
returns c = take-write c.args.at (length c.args.into.now - c.args.at) c.args.into.now c.write_u64.new.buf (little_bytes 8 c.args.number) _ c.write_u64.ensures (length-bytes_low_first 0 8 c.args.number) c.requires
