use Rattle.bow_log.proofs.InBlocks.{in_blocks, in_sectors, block_gives, block_fits, block_takes}
use Rattle.bow_log.proofs.laws.generation_law.Goals as goal

pub returns-clause-in_blocks : goal.returns-clause-in_blocks
returns-clause-in_blocks c = in_blocks

pub returns-clause-in_sectors : goal.returns-clause-in_sectors
returns-clause-in_sectors c = in_sectors

pub returns-clause-read : goal.returns-clause-read
returns-clause-read c = block_gives

pub returns-clause-spelled : goal.returns-clause-spelled
returns-clause-spelled c = block_takes

pub returns-clause-fits : goal.returns-clause-fits
returns-clause-fits c = block_fits
