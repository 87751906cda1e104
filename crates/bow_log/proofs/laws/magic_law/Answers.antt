use Rattle.bow_log.proofs.InBlocks.{no_magic_is_none, spelled_has_magic, plain_spells_none}
use Rattle.bow_log.proofs.laws.magic_law.Goals as goal

pub returns-clause-fault : goal.returns-clause-fault
returns-clause-fault c = no_magic_is_none

pub returns-clause-spelled : goal.returns-clause-spelled
returns-clause-spelled c = spelled_has_magic

pub returns-clause-plain : goal.returns-clause-plain
returns-clause-plain c = plain_spells_none
