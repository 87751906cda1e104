use Rattle.std.proofs.Common.{◌∷◌}
use Rattle.bow_chain.proofs.Tested.{sound_passes}
use Rattle.bow_chain.proofs.OwnBlocks.{own_blocks}
use Rattle.bow_chain.proofs.laws.own_blocks_law.Goals as goal

pub returns-clause-sound : goal.returns-clause-sound
returns-clause-sound c g image log older valid sound = own_blocks g image (log ∷ older) 0 valid (sound_passes g image log older sound)

pub returns-clause-above : goal.returns-clause-above
returns-clause-above c = own_blocks
