use Rattle.bow_past.proofs.Reached.{is_sound, reaches}
use Rattle.bow_past.proofs.laws.past_law.Goals as goal

pub returns-clause-sound : goal.returns-clause-sound
returns-clause-sound c = is_sound

pub returns-clause-reach : goal.returns-clause-reach
returns-clause-reach c = reaches
