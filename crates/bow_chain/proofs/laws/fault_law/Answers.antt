use Rattle.bow_chain.proofs.Firsts.{faulty_is_not_sound, one_fault}
use Rattle.bow_chain.proofs.Decided.{sound_or_faulty}
use Rattle.bow_chain.proofs.laws.fault_law.Goals as goal

pub returns-clause-not_sound : goal.returns-clause-not_sound
returns-clause-not_sound c = faulty_is_not_sound

pub returns-clause-one : goal.returns-clause-one
returns-clause-one c = one_fault

pub returns-clause-either : goal.returns-clause-either
returns-clause-either c = sound_or_faulty
