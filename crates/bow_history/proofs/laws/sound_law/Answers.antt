use Rattle.bow_history.proofs.SoundTurns.{beginning_is_sound, turns_keep_sound, runs_keep_sound}
use Rattle.bow_history.proofs.Places.{has_place}
use Rattle.bow_history.proofs.Progress.{some_is_ready}
use Rattle.bow_history.proofs.laws.sound_law.Goals as goal

pub returns-clause-beginning : goal.returns-clause-beginning
returns-clause-beginning c = beginning_is_sound

pub returns-clause-turns : goal.returns-clause-turns
returns-clause-turns c = turns_keep_sound

pub returns-clause-runs : goal.returns-clause-runs
returns-clause-runs c = runs_keep_sound

pub returns-clause-place : goal.returns-clause-place
returns-clause-place c = has_place

pub returns-clause-ready : goal.returns-clause-ready
returns-clause-ready c = some_is_ready
