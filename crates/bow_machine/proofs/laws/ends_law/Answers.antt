use Rattle.bow_machine.proofs.SoundEnds.{steps_are_few, steps_go_down, every_run_ends}
use Rattle.bow_machine.proofs.SoundReady.{some_turn_is_ready}
use Rattle.bow_machine.proofs.laws.ends_law.Goals as goal

pub returns-clause-down : goal.returns-clause-down
returns-clause-down c = steps_go_down

pub returns-clause-ends : goal.returns-clause-ends
returns-clause-ends c = every_run_ends

pub returns-clause-ready : goal.returns-clause-ready
returns-clause-ready c = some_turn_is_ready

pub returns-clause-few : goal.returns-clause-few
returns-clause-few c = steps_are_few
