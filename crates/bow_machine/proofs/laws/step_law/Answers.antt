use Rattle.bow_machine.proofs.Whole.{step_keeps, step_cuts}
use Rattle.bow_machine.proofs.laws.step_law.Goals as goal

pub returns-clause-keeps : goal.returns-clause-keeps
returns-clause-keeps c = step_keeps

pub returns-clause-cuts : goal.returns-clause-cuts
returns-clause-cuts c = step_cuts
