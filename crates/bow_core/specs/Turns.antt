-- What steps tell, in the machine's words.
use Rattle.bow_machine.specs.Steps.{Told, Idle, Moved, Wrote, Got, Answered}
use Rattle.bow_core.specs.declared.turns.Step.{Step as OwnStep}
use Rattle.bow_core.specs.declared.turns.Step.TheVariants as steps

-- what a step tells
abbrev pub told_of : OwnStep → Told
told_of steps.Idle = Idle
told_of steps.Moved = Moved
told_of (steps.Wrote ticket index) = Wrote ticket index
told_of (steps.Got ticket index) = Got ticket index
told_of (steps.Answered ticket op outcome) = Answered ticket op outcome
