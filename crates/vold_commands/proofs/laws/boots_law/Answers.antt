use Rattle.vold_commands.proofs.Rebooting.{calls_are_cut, attempts_never_rise, boots_answer, boots_end, boots_keep, boots_roll_back}
use Rattle.vold_commands.proofs.laws.boots_law.Goals as goal

pub returns : goal.returns
returns c = record { calls = calls_are_cut; never_rise = attempts_never_rise; answer = boots_answer; ends = boots_end; keeps = boots_keep; rolls_back = boots_roll_back }
