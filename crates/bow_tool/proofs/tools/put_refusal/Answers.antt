use Rattle.std.proofs.Common.{inr, refl}
use Rattle.bow_tool.specs.declared.refusals.Refusal.TheVariants.{NoMemory}
use Rattle.bow_tool.proofs.tools.put_refusal.Goals as goal

pub returns-in-Err : goal.returns-in-Err
returns-in-Err g c = (NoMemory, inr refl, c.put_line-in-Err.ensures)
