-- The commands that words ask for, and those that need no threads.
use Rattle.std.proofs.Common.{◌≡◌, ℕ, None, Some, refl, arith}
use Rattle.bow_words.specs.declared.commands.Command.{Command}
use Rattle.bow_words.specs.declared.commands.Command.TheVariants.{Play, Run, Restore, Check, Forward, Start, Mark, NeedsCheckpoint, NeedsRollback, Abort, Boot, Drill, Past, Callers}
use Rattle.bow_words.specs.Plain as words
use Rattle.bow_tool.specs.Commands.{IsInRange, IsManaged}

pub in_range : (command : Command) → words.IsInRange command → IsInRange command
in_range (Play number) range = tt
in_range (Run servers) range = range
in_range (Restore None) range = tt
in_range (Restore (Some limit)) range = omega (arith, range.0)
in_range Check range = tt
in_range Forward range = tt
in_range (Start retries) range = omega (arith, range)
in_range Mark range = tt
in_range NeedsCheckpoint range = tt
in_range NeedsRollback range = tt
in_range (Abort retry) range = tt
in_range Boot range = tt
in_range (Drill number) range = tt
in_range (Past number first count) range = (range.2, range.3)
in_range Callers range = tt

pub managed : (command : Command) → ((servers : ℕ) → command ≡ Run servers → ⊥) → (command ≡ Callers → ⊥) → IsManaged command
managed (Play number) other callers = tt
managed (Run servers) other callers = absurd (other servers refl)
managed (Restore limit) other callers = tt
managed Check other callers = tt
managed Forward other callers = tt
managed (Start retries) other callers = tt
managed Mark other callers = tt
managed NeedsCheckpoint other callers = tt
managed NeedsRollback other callers = tt
managed (Abort retry) other callers = tt
managed Boot other callers = tt
managed (Drill number) other callers = tt
managed (Past number first count) other callers = tt
managed Callers other callers = absurd (callers refl)
