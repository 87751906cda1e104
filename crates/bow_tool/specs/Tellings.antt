-- How the answers of the calls below are told.
use Rattle.vold_meta.specs.declared.attempts.AttemptFault.{AttemptFault}
use Rattle.vold_meta.specs.declared.attempts.AttemptFault.TheVariants as fault
use Rattle.vold_commands.specs.declared.starting.StartFault.{StartFault}
use Rattle.vold_commands.specs.declared.starting.StartFault.TheVariants as starts
use Rattle.bow_words.specs.declared.faults.WordsFault.{WordsFault}
use Rattle.bow_words.specs.declared.faults.WordsFault.TheVariants as words
use Rattle.bow_tool.specs.declared.refusals.Refusal.{Refusal}
use Rattle.bow_tool.specs.declared.refusals.Refusal.TheVariants.{BadWords, KeeperFault, BadAttempts, NoMemory}

-- why no command was read, as a refusal
abbrev pub refusal_of_words : WordsFault → Refusal
refusal_of_words words.BadWords = BadWords
refusal_of_words words.NoMemory = NoMemory

-- why the attempts can't be read, as a refusal
abbrev pub refusal_of_attempts : AttemptFault → Refusal
refusal_of_attempts fault.KeeperFault = KeeperFault
refusal_of_attempts fault.BadAttempts = BadAttempts

-- why a checkpoint can't be started
abbrev pub refusal_of_start : StartFault → Refusal
refusal_of_start (starts.BadRetry retries) = BadWords
refusal_of_start starts.KeeperFault = KeeperFault
