-- The words of each command as a user writes them.
use Rattle.std.specs.Prelude.{◌≡◌, ◌≤◌, ◌^◌, ◌-◌, true, List, [], ◌∷◌, Some, codes, String}
use Rattle.std.specs.Fmt.{decimal}
use Rattle.std.specs.declared.alloc.Global.{Global}
use Rattle.clap.specs.Words.{Text}
use Rattle.bow_words.specs.declared.commands.Command.{Command}
use Rattle.bow_words.specs.declared.commands.Command.TheVariants as command
use Rattle.bow_words.specs.Words.{Asks, IsBlockWord, name_of, texts_of}

-- a command's own words: a number, three numbers, `--limit` and a number, `--retry`, or none
abbrev pub own_words : Command → List Text
own_words (command.Play n) = decimal n ∷ []
own_words (command.Run n) = decimal n ∷ []
own_words (command.Drill n) = decimal n ∷ []
own_words (command.Past n first count) = decimal n ∷ decimal first ∷ decimal count ∷ []
own_words (command.Restore (Some k)) = codes "--limit" ∷ decimal k ∷ []
own_words (command.Start n) = decimal n ∷ []
own_words (command.Abort true) = codes "--retry" ∷ []
own_words command = []

-- the numbers of a command are those that it may have
abbrev pub IsInRange : Command → Type 0
IsInRange (command.Play n) = n ≤ 2 ^ 64 - 1
IsInRange (command.Drill n) = n ≤ 2 ^ 64 - 1
IsInRange (command.Past n first count) = (n ≤ 2 ^ 64 - 1) × (first ≤ 2 ^ 32 - 1) × (1 ≤ count) × (count ≤ 4096)
IsInRange (command.Run n) = (1 ≤ n) × (n ≤ 8)
IsInRange (command.Restore (Some k)) = (1 ≤ k) × (k ≤ 2 ^ 32 - 1)
IsInRange (command.Start n) = n ≤ 2 ^ 31 - 2
IsInRange command = Unit {0}

-- the two paths, a block size, the command's name and its own words, as a user writes them, ask for the command
abbrev pub PlainWordsAsk : Type 0
PlainWordsAsk = (words : List (String Global)) (image attempts block : Text) (command : Command) → IsBlockWord block
    → IsInRange command → texts_of words ≡ image ∷ attempts ∷ block ∷ name_of command ∷ own_words command
    → Asks words command

-- the numbers of a command that words ask for are in their ranges
abbrev pub AskInRange : Type 0
AskInRange = (words : List (String Global)) (command : Command) → Asks words command → IsInRange command
