-- Which words ask for a command.
use Rattle.std.specs.Prelude.{◌≡◌, ◌⊎◌, ◌≤◌, ◌^◌, ◌-◌, ℕ, Bool, true, false, List, [], ◌∷◌, Option, Some, None, map, codes, String}
use Rattle.std.specs.String.{string_bytes}
use Rattle.std.specs.Fmt.{decimal}
use Rattle.std.specs.declared.alloc.Global.{Global}
use Rattle.clap.specs.Words.{App, Rule, Text, fault_of, first_of, matches_of, new_rule}
use Rattle.clap.specs.Simple.{new_shape}
use Rattle.clap.specs.declared.builder.action.ArgAction.TheVariants.{SetTrue}
use Rattle.bow_words.specs.declared.commands.Command.{Command}
use Rattle.bow_words.specs.declared.commands.Command.TheVariants as command

-- a simple command of clap with these arguments, that reads nothing but a command's own words, and knows no help and
-- no version
abbrev pub plain_app : List Rule → App
plain_app rules = record {
  top = record (new_shape (codes "bow")) {
    rules = rules;
    no_binary_name = true;
    disable_help_flag = true;
    disable_version_flag = true;
  };
  subs = [];
}

-- no own words
abbrev pub none_app : App
none_app = plain_app []

-- one word, which must stand
abbrev pub number_app : App
number_app = plain_app (record (new_rule (codes "number")) { required = true } ∷ [])

-- three words, which must stand
abbrev pub past_app : App
past_app = plain_app (record (new_rule (codes "number")) { required = true }
    ∷ record (new_rule (codes "first")) { required = true }
    ∷ record (new_rule (codes "count")) { required = true } ∷ [])

-- `--limit K`, or nothing
abbrev pub limit_app : App
limit_app = plain_app (record (new_rule (codes "limit")) { long = Some (codes "limit") } ∷ [])

-- `--retry`, or nothing
abbrev pub retry_app : App
retry_app = plain_app (record (new_rule (codes "retry")) { long = Some (codes "retry"); action = Some SetTrue } ∷ [])

-- the bytes of each word
abbrev pub texts_of : List (String Global) → List Text
texts_of = map string_bytes

-- clap takes the own words of a command
abbrev pub Takes : App → List Text → Type 0
Takes app words = fault_of app words ≡ []

-- what clap finds under a name
abbrev pub word_at : App → Text → List Text → Option Text
word_at app name words = first_of name (matches_of app words)

-- a number from `least` to `most`, of which this is the text
abbrev pub SpellsIn : ℕ → ℕ → Option Text → ℕ → Type 0
SpellsIn least most word n = (least ≤ n) × (n ≤ most) × (word ≡ Some (decimal n))

-- the words are one number from `least` to `most`
abbrev pub AreNumber : ℕ → ℕ → List Text → ℕ → Type 0
AreNumber least most words n = Takes number_app words
    × SpellsIn least most (word_at number_app (codes "number") words) n

-- the words are the number of a schedule, a first block, and how many blocks
abbrev pub ArePast : List Text → ℕ → ℕ → ℕ → Type 0
ArePast words n first count = Takes past_app words
    × SpellsIn 0 (2 ^ 64 - 1) (word_at past_app (codes "number") words) n
    × SpellsIn 0 (2 ^ 32 - 1) (word_at past_app (codes "first") words) first
    × SpellsIn 1 4096 (word_at past_app (codes "count") words) count

-- the words give a limit, or none
abbrev pub AreLimit : List Text → Option ℕ → Type 0
AreLimit words None = Takes limit_app words × (word_at limit_app (codes "limit") words ≡ None)
AreLimit words (Some k) = Takes limit_app words × SpellsIn 1 (2 ^ 32 - 1) (word_at limit_app (codes "limit") words) k

-- the text of a truth value
abbrev pub truth_text : Bool → Text
truth_text true = codes "true"
truth_text false = codes "false"

-- the words ask for a retry, or do not
abbrev pub AreRetry : List Text → Bool → Type 0
AreRetry words retry = Takes retry_app words × (word_at retry_app (codes "retry") words ≡ Some (truth_text retry))

-- a command's name
abbrev pub name_of : Command → Text
name_of (command.Play n) = codes "play"
name_of (command.Run n) = codes "run"
name_of (command.Restore limit) = codes "restore"
name_of command.Check = codes "check"
name_of command.Forward = codes "forward"
name_of (command.Start n) = codes "start"
name_of command.Mark = codes "mark"
name_of command.NeedsCheckpoint = codes "needs-checkpoint"
name_of command.NeedsRollback = codes "needs-rollback"
name_of (command.Abort retry) = codes "abort"
name_of command.Boot = codes "boot"
name_of (command.Drill n) = codes "drill"
name_of (command.Past n first count) = codes "past"
name_of command.Callers = codes "callers"

-- a command's own words
abbrev pub OwnWords : List Text → Command → Type 0
OwnWords own (command.Play n) = AreNumber 0 (2 ^ 64 - 1) own n
OwnWords own (command.Drill n) = AreNumber 0 (2 ^ 64 - 1) own n
OwnWords own (command.Past n first count) = ArePast own n first count
OwnWords own (command.Run n) = AreNumber 1 8 own n
OwnWords own (command.Restore limit) = AreLimit own limit
OwnWords own (command.Start n) = AreNumber 0 (2 ^ 31 - 2) own n
OwnWords own (command.Abort retry) = AreRetry own retry
OwnWords own command = Takes none_app own

-- a size that a block may have
abbrev pub IsBlockWord : Text → Type 0
IsBlockWord word = (word ≡ codes "512") ⊎ ((word ≡ codes "1024") ⊎ ((word ≡ codes "2048") ⊎ (word ≡ codes "4096")))

-- The words ask for a command: the image's path, the attempts' path, a block size, the command's name and its own
-- words.
abbrev pub Asks : List (String Global) → Command → Type 0
Asks (image ∷ attempts ∷ block ∷ name ∷ own) command =
    IsBlockWord (string_bytes block) × (string_bytes name ≡ name_of command) × OwnWords (texts_of own) command
Asks words command = ⊥

-- no words ask for two commands
abbrev pub AskForOne : Type 0
AskForOne = (words : List (String Global)) (a b : Command) → Asks words a → Asks words b → a ≡ b
