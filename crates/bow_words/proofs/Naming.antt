-- Each command has one name, and each name is one word.
use Rattle.std.proofs.Common.{◌≡◌, ◌==◌, ◌∙◌, ◌+◌, ◌*◌, ℕ, Bool, Option, refl, sym, ap, subst, length, get_or, arith}
use Rattle.std.specs.Prelude.{if◌then◌else◌}
use Rattle.clap.specs.Words.{Text}
use Rattle.bow_words.specs.Names.{text_of}
use Rattle.bow_words.specs.Words.{name_of}
use Rattle.bow_words.specs.declared.names.Name.{Name}
use Rattle.bow_words.specs.declared.names.Name.TheVariants.{Play, Run, Restore, Check, Forward, Start, Mark, NeedsCheckpoint, NeedsRollback, Abort, Boot, Drill, Past, Callers}
use Rattle.bow_words.specs.declared.commands.Command.{Command}
use Rattle.bow_words.specs.declared.commands.Command.TheVariants as command

-- a name can be told from its third byte and its length
abbrev told_by : ℕ → Name
told_by n =
    if n == 100 * 97 + 4 then Play else (if n == 100 * 115 + 7 then Restore else (if n == 100 * 101 + 5 then Check
    else (if n == 100 * 110 + 3 then Run else (if n == 100 * 115 + 4 then Past
    else (if n == 100 * 114 + 7 then Forward else (if n == 100 * 97 + 5 then Start else (if n == 100 * 114 + 4 then Mark
    else (if n == 100 * 101 + 16 then NeedsCheckpoint else (if n == 100 * 101 + 14 then NeedsRollback
    else (if n == 100 * 111 + 5 then Abort else (if n == 100 * 105 + 5 then Drill
    else (if n == 100 * 108 + 7 then Callers else Boot))))))))))))

abbrev number_of : Text → ℕ
number_of word = 100 * get_or word 2 0 + length word

told : (name : Name) → told_by (number_of (text_of name)) ≡ name
told Play = refl
told Run = refl
told Restore = refl
told Check = refl
told Forward = refl
told Start = refl
told Mark = refl
told NeedsCheckpoint = refl
told NeedsRollback = refl
told Abort = refl
told Boot = refl
told Drill = refl
told Past = refl
told Callers = refl

-- names with one word are one name
pub same_name : (a b : Name) → text_of a ≡ text_of b → a ≡ b
same_name a b is = sym (told a) ∙ ap (λ word. told_by (number_of word)) is ∙ told b

-- the name of a command
abbrev pub kind_of : Command → Name
kind_of (command.Play n) = Play
kind_of (command.Run n) = Run
kind_of (command.Restore limit) = Restore
kind_of command.Check = Check
kind_of command.Forward = Forward
kind_of (command.Start n) = Start
kind_of command.Mark = Mark
kind_of command.NeedsCheckpoint = NeedsCheckpoint
kind_of command.NeedsRollback = NeedsRollback
kind_of (command.Abort retry) = Abort
kind_of command.Boot = Boot
kind_of (command.Drill n) = Drill
kind_of (command.Past n first count) = Past
kind_of command.Callers = Callers

-- the commands of a name
abbrev pub IsNamed : Name → Command → Type 0
IsNamed Play c = (n : ℕ) × (c ≡ command.Play n)
IsNamed Run c = (n : ℕ) × (c ≡ command.Run n)
IsNamed Restore c = (limit : Option ℕ) × (c ≡ command.Restore limit)
IsNamed Check c = c ≡ command.Check
IsNamed Forward c = c ≡ command.Forward
IsNamed Start c = (n : ℕ) × (c ≡ command.Start n)
IsNamed Mark c = c ≡ command.Mark
IsNamed NeedsCheckpoint c = c ≡ command.NeedsCheckpoint
IsNamed NeedsRollback c = c ≡ command.NeedsRollback
IsNamed Abort c = (retry : Bool) × (c ≡ command.Abort retry)
IsNamed Boot c = c ≡ command.Boot
IsNamed Drill c = (n : ℕ) × (c ≡ command.Drill n)
IsNamed Past c = (n first count : ℕ) × (c ≡ command.Past n first count)
IsNamed Callers c = c ≡ command.Callers

pub spelled : (c : Command) → name_of c ≡ text_of (kind_of c)
spelled c = grind arith

pub of_kind : (c : Command) → IsNamed (kind_of c) c
of_kind (command.Play n) = (n, refl)
of_kind (command.Run n) = (n, refl)
of_kind (command.Restore limit) = (limit, refl)
of_kind command.Check = refl
of_kind command.Forward = refl
of_kind (command.Start n) = (n, refl)
of_kind command.Mark = refl
of_kind command.NeedsCheckpoint = refl
of_kind command.NeedsRollback = refl
of_kind (command.Abort retry) = (retry, refl)
of_kind command.Boot = refl
of_kind (command.Drill n) = (n, refl)
of_kind (command.Past n first count) = (n, first, count, refl)
of_kind command.Callers = refl

-- a command with the word of a name is one of that name
pub named : (name : Name) (c : Command) → name_of c ≡ text_of name → IsNamed name c
named name c is = subst (λ k. IsNamed k c) (same_name (kind_of c) name (sym (spelled c) ∙ is)) (of_kind c)
