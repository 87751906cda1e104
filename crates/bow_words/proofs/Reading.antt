-- What is read of the words.
use Rattle.std.proofs.Common.{◌≡◌, ◌∙◌, ap, subst, ℕ, List, [], ◌∷◌, Option, Result, Ok, Err, IfOk, String, codes, get_or}
use Rattle.std.specs.String.{string_bytes}
use Rattle.std.specs.declared.alloc.Global.{Global}
use Rattle.clap.specs.Words.{App, Row, Text, first_of, first_value, rows_of}
use Rattle.clap.specs.declared.parser.matches.Found.{Found}
use Rattle.clap.proofs.WalkLemmas.{first_value-rows}
use Rattle.bow_words.specs.Words.{AreNumber, Asks, SpellsIn, Takes, name_of, number_app, past_app, word_at}
use Rattle.bow_words.specs.declared.commands.Command.{Command}
use Rattle.bow_words.specs.declared.faults.WordsFault.{WordsFault}

-- what a getter of the matches reads, by the rows
pub value_by_rows : (f : Found) (rows : List Row) → rows_of f ≡ rows → (id : Text) → first_value f id ≡ first_of id rows
value_by_rows f rows e id = first_value-rows f id ∙ ap (first_of id) e

-- a number that was read of the one word that clap found
pub number_read : (least most : ℕ) (app : App) (words : List Text) (word : Option Text) (r : Result ℕ WordsFault)
    → app ≡ number_app → Takes app words → word ≡ word_at app (codes "number") words → IfOk r (SpellsIn least most word)
    → IfOk r (AreNumber least most words)
number_read least most app words word (Ok n) same takes is spells =
    subst (λ a. Takes a words × SpellsIn least most (word_at a (codes "number") words) n) same
    (takes, subst (λ w. SpellsIn least most w n) is spells)
number_read least most app words word (Err fault) same takes is spells = tt

-- one of three numbers, read of the word that clap found under its name
pub read_under : (name : Text) (least most n : ℕ) (app : App) (words : List Text) (word : Option Text) → app ≡ past_app
    → word ≡ word_at app name words → SpellsIn least most word n → SpellsIn least most (word_at past_app name words) n
read_under name least most n app words word same is spells =
    subst (λ a. SpellsIn least most (word_at a name words) n) same (subst (λ w. SpellsIn least most w n) is spells)

-- the fourth word is the name of the command that is asked for
pub asked_name : (words : List (String Global)) (word : String Global) (c : Command) → Asks words c
    → word ≡ get_or words 3 word → string_bytes word ≡ name_of c
asked_name [] word c asks is = absurd asks
asked_name (a ∷ []) word c asks is = absurd asks
asked_name (a ∷ b ∷ []) word c asks is = absurd asks
asked_name (a ∷ b ∷ d ∷ []) word c asks is = absurd asks
asked_name (a ∷ b ∷ d ∷ name ∷ own) word c asks is = ap string_bytes is ∙ asks.1
