-- What holds of every text.
use Rattle.std.specs.Prelude.{◌≡◌, ◌≢◌, ◌⊎◌, ◌↔◌, ℕ, ◌<◌, List, [], ◌∷◌, ◌++◌, length, All}
use Rattle.bow_script.specs.declared.scripts.Line.{Line}
use Rattle.bow_script.specs.declared.faults.ScriptFault.TheVariants.{BadScript}
use Rattle.bow_script.specs.Grammar.{lines_of}
use Rattle.bow_script.specs.Scripts.{ended, IsScriptText}
use Rattle.bow_script.specs.Faults.{IsCause}

-- the text is these lines and one more, which is not empty and has no line feed behind it
abbrev pub HasTail : List ℕ → List (List ℕ) → Type 0
HasTail text lines =
    (front : List (List ℕ)) × (last : List ℕ) × (lines ≡ front ++ last ∷ []) × (0 < length last)
    × (text ≡ ended front ++ last)

-- no line has a line feed in it, and each is ended by one, which the last may lack
pub record HasLines (text : List ℕ) (lines : List (List ℕ)) : Type 0 where
  pub unfed : All (λ line. All (λ byte. byte ≢ 10) line) lines
  pub whole : (text ≡ ended lines) ⊎ HasTail text lines

-- a text has these lines and no others
abbrev pub LinesAreExact : Type 0
LinesAreExact = (text : List ℕ) (lines : List (List ℕ)) → HasLines text lines ↔ (lines ≡ lines_of text)

-- a text spells at most one script
abbrev pub ScriptsAreOne : Type 0
ScriptsAreOne =
    (text : List ℕ) (script other : List (List (List Line))) → IsScriptText text script → IsScriptText text other
    → script ≡ other

-- a text that spells a script has no fault
abbrev pub ScriptsAreFaultless : Type 0
ScriptsAreFaultless =
    (text : List ℕ) (script : List (List (List Line))) (line : ℕ) → IsScriptText text script
    → IsCause text (BadScript line) → ⊥

-- a text has at most one line of its first fault
abbrev pub FaultsAreOne : Type 0
FaultsAreOne =
    (text : List ℕ) (line other : ℕ) → IsCause text (BadScript line) → IsCause text (BadScript other) → line ≡ other
