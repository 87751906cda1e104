-- When a text gives no script.
use Rattle.std.specs.Prelude.{◌≡◌, ◌⊎◌, ℕ, ◌<◌, ◌≤◌, List, length, take}
use Rattle.bow_script.specs.declared.scripts.Line.{Line}
use Rattle.bow_script.specs.declared.faults.ScriptFault.{ScriptFault}
use Rattle.bow_script.specs.declared.faults.ScriptFault.TheVariants.{BadScript, NoMemory}
use Rattle.bow_script.specs.Grammar.{lines_of}
use Rattle.bow_script.specs.Scripts.{Spell}

-- the lines spell some script
abbrev pub AreGood : List (List ℕ) → Type 0
AreGood lines = (script : List (List (List Line))) × Spell lines script

-- fewer than `line` lines spell a script, and that many do not: it is the first that says nothing that a
-- script may have there, or that passes a limit
pub record IsFirstFault (lines : List (List ℕ)) (line : ℕ) : Type 0 where
  pub some : 0 < line
  pub within : line ≤ length lines
  pub before : (few : ℕ) → few < line → AreGood (take few lines)
  pub fault : AreGood (take line lines) → ⊥

-- the text is longer than a script may be
abbrev pub IsTooLong : List ℕ → Type 0
IsTooLong text = 4194304 < length text

-- line 0 stands for the length, any other for the first fault; want of memory has no cause in the text
abbrev pub IsCause : List ℕ → ScriptFault → Type 0
IsCause text (BadScript line) = ((line ≡ 0) × IsTooLong text)
    ⊎ ((length text ≤ 4194304) × IsFirstFault (lines_of text) line)
IsCause text NoMemory = Unit
