-- What a source gave: a script, or none.
use Rattle.std.specs.Prelude.{◌≡◌, ◌⊎◌, ℕ, List, length, Option, Result, Ok, Err}
use Rattle.std.specs.Io.KnownBytes.{Consumes, IsAtEnd}
use Rattle.bow_units.specs.Causes.{Rose}
use Rattle.bow_script.specs.declared.scripts.Line.{Line}
use Rattle.bow_script.specs.declared.faults.ScriptFault.TheVariants as scripts
use Rattle.bow_script.specs.Faults.{IsCause}
use Rattle.bow_script.specs.Scripts.{IsScriptText}
use Rattle.bow_play.specs.declared.faults.PlayFault.{PlayFault}
use Rattle.bow_play.specs.declared.faults.PlayFault.TheVariants.{BadScript, SourceFault, NoMemory}
use Rattle.bow_play.specs.declared.streams.ReadFault.{ReadFault}
use Rattle.bow_play.specs.declared.streams.ReadFault.TheVariants as reads

-- what a source tells of a call that took bytes from it: what it had left and has left, where it tells that; whether
-- it gave these bytes meanwhile; and whether it has ended
pub record Taken : Type 1 where
  pub left : Option (List ℕ)
  pub rest : Option (List ℕ)
  pub gave : List ℕ → Type 0
  pub ended : Type 0

-- so by the meanings of a source, before the call and after it
abbrev pub taken_from : {S : Type 0} → (S → Option (List ℕ)) → (S → S → List ℕ → Type 0) → (S → Type 0) → S → S → Taken
taken_from left gave ended old new = record { left = left old; rest = left new; gave = gave old new; ended = ended new }

-- these bytes were taken: the source gave them, and where it tells what it has left it began with them
abbrev pub WasTaken : Taken → List ℕ → Type 0
WasTaken t text = Consumes t.left t.rest text × t.gave text

-- the source has ended, and where it tells what it has left that is nothing
abbrev pub IsReadOut : Taken → Type 0
IsReadOut t = IsAtEnd t.rest × t.ended

-- Why the bytes of a source were not all read: by what was taken, and by its counts of faults.
abbrev pub ReadCause : {T : Type 0} → Taken → ℕ → ℕ → Result T ReadFault → Type 0
ReadCause t before now (Ok bytes) = Unit {0}
ReadCause t before now (Err reads.Source) = Rose before now
ReadCause t before now (Err reads.Long) = (text : List ℕ) × WasTaken t text × (length text ≡ 4194305)
ReadCause t before now (Err reads.NoMemory) = Unit {0}

-- the source gave the text of this script, and then had ended
pub record GaveScript (t : Taken) (script : List (List (List Line))) : Type 0 where
  pub text : List ℕ
  pub bytes : WasTaken t text
  pub ended : IsReadOut t
  pub spelled : IsScriptText text script

-- The source gave what is no script, to its end or until more bytes had come than a script may have; and this is the
-- line that is at fault first, or 0 for the length.
pub record GaveNoScript (t : Taken) (line : ℕ) : Type 0 where
  pub text : List ℕ
  pub bytes : WasTaken t text
  pub whole : IsReadOut t ⊎ (length text ≡ 4194305)
  pub fault : IsCause text (scripts.BadScript line)

-- why there is no script
abbrev pub ScriptCause : Taken → ℕ → ℕ → PlayFault → Type 0
ScriptCause t before now SourceFault = Rose before now
ScriptCause t before now (BadScript line) = GaveNoScript t line
ScriptCause t before now NoMemory = Unit {0}
ScriptCause t before now fault = ⊥
