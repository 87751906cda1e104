-- How the transcript of a play is told.
use Rattle.std.specs.Prelude.{◌≡◌, ℕ, Bool, true, false, List, ◌++◌}
use Rattle.bow_tool.specs.declared.outcomes.Outcome.{Outcome}
use Rattle.bow_tool.specs.declared.outcomes.Outcome.TheVariants.{Done, Refused, Behind}
use Rattle.bow_tool.specs.declared.refusals.Refusal.TheVariants.{KeeperFault, NoMemory}
use Rattle.bow_tool.specs.Refusals.{refusal_line}
use Rattle.bow_tool.specs.Drills.{TellsDrill}

-- the transcript is told, with the line of the keeper's fault where the attempts were not cleared; or there was no
-- memory for that line
abbrev pub IsTranscriptTold : List ℕ → Bool → Outcome → Type 0
IsTranscriptTold text true (Done told) = told.items ≡ text
IsTranscriptTold text false (Done told) = ⊥
IsTranscriptTold text true (Behind refusal told) = ⊥
IsTranscriptTold text false (Behind refusal told) =
    (refusal ≡ KeeperFault) × (told.items ≡ text ++ refusal_line KeeperFault)
IsTranscriptTold text cleared (Refused refusal) = refusal ≡ NoMemory

-- so it is told, if all was called; else there was no memory for a call
abbrev pub IsCalledTold : Bool → List ℕ → Bool → Outcome → Type 0
IsCalledTold true text cleared told = IsTranscriptTold text cleared told
IsCalledTold false text cleared told = told ≡ Refused NoMemory

-- a drill of this number is told; or there was no memory for it
abbrev pub IsDrillTold : ℕ → Outcome → Type 0
IsDrillTold number (Done told) = TellsDrill number told.items
IsDrillTold number (Behind refusal told) = ⊥
IsDrillTold number (Refused refusal) = refusal ≡ NoMemory
