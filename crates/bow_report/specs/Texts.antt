-- The lines of a transcript, and of a status.
use Rattle.std.specs.Prelude.{ℕ, List, ◌++◌, codes}
use Rattle.std.specs.List.{flat_map}
use Rattle.std.specs.Fmt.{decimal}
use Rattle.bow_units.specs.declared.requests.Outcome.{Outcome}
use Rattle.bow_units.specs.declared.requests.Outcome.TheVariants as outcomes
use Rattle.bow_units.specs.declared.requests.Phase.{Phase}
use Rattle.bow_units.specs.declared.requests.Phase.TheVariants.{Trim, Arming, Checkpoint, Deciding, Committed}
use Rattle.bow_units.specs.declared.statuses.Status.{Status}
use Rattle.bow_units.specs.Contents.{content_text}
use Rattle.bow_history.specs.declared.items.Item.{Item}
use Rattle.bow_history.specs.declared.items.Item.TheVariants.{Wrote, Got, Answered}
use Rattle.bow_history.specs.Journal.{Plan, Buffers}
use Rattle.bow_session.specs.Contents.{content_in}

-- a phase as a line has it
abbrev pub phase_text : Phase → List ℕ
phase_text Trim = codes "trim"
phase_text Arming = codes "arming"
phase_text Checkpoint = codes "checkpoint"
phase_text Deciding = codes "deciding"
phase_text Committed = codes "committed"

-- an answer as a line has it
abbrev pub outcome_text : Outcome → List ℕ
outcome_text outcomes.Done = codes "done"
outcome_text outcomes.Data = codes "data"
outcome_text (outcomes.NoSpace done) = codes "no space after " ++ decimal done
outcome_text (outcomes.DiskFault done) = codes "disk fault after " ++ decimal done
outcome_text outcomes.OutOfRange = codes "out of range"
outcome_text outcomes.ReservedMagic = codes "reserved magic"
outcome_text (outcomes.WrongPhase phase) = codes "wrong phase " ++ phase_text phase
outcome_text (outcomes.Unsettled phase) = codes "unsettled " ++ phase_text phase

-- the line of an item, with its line feed; the content is that of the block that was read
abbrev pub item_line : Item → List ℕ → List ℕ
item_line (Wrote lane number block) content = decimal lane ++ codes "." ++ decimal number ++ codes " wrote "
    ++ decimal block ++ codes "\n"
item_line (Got lane number block) content = decimal lane ++ codes "." ++ decimal number ++ codes " got "
    ++ decimal block ++ codes " " ++ content_text content ++ codes "\n"
item_line (Answered lane number outcome) content = decimal lane ++ codes "." ++ decimal number ++ codes " "
    ++ outcome_text outcome ++ codes "\n"

-- one line for each item, in order; what was read stands in the buffers of the requests that are asked
abbrev pub transcript_text : Plan → Buffers → List Item → List ℕ
transcript_text plan buffer items = flat_map (λ item. item_line item (content_in plan buffer item)) items

-- the line of a status, with its line feed
unfoldable pub status_text : Status → List ℕ
status_text s = codes "phase " ++ phase_text s.phase ++ codes " free " ++ decimal s.free ++ codes " sequence "
    ++ decimal s.sequence ++ codes " entries " ++ decimal s.entries ++ codes "\n"
