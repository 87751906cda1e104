-- The run itself: its turns, and journal, moments and calls as they follow from it; and a run over a disk.
use Rattle.std.specs.Prelude.{◌≡◌, ◌⊎◌, ℕ, ◌+◌, ◌≤◌, List, [], ◌∷◌, Option, None, Some}
use Rattle.bow_chain.specs.Contents.{Contents}
use Rattle.bow_guard.specs.Cuts.{Candidates, IsCut}
use Rattle.bow_machine.specs.Calls.{DoesIt}
pub use Rattle.bow_machine.specs.Calls.{calls_in}
use Rattle.bow_history.specs.declared.items.Item.{Item}
use Rattle.bow_history.specs.Journal.{Plan}
use Rattle.bow_history.specs.Sessions.{Session, Turned, after_turn, item_in, call_in, reply_in, IsTurn}

-- the session after these turns
abbrev pub session_after : Plan → Session → List Turned → Session
session_after plan s [] = s
session_after plan s (turn ∷ turns) = session_after plan (after_turn plan s turn) turns

-- with the item, if there is one
abbrev pub with_item : {A : Type 0} → Option Item → A → List A → List A
with_item None x xs = xs
with_item (Some item) x xs = x ∷ xs

-- the items, in order
abbrev pub with_items : Option Item → List Item → List Item
with_items None items = items
with_items (Some item) items = item ∷ items

-- the journal that these turns make
abbrev pub journal_of : Plan → Session → List Turned → List Item
journal_of plan s [] = []
journal_of plan s (turn ∷ turns) = with_items (item_in plan s turn) (journal_of plan (after_turn plan s turn) turns)

-- how many calls were made after these turns, where so many were before
abbrev pub calls_after : Plan → Session → ℕ → List Turned → ℕ
calls_after plan s calls [] = calls
calls_after plan s calls (turn ∷ turns) = calls_after plan (after_turn plan s turn) (calls
    + calls_in (call_in plan s turn)) turns

-- the count of calls right after each turn that made an item
abbrev pub moments_of : Plan → Session → ℕ → List Turned → List ℕ
moments_of plan s calls [] = []
moments_of plan s calls (turn ∷ turns) = with_item (item_in plan s turn) (calls
    + calls_in (call_in plan s turn)) (moments_of plan (after_turn plan s turn) (calls
    + calls_in (call_in plan s turn)) turns)

-- what a disk holds, and what a cut may leave of each block
pub record Disk : Type 0 where
  pub now : Contents
  pub may : Candidates

-- the turn's call, if it makes one, does this on the disk
abbrev pub DoesTurn : Plan → Session → Turned → Disk → Disk → Type 0
DoesTurn plan s turn d e = DoesIt plan.sizes (call_in plan s turn) (reply_in turn) d.now d.may e.now e.may

-- these turns may be made, and lead from the one disk to the other
abbrev pub Runs : Plan → Session → Disk → List Turned → Disk → Type 0
Runs plan s d [] e = e ≡ d
Runs plan s d (turn ∷ turns) e = IsTurn plan s turn × (mid : Disk) × DoesTurn plan s turn d mid
    × Runs plan (after_turn plan s turn) mid turns e

-- A cut might have left this image since the count of calls was `since`: before a call that was made from then on, or
-- after the last one.
abbrev pub LeftSince : (plan : Plan) (s : Session) (calls : ℕ) (d : Disk) (turns : List Turned) (e : Disk)
    → Runs plan s d turns e → ℕ → Contents → Type 0
LeftSince plan s calls d [] e run since image = IsCut plan.sizes d.may image
LeftSince plan s calls d (turn ∷ turns) e run since image = ((since ≤ calls) × (calls_in (call_in plan s turn) ≡ 1)
    × IsCut plan.sizes d.may image)
    ⊎ LeftSince plan (after_turn plan s turn) (calls + calls_in (call_in plan s turn)) run.1 turns e run.3 since image
