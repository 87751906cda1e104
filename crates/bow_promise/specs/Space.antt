-- Where a play finds no space.
use Rattle.std.specs.Prelude.{◌≡◌, ℕ, List, [], ◌∷◌, Option, Some}
use Rattle.bow_units.specs.declared.sizes.Geometry.{Geometry}
use Rattle.bow_units.specs.declared.requests.Op.{Op}
use Rattle.bow_units.specs.declared.requests.Op.TheVariants as ops
use Rattle.bow_units.specs.declared.requests.Outcome.TheVariants.{NoSpace}
use Rattle.bow_units.specs.Sizes.{IsValid}
use Rattle.bow_disk.specs.Disk.{Content}
use Rattle.bow_machine.specs.Memory.{Memory}
use Rattle.bow_machine.specs.MemoryLaws.{HasNoBlock, HasNoTwo}
use Rattle.bow_machine.specs.Requests.{Request}
use Rattle.bow_history.specs.declared.items.Item.{Item}
use Rattle.bow_history.specs.declared.items.Item.TheVariants.{Answered}
use Rattle.bow_history.specs.Journal.{Plan}
use Rattle.bow_history.specs.Sections.{SectionsRise}
use Rattle.bow_history.specs.Sessions.{Session, Turned, after_turn, item_in}
use Rattle.bow_history.specs.SoundSessions.{IsSoundSession, MayRun}
use Rattle.bow_session.specs.Runs.{begun_over}
use Rattle.bow_session.specs.Sessions.{Run, plan_in}
use Rattle.bow_play.specs.Playing.{IsRunOn}

-- The device has no space for such a request. For a write: nothing is in hand, the write is what the worker has to
-- serve, and no block is free. For a prepare: nothing is in hand, it is the first command, and fewer than two are.
abbrev pub HasNoSpaceFor : Geometry → Memory → Op → Type 0
HasNoSpaceFor g m (ops.Write e payload) = (r : Request) × (r.op ≡ ops.Write e payload) × HasNoBlock g m r
HasNoSpaceFor g m ops.Prepare = (r : Request) × HasNoTwo m r
HasNoSpaceFor g m op = ⊥

-- where the item that a turn makes tells of no space, there is none for its request
abbrev pub TellsNoSpace : Plan → Session → Option Item → Type 0
TellsNoSpace plan s (Some (Answered lane n (NoSpace done))) = (op : Op) × (plan.request lane n ≡ Some op)
    × HasNoSpaceFor plan.sizes s.memory op
TellsNoSpace plan s item = Unit {0}

-- so at each of these turns, of those that make the journal
abbrev pub NoSpaceIsTrue : Plan → Session → List Turned → Type 0
NoSpaceIsTrue plan s [] = Unit {0}
NoSpaceIsTrue plan s (turn ∷ turns) = TellsNoSpace plan s (item_in plan s turn)
    × NoSpaceIsTrue plan (after_turn plan s turn) turns

-- Over any disk, whatever it replies, a session finds no space only where there is none.
abbrev pub SessionsFindNoSpaceTruly : Type 0
SessionsFindNoSpaceTruly = (plan : Plan) (s : Session) (turns : List Turned) → SectionsRise plan
    → IsSoundSession plan s → MayRun plan s turns → NoSpaceIsTrue plan s turns

-- So each play, since its device was opened.
abbrev pub PlaysFindNoSpaceTruly : {D : Type 0} → (D → Option Geometry) → (D → Option Content) → (D → ℕ) → (D → ℕ
    → List (List ℕ) → Type 0) → (D → ℕ) → Type 0
PlaysFindNoSpaceTruly {D} stated content moment left faults = (old : D) (s : Run D) → IsValid s.core.geometry
    → (ran : IsRunOn stated content moment left faults old s)
    → NoSpaceIsTrue (plan_in s) (begun_over ran.first) ran.turns
