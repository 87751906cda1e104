-- What a session keeps over any disk, whatever its calls reply.
use Rattle.std.specs.Prelude.{ℕ, ◌<◌, ◌≡◌, List, [], ◌∷◌, length, None, Some, true}
use Rattle.bow_units.specs.declared.requests.Op.{Op}
use Rattle.bow_machine.specs.Memory.{Memory}
use Rattle.bow_machine.specs.MemoryIsSound.{MemoryIsSound}
use Rattle.bow_history.specs.declared.items.Actor.{Actor}
use Rattle.bow_history.specs.Journal.{Plan}
use Rattle.bow_history.specs.Sessions.{Session, begun, Turned, after_turn, IsTurn}
use Rattle.bow_history.specs.Histories.{session_after}
use Rattle.bow_history.specs.Fits.{AreSeated}
use Rattle.bow_history.specs.Ready.{is_actor_ready}
use Rattle.bow_history.specs.Sections.{SectionsRise, InSections}

-- The device's memory is sound; each request that waits is in the hand of one lane; and what is in a hand is of the
-- present section.
pub record IsSoundSession (plan : Plan) (s : Session) : Type 0 where
  pub memory : MemoryIsSound plan.sizes s.memory
  pub seated : AreSeated plan s.memory.requests s.admitted s.number s.hand
  pub present : InSections plan s

-- A session begins so over sound memory in which no request waits.
abbrev pub BeginningIsSound : Type 0
BeginningIsSound = (plan : Plan) (m : Memory) (admitted : ℕ) → MemoryIsSound plan.sizes m → m.requests ≡ []
    → IsSoundSession plan (begun m admitted)

-- And stays so with each turn that it may make.
abbrev pub TurnsKeepSound : Type 0
TurnsKeepSound = (plan : Plan) (s : Session) (turn : Turned) → SectionsRise plan → IsSoundSession plan s
    → IsTurn plan s turn → IsSoundSession plan (after_turn plan s turn)

-- each of these turns may be made
abbrev pub MayRun : Plan → Session → List Turned → Type 0
MayRun plan s [] = Unit {0}
MayRun plan s (turn ∷ turns) = IsTurn plan s turn × MayRun plan (after_turn plan s turn) turns

-- So with each run of turns.
abbrev pub RunsKeepSound : Type 0
RunsKeepSound = (plan : Plan) (s : Session) (turns : List Turned) → SectionsRise plan → IsSoundSession plan s
    → MayRun plan s turns → IsSoundSession plan (session_after plan s turns)

-- While a lane has nothing in hand, fewer requests wait than there are lanes.
abbrev pub HasPlace : Type 0
HasPlace = (plan : Plan) (s : Session) (lane : ℕ) → IsSoundSession plan s → lane < plan.lanes → s.hand lane ≡ None
    → length s.memory.requests < plan.lanes

-- Where a lane has an unanswered request, some actor makes a step.
abbrev pub SomeIsReady : Type 0
SomeIsReady = (plan : Plan) (s : Session) (lane : ℕ) (op : Op) → IsSoundSession plan s → lane < plan.lanes
    → plan.request lane (s.number lane) ≡ Some op → (actor : Actor) × (is_actor_ready plan s actor ≡ true)
