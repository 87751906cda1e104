-- What the code promises of a turn of a session, over the types of the machine.
use Rattle.std.specs.Prelude.{◌≡◌, ℕ, ◌+◌, ◌-◌, ◌^◌, ◌≤◌, min, max, if◌then◌else◌, Bool, true, false, List, [], ◌∷◌, ◌++◌}
use Rattle.std.specs.Prelude.{map, Option, None, Some}
use Rattle.std.specs.List.{sum_by}
use Rattle.bow_units.specs.Causes.{Rose}
use Rattle.bow_units.specs.declared.sizes.Geometry.{Geometry}
use Rattle.bow_units.specs.declared.requests.Outcome.{Outcome}
use Rattle.bow_units.specs.declared.requests.Outcome.TheVariants as outcomes
use Rattle.bow_flat.specs.Flat.{Flat}
use Rattle.bow_machine.specs.Memory.{Memory}
use Rattle.bow_machine.specs.Calls.{Call, Reply, Failed, DoesIt}
use Rattle.bow_machine.specs.MemoryIsSound.{MemoryIsSound}
use Rattle.bow_history.specs.declared.items.Item.{Item}
use Rattle.bow_history.specs.declared.items.Item.TheVariants.{Wrote as WroteItem, Got as GotItem}
use Rattle.bow_history.specs.declared.items.Item.TheVariants.{Answered as AnsweredItem}
use Rattle.bow_history.specs.Journal.{Plan, Buffers, Place, beginning, Legal}
use Rattle.bow_history.specs.Sessions.{Session, begun, Turned, reply_in, item_in, call_in, after_turn, IsTurn}
use Rattle.bow_history.specs.Sections.{SectionsRise}
use Rattle.bow_history.specs.SoundSessions.{IsSoundSession, MayRun}
use Rattle.bow_history.specs.Histories.{Disk, session_after, journal_of, calls_in, calls_after, moments_of, Runs}
use Rattle.bow_history.specs.Fits.{IsAt, Agrees}
use Rattle.bow_history.specs.Legality.{IsReadyFor}

-- ----------------------------------------------------------------------------------------------------------------
-- The device.

-- What callers see of a core: its sizes, the machine's memory, how many requests it took in, how many calls it made,
-- what its disk tells of its content, if it tells any, and the disk's count of faults.
pub record Core : Type 0 where
  pub sizes : Geometry
  pub memory : Memory
  pub admitted : ℕ
  pub calls : ℕ
  pub content : Option Disk
  pub faults : ℕ

-- a disk that tells its content goes on telling it, and the one call does this on it
abbrev pub Did : Geometry → Option Call → Reply → Option Disk → Option Disk → Type 0
Did g call reply None None = Unit {0}
Did g call reply (Some d) (Some e) = DoesIt g call reply d.now d.may e.now e.may
Did g call reply None (Some e) = ⊥
Did g call reply (Some d) None = ⊥

-- a count at its last value stays there
abbrev pub held : ℕ → ℕ
held n = min n (2 ^ 64 - 1)

-- ----------------------------------------------------------------------------------------------------------------
-- The session.

-- What callers see of a session: what is asked, the core now and as it was when the session was loaded, the turns so
-- far, and the journal with its moments.
pub record View : Type 0 where
  pub plan : Plan
  pub core : Core
  pub first : Core
  pub turns : List Turned
  pub journal : List Item
  pub moments : List ℕ

-- before its first turn
abbrev pub loaded : Plan → Core → View
loaded plan core = record { plan = plan; core = core; first = core; turns = []; journal = []; moments = [] }

-- the session before its first turn
abbrev pub start_of : View → Session
start_of v = begun v.first.memory v.first.admitted

-- the session after its turns
abbrev pub state_of : View → Session
state_of v = session_after v.plan (start_of v) v.turns

-- an item more, if there is one
abbrev pub more : {A : Type 0} → Option Item → A → List A
more None x = []
more (Some item) x = x ∷ []

-- the item alone, if there is one
abbrev pub items : Option Item → List Item
items None = []
items (Some item) = item ∷ []

-- One turn of a session: it might be made; what the session and its device keep follows from it; an item, if it made
-- one, stands at the end of the journal with the count of calls right after it; its call, if it made one, is all that
-- happened to the disk; and where that failed, the disk's count of faults rose.
pub record TurnGoes (old : View) (turn : Turned) (new : View) : Type 0 where
  pub may : IsTurn old.plan (state_of old) turn
  pub plan : new.plan ≡ old.plan
  pub first : new.first ≡ old.first
  pub sizes : new.core.sizes ≡ old.core.sizes
  pub memory : new.core.memory ≡ (after_turn old.plan (state_of old) turn).memory
  pub admitted : new.core.admitted ≡ (after_turn old.plan (state_of old) turn).admitted
  pub turns : new.turns ≡ old.turns ++ turn ∷ []
  pub journal : new.journal ≡ old.journal ++ items (item_in old.plan (state_of old) turn)
  pub moments : new.moments ≡ old.moments ++ more (item_in old.plan (state_of old) turn) new.core.calls
  pub counted : new.core.calls
      ≡ max old.core.calls (held (old.core.calls + calls_in (call_in old.plan (state_of old) turn)))
  pub did : Did old.plan.sizes (call_in old.plan (state_of old) turn) (reply_in turn) old.core.content new.core.content
  pub later : old.core.faults ≤ new.core.faults
  pub fault : reply_in turn ≡ Failed → (call : Call) → call_in old.plan (state_of old) turn ≡ Some call
      → Rose old.core.faults new.core.faults

-- ----------------------------------------------------------------------------------------------------------------
-- What holds of every session.

-- a fault of the disk
abbrev pub is_fault : Outcome → Bool
is_fault (outcomes.DiskFault done) = true
is_fault outcomes.Done = false
is_fault outcomes.Data = false
is_fault (outcomes.NoSpace done) = false
is_fault outcomes.OutOfRange = false
is_fault outcomes.ReservedMagic = false
is_fault (outcomes.WrongPhase phase) = false
is_fault (outcomes.Unsettled phase) = false

-- the item tells a fault of the disk
abbrev pub faults_in : Item → ℕ
faults_in (WroteItem lane n b) = 0
faults_in (GotItem lane n b) = 0
faults_in (AnsweredItem lane n outcome) = if is_fault outcome then 1 else 0

-- the turns lead from what the disk told at first to what it tells now
abbrev pub RunsOver : Plan → Session → List Turned → Option Disk → Option Disk → Type 0
RunsOver plan s turns None None = Unit {0}
RunsOver plan s turns (Some d) (Some e) = Runs plan s d turns e
RunsOver plan s turns None (Some e) = ⊥
RunsOver plan s turns (Some d) None = ⊥

-- The session is sound; it is what follows from its turns, which might be made, and which are a run over its disk.
pub record IsSession (v : View) : Type 0 where
  pub sizes : v.core.sizes ≡ v.plan.sizes
  pub rise : SectionsRise v.plan
  pub sound : IsSoundSession v.plan (state_of v)
  pub may : MayRun v.plan (start_of v) v.turns
  pub memory : (state_of v).memory ≡ v.core.memory
  pub admitted : (state_of v).admitted ≡ v.core.admitted
  pub journal : v.journal ≡ journal_of v.plan (start_of v) v.turns
  pub calls : v.core.calls ≡ held (calls_after v.plan (start_of v) v.first.calls v.turns)
  pub moments : v.moments ≡ map held (moments_of v.plan (start_of v) v.first.calls v.turns)
  -- the count of faults rose by at least the number of items that tell one, or stands at its last value
  pub faults : held (v.first.faults + sum_by faults_in v.journal) ≤ v.core.faults
  pub runs : RunsOver v.plan (start_of v) v.turns v.first.content v.core.content

-- A session that is loaded over sound memory in which no request waits is one.
abbrev pub LoadedIsSession : Type 0
LoadedIsSession = (plan : Plan) (core : Core) → core.sizes ≡ plan.sizes → core.calls ≤ 2 ^ 64 - 1 → SectionsRise plan
    → MemoryIsSound plan.sizes core.memory → core.memory.requests ≡ [] → IsSession (loaded plan core)

-- Each such turn leads from a session to one.
abbrev pub TurnsKeepSession : Type 0
TurnsKeepSession = (old : View) (turn : Turned) (new : View) → IsSession old → TurnGoes old turn new → IsSession new

-- where the journal leads, and what the disk tells there
pub record IsPlayed (v : View) (f : Flat) : Type 0 where
  pub disk : Disk
  pub tells : v.core.content ≡ Some disk
  pub place : Place
  pub legal : (buffer : Buffers) → Agrees v.plan (state_of v) buffer → Legal v.plan buffer v.journal (beginning f) place
  pub at : IsAt v.plan (state_of v) disk place

-- And so the journal of every session is legal, of a disk that told its content when the session was loaded, over a
-- core that stood for that state and in which no request waited.
abbrev pub SessionsAreLegal : Type 0
SessionsAreLegal = (v : View) (f : Flat) (d : Disk) → IsSession v → v.first.content ≡ Some d
    → IsReadyFor v.plan v.first.memory d f → IsPlayed v f
