-- Where a session leads that was loaded over a device: what its callers may cite, without its turns.
use Rattle.std.specs.Prelude.{◌≡◌, ◌⊎◌, ℕ, suc, ◌+◌, ◌-◌, ◌^◌, ◌<◌, ◌≤◌, List, [], length, slice_index_or, Option, Some}
use Rattle.std.specs.List.{sum_by}
use Rattle.bow_units.specs.Causes.{Rose}
use Rattle.bow_units.specs.declared.sizes.Geometry.{Geometry}
use Rattle.bow_disk.specs.Disk.{Content, IsCrash}
use Rattle.bow_chain.specs.Contents.{Contents, contents_of}
use Rattle.bow_flat.specs.Flat.{Flat}
use Rattle.bow_machine.specs.MemoryIsSound.{MemoryIsSound}
use Rattle.bow_core.specs.Further.{LedIn}
use Rattle.bow_core.specs.Standing.{StandsIn}
use Rattle.bow_core.specs.Views.{View}
use Rattle.bow_script.specs.declared.scripts.Line.{Line}
use Rattle.bow_history.specs.Cuts.{IsOnTheWayBy, NoneFails}
use Rattle.bow_history.specs.DiskCuts.{StandsAheadToo}
use Rattle.bow_history.specs.Ends.{in_hand, over_lanes}
use Rattle.bow_history.specs.Fits.{Agrees}
use Rattle.bow_history.specs.Journal.{Plan, Buffers, Place, beginning, Legal, IsMidway}
use Rattle.bow_history.specs.Legality.{StartsUntouched}
use Rattle.bow_history.specs.Promises.{faults_in, held}
use Rattle.bow_history.specs.Sessions.{Session, Turned}
use Rattle.bow_session.specs.Cuts.{CutsAreOfRun}
use Rattle.bow_session.specs.Requests.{lanes_of, requests_in}
use Rattle.bow_session.specs.Runs.{IsRun, begun_over}
use Rattle.bow_session.specs.Sessions.{Run, plan_in, state_in}

-- the count did not rise, and is not at its last value
abbrev pub StaysBelow : ℕ → ℕ → Type 0
StaysBelow before now = Rose before now → ⊥

-- how many requests of the first so many lanes were taken in: those that are answered, and those in hand
abbrev pub taken_by : Session → ℕ → ℕ
taken_by s lanes = over_lanes (λ lane. s.number lane + in_hand (s.hand lane)) lanes

-- The session was loaded over this device, whose memory was sound and in which no request waited. It is a run since
-- then, its cuts are those of that run, and no call failed where the disk's count of faults did not rise. The device
-- has admitted no other requests since then.
pub record WasLoaded {D : Type 0} (stated : D → Option Geometry) (content : D → Option Content) (moment : D → ℕ)
    (left : D → ℕ → List (List ℕ) → Type 0) (faults : D → ℕ) (first : View D) (v : Run D) : Type 0 where
  pub turns : List Turned
  pub run : IsRun stated content faults first turns v
  pub cuts : CutsAreOfRun content moment left first turns v
  pub sizes : first.geometry ≡ v.core.geometry
  pub sound : MemoryIsSound v.core.geometry first.memory
  pub idle : first.memory.requests ≡ []
  pub later : faults first.disk ≤ faults v.core.disk
  pub fine : StaysBelow (faults first.disk) (faults v.core.disk) → NoneFails (plan_in v) (begun_over first) turns
  pub admitted : v.core.admitted ≤ first.admitted + taken_by (state_in v) (lanes_of v.script)

-- a device with which a journal begins at this state: it stands for it, and in the checkpoint nothing was touched
abbrev pub BeginsAt : {D : Type 0} → (D → Option Content) → Plan → View D → Flat → Type 0
BeginsAt content plan first f = StandsIn content first f × StartsUntouched plan first.memory first.memory.phase
    first.memory.log

-- Where a session leads that began at this state. Its journal is legal from there to a place, and the device stands for
-- a state midway of it; where no request waits, for the state of that place, and each crash image is said of by it.
-- What a cut left since the loading is said of by a state midway of a place on the way of the journal, and what it left
-- since an earlier moment too, where it was not left before the loading. Since the moment of an item it is on the way
-- of one that has the item, where the clock of the disk stood at `before` when the device's count of calls began.
pub record LeadsFrom {D : Type 0} (content : D → Option Content) (moment : D → ℕ) (left : D → ℕ → List (List ℕ)
    → Type 0) (says : Flat → Contents → Type 0) (first : View D) (f : Flat) (v : Run D) : Type 0 where
  pub place : Place
  pub legal : (buffer : Buffers) → Agrees (plan_in v) (state_in v) buffer
      → Legal (plan_in v) buffer v.journal (beginning f) place
  pub state : Flat
  pub device : StandsIn content v.core state
  pub midway : IsMidway (plan_in v) place state
  pub stands : v.core.memory.requests ≡ [] → StandsIn content v.core place.flat
  pub end : v.core.memory.requests ≡ [] → (c : Content) → content v.core.disk ≡ Some c → (image : List (List ℕ))
      → IsCrash c.candidates image → says place.flat (contents_of image)
  pub ever : (buffer : Buffers) → Agrees (plan_in v) (state_in v) buffer → (since : ℕ) (image : List (List ℕ))
      → moment first.disk ≤ since → left v.core.disk since image
      → IsOnTheWayBy says (plan_in v) buffer v.journal (beginning f) place 0 (contents_of image)
  pub early : (buffer : Buffers) → Agrees (plan_in v) (state_in v) buffer → (since : ℕ) (image : List (List ℕ))
      → since ≤ moment first.disk → left v.core.disk since image → left first.disk since image
      ⊎ IsOnTheWayBy says (plan_in v) buffer v.journal (beginning f) place 0 (contents_of image)
  pub item : (buffer : Buffers) → Agrees (plan_in v) (state_in v) buffer → (before i : ℕ) (image : List (List ℕ))
      → moment first.disk ≡ before + first.calls → i < length v.journal
      → slice_index_or v.moments i 0 < 2 ^ 64 - 1 → left v.core.disk (before + slice_index_or v.moments i 0) image
      → IsOnTheWayBy says (plan_in v) buffer v.journal (beginning f) place (suc i) (contents_of image)

-- The disk's count of faults rose by at least the number of items that tell one, or stands at its last value.
abbrev pub FaultsAreCounted : {D : Type 0} → (D → ℕ) → View D → Run D → Type 0
FaultsAreCounted faults first v =
    held (faults first.disk + sum_by faults_in v.journal) ≤ faults v.core.disk

-- how many requests a script has
abbrev pub requests_of : List (List (List Line)) → ℕ
requests_of script = over_lanes (requests_in script) (lanes_of script)

-- the journal tells no fault of the disk
abbrev pub TellsNoFault : {D : Type 0} → Run D → Type 0
TellsNoFault v = sum_by faults_in v.journal ≡ 0

-- Where a session leads that began at this state over a device that was led for it, and in whose journal no fault is
-- told: so that what cuts leave is ahead, too; and where no request waits, the device is led for the state of the
-- place.
pub record LeadsAhead {D : Type 0} (content : D → Option Content) (moment : D → ℕ) (left : D → ℕ → List (List ℕ)
    → Type 0) (first : View D) (f : Flat) (v : Run D) : Type 0 where
  pub leads : LeadsFrom content moment left (StandsAheadToo v.core.geometry) first f v
  pub led : v.core.memory.requests ≡ [] → LedIn content v.core leads.place.flat

-- Another session may begin over the device: in the checkpoint the log is the first one, and no block is changed or
-- saved.
abbrev pub MayBeginAnew : {D : Type 0} → View D → Type 0
MayBeginAnew v = (plan : Plan) → plan.sizes ≡ v.geometry → StartsUntouched plan v.memory v.memory.phase v.memory.log
