-- A run of a session beside a reader: the order of its steps, and where it leads.
use Rattle.std.specs.Prelude.{◌≡◌, ◌⊎◌, ℕ, zero, suc, ◌+◌, ◌%◌, ◌≤◌, ◌==◌, if◌then◌else◌, Bool, true, false, List, ◌++◌, Option, None, Some, Result, Ok, Err}
use Rattle.std.specs.List.{sum_by}
use Rattle.bow_units.specs.Draws.{next_number, drawn_value}
use Rattle.bow_units.specs.declared.sizes.Geometry.{Geometry}
use Rattle.bow_units.specs.declared.failures.NoMemory.{NoMemory}
use Rattle.bow_units.specs.declared.requests.Phase.{Phase}
use Rattle.bow_units.specs.declared.requests.Phase.TheVariants.{Checkpoint}
use Rattle.bow_disk.specs.Disk.{Content}
use Rattle.bow_flat.specs.Flat.{opening}
use Rattle.bow_core.specs.Openings.{KeepsImage}
use Rattle.bow_core.specs.Standing.{StandsIn}
use Rattle.bow_core.specs.Views.{View}
use Rattle.bow_history.specs.declared.items.Item.{Item}
use Rattle.bow_history.specs.Histories.{journal_of, session_after}
use Rattle.bow_history.specs.Journal.{Buffers, Plan, Place, Legal, beginning}
use Rattle.bow_history.specs.Promises.{faults_in, held}
use Rattle.bow_history.specs.Ready.{is_actor_ready}
use Rattle.bow_history.specs.Schedule.{actor_at}
use Rattle.bow_history.specs.Sections.{SectionsRise}
use Rattle.bow_history.specs.Sessions.{Session, Turned}
use Rattle.bow_history.specs.SoundSessions.{IsSoundSession, MayRun}
use Rattle.bow_session.specs.Runs.{begun_over}
use Rattle.bow_session.specs.Sessions.{Run, plan_in, state_in}
use Rattle.bow_session.specs.Turns.{StepsBy}
use Rattle.bow_play.specs.Leading.{read_in}
use Rattle.bow_play.specs.Playing.{IsFresh}
use Rattle.bow_past.specs.Readings.{Reading, bytes_of, can_read}
use Rattle.bow_past.specs.Steps.{IsPastStep}
use Rattle.bow_past.specs.declared.ended.Ended.{Ended}
use Rattle.bow_past.specs.declared.ended.Ended.TheVariants.{Got, Failed, Strange}
use Rattle.bow_past.specs.declared.ended.PastStep.{PastStep}

-- ----------------------------------------------------------------------------------------------------------------
-- The order of the steps.

-- the reader makes a step, if there is one
abbrev pub is_reading : Option Reading → Phase → Bool
is_reading None phase = false
is_reading (Some p) phase = can_read p phase

-- the actor of this number makes a step: those of the session, and behind them the reader, which does so or not
abbrev pub is_ready_at : Plan → Session → Bool → ℕ → Bool
is_ready_at plan s reads k = if k == plan.lanes + 2 then reads else is_actor_ready plan s (actor_at plan k)

-- the number after it, going round below n
abbrev pub next_below : ℕ → ℕ → ℕ
next_below n k = if k + 1 == n then 0 else k + 1

-- the first number from this one on, of so many, that is ready, going round below n
abbrev pub first_from : (ℕ → Bool) → ℕ → ℕ → ℕ → Option ℕ
first_from ready n k zero = None
first_from ready n k (suc most) = if ready k then Some k else first_from ready n (next_below n k) most

-- the number of the actor whom the next draw chooses, of all and the reader
abbrev pub chosen_beside : Plan → Session → Bool → ℕ → Option ℕ
chosen_beside plan s reads x = first_from (is_ready_at plan s reads) (plan.lanes + 3)
    (drawn_value (next_number x) % (plan.lanes + 3)) (plan.lanes + 3)

-- what becomes of a reader by a step: where it found no memory it is given up
abbrev pub reader_after : Result PastStep NoMemory → Reading → Option Reading
reader_after (Ok step) q = Some q
reader_after (Err none) q = None

-- the reader makes a step
abbrev pub ReadsOn : {D : Type 0} (stated : D → Option Geometry) (content : D → Option Content) (moment : D → ℕ)
    (left : D → ℕ → List (List ℕ) → Type 0) (faults : D → ℕ) → Option Reading → Run D → Option Reading → Run D
    → Type 0
ReadsOn stated content moment left faults None old r new = ⊥
ReadsOn stated content moment left faults (Some p) old r new = (result : Result PastStep NoMemory) × (q : Reading)
    × IsPastStep stated content moment left faults p old result q new × (r ≡ reader_after result q)

-- the actor of this number makes a step
abbrev pub StepsAt : {D : Type 0} (stated : D → Option Geometry) (content : D → Option Content) (moment : D → ℕ)
    (left : D → ℕ → List (List ℕ) → Type 0) (faults : D → ℕ) → ℕ → Option Reading → Run D → Option Reading → Run D
    → Type 0
StepsAt stated content moment left faults k r old s new =
    ((k ≡ (plan_in old).lanes + 2) × ReadsOn stated content moment left faults r old s new)
    ⊎ ((s ≡ r) × StepsBy stated content moment left faults old (actor_at (plan_in old) k) new)

-- So many steps, one after the other, each of the actor whom the draw chooses, from this number on; up to a session and
-- a reader.
abbrev pub PlaysBeside : {D : Type 0} (stated : D → Option Geometry) (content : D → Option Content) (moment : D → ℕ)
    (left : D → ℕ → List (List ℕ) → Type 0) (faults : D → ℕ) → ℕ → ℕ → Option Reading → Run D → Option Reading
    → Run D → Type 0
PlaysBeside stated content moment left faults zero x r old s new = (s ≡ r) × (new ≡ old)
PlaysBeside {D} stated content moment left faults (suc n) x r old s new = (k : ℕ) × (t : Option Reading) × (mid : Run D)
    × (chosen_beside (plan_in old) (state_in old) (is_reading r old.core.memory.phase) x ≡ Some k)
    × StepsAt stated content moment left faults k r old t mid
    × PlaysBeside stated content moment left faults n (next_number x) t mid s new

-- ----------------------------------------------------------------------------------------------------------------
-- Where it leads.

-- The session came by these turns from a device that was just opened on this disk, whose image the opening kept: they
-- might be made, and its memory and its journal follow from them. The reads beside them are no turns.
pub record RanBeside {D : Type 0} (stated : D → Option Geometry) (content : D → Option Content) (moment : D → ℕ)
    (left : D → ℕ → List (List ℕ) → Type 0) (faults : D → ℕ) (old : D) (s : Run D) : Type 0 where
  pub first : View D
  pub turns : List Turned
  pub fresh : IsFresh first
  pub opened : KeepsImage stated content moment left faults old first.disk
  pub sizes : first.geometry ≡ s.core.geometry
  pub rise : SectionsRise (plan_in s)
  pub sound : IsSoundSession (plan_in s) (begun_over first)
  pub may : MayRun (plan_in s) (begun_over first) turns
  pub state : session_after (plan_in s) (begun_over first) turns ≡ state_in s
  pub journal : s.journal ≡ journal_of (plan_in s) (begun_over first) turns

-- a block that ended with a read that failed
abbrev pub is_failed : Ended → ℕ
is_failed (Got bytes) = 0
is_failed Failed = 1
is_failed Strange = 0

-- how many blocks of the reader ended so
abbrev pub failures_of : Option Reading → ℕ
failures_of None = 0
failures_of (Some p) = sum_by is_failed p.ended

-- A point on the way of a journal between two places: some front of it leads there, and the rest from there on.
pub record IsOnWayTo (plan : Plan) (buffer : Buffers) (journal : List Item) (begin end point : Place) : Type 0 where
  pub front : List Item
  pub rest : List Item
  pub is : journal ≡ front ++ rest
  pub before : Legal plan buffer front begin point
  pub after : Legal plan buffer rest point end

-- what a reader got of a block, if there is one
abbrev pub got_of : Option Reading → ℕ → Option (List ℕ)
got_of None b = None
got_of (Some p) b = bytes_of p b

-- The block was read in the checkpoint at this place, and if it was in use then these bytes are what was saved of it.
pub record IsSavedAt (b : ℕ) (bytes : List ℕ) (point : Place) : Type 0 where
  pub phase : point.flat.phase ≡ Checkpoint
  pub saved : point.flat.used b ≡ true → bytes ≡ point.flat.saved b

-- The reader has the checkpoint: the journal is legal from the opening state of the image to one for which the device
-- stands; and each block that was got was read at a point on that way, in the checkpoint, and is what was saved of it.
pub record ReadsTheCheckpoint {D : Type 0} (content : D → Option Content) (image : List (List ℕ)) (r : Option Reading)
    (s : Run D) : Type 0 where
  pub end : Place
  pub legal : Legal (plan_in s) (read_in s) s.journal (beginning (opening image)) end
  pub stands : StandsIn content s.core end.flat
  pub got : (b : ℕ) (bytes : List ℕ) → got_of r b ≡ Some bytes → (point : Place)
      × IsOnWayTo (plan_in s) (read_in s) s.journal (beginning (opening image)) end point × IsSavedAt b bytes point

-- The disk's count of faults rose by at least the items that tell one and the blocks whose read failed.
abbrev pub FaultsAreCountedBeside : {D : Type 0} → (D → ℕ) → D → Option Reading → Run D → Type 0
FaultsAreCountedBeside faults old r s =
    held (faults old + sum_by faults_in s.journal + failures_of r) ≤ faults s.core.disk
