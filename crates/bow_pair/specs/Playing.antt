-- The sessions of a pair: one over each device, played to their ends.
use Rattle.std.specs.Prelude.{◌≡◌, ℕ, ◌+◌, ◌<◌, ◌≤◌, List, [], ◌∷◌, ◌++◌, map, length, slice_get, Option, Some}
use Rattle.std.specs.List.{sum_by}
use Rattle.bow_units.specs.declared.sizes.Geometry.{Geometry}
use Rattle.bow_units.specs.declared.requests.Phase.TheVariants.{Checkpoint}
use Rattle.bow_disk.specs.Disk.{Content}
use Rattle.bow_flat.specs.Flat.{Flat}
use Rattle.bow_guard.specs.Standing.{StandsFor}
use Rattle.bow_core.specs.Further.{LedIn}
use Rattle.bow_core.specs.Standing.{StandsIn}
use Rattle.bow_core.specs.Views.{View}
use Rattle.bow_script.specs.declared.scripts.Line.{Line}
use Rattle.bow_deal.specs.Dealing.{later_part, opening_part}
use Rattle.bow_history.specs.declared.items.Item.{Item}
use Rattle.bow_history.specs.Fits.{Agrees}
use Rattle.bow_history.specs.Journal.{Place, beginning, Legal}
use Rattle.bow_history.specs.Prepared.{AnswersPrepare, IsPrepared}
use Rattle.bow_history.specs.Promises.{faults_in}
use Rattle.bow_session.specs.Leads.{LeadsFrom, MayBeginAnew, WasLoaded, requests_of}
use Rattle.bow_session.specs.Parts.{Account, account_of, buffers_in, plan_at}
use Rattle.bow_session.specs.Sessions.{IsOver, Run, plan_in, state_in}
use Rattle.bow_pair.specs.declared.playing.Round.{Round}
use Rattle.bow_pair.specs.declared.playing.Round.TheVariants.{Opening, Later}

-- what a session leaves of its device
pub record HasEnded {D : Type 0} (stated : D → Option Geometry) (content : D → Option Content) (moment : D → ℕ)
    (left : D → ℕ → List (List ℕ) → Type 0) (faults : D → ℕ) (s : Run D) : Type 0 where
  pub places : s.core.places ≡ 16
  pub idle : IsOver s → s.core.memory.requests ≡ []
  pub admitted : (first : View D) → WasLoaded stated content moment left faults first s
      → s.core.admitted ≤ first.admitted + requests_of s.script
  pub anew : (first : View D) → WasLoaded stated content moment left faults first s → IsOver s
      → (s.core.memory.phase ≡ Checkpoint → IsPrepared (plan_in s) s.journal) → MayBeginAnew s.core

-- A session over the device played its script to the end, and left the device and this account.
pub record HasPlayed {D : Type 0} (stated : D → Option Geometry) (content : D → Option Content) (moment : D → ℕ)
    (left : D → ℕ → List (List ℕ) → Type 0) (faults : D → ℕ) (script : List (List (List Line))) (old new : View D)
    (a : Account) : Type 0 where
  pub session : Run D
  pub loaded : WasLoaded stated content moment left faults old session
  pub asked : session.script ≡ script
  pub over : IsOver session
  pub ended : HasEnded stated content moment left faults session
  pub device : session.core ≡ new
  pub account : account_of session ≡ a

-- so did one over each device, each with its part of a script
pub record HavePlayed {D : Type 0} (stated : D → Option Geometry) (content : D → Option Content) (moment : D → ℕ)
    (left : D → ℕ → List (List ℕ) → Type 0) (faults : D → ℕ) (part : ℕ → List (List (List Line)))
    (old new : List (View D)) (accounts : List Account) : Type 0 where
  pub many : length new ≡ length old
  pub as_many : length accounts ≡ length old
  pub each : (k : ℕ) (v w : View D) (a : Account) → slice_get old k ≡ Some v → slice_get new k ≡ Some w
      → slice_get accounts k ≡ Some a → HasPlayed stated content moment left faults (part k) v w a

-- the journal tells no fault of the disk
abbrev pub EndsClean : Account → Type 0
EndsClean a = sum_by faults_in a.journal ≡ 0

-- it tells no fault, and ends with a prepare that was answered Done
abbrev pub EndsPrepared : Account → Type 0
EndsPrepared a = EndsClean a × ((front : List Item) × (item : Item) × (a.journal ≡ front ++ item ∷ [])
    × AnswersPrepare (plan_at a) item)

-- of what the sessions over the first so many devices left
abbrev pub EachBelow : (Account → Type 0) → List Account → ℕ → Type 0
EachBelow P accounts many = (k : ℕ) (a : Account) → k < many → slice_get accounts k ≡ Some a → P a

-- this device is the first of whose session it does not hold
pub record IsFirstNot (P : Account → Type 0) (accounts : List Account) (device : ℕ) : Type 0 where
  pub before : EachBelow P accounts device
  pub account : Account
  pub account_is : slice_get accounts device ≡ Some account
  pub fails : P account → ⊥

-- Where a session leads that told no fault, over a device that stood for this state and was led for it: the journal is
-- legal from there to a place, and for the state of that place the device stands and is led.
pub record LeadsTo {D : Type 0} (content : D → Option Content) (f : Flat) (new : View D) (a : Account) : Type 0 where
  pub place : Place
  pub legal : Legal (plan_at a) (buffers_in a) a.journal (beginning f) place
  pub stands : StandsIn content new place.flat
  pub led : LedIn content new place.flat

-- Where a session goes over a device that stood for this state, whatever failed: it leads from there, in its turns and
-- in what cuts leave of them; its journal is legal up to a place, with the buffers of its account; and for the state of
-- that place the device stands.
pub record GoesFrom {D : Type 0} (content : D → Option Content) (moment : D → ℕ) (left : D → ℕ → List (List ℕ)
    → Type 0) (old : View D) (f : Flat) (s : Run D) (new : View D) (a : Account) : Type 0 where
  pub leads : LeadsFrom content moment left (StandsFor old.geometry) old f s
  pub buffers : Agrees (plan_in s) (state_in s) (buffers_in a)
  pub legal : Legal (plan_at a) (buffers_in a) a.journal (beginning f) leads.place
  pub stands : StandsIn content new leads.place.flat

-- which script a device plays in a round: its opening part, or its later one
abbrev pub part_for : Round → ℕ → ℕ → List (List (List Line)) → List (List (List Line))
part_for Opening device count script = opening_part device count script
part_for Later device count script = later_part device count script

-- what a session has that was just loaded over its device
pub record IsNew {D : Type 0} (stated : D → Option Geometry) (content : D → Option Content) (moment : D → ℕ)
    (left : D → ℕ → List (List ℕ) → Type 0) (faults : D → ℕ) (script : List (List (List Line))) (s : Run D) :
    Type 0 where
  pub loaded : WasLoaded stated content moment left faults s.core s
  pub asked : s.script ≡ script

-- sessions were loaded over the first devices, and the others are left
pub record AreLoaded {D : Type 0} (stated : D → Option Geometry) (content : D → Option Content) (moment : D → ℕ)
    (left : D → ℕ → List (List ℕ) → Type 0) (faults : D → ℕ) (part : ℕ → List (List (List Line)))
    (cores rest : List (View D)) (sessions : List (Run D)) : Type 0 where
  pub split : map (λ s. s.core) sessions ++ rest ≡ cores
  pub each : (k : ℕ) (s : Run D) → slice_get sessions k ≡ Some s
      → IsNew stated content moment left faults (part k) s

-- a session over the next device was loaded
pub record LoadsNext {D : Type 0} (stated : D → Option Geometry) (content : D → Option Content) (moment : D → ℕ)
    (left : D → ℕ → List (List ℕ) → Type 0) (faults : D → ℕ) (script : List (List (List Line)))
    (old rest : List (View D)) (before after : List (Run D)) : Type 0 where
  pub session : Run D
  pub fresh : IsNew stated content moment left faults script session
  pub taken : old ≡ session.core ∷ rest
  pub added : after ≡ before ++ session ∷ []

-- a session goes on, whatever device it was loaded over
pub record GoesOn {D : Type 0} (stated : D → Option Geometry) (content : D → Option Content) (moment : D → ℕ)
    (left : D → ℕ → List (List ℕ) → Type 0) (faults : D → ℕ) (old new : Run D) : Type 0 where
  pub script : new.script ≡ old.script
  pub loaded : (first : View D) → WasLoaded stated content moment left faults first old
      → WasLoaded stated content moment left faults first new

-- so of each session
abbrev pub EachRun : {D : Type 0} → (Run D → Type 0) → List (Run D) → Type 0
EachRun {D} P sessions = (k : ℕ) (s : Run D) → slice_get sessions k ≡ Some s → P s
