-- What cuts of a session leave, as its disk tells it.
use Rattle.std.specs.Prelude.{ℕ, suc, ◌≡◌, ◌⊎◌, ◌<◌, ◌≤◌, List, [], ◌∷◌, ◌++◌, length, slice_index_or}
use Rattle.std.specs.Prelude.{Option, Some, map, ◌+◌}
use Rattle.bow_units.specs.declared.sizes.Geometry.{Geometry}
use Rattle.bow_disk.specs.Disk.{Content, IsCrash}
use Rattle.bow_chain.specs.Contents.{Contents, contents_of}
use Rattle.bow_flat.specs.Flat.{Flat}
use Rattle.bow_guard.specs.Cuts.{candidates_of}
use Rattle.bow_guard.specs.Standing.{StandsFor, Ahead}
pub use Rattle.bow_machine.specs.Calls.{Passes}
use Rattle.bow_machine.specs.Ahead.{IsLed}
use Rattle.bow_history.specs.Journal.{Plan, Buffers, Place, Legal}
use Rattle.bow_history.specs.Sessions.{Session, Turned, call_in, IsTurn}
use Rattle.bow_history.specs.Histories.{Disk, session_after, journal_of, calls_in, calls_after, moments_of, DoesTurn}
use Rattle.bow_history.specs.Histories.{Runs, LeftSince}
use Rattle.bow_history.specs.Fits.{IsAt, Agrees}
use Rattle.bow_history.specs.Cuts.{IsOnTheWayBy, NoneFails}

-- what a disk tells, as functions of a block's number
abbrev pub disk_of : Content → Disk
disk_of c = record { now = contents_of c.now; may = candidates_of c.candidates }

-- The turns are a run over what the disk told, up to what it tells now. Whatever a cut might have left since the first
-- moment, it might have left of that run; since an earlier one, it might have left before too.
pub record HasCuts {D : Type 0} (content : D → Option Content) (moment : D → ℕ) (left_since : D → ℕ → List (List ℕ)
    → Type 0) (first now : D) (plan : Plan) (s : Session) (turns : List Turned) (d : Disk) : Type 0 where
  pub last : Content
  pub tells : content now ≡ Some last
  pub listed : length last.candidates ≡ plan.sizes.blocks
  pub run : Runs plan s d turns (disk_of last)
  pub counted : moment now ≤ calls_after plan s (moment first) turns
  pub later : moment first ≤ moment now
  pub left : (since : ℕ) (image : List (List ℕ)) → moment first ≤ since → left_since now since image
      → LeftSince plan s (moment first) d turns (disk_of last) run since (contents_of image)
  pub early : (since : ℕ) (image : List (List ℕ)) → since ≤ moment first → left_since now since image
      → left_since first since image
      ⊎ LeftSince plan s (moment first) d turns (disk_of last) run (moment first) (contents_of image)

-- A session that is loaded over a disk that tells its content has such cuts.
abbrev pub LoadedHasCuts : {D : Type 0} → (D → Option Content) → (D → ℕ) → (D → ℕ → List (List ℕ) → Type 0) → Type 0
LoadedHasCuts {D} content moment left_since = (first : D) (c : Content) (plan : Plan) (s : Session)
    → content first ≡ Some c → length c.candidates ≡ plan.sizes.blocks
    → HasCuts content moment left_since first first plan s [] (disk_of c)

-- And so has each one after a turn whose call, if it makes one, is all that passes on the disk.
abbrev pub TurnsHaveCuts : {D : Type 0} → (D → Option Content) → (D → ℕ) → (D → ℕ → List (List ℕ) → Type 0) → Type 0
TurnsHaveCuts {D} content moment left_since = (first before after : D) (c e : Content) (plan : Plan) (s : Session)
    (turns : List Turned) (turn : Turned) (d : Disk)
    → HasCuts content moment left_since first before plan s turns d → content before ≡ Some c → content after ≡ Some e
    → length e.candidates ≡ plan.sizes.blocks
    → IsTurn plan (session_after plan s turns) turn
    → DoesTurn plan (session_after plan s turns) turn (disk_of c) (disk_of e)
    → Passes (calls_in (call_in plan (session_after plan s turns) turn)) (content after) (moment before)
    (moment after) (left_since before) (left_since after)
    → HasCuts content moment left_since first after plan s (turns ++ turn ∷ []) d

-- Where such a run leads, and what its disk tells of cuts: the journal is legal to a place at which the session is;
-- what might have been left since the first moment is on the way of the journal, since an earlier one too, where it was
-- not left before; since the moment of an item it is on the way of one that has the item; and at the end, where no
-- request waits, whatever a crash leaves is said of by the last state itself.
pub record DiskLeads {D : Type 0} (content : D → Option Content) (moment : D → ℕ) (left_since : D → ℕ → List (List ℕ)
    → Type 0) (says : Flat → Contents → Type 0) (first now : D) (plan : Plan) (s : Session) (turns : List Turned)
    (p : Place) : Type 0 where
  pub last : Content
  pub tells : content now ≡ Some last
  pub place : Place
  pub at : IsAt plan (session_after plan s turns) (disk_of last) place
  pub legal : (buffer : Buffers) → Agrees plan (session_after plan s turns) buffer
      → Legal plan buffer (journal_of plan s turns) p place
  pub ever : (buffer : Buffers) → Agrees plan (session_after plan s turns) buffer → (since : ℕ)
      (image : List (List ℕ)) → moment first ≤ since → left_since now since image
      → IsOnTheWayBy says plan buffer (journal_of plan s turns) p place 0 (contents_of image)
  pub early : (buffer : Buffers) → Agrees plan (session_after plan s turns) buffer → (since : ℕ)
      (image : List (List ℕ)) → since ≤ moment first → left_since now since image
      → left_since first since image
      ⊎ IsOnTheWayBy says plan buffer (journal_of plan s turns) p place 0 (contents_of image)
  pub item : (buffer : Buffers) → Agrees plan (session_after plan s turns) buffer → (i : ℕ) (image : List (List ℕ))
      → i < length (journal_of plan s turns)
      → left_since now (slice_index_or (moments_of plan s (moment first) turns) i 0) image
      → IsOnTheWayBy says plan buffer (journal_of plan s turns) p place (suc i) (contents_of image)
  pub end : (session_after plan s turns).memory.requests ≡ [] → (image : List (List ℕ)) → IsCrash last.candidates image
      → says place.flat (contents_of image)

-- So each session over a disk leads, whose cuts stand for states on the way.
abbrev pub CutsOfDisk : {D : Type 0} → (D → Option Content) → (D → ℕ) → (D → ℕ → List (List ℕ) → Type 0) → Type 0
CutsOfDisk {D} content moment left_since = (first now : D) (plan : Plan) (s : Session) (turns : List Turned)
    (d : Disk) (p : Place) → HasCuts content moment left_since first now plan s turns d → IsAt plan s d p
    → DiskLeads content moment left_since (StandsFor plan.sizes) first now plan s turns p

-- the image stands for the state, and is ahead for it where it is sound
abbrev pub StandsAheadToo : Geometry → Flat → Contents → Type 0
StandsAheadToo g f image = StandsFor g f image × Ahead g f image

-- Where no call failed, and the device was led at the beginning, they are ahead for these states too.
abbrev pub CutsOfDiskAreAhead : {D : Type 0} → (D → Option Geometry) → (D → Option Content) → (D → ℕ)
    → (D → ℕ → List (List ℕ) → Type 0) → Type 0
CutsOfDiskAreAhead {D} stated content moment left_since = (first now : D) (plan : Plan) (s : Session)
    (turns : List Turned) (d : Disk) (p : Place) → HasCuts content moment left_since first now plan s turns d
    → stated now ≡ Some plan.sizes → (k : IsAt plan s d p) → IsLed plan.sizes s.memory d.now d.may k.flat
    → NoneFails plan s turns
    → DiskLeads content moment left_since (StandsAheadToo plan.sizes) first now plan s turns p

-- With more calls before, each moment is later by as many: so an item's moment by the disk's count is what that was at
-- first, and the item's moment in the session.
abbrev pub MomentsShift : Type 0
MomentsShift = (plan : Plan) (s : Session) (before calls : ℕ) (turns : List Turned)
    → moments_of plan s (before + calls) turns ≡ map (λ n. before + n) (moments_of plan s calls turns)
