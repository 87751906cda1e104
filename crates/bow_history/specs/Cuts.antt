-- What cuts of a history leave.
use Rattle.std.specs.Prelude.{ℕ, suc, ◌≡◌, ◌<◌, ◌≤◌, List, [], ◌∷◌, None, length, take, drop, slice_index_or}
use Rattle.bow_units.specs.Magics.{HasMagic}
use Rattle.bow_units.specs.declared.sizes.Geometry.{Geometry}
use Rattle.bow_chain.specs.Contents.{Contents}
use Rattle.bow_flat.specs.Flat.{Flat}
use Rattle.bow_guard.specs.Cuts.{IsCut}
use Rattle.bow_guard.specs.Standing.{StandsFor, Ahead}
use Rattle.bow_machine.specs.Calls.{Failed}
use Rattle.bow_machine.specs.Ahead.{IsLed}
use Rattle.bow_history.specs.declared.items.Item.{Item}
use Rattle.bow_history.specs.Journal.{Plan, Buffers, Place, Legal, IsMidway}
use Rattle.bow_history.specs.Sessions.{Session, Turned, after_turn, call_in, reply_in}
use Rattle.bow_history.specs.Histories.{Disk, session_after, journal_of, moments_of, Runs, LeftSince}
use Rattle.bow_history.specs.Fits.{IsAt, Agrees}

-- What is said of an image, it is said of by a state midway of a place on the way of the journal: after a front of it
-- that has its first n items.
pub record IsOnTheWayBy (says : Flat → Contents → Type 0) (plan : Plan) (buffer : Buffers) (journal : List Item)
    (first last : Place) (n : ℕ) (image : Contents) : Type 0 where
  pub front : ℕ
  pub has : n ≤ front
  pub within : front ≤ length journal
  pub place : Place
  pub before : Legal plan buffer (take front journal) first place
  pub after : Legal plan buffer (drop front journal) place last
  pub flat : Flat
  pub midway : IsMidway plan place flat
  pub stands : says flat image

-- the image stands for such a state
abbrev pub IsOnTheWay : Plan → Buffers → List Item → Place → Place → ℕ → Contents → Type 0
IsOnTheWay plan = IsOnTheWayBy (StandsFor plan.sizes) plan

-- Where a run leads, and what its cuts leave: the journal is legal to a place at which the session then is; whatever a
-- cut leaves is on the way of the journal, since the moment of an item of one that has the item, and at the end, where
-- no request waits, it is said of by the last state itself.
pub record RunLeads (says : Flat → Contents → Type 0) (plan : Plan) (s : Session) (calls : ℕ) (d e : Disk)
    (turns : List Turned) (p : Place) (run : Runs plan s d turns e) : Type 0 where
  pub place : Place
  pub at : IsAt plan (session_after plan s turns) e place
  pub legal : (buffer : Buffers) → Agrees plan (session_after plan s turns) buffer
      → Legal plan buffer (journal_of plan s turns) p place
  pub ever : (buffer : Buffers) → Agrees plan (session_after plan s turns) buffer → (since : ℕ) (image : Contents)
      → LeftSince plan s calls d turns e run since image
      → IsOnTheWayBy says plan buffer (journal_of plan s turns) p place 0 image
  pub item : (buffer : Buffers) → Agrees plan (session_after plan s turns) buffer → (i : ℕ) (image : Contents)
      → i < length (journal_of plan s turns)
      → LeftSince plan s calls d turns e run (slice_index_or (moments_of plan s calls turns) i 0) image
      → IsOnTheWayBy says plan buffer (journal_of plan s turns) p place (suc i) image
  pub end : (session_after plan s turns).memory.requests ≡ [] → (image : Contents) → IsCut plan.sizes e.may image
      → says place.flat image

-- So each run leads, whose cuts stand for states on its way.
abbrev pub CutsAreOnTheWay : Type 0
CutsAreOnTheWay = (plan : Plan) (s : Session) (calls : ℕ) (d e : Disk) (turns : List Turned) (p : Place)
    → IsAt plan s d p → (run : Runs plan s d turns e) → RunLeads (StandsFor plan.sizes) plan s calls d e turns p run

-- no call of these turns failed
abbrev pub NoneFails : Plan → Session → List Turned → Type 0
NoneFails plan s [] = Unit {0}
NoneFails plan s (turn ∷ turns) = (reply_in turn ≡ Failed → call_in plan s turn ≡ None)
    × NoneFails plan (after_turn plan s turn) turns

-- the image stands for the state, and, with a magic in block 0, is ahead for it
abbrev pub StandsAhead : Geometry → Flat → Contents → Type 0
StandsAhead g f image = StandsFor g f image × (HasMagic (image 0) → Ahead g f image)

-- Where no call failed, and the device was led at the beginning, they are ahead for these states too.
abbrev pub CutsAreAhead : Type 0
CutsAreAhead = (plan : Plan) (s : Session) (calls : ℕ) (d e : Disk) (turns : List Turned) (p : Place)
    → (k : IsAt plan s d p) → IsLed plan.sizes s.memory d.now d.may k.flat → (run : Runs plan s d turns e)
    → NoneFails plan s turns → RunLeads (StandsAhead plan.sizes) plan s calls d e turns p run
