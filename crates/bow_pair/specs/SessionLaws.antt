-- What the sessions of a pair come to, of each device.
use Rattle.std.specs.Prelude.{◌≡◌, ◌⊎◌, ℕ, ◌+◌, ◌<◌, ◌≤◌, List, [], ◌∷◌, ◌++◌, Option, Some}
use Rattle.std.specs.List.{sum_by}
use Rattle.bow_units.specs.declared.requests.Op.TheVariants.{Prepare}
use Rattle.bow_units.specs.declared.requests.Outcome.TheVariants.{NoSpace}
use Rattle.bow_units.specs.declared.requests.Phase.TheVariants.{Trim}
use Rattle.bow_units.specs.declared.sizes.Geometry.{Geometry}
use Rattle.bow_disk.specs.Disk.{Content}
use Rattle.bow_deal.specs.Dealing.{opening_part}
use Rattle.bow_flat.specs.Flat.{Flat, after, count_below}
use Rattle.bow_flat.specs.Flat.Event.{Flushes}
use Rattle.bow_core.specs.Further.{LedIn}
use Rattle.bow_core.specs.Standing.{StandsIn}
use Rattle.bow_core.specs.Views.{View}
use Rattle.bow_script.specs.declared.scripts.Line.{Line}
use Rattle.bow_history.specs.declared.items.Item.{Item}
use Rattle.bow_history.specs.declared.items.Item.TheVariants.{Answered}
use Rattle.bow_history.specs.Complete.{IsComplete}
use Rattle.bow_history.specs.Journal.{Legal, Place, Plan, beginning}
use Rattle.bow_history.specs.Promises.{faults_in, held}
use Rattle.bow_session.specs.Leads.{MayBeginAnew}
use Rattle.bow_session.specs.Parts.{Account, buffers_in, plan_at}
use Rattle.bow_pair.specs.Deciding.{TakesPart}
use Rattle.bow_pair.specs.Pairs.{MayBeDealt}
use Rattle.bow_pair.specs.Playing.{EndsClean, EndsPrepared, GoesFrom, HasPlayed, LeadsTo}

-- the item answers a prepare with NoSpace
abbrev pub RefusesPrepare : Plan → Item → Type 0
RefusesPrepare plan (Answered lane number (NoSpace done)) = plan.request lane number ≡ Some Prepare
RefusesPrepare plan item = ⊥

-- The prepare that ends the journal found no room: it is answered NoSpace, and the journal is legal up to it, from this
-- state to one in which fewer than two blocks are free.
pub record FindsNoRoom (f : Flat) (a : Account) : Type 0 where
  pub front : List Item
  pub item : Item
  pub journal : a.journal ≡ front ++ item ∷ []
  pub refused : RefusesPrepare (plan_at a) item
  pub place : Place
  pub legal : Legal (plan_at a) (buffers_in a) front (beginning f) place
  pub few : count_below place.flat.trim a.sizes.blocks < 2

module _ {D : Type 0} (stated : D → Option Geometry) (content : D → Option Content) (moment : D → ℕ)
    (left : D → ℕ → List (List ℕ) → Type 0) (faults : D → ℕ) where
  -- what a session leaves is of its script, and its journal is complete
  abbrev pub SessionsAreComplete : Type 0
  SessionsAreComplete = (script : List (List (List Line))) (v w : View D) (a : Account)
      → HasPlayed stated content moment left faults script v w a
      → (a.script ≡ script) × (a.sizes ≡ v.geometry) × (w.geometry ≡ v.geometry) × IsComplete (plan_at a) a.journal

  -- Whatever failed, it goes on legally: over a device that stood for a state and in whose checkpoint nothing was
  -- touched, its journal is legal from there to a place, and for the state of that place the device stands.
  abbrev pub SessionsGoLegally : Type 0
  SessionsGoLegally = (script : List (List (List Line))) (v w : View D) (a : Account) (f : Flat)
      → (k : HasPlayed stated content moment left faults script v w a) → MayBeginAnew v → StandsIn content v f
      → GoesFrom content moment left v f k.session w a

  -- The disk's count of faults rose by at least the number of items that tell one, or stands at its last value.
  abbrev pub SessionsCountFaults : Type 0
  SessionsCountFaults = (script : List (List (List Line))) (v w : View D) (a : Account)
      → HasPlayed stated content moment left faults script v w a
      → held (faults v.disk + sum_by faults_in a.journal) ≤ faults w.disk

  -- One that told no fault leads on: over a device that stood for a state and was led for it, its journal is legal from
  -- there to a place, and for the state of that place the device stands and is led.
  abbrev pub SessionsLead : Type 0
  SessionsLead = (script : List (List (List Line))) (v w : View D) (a : Account) (f : Flat)
      → HasPlayed stated content moment left faults script v w a → MayBeginAnew v → sum_by faults_in a.journal ≡ 0
      → StandsIn content v f → LedIn content v f → LeadsTo content f w a

  -- A first session that told no fault, over a device that stood for a state in which nothing was prepared yet, ends
  -- with its prepare; and that was answered Done, or found no room.
  abbrev pub SessionsPrepare : Type 0
  SessionsPrepare = (script : List (List (List Line))) (device count : ℕ) (v w : View D) (a : Account) (f : Flat)
      → MayBeDealt script → HasPlayed stated content moment left faults (opening_part device count script) v w a
      → StandsIn content v f → f.phase ≡ Trim → EndsClean a → EndsPrepared a ⊎ FindsNoRoom f a

-- A device takes part in a decision with the state to which its session leads, flushed.
abbrev pub SessionsTakePart : {D : Type 0} → (D → Option Content) → Type 0
SessionsTakePart {D} content = (v : View D) (a : Account) (f : Flat) → (k : LeadsTo content f v a)
    → TakesPart content v (record {
      sizes = v.geometry;
      state = after v.geometry.blocks Flushes k.place.flat;
    })
