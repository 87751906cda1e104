-- One turn of a session.
use Rattle.std.specs.Prelude.{◌≡◌, ℕ, List, ◌++◌, Option}
use Rattle.bow_units.specs.declared.sizes.Geometry.{Geometry}
use Rattle.bow_disk.specs.Disk.{Content}
use Rattle.bow_core.specs.Ports.{Makes}
use Rattle.bow_core.specs.Views.{View}
use Rattle.bow_history.specs.declared.items.Actor.{Actor}
use Rattle.bow_history.specs.Sessions.{Turned, Admits, Steps, IsTurn, after_turn, item_in, call_in}
use Rattle.bow_history.specs.Promises.{items, more}
use Rattle.bow_history.specs.Ends.{actor_in}
use Rattle.bow_session.specs.Sessions.{Run, plan_in, state_in}

-- What a turn does on the disk: nothing where a request is taken in, and else the one call of the device's step, or
-- none.
abbrev pub PassesTurn : {D : Type 0} (stated : D → Option Geometry) (content : D → Option Content) (moment : D → ℕ)
    (left : D → ℕ → List (List ℕ) → Type 0) (faults : D → ℕ) → Run D → Turned → View D → Type 0
PassesTurn stated content moment left faults old (Admits lane ticket op) new =
    (new.disk ≡ old.core.disk) × (new.calls ≡ old.core.calls)
PassesTurn stated content moment left faults old (Steps actor reply) new =
    Makes stated content moment left faults old.core.geometry (call_in (plan_in old) (state_in old) (Steps actor reply))
    reply old.core.disk new.disk old.core.calls new.calls

-- From one session to the next by one turn, which it may make: what it keeps is what follows from the turn, and the
-- item that the turn makes, if any, stands at the end of the journal, with the count of calls right after it.
pub record IsOneTurn {D : Type 0} (stated : D → Option Geometry) (content : D → Option Content) (moment : D → ℕ)
    (left : D → ℕ → List (List ℕ) → Type 0) (faults : D → ℕ) (old : Run D) (turn : Turned) (new : Run D) : Type 0 where
  pub may : IsTurn (plan_in old) (state_in old) turn
  pub state : state_in new ≡ after_turn (plan_in old) (state_in old) turn
  pub journal : new.journal ≡ old.journal ++ items (item_in (plan_in old) (state_in old) turn)
  pub moments : new.moments ≡ old.moments ++ more (item_in (plan_in old) (state_in old) turn) new.core.calls
  pub passes : PassesTurn stated content moment left faults old turn new.core
  pub script : new.script ≡ old.script
  pub geometry : new.core.geometry ≡ old.core.geometry
  pub places : new.core.places ≡ old.core.places

-- the actor makes one turn
abbrev pub StepsBy : {D : Type 0} (stated : D → Option Geometry) (content : D → Option Content) (moment : D → ℕ)
    (left : D → ℕ → List (List ℕ) → Type 0) (faults : D → ℕ) → Run D → Actor → Run D → Type 0
StepsBy stated content moment left faults old actor new =
    (turn : Turned) × (actor_in turn ≡ actor) × IsOneTurn stated content moment left faults old turn new
