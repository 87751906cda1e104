-- Turns of a session in the order of the draws.
use Rattle.std.specs.Prelude.{◌≡◌, ℕ, List, [], ◌∷◌, Option}
use Rattle.bow_units.specs.Draws.{next_number}
use Rattle.bow_units.specs.declared.sizes.Geometry.{Geometry}
use Rattle.bow_disk.specs.Disk.{Content}
use Rattle.bow_history.specs.Sessions.{Turned}
use Rattle.bow_history.specs.Ends.{actor_in}
use Rattle.bow_history.specs.Schedule.{drawn}
use Rattle.bow_session.specs.Sessions.{Run, plan_in, state_in}
use Rattle.bow_session.specs.Turns.{IsOneTurn}

-- From one session to another by these turns, one after the other, each of the actor who was drawn for it, from this
-- number on.
abbrev pub Plays : {D : Type 0} (stated : D → Option Geometry) (content : D → Option Content) (moment : D → ℕ)
    (left : D → ℕ → List (List ℕ) → Type 0) (faults : D → ℕ) → ℕ → Run D → List Turned → Run D → Type 0
Plays stated content moment left faults x old [] new = new ≡ old
Plays {D} stated content moment left faults x old (turn ∷ turns) new = (mid : Run D)
    × (actor_in turn ≡ drawn (plan_in old) (state_in old) x) × IsOneTurn stated content moment left faults old turn mid
    × Plays stated content moment left faults (next_number x) mid turns new
