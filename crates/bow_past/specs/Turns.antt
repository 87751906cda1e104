-- That the turns of a session keep the agreement of a reader with it.
use Rattle.std.specs.Prelude.{◌≡◌, ℕ, List, Option, Some}
use Rattle.bow_units.specs.declared.sizes.Geometry.{Geometry}
use Rattle.bow_disk.specs.Disk.{Content}
use Rattle.bow_flat.specs.Flat.{Flat}
use Rattle.bow_core.specs.Standing.{StandsIn}
use Rattle.bow_history.specs.Sessions.{Turned}
use Rattle.bow_history.specs.SoundSessions.{IsSoundSession}
use Rattle.bow_session.specs.Sessions.{Run, plan_in, state_in}
use Rattle.bow_session.specs.Turns.{IsOneTurn}
use Rattle.bow_past.specs.Agreement.{Agrees}
use Rattle.bow_past.specs.Readings.{Reading}

-- A reader that agrees with a session, whose device stands for some flat state over a disk that states its sizes, still
-- agrees with it after any turn of it.
abbrev pub TurnsKeepAgreement : {D : Type 0} → (D → Option Geometry) → (D → Option Content) → (D → ℕ)
    → (D → ℕ → List (List ℕ) → Type 0) → (D → ℕ) → Type 0
TurnsKeepAgreement {D} stated content moment left faults = (p : Reading) (old new : Run D) (turn : Turned) (f : Flat)
    → StandsIn content old.core f → stated old.core.disk ≡ Some old.core.geometry
    → IsOneTurn stated content moment left faults old turn new
    → Agrees content p old.core → Agrees content p new.core

-- And the device then stands for some flat state again, where the session was sound.
abbrev pub TurnsKeepStanding : {D : Type 0} → (D → Option Geometry) → (D → Option Content) → (D → ℕ)
    → (D → ℕ → List (List ℕ) → Type 0) → (D → ℕ) → Type 0
TurnsKeepStanding {D} stated content moment left faults = (old new : Run D) (turn : Turned) (f : Flat)
    → StandsIn content old.core f → IsSoundSession (plan_in old) (state_in old)
    → stated old.core.disk ≡ Some old.core.geometry → IsOneTurn stated content moment left faults old turn new
    → (g : Flat) × StandsIn content new.core g
