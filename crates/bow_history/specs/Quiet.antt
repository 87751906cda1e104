-- Runs whose journal tells no fault: no call of them failed, and the device stays led.
use Rattle.std.specs.Prelude.{◌≡◌, List}
use Rattle.std.specs.List.{sum_by}
use Rattle.bow_flat.specs.Flat.{Flat}
use Rattle.bow_machine.specs.Ahead.{IsLed}
use Rattle.bow_history.specs.Cuts.{NoneFails}
use Rattle.bow_history.specs.Fits.{IsAt}
use Rattle.bow_history.specs.Histories.{Disk, session_after, journal_of, Runs}
use Rattle.bow_history.specs.Journal.{Plan, Place}
use Rattle.bow_history.specs.Promises.{faults_in}
use Rattle.bow_history.specs.Sections.{SectionsRise}
use Rattle.bow_history.specs.Sessions.{Session, Turned}
use Rattle.bow_history.specs.SoundSessions.{IsSoundSession, MayRun}

-- Where the journal of a run tells no fault, none of its calls failed.
abbrev pub QuietRunsSucceed : Type 0
QuietRunsSucceed = (plan : Plan) (s : Session) (turns : List Turned) → SectionsRise plan → IsSoundSession plan s
    → MayRun plan s turns → sum_by faults_in (journal_of plan s turns) ≡ 0 → NoneFails plan s turns

-- Where none failed, and the device was led at the beginning, it is led at the end, for some state.
abbrev pub EndsLed : Type 0
EndsLed = (plan : Plan) (s : Session) (d e : Disk) (turns : List Turned) (p : Place) → (k : IsAt plan s d p)
    → IsLed plan.sizes s.memory d.now d.may k.flat → Runs plan s d turns e → NoneFails plan s turns
    → (f : Flat) × IsLed plan.sizes (session_after plan s turns).memory e.now e.may f
