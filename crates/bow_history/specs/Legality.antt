-- That a history's journal is legal.
use Rattle.std.specs.Prelude.{ℕ, ◌<◌, ◌≡◌, false, List, [], Option, Some}
use Rattle.bow_units.specs.declared.sizes.Geometry.{Geometry}
use Rattle.bow_units.specs.declared.requests.Phase.{Phase}
use Rattle.bow_units.specs.declared.requests.Phase.TheVariants.{Checkpoint}
use Rattle.bow_units.specs.declared.statuses.Kind.{Kind}
use Rattle.bow_chain.specs.Contents.{Contents}
use Rattle.bow_flat.specs.Flat.{Flat}
use Rattle.bow_log.specs.Generations.{Generation}
use Rattle.bow_guard.specs.Cuts.{IsCut}
use Rattle.bow_guard.specs.Standing.{StandsFor}
use Rattle.bow_ranges.specs.Kinds.{kind_at}
use Rattle.bow_machine.specs.Memory.{Memory}
use Rattle.bow_machine.specs.MemoryIsSound.{is_touched}
use Rattle.bow_machine.specs.Standing.{IsStanding}
use Rattle.bow_history.specs.Journal.{Plan, Buffers, Place, beginning, Legal}
use Rattle.bow_history.specs.Sessions.{Session, begun, Turned}
use Rattle.bow_history.specs.Histories.{Disk, session_after, journal_of, Runs}
use Rattle.bow_history.specs.Fits.{IsAt, Agrees}

-- nothing was touched, and the log is the first one
pub record IsUntouched (g : Geometry) (kinds : List Kind) (log : Generation) : Type 0 where
  pub first : log.sequence ≡ 0
  pub none : (b : ℕ) → b < g.blocks → is_touched (kind_at kinds b) ≡ false

-- in the checkpoint, nothing was touched yet
abbrev pub StartsUntouched : Plan → Memory → Phase → Option Generation → Type 0
StartsUntouched plan m Checkpoint (Some log) = IsUntouched plan.sizes m.kinds log
StartsUntouched plan m phase log = Unit {0}

-- A device with which a session may begin: it stands for the state, and no request waits in it.
pub record IsReadyFor (plan : Plan) (m : Memory) (d : Disk) (f : Flat) : Type 0 where
  pub stands : IsStanding plan.sizes m d.now d.may f
  pub none : m.requests ≡ []
  pub untouched : StartsUntouched plan m m.phase m.log

-- Such a device is at the beginning of the journal, with that state, whatever number of requests it has taken in
-- before.
abbrev pub BeginningIsAt : Type 0
BeginningIsAt = (plan : Plan) (m : Memory) (admitted : ℕ) (d : Disk) (f : Flat) → IsReadyFor plan m d f
    → (k : IsAt plan (begun m admitted) d (beginning f)) × (k.flat ≡ f)

-- where a run leads: the journal is legal up to a place at which the session is
pub record Arrives (plan : Plan) (s : Session) (turns : List Turned) (e : Disk) (p : Place) : Type 0 where
  pub place : Place
  pub legal : (buffer : Buffers) → Agrees plan (session_after plan s turns) buffer
      → Legal plan buffer (journal_of plan s turns) p place
  pub at : IsAt plan (session_after plan s turns) e place

-- A session that is at a place of its journal goes on legally, whatever its turns, and whatever the disk replies.
abbrev pub RunsAreLegal : Type 0
RunsAreLegal = (plan : Plan) (s : Session) (d e : Disk) (turns : List Turned) (p : Place) → IsAt plan s d p
    → Runs plan s d turns e → Arrives plan s turns e p

-- Where no request waits, each cut leaves what stands for the state at which the journal is.
abbrev pub EndStands : Type 0
EndStands = (plan : Plan) (s : Session) (d : Disk) (p : Place) (image : Contents) → IsAt plan s d p
    → s.memory.requests ≡ [] → IsCut plan.sizes d.may image → StandsFor plan.sizes p.flat image
