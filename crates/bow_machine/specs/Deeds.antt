-- What a command in hand has done before its answer tells it, and how that goes on from step to step.
use Rattle.std.specs.Prelude.{◌≡◌, ◌⊎◌, Bool, if◌then◌else◌, List, [], ◌∷◌}
use Rattle.bow_units.specs.declared.sizes.Geometry.{Geometry}
use Rattle.bow_units.specs.declared.requests.Op.{Op}
use Rattle.bow_units.specs.declared.requests.Op.TheVariants.{Read, Prepare, Commit}
use Rattle.bow_chain.specs.Contents.{Contents}
use Rattle.bow_flat.specs.Flat.{Event}
use Rattle.bow_flat.specs.Flat.Event.{Arms, Decides}
use Rattle.bow_machine.specs.Memory.{Memory, Hand, Empty, Batching, Preparing, Committing, PrepareAct, ReadsBlock0}
use Rattle.bow_machine.specs.Memory.{WritesCurrent, WritesBackup, FlushesCopies, WritesFirstLog, FlushesFirstLog}
use Rattle.bow_machine.specs.Memory.{CommitAct, FlushesAll, ReadsCurrent, WritesBlock0, FlushesDecision}
use Rattle.bow_machine.specs.Calls.{Reply}
use Rattle.bow_machine.specs.Tasks.{Turn, task_of}
use Rattle.bow_machine.specs.Steps.{Told, Idle, Moved, Wrote, Got, Answered, step_of}
use Rattle.bow_machine.specs.MemoryIsSound.{MemoryIsSound}

-- what the command in hand has done, and not told: nothing; it may have armed; or it has decided
pub data Deed : Type 0 where
  NoDeed MayHaveArmed HasDecided : Deed

-- from its log write on a prepare has armed, or it found the phase Arming
abbrev pub deed_of_prepare : PrepareAct → Deed
deed_of_prepare ReadsBlock0 = NoDeed
deed_of_prepare (WritesCurrent v) = NoDeed
deed_of_prepare (WritesBackup v) = NoDeed
deed_of_prepare (FlushesCopies v) = NoDeed
deed_of_prepare WritesFirstLog = MayHaveArmed
deed_of_prepare FlushesFirstLog = MayHaveArmed

-- after its deciding write a commit has decided, or it found the phase Deciding
abbrev pub deed_of_commit : Bool → CommitAct → Deed
deed_of_commit again FlushesAll = NoDeed
deed_of_commit again ReadsCurrent = NoDeed
deed_of_commit again (WritesBlock0 v) = NoDeed
deed_of_commit again FlushesDecision = if again then NoDeed else HasDecided

-- of what is in hand
abbrev pub deed_of : Hand → Deed
deed_of Empty = NoDeed
deed_of (Batching b) = NoDeed
deed_of (Preparing t c b act) = deed_of_prepare act
deed_of (Committing t again act) = deed_of_commit again act

-- by an act: arming and deciding are deeds; without an event it stays, or a prepare is in hand that may have armed
abbrev pub MovedDeed : List Event → Deed → Deed → Type 0
MovedDeed [] old new = (new ≡ old) ⊎ ((old ≡ NoDeed) × (new ≡ MayHaveArmed))
MovedDeed (Arms saved ∷ []) old new = (old ≡ NoDeed) × (new ≡ MayHaveArmed)
MovedDeed (Decides ∷ []) old new = (old ≡ NoDeed) × (new ≡ HasDecided)
MovedDeed events old new = ⊥

-- by an answer: a command's leaves nothing untold; a read's may come beside a command; and no other does
abbrev pub AnsweredDeed : Op → Deed → Deed → Type 0
AnsweredDeed (Read e p) old new = new ≡ old
AnsweredDeed Prepare old new = new ≡ NoDeed
AnsweredDeed Commit old new = new ≡ NoDeed
AnsweredDeed op old new = (old ≡ NoDeed) × (new ≡ NoDeed)

-- by what is told, and its events
abbrev pub DeedRow : Told → List Event → Deed → Deed → Type 0
DeedRow Idle events old new = new ≡ old
DeedRow Moved events old new = MovedDeed events old new
DeedRow (Wrote t i) events old new = (old ≡ NoDeed) × (new ≡ NoDeed)
DeedRow (Got t i) events old new = new ≡ old
DeedRow (Answered t op outcome) events old new = AnsweredDeed op old new

-- So it goes on, at each step.
abbrev pub DeedsGoOn : Type 0
DeedsGoOn = (g : Geometry) (m : Memory) (turn : Turn) (reply : Reply) (now : Contents) → MemoryIsSound g m
    → let step = step_of g now m (task_of g m turn) reply in
    DeedRow step.told step.events (deed_of m.hand) (deed_of step.memory.hand)
