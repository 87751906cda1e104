-- What a step does to the flat state for which a device stands.
use Rattle.std.specs.Prelude.{◌≡◌, ◌⊎◌, ℕ, ◌≤◌, List, Option, Some, None}
use Rattle.bow_units.specs.declared.sizes.Geometry.{Geometry}
use Rattle.bow_disk.specs.Disk.{Content}
use Rattle.bow_chain.specs.Contents.{Contents, contents_of}
use Rattle.bow_flat.specs.Flat.{Flat}
use Rattle.bow_guard.specs.Cuts.{candidates_of}
use Rattle.bow_guard.specs.Standing.{StandsFor}
use Rattle.bow_machine.specs.Memory.{Memory}
use Rattle.bow_machine.specs.Calls.{Reply}
use Rattle.bow_machine.specs.Laws.{after_all, AllowsAll}
use Rattle.bow_machine.specs.Standing.{IsStanding}
use Rattle.bow_machine.specs.Steps.{Step, step_of}
use Rattle.bow_machine.specs.declared.turns.Turn.{Turn}
use Rattle.bow_core.specs.declared.turns.Step.{Step as OwnStep}
use Rattle.bow_core.specs.Turns.{told_of}
use Rattle.bow_core.specs.Steps.{task_in}
use Rattle.bow_machine.specs.Steps.{unknown}
use Rattle.bow_core.specs.Views.{View}

-- memory over a disk that tells its content stands for the state; over one that tells nothing it stands for none
abbrev pub StandsOver : Geometry → Memory → Option Content → Flat → Type 0
StandsOver g m None f = ⊥
StandsOver g m (Some c) f = IsStanding g m (contents_of c.now) (candidates_of c.candidates) f

-- the device stands for the state
abbrev pub StandsIn : {D : Type 0} → (D → Option Content) → View D → Flat → Type 0
StandsIn content v f = StandsOver v.geometry v.memory (content v.disk) f

-- what the disk holds, where it tells it
abbrev pub seen : Option Content → Contents
seen None = unknown
seen (Some c) = contents_of c.now

-- the machine's step of a turn over what the disk held before it, on which its events alone may depend
abbrev pub step_seen : {D : Type 0} → (D → Option Content) → View D → Turn → Reply → Step
step_seen content old turn reply = step_of old.geometry (seen (content old.disk)) old.memory (task_in old turn) reply

-- the state after a turn's step by a reply
abbrev pub state_after : {D : Type 0} → (D → Option Content) → View D → Turn → Reply → Flat → Flat
state_after content old turn reply f = after_all old.geometry.blocks (step_seen content old turn reply).events f

-- A turn's step, by a reply: its events may be, and the device stands for the state that they make. Each image that a
-- cut left since an earlier moment was left before the step, or stands for that state.
pub record Leads {D : Type 0} (content : D → Option Content) (moment : D → ℕ) (left : D → ℕ → List (List ℕ) → Type 0)
    (old : View D) (turn : Turn) (tells : OwnStep) (new : View D) (f : Flat) : Type 0 where
  pub reply : Reply
  pub memory : new.memory ≡ (step_seen content old turn reply).memory
  pub told : told_of tells ≡ (step_seen content old turn reply).told
  pub allowed : AllowsAll old.geometry.blocks (step_seen content old turn reply).events f
  pub stands : StandsIn content new (state_after content old turn reply f)
  pub cuts : (t : ℕ) (image : List (List ℕ)) → t ≤ moment old.disk → left new.disk t image
      → left old.disk t image ⊎ StandsFor old.geometry (state_after content old turn reply f) (contents_of image)
