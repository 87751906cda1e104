-- One step of the device: one step of the machine.
use Rattle.std.specs.Prelude.{◌≡◌, ◌↔◌, ℕ, true, List, Option, Some}
use Rattle.bow_units.specs.declared.sizes.Geometry.{Geometry}
use Rattle.bow_disk.specs.Disk.{Content}
use Rattle.bow_machine.specs.Memory.{Memory}
use Rattle.bow_machine.specs.MemoryIsSound.{MemoryIsSound}
use Rattle.bow_machine.specs.Calls.{Call, Reply, Failed}
use Rattle.bow_machine.specs.MemoryLaws.{tells_fault}
use Rattle.bow_machine.specs.Tasks.{Task, task_of}
use Rattle.bow_machine.specs.Steps.{Step, call_of, step_of, unknown}
use Rattle.bow_machine.specs.declared.turns.Turn.{Turn}
use Rattle.bow_core.specs.declared.turns.Step.{Step as OwnStep}
use Rattle.bow_core.specs.Turns.{told_of}
use Rattle.bow_core.specs.Ports.{Makes}
use Rattle.bow_core.specs.Views.{View}
use Rattle.bow_core.specs.Held.{Held, with_memory}
use Rattle.bow_core.specs.declared.ports.Port.{Port}

-- the step of a task by a reply, over any disk
abbrev pub done_by : Geometry → Memory → Task → Reply → Step
done_by g m task reply = step_of g unknown m task reply

-- A task of the machine was done: there is a reply that its one call may have had, by which the memory after is the
-- machine's, and what is told is what the machine tells; and from the one disk to the other that call alone was made.
pub record IsDone {D : Type 0} (stated : D → Option Geometry) (content : D → Option Content) (moment : D → ℕ)
    (left : D → ℕ → List (List ℕ) → Type 0) (faults : D → ℕ) (g : Geometry) (m : Memory) (task : Task) (tells :
    OwnStep) (after : Memory)
    (old new : D) (before now : ℕ) : Type 0 where
  pub reply : Reply
  pub made : Makes stated content moment left faults g (call_of g m task) reply old new before now
  pub memory : after ≡ (done_by g m task reply).memory
  pub told : told_of tells ≡ (done_by g m task reply).told

-- the disk states the sizes that the device keeps, and its memory is sound
pub record IsInOrder {D : Type 0} (stated : D → Option Geometry) (port : Port D) (s : Held) : Type 0 where
  pub sizes : stated port.disk ≡ Some s.geometry
  pub sound : MemoryIsSound s.geometry s.memory

-- The same of what the device keeps, over its counted disk: of it memory alone changed.
pub record Does {D : Type 0} (stated : D → Option Geometry) (content : D → Option Content) (moment : D → ℕ)
    (left : D → ℕ → List (List ℕ) → Type 0) (faults : D → ℕ) (old : Port D) (s : Held) (task : Task) (tells : OwnStep)
    (new : Port D) (now : Held) : Type 0 where
  pub done : IsDone stated content moment left faults s.geometry s.memory task tells now.memory old.disk new.disk
      old.calls new.calls
  pub kept : now ≡ with_memory s now.memory

-- what a turn of a device does
abbrev pub task_in : {D : Type 0} → View D → Turn → Task
task_in v turn = task_of v.geometry v.memory turn

-- the call that it makes on the disk: one at most
abbrev pub call_in : {D : Type 0} → View D → Turn → Option Call
call_in v turn = call_of v.geometry v.memory (task_in v turn)

-- its step, by the reply of that call
abbrev pub step_in : {D : Type 0} → View D → Turn → Reply → Step
step_in v turn reply = done_by v.geometry v.memory (task_in v turn) reply

-- From one device to the next by a turn: there is a reply that its one call may have had; that call alone was made; the
-- memory after is the machine's, and what is told is what the machine tells; and all else stays.
pub record IsStep {D : Type 0} (stated : D → Option Geometry) (content : D → Option Content) (moment : D → ℕ)
    (left : D → ℕ → List (List ℕ) → Type 0) (faults : D → ℕ) (old : View D) (turn : Turn) (tells : OwnStep)
    (new : View D) : Type 0 where
  pub reply : Reply
  pub made : Makes stated content moment left faults old.geometry (call_in old turn) reply old.disk new.disk
      old.calls new.calls
  pub memory : new.memory ≡ (step_in old turn reply).memory
  pub told : told_of tells ≡ (step_in old turn reply).told
  pub geometry : new.geometry ≡ old.geometry
  pub places : new.places ≡ old.places
  pub admitted : new.admitted ≡ old.admitted

-- a call was made, and it failed
abbrev pub HasFailed : Option Call → Reply → Type 0
HasFailed (Some call) Failed = Unit {0}
HasFailed call reply = ⊥

-- Whatever the one call of the step replied: it failed exactly where the step tells of a fault.
abbrev pub FailureIsTold : {D : Type 0} → (D → Option Geometry) → (D → Option Content) → (D → ℕ)
    → (D → ℕ → List (List ℕ) → Type 0) → (D → ℕ) → View D → Turn → OwnStep → View D → Type 0
FailureIsTold stated content moment left faults old turn tells new = (made : IsStep stated content moment left faults
    old turn tells new) → HasFailed (call_in old turn) made.reply ↔ (tells_fault (told_of tells) ≡ true)
