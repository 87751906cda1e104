-- What a step keeps for readers of the checkpoint and for devices that are given up forward.
use Rattle.std.specs.Prelude.{◌≡◌, ◌⊎◌, false, List, ◌∷◌, Option, Some, None}
use Rattle.bow_units.specs.declared.sizes.Geometry.{Geometry}
use Rattle.bow_units.specs.declared.requests.Phase.TheVariants.{Checkpoint}
use Rattle.bow_disk.specs.Disk.{Content}
use Rattle.bow_log.specs.Generations.{Generation}
use Rattle.bow_chain.specs.Contents.{contents_of, with_block}
use Rattle.bow_chain.specs.Kept.{Keeps}
use Rattle.bow_chain.specs.Sound.{StandsBehind}
use Rattle.bow_flat.specs.Flat.{Flat}
use Rattle.bow_guard.specs.Cuts.{candidates_of}
use Rattle.bow_machine.specs.Ahead.{IsLed}
use Rattle.bow_machine.specs.Calls.{Reply}
use Rattle.bow_machine.specs.Memory.{Memory}
use Rattle.bow_machine.specs.MemoryLaws.{tells_fault}
use Rattle.bow_machine.specs.Tasks.{spelling}
use Rattle.bow_machine.specs.declared.turns.Turn.{Turn}
use Rattle.bow_core.specs.declared.turns.Step.{Step as OwnStep}
use Rattle.bow_core.specs.Forward.{SoundAreAheadIn}
use Rattle.bow_core.specs.Standing.{state_after, step_seen}
use Rattle.bow_core.specs.Turns.{told_of}
use Rattle.bow_core.specs.Views.{View}

-- memory over a disk that tells its content is led for the state: whatever a cut leaves is ahead of it
abbrev pub LedOver : Geometry → Memory → Option Content → Flat → Type 0
LedOver g m None f = ⊥
LedOver g m (Some c) f = IsLed g m (contents_of c.now) (candidates_of c.candidates) f

-- the device is led for the state
abbrev pub LedIn : {D : Type 0} → (D → Option Content) → View D → Flat → Type 0
LedIn content v f = LedOver v.geometry v.memory (content v.disk) f

-- these logs stand behind this one on a disk that tells its content
abbrev pub BehindOver : Geometry → Option Content → Generation → List Generation → Type 0
BehindOver g None log older = ⊥
BehindOver g (Some c) log older = StandsBehind g (contents_of c.now) log older

-- the same on the device's disk
abbrev pub BehindIn : {D : Type 0} → (D → Option Content) → View D → Generation → List Generation → Type 0
BehindIn content v log older = BehindOver v.geometry (content v.disk) log older

-- what a disk that tells its content holds keeps the checkpoint of the state, once this log is put into block 0
abbrev pub KeepsOver : Geometry → Option Content → Generation → Flat → Type 0
KeepsOver g None log f = ⊥
KeepsOver g (Some c) log f = Keeps g f.used f.saved (with_block (contents_of c.now) 0 (spelling g log))

-- What a reader beside running writers may lean on in Checkpoint: with the log in memory in block 0 the device's disk
-- keeps the checkpoint, and there are older logs behind that log, which it follows.
pub record IsReadable {D : Type 0} (content : D → Option Content) (v : View D) (log : Generation)
    (f : Flat) : Type 0 where
  pub keeps : KeepsOver v.geometry (content v.disk) log f
  pub older : List Generation
  pub behind : BehindIn content v log older

-- A turn's step, by a reply, over a device that stood for the state. Where no fault is told, a device that was led for
-- it is led for the state after; and one that was led for any state, as it is where no call of it has failed, and of
-- which each sound crash image was ahead, has that so for the state after too. In Checkpoint the older logs stay, and
-- the log before may come to them.
pub record KeepsOn {D : Type 0} (content : D → Option Content) (old : View D) (turn : Turn) (tells : OwnStep)
    (new : View D) (f : Flat) : Type 0 where
  pub reply : Reply
  pub memory : new.memory ≡ (step_seen content old turn reply).memory
  pub told : told_of tells ≡ (step_seen content old turn reply).told
  pub led : tells_fault (told_of tells) ≡ false → LedIn content old f
      → LedIn content new (state_after content old turn reply f)
  pub ahead : (one : Flat) → tells_fault (told_of tells) ≡ false → LedIn content old one
      → SoundAreAheadIn content old f → SoundAreAheadIn content new (state_after content old turn reply f)
  pub older : (log next : Generation) (behind : List Generation) → old.memory.phase ≡ Checkpoint
      → old.memory.log ≡ Some log → new.memory.log ≡ Some next → BehindIn content old log behind
      → BehindIn content new next behind ⊎ BehindIn content new next (log ∷ behind)
