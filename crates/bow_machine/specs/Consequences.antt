-- What follows from what the machine stands for: exact room, picks, the log in memory, the cuts of a step, idle turns.
use Rattle.std.specs.Prelude.{ℕ, ◌≡◌, false, List, Some, Contains}
use Rattle.bow_units.specs.declared.sizes.Geometry.{Geometry}
use Rattle.bow_units.specs.declared.requests.Phase.TheVariants.{Checkpoint}
use Rattle.bow_log.specs.Generations.{Generation}
use Rattle.bow_chain.specs.Contents.{Contents, with_block}
use Rattle.bow_chain.specs.Sound.{log_in, StandsBehind}
use Rattle.bow_chain.specs.Counting.{AtPlaces}
use Rattle.bow_chain.specs.Kept.{Keeps}
use Rattle.bow_flat.specs.Flat.{Flat}
use Rattle.bow_guard.specs.Cuts.{Candidates, IsCut}
use Rattle.bow_guard.specs.Standing.{StandsFor}
use Rattle.bow_ranges.specs.Kinds.{holds}
use Rattle.bow_machine.specs.Memory.{Memory, reserved}
use Rattle.bow_machine.specs.Calls.{Reply, DoesIt}
use Rattle.bow_machine.specs.Tasks.{Turn, task_of, spelling}
use Rattle.bow_machine.specs.Steps.{call_of, step_of}
use Rattle.bow_machine.specs.Standing.{IsStanding}
use Rattle.bow_machine.specs.Laws.{after_all}

-- With a log in memory, how many blocks were free at the prepare is how many were discarded.
abbrev pub TrimmedIsKept : Type 0
TrimmedIsKept = (g : Geometry) (m : Memory) (now : Contents) (may : Candidates) (f : Flat) (log : Generation)
    → IsStanding g m now may f → m.log ≡ Some log → f.trimmed ≡ m.trimmed

-- Whichever log a cut leaves in block 0, the batch in hand has picked no place that counts for it or its older ones,
-- and none where a used block is kept.
abbrev pub NoneIsPicked : Type 0
NoneIsPicked =
    (g : Geometry) (m : Memory) (now : Contents) (may : Candidates) (f : Flat) (v : List ℕ) (log : Generation)
    (older : List Generation)
    → IsStanding g m now may f → m.phase ≡ Checkpoint → Contains (may 0) v → log_in g v ≡ Some log
    → StandsBehind g now log older
    → AtPlaces g f.used (λ x. holds (reserved m.hand) x ≡ false) log older

-- In Checkpoint, what the disk holds keeps the checkpoint once the log in memory is put into block 0.
abbrev pub LiveKeeps : Type 0
LiveKeeps =
    (g : Geometry) (m : Memory) (now : Contents) (may : Candidates) (f : Flat) (log : Generation)
    → IsStanding g m now may f → m.phase ≡ Checkpoint → m.log ≡ Some log
    → Keeps g f.used f.saved (with_block now 0 (spelling g log))

-- Whatever a cut leaves by the candidates before a step stands for the state before it, and by those after it for the
-- state after it.
abbrev pub StepCuts : Type 0
StepCuts =
    (g : Geometry) (m : Memory) (turn : Turn) (reply : Reply) (now new_now : Contents) (may new_may : Candidates)
    (f : Flat) (image : Contents)
    → IsStanding g m now may f → DoesIt g (call_of g m (task_of g m turn)) reply now may new_now new_may
    → (IsCut g may image → StandsFor g f image)
    × (IsCut g new_may image
    → StandsFor g (after_all g.blocks (step_of g now m (task_of g m turn) reply).events f) image)
