-- What a reader of the checkpoint beside running writers may lean on: the older logs stay.
use Rattle.std.specs.Prelude.{ℕ, ◌≡◌, ◌⊎◌, List, ◌∷◌, Some}
use Rattle.bow_units.specs.declared.sizes.Geometry.{Geometry}
use Rattle.bow_units.specs.declared.requests.Phase.TheVariants.{Checkpoint}
use Rattle.bow_log.specs.Generations.{Generation}
use Rattle.bow_chain.specs.Contents.{Contents}
use Rattle.bow_chain.specs.Sound.{StandsBehind}
use Rattle.bow_flat.specs.Flat.{Flat}
use Rattle.bow_guard.specs.Cuts.{Candidates}
use Rattle.bow_machine.specs.Memory.{Memory}
use Rattle.bow_machine.specs.Calls.{ReadCall, Reply, Does, DoesIt}
use Rattle.bow_machine.specs.Tasks.{Turn, task_of}
use Rattle.bow_machine.specs.Steps.{call_of, step_of}
use Rattle.bow_machine.specs.Standing.{IsStanding}

-- In Checkpoint a step leaves the older logs behind the log in memory as they are; a log that is new in memory may have
-- the one before as its first older one.
abbrev pub OlderLogsStay : Type 0
OlderLogsStay = (g : Geometry) (m : Memory) (turn : Turn) (reply : Reply) (now new_now : Contents)
    (may new_may : Candidates) (f : Flat) (log new : Generation) (older : List Generation)
    → IsStanding g m now may f → m.phase ≡ Checkpoint → m.log ≡ Some log
    → StandsBehind g now log older → DoesIt g (call_of g m (task_of g m turn)) reply now may new_now new_may
    → (step_of g now m (task_of g m turn) reply).memory.log ≡ Some new
    → StandsBehind g new_now new older ⊎ StandsBehind g new_now new (log ∷ older)

-- There are older logs behind the log in memory, which a reader follows over what the disk holds.
abbrev pub ReadersFollow : Type 0
ReadersFollow = (g : Geometry) (m : Memory) (now : Contents) (may : Candidates) (f : Flat) (log : Generation)
    → IsStanding g m now may f → m.phase ≡ Checkpoint → m.log ≡ Some log
    → (older : List Generation) × StandsBehind g now log older

-- A read of the disk beside the device, failed or not, keeps all that the machine stands for.
abbrev pub ReadsBeside : Type 0
ReadsBeside = (g : Geometry) (m : Memory) (b : ℕ) (reply : Reply) (now new_now : Contents) (may new_may : Candidates)
    (f : Flat) → IsStanding g m now may f → Does g (ReadCall b) reply now may new_now new_may
    → IsStanding g m new_now new_may f
