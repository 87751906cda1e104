-- Each turn, whatever the disk replies, keeps what the machine stands for.
use Rattle.std.proofs.Common.{◌≡◌, refl}
use Rattle.bow_units.specs.declared.sizes.Geometry.{Geometry}
use Rattle.bow_chain.specs.Contents.{Contents}
use Rattle.bow_flat.specs.Flat.{Flat}
use Rattle.bow_guard.specs.Cuts.{Candidates}
use Rattle.bow_machine.specs.Memory.{Memory}
use Rattle.bow_machine.specs.Calls.{Reply, DoesIt}
use Rattle.bow_machine.specs.Steps.{call_of, step_of}
use Rattle.bow_machine.specs.Tasks.{Turn, Map, Worker, Command, Task, Waits, Answers, WritesBlock, ReadsBlock, FlushesFor, DiscardsFor, Acts, task_of}
use Rattle.bow_machine.proofs.Held.{IsHeld}
use Rattle.bow_machine.specs.Laws.{StepKeeps, OpeningStands, AdmitStands}
use Rattle.bow_machine.specs.Consequences.{StepCuts}
use Rattle.bow_machine.proofs.Blocks.{blocks_reply}
use Rattle.bow_machine.proofs.Cuts.{machine_cut}
use Rattle.bow_machine.proofs.Joined.{held, standing}
use Rattle.bow_machine.proofs.Hands.{Keeps}
use Rattle.bow_machine.proofs.Openings.{opening_held, admit_held}
use Rattle.bow_machine.proofs.SoundLists.{none_below}
use Rattle.bow_machine.proofs.SoundOpenings.{opening_is_sound, admit_keeps_sound}
use Rattle.bow_machine.proofs.SoundSteps.{step_keeps_sound}
use Rattle.bow_machine.proofs.Mapped.{empty_not_in_hand}
use Rattle.bow_machine.proofs.MappedTurn.{TaskKeeps, answers_keep, map_keeps}
use Rattle.bow_machine.proofs.Workers.{worker_keeps}
use Rattle.bow_machine.proofs.Commands.{IsNoAnswer, command_keeps, command_answers}

-- the turn of the commands: an answer, or another task
command_turn : (g : Geometry) (m : Memory) (reply : Reply) (now new_now : Contents) (may new_may : Candidates) (f : Flat) → IsHeld g m now may f
    → (task : Task) → task_of g m Command ≡ task → (IsNoAnswer task → TaskKeeps g m now may f task) → TaskKeeps g m now may f task
command_turn g m reply now new_now may new_may f s (Answers r outcome) is other =
    answers_keep g m now may f r outcome (empty_not_in_hand m.hand r.ticket (command_answers g m r outcome is).0) s
command_turn g m reply now new_now may new_may f s Waits is other = other tt
command_turn g m reply now new_now may new_may f s (WritesBlock r b) is other = other tt
command_turn g m reply now new_now may new_may f s (ReadsBlock r b) is other = other tt
command_turn g m reply now new_now may new_may f s (FlushesFor r) is other = other tt
command_turn g m reply now new_now may new_may f s (DiscardsFor r) is other = other tt
command_turn g m reply now new_now may new_may f s (Acts memory) is other = other tt

-- the same as the proofs carry it
pub step_holds : (g : Geometry) (m : Memory) (turn : Turn) (reply : Reply) (now new_now : Contents)
    (may new_may : Candidates) (f : Flat) → IsHeld g m now may f
    → DoesIt g (call_of g m (task_of g m turn)) reply now may new_now new_may
    → Keeps g new_now new_may f (step_of g now m (task_of g m turn) reply)
step_holds g m (Map ticket) reply now new_now may new_may f s does = map_keeps g m ticket now may f s reply new_now new_may does
step_holds g m Worker reply now new_now may new_may f s does = worker_keeps g f now new_now may new_may reply m s does
step_holds g m Command reply now new_now may new_may f s does =
    command_turn g m reply now new_now may new_may f s (task_of g m Command) refl
    (λ other reply new_now new_may does. command_keeps g m now new_now may new_may f reply s other does) reply new_now new_may does

pub step_keeps : StepKeeps
step_keeps g m turn reply now new_now may new_may f s does =
    let kept = step_holds g m turn reply now new_now may new_may f (held g m now may f s) does in
    let can = blocks_reply g m turn reply now new_now may new_may s.sound s.blocks does in
    (kept.0, standing g _ new_now new_may _ (step_keeps_sound g m turn reply now s.sound can.0) can.1 kept.1)

-- ----------------------------------------------------------------------------------------------------------------
-- When the device is opened, and when a request is taken in.

pub opening_stands : OpeningStands
opening_stands g image sizes blocks plain =
    standing g _ _ _ _ (opening_is_sound g sizes) blocks (opening_held g image sizes plain)

pub admit_stands : AdmitStands
admit_stands g m now may f r op fresh below few s =
    standing g _ now may f (admit_keeps_sound g m r op fresh below few s.sound) s.blocks
    (admit_held g m now may f r fresh (none_below r.ticket m.requests below) (held g m now may f s))

-- what a cut leaves before and after a step
pub step_cuts : StepCuts
step_cuts g m turn reply now new_now may new_may f image s does = (
  λ cut. machine_cut g m now may f image s cut,
  λ cut. machine_cut g _ new_now new_may _ image (step_keeps g m turn reply now new_now may new_may f s does).1 cut,
)
