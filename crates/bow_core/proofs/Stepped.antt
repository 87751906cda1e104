-- A turn that was done by what the device keeps is a step of the device.
use Rattle.std.proofs.Common.{ℕ, ◌≡◌, List, Option, ap}
use Rattle.bow_units.specs.declared.sizes.Geometry.{Geometry}
use Rattle.bow_disk.specs.Disk.{Content}
use Rattle.bow_machine.specs.Tasks.{task_of}
use Rattle.bow_core.specs.Held.{Held, with_memory}
use Rattle.bow_core.specs.Steps.{IsDone, IsStep}
use Rattle.bow_core.specs.Views.{view_of}
use Rattle.bow_machine.specs.declared.turns.Turn.{Turn}
use Rattle.bow_core.specs.declared.turns.Step.{Step}

pub stepped : {D : Type 0} (stated : D → Option Geometry) (content : D → Option Content) (moment : D → ℕ) (left : D → ℕ → List (List ℕ) → Type 0) (faults : D → ℕ)
    (s now : Held) (turn : Turn) (tells : Step) (old new : D) (before after : ℕ)
    → IsDone stated content moment left faults s.geometry s.memory (task_of s.geometry s.memory turn) tells now.memory old new before after → now ≡ with_memory s now.memory
    → IsStep stated content moment left faults (view_of old s before) turn tells (view_of new now after)
stepped stated content moment left faults s now turn tells old new before after done kept = record {
  reply = done.reply;
  made = done.made;
  memory = done.memory;
  told = done.told;
  geometry = ap (λ (h : Held). h.geometry) kept;
  places = ap (λ (h : Held). h.places) kept;
  admitted = ap (λ (h : Held). h.admitted) kept;
}
