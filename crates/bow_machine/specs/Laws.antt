-- What is proved of the machine.
use Rattle.std.specs.Prelude.{ℕ, ◌<◌, ◌≡◌, false, List, [], ◌∷◌, ◌++◌, length, replicate, ◌-◌, None}
use Rattle.std.specs.List.{AllByRecursion as Each}
use Rattle.bow_units.specs.declared.sizes.Geometry.{Geometry}
use Rattle.bow_units.specs.Sizes.{IsValid}
use Rattle.bow_units.specs.declared.requests.Phase.TheVariants.{Trim}
use Rattle.bow_units.specs.declared.statuses.Kind.TheVariants.{Sector0, Unchanged}
use Rattle.bow_chain.specs.Contents.{Contents, contents_of}
use Rattle.bow_flat.specs.Flat.{Flat, Event, Allows, after, opening}
use Rattle.bow_units.specs.Magics.{IsPlain}
use Rattle.bow_guard.specs.Cuts.{Candidates, IsCut}
use Rattle.bow_guard.specs.Standing.{StandsFor}
use Rattle.bow_machine.specs.Requests.{Request}
use Rattle.bow_machine.specs.Memory.{Memory, Empty}
use Rattle.bow_machine.specs.Calls.{Reply, DoesIt}
use Rattle.bow_machine.specs.Tasks.{Turn, task_of}
use Rattle.bow_machine.specs.Steps.{call_of, step_of}
use Rattle.bow_machine.specs.MemoryIsSound.{IsAdmissible}
use Rattle.bow_machine.specs.Standing.{HasBlocks, IsStanding}

-- the state after these events, one after the other
abbrev pub after_all : ℕ → List Event → Flat → Flat
after_all n [] f = f
after_all n (event ∷ more) f = after_all n more (after n event f)

-- each of these events may be, in the state that the ones before it have made
abbrev pub AllowsAll : ℕ → List Event → Flat → Type 0
AllowsAll n [] f = Unit {0}
AllowsAll n (event ∷ more) f = Allows n event f × AllowsAll n more (after n event f)

-- Each step, whatever the disk replies, leads from a machine that stands for a flat state to one that stands for that
-- state changed by the step's events; and the events may be.
abbrev pub StepKeeps : Type 0
StepKeeps = (g : Geometry) (m : Memory) (turn : Turn) (reply : Reply) (now new_now : Contents)
    (may new_may : Candidates) (f : Flat) → IsStanding g m now may f
    → DoesIt g (call_of g m (task_of g m turn)) reply now may new_now new_may
    → let step = step_of g now m (task_of g m turn) reply in
    AllowsAll g.blocks step.events f
    × IsStanding g step.memory new_now new_may (after_all g.blocks step.events f)

-- Whatever a cut leaves of a machine that stands for a flat state stands for it too.
abbrev pub CutStands : Type 0
CutStands = (g : Geometry) (m : Memory) (now : Contents) (may : Candidates) (f : Flat) (image : Contents)
    → IsStanding g m now may f → IsCut g may image → StandsFor g f image

-- a device that was opened: Trim, and nothing is free, waits or is in hand
abbrev pub opened : ℕ → Memory
opened blocks = record {
  phase = Trim;
  kinds = Sector0 ∷ replicate (blocks - 1) Unchanged;
  requests = [];
  hand = Empty;
  log = None;
  clean = false;
  trimmed = 0;
}

-- Opened on a disk that is settled on an image of blocks with no magic in block 0, it stands for the opening state of
-- that image.
abbrev pub OpeningStands : Type 0
OpeningStands = (g : Geometry) (image : List (List ℕ)) → IsValid g → HasBlocks g (contents_of image)
    → IsPlain (contents_of image 0)
    → IsStanding g (opened g.blocks) (contents_of image) (λ b. contents_of image b ∷ []) (opening image)

-- A request that may be taken in, none of whose blocks is done, changes nothing else.
abbrev pub AdmitStands : Type 0
AdmitStands = (g : Geometry) (m : Memory) (now : Contents) (may : Candidates) (f : Flat) (r : Request)
    → IsAdmissible g r.op → r.done ≡ 0 → Each (λ other. other.ticket.serial < r.ticket.serial) m.requests
    → length m.requests < 16 → IsStanding g m now may f
    → IsStanding g (record m { requests = m.requests ++ r ∷ [] }) now may f
