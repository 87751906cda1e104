-- Steps that lead to a machine that is led.
use Rattle.std.proofs.Common.{ℕ, ◌≡◌, ◌⊎◌, List, Option, Some, None, arith, sym, subst}
use Rattle.bow_units.specs.declared.sizes.Geometry.{Geometry}
use Rattle.bow_units.specs.declared.requests.Phase.{Phase}
use Rattle.bow_units.specs.declared.requests.Phase.TheVariants.{Trim, Arming, Checkpoint, Deciding, Committed}
use Rattle.bow_units.specs.declared.statuses.Kind.{Kind}
use Rattle.bow_log.specs.Generations.{Generation}
use Rattle.bow_chain.specs.Contents.{Contents}
use Rattle.bow_flat.specs.Flat.{Flat}
use Rattle.bow_guard.specs.Cuts.{Candidates}
use Rattle.bow_machine.specs.Memory.{Memory}
use Rattle.bow_machine.specs.Calls.{Call, Reply, Failed, DoesIt}
use Rattle.bow_machine.specs.Tasks.{Task}
use Rattle.bow_machine.specs.Steps.{Step, call_of, step_of}
use Rattle.bow_machine.proofs.Held.{IsKept, Kept, IsHeld}
use Rattle.bow_machine.specs.Laws.{after_all}
use Rattle.bow_machine.proofs.Committed.{checkpoint_facts, deciding_facts}
use Rattle.bow_machine.proofs.Prepared.{arming_facts}
use Rattle.bow_machine.proofs.AheadLeads.{plain_led}
use Rattle.bow_machine.specs.Ahead.{IsLedIn, IsLed}

-- a machine is led after this step
abbrev pub LedAfter : Geometry → Contents → Candidates → Flat → Step → Type 0
LedAfter g now may f step = IsLed g step.memory now may (after_all g.blocks step.events f)

-- it stands after it
abbrev pub Stands : Geometry → Contents → Candidates → Flat → Step → Type 0
Stands g now may f step = IsHeld g step.memory now may (after_all g.blocks step.events f)

-- it is led, where it stands
abbrev pub StepLed : Geometry → Contents → Candidates → Flat → Step → Type 0
StepLed g now may f step = Stands g now may f step → LedAfter g now may f step

-- it is in Trim and once committed
pub plain_step : (g : Geometry) (now : Contents) (may : Candidates) (f : Flat) (step : Step) → (step.memory.phase ≡ Trim) ⊎ (step.memory.phase ≡ Committed) → StepLed g now may f step
plain_step g now may f step plain new = plain_led g step.memory now may (after_all g.blocks step.events f) new plain

-- the step of a task whose call, if it makes one, does not fail
abbrev pub Leads : Geometry → Memory → Contents → Candidates → Contents → Candidates → Flat → Reply → Task → Type 0
Leads g m now may new_now new_may f reply task = DoesIt g (call_of g m task) reply now may new_now new_may → (reply ≡ Failed → call_of g m task ≡ None) → StepLed g new_now new_may f (step_of g now m task reply)

-- no call that was made has failed
pub not_failed : {A : Type 0} (call : Call) (reply : Reply) → reply ≡ Failed → (reply ≡ Failed → Some call ≡ None) → A
not_failed call reply is none = absurd (let clash : Some call ≡ None = none is in grind arith)

-- the disk holds the same
pub disk_led : (g : Geometry) (phase : Phase) (kinds : List Kind) (log : Option Generation) (pending : ℕ → Option (List (List ℕ))) (now new_now : Contents) (may new_may : Candidates) → new_now ≡ now → new_may ≡ may
    → IsLedIn g phase kinds log now may pending → IsLedIn g phase kinds log new_now new_may pending
disk_led g phase kinds log pending now new_now may new_may same_now same_may l = subst (λ i. IsLedIn g phase kinds log i new_may pending) (sym same_now) (subst (λ j. IsLedIn g phase kinds log now j pending) (sym same_may) l)

-- the log in memory, and what is kept behind it
abbrev pub LogKept : Geometry → Memory → Contents → Candidates → Flat → Phase → Type 0
LogKept g m now may f phase = (log : Generation) × (m.log ≡ Some log) × IsKept g m now may f phase log

pub log_in_checkpoint : (g : Geometry) (m : Memory) (now : Contents) (may : Candidates) (f : Flat) → IsHeld g m now may f → m.phase ≡ Checkpoint → LogKept g m now may f Checkpoint
log_in_checkpoint g m now may f s is = checkpoint_facts g m now may f m.log (subst (λ p. Kept g m now may f p m.log) is s.kept)

pub log_in_arming : (g : Geometry) (m : Memory) (now : Contents) (may : Candidates) (f : Flat) → IsHeld g m now may f → m.phase ≡ Arming → LogKept g m now may f Arming
log_in_arming g m now may f s is = arming_facts g m now may f m.log (subst (λ p. Kept g m now may f p m.log) is s.kept)

pub log_in_deciding : (g : Geometry) (m : Memory) (now : Contents) (may : Candidates) (f : Flat) → IsHeld g m now may f → m.phase ≡ Deciding → LogKept g m now may f Deciding
log_in_deciding g m now may f s is = deciding_facts g m now may f m.log (subst (λ p. Kept g m now may f p m.log) is s.kept)
