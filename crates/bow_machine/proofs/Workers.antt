-- A turn of the worker keeps what the machine stands for.
use Rattle.std.proofs.Common.{◌≡◌, Option, Some, None, refl, sym, ap, ◌∙◌, subst}
use Rattle.bow_units.specs.declared.sizes.Geometry.{Geometry}
use Rattle.bow_units.specs.declared.requests.Phase.{Phase}
use Rattle.bow_units.specs.declared.requests.Phase.TheVariants.{Trim, Arming, Checkpoint, Deciding, Committed}
use Rattle.bow_flat.specs.Flat.{Flat}
use Rattle.bow_log.specs.Generations.{Generation}
use Rattle.bow_chain.specs.Contents.{Contents}
use Rattle.bow_guard.specs.Cuts.{Candidates}
use Rattle.bow_machine.specs.Requests.{Request}
use Rattle.bow_machine.specs.Memory.{Memory, Hand, Empty, Batching, Preparing, Committing}
use Rattle.bow_machine.specs.Calls.{Reply, DoesIt}
use Rattle.bow_machine.specs.Tasks.{Worker, Task, Waits, Acts, head, formed_for, serve, worker_task, task_of}
use Rattle.bow_machine.specs.Steps.{call_of, step_of}
use Rattle.bow_machine.proofs.Held.{Kept, HandHeld, IsHeld}
use Rattle.bow_machine.proofs.Committed.{checkpoint_facts}
use Rattle.bow_machine.proofs.BatchStands.{working, Working, from_standing}
use Rattle.bow_machine.proofs.BatchAnswers.{keeps_same}
use Rattle.bow_machine.proofs.Hands.{Keeps}
use Rattle.bow_machine.proofs.Batches.{batch_keeps}
use Rattle.bow_machine.proofs.FormedHeads.{head_is}
use Rattle.bow_machine.proofs.FormedBatches.{formed_keeps}

-- a memory in Checkpoint, by its hand and its log
pub memory_is : (m : Memory) (hand : Hand) (log : Generation) → m.phase ≡ Checkpoint → m.hand ≡ hand → m.log ≡ Some log
    → m ≡ working m hand log
memory_is m hand log phase is some =
    ap
    (λ (h : Hand). record { phase = m.phase; kinds = m.kinds; requests = m.requests; hand = h; log = m.log; clean = m.clean; trimmed = m.trimmed }) is
    ∙ ap
    (λ (p : Phase). record { phase = p; kinds = m.kinds; requests = m.requests; hand = hand; log = m.log; clean = m.clean; trimmed = m.trimmed }) phase
    ∙ ap
    (λ (l : Option Generation). record { phase = Checkpoint; kinds = m.kinds; requests = m.requests; hand = hand; log = l; clean = m.clean; trimmed = m.trimmed }) some

module _ (g : Geometry) where
  module _ (f : Flat) (now new_now : Contents) (may new_may : Candidates) (reply : Reply) where
    -- the step of this task keeps what the machine stands for
    abbrev Stays : Memory → Task → Type 0
    Stays m task =
        DoesIt g (call_of g m task) reply now may new_now new_may → Keeps g new_now new_may f (step_of g now m task reply)

    waits_stays : (m : Memory) → IsHeld g m now may f → Stays m Waits
    waits_stays m s does = keeps_same g now new_now may new_may f (step_of g now m Waits reply) does.0 does.1 (tt, s)

    -- for the head, if there is one
    serve_stays : (m : Memory) (log : Generation) → IsHeld g (working m Empty log) now may f
        → Stays (working m Empty log) (serve g (working m Empty log) (head g (working m Empty log)))
    serve_stays m log s = go (head g (working m Empty log)) refl
      where
        w : Working g m Empty log now may f
        w = from_standing g m Empty log now may f s

        go : (found : Option Request) → head g (working m Empty log) ≡ found
            → Stays (working m Empty log) (serve g (working m Empty log) found)
        go None none = waits_stays (working m Empty log) s
        go (Some r) found =
            let is = head_is g m log r w.memory.tickets found in
            subst (λ op. Stays (working m Empty log) (formed_for g (working m Empty log) r op (Some log)))
            (sym (is.2).op) (formed_keeps g m log f now may r is.0 is.1 is.2 w new_now new_may reply)

    task_stays : (m : Memory) (hand : Hand) (phase : Phase) → m.hand ≡ hand → m.phase ≡ phase → IsHeld g m now may f
        → Stays m (worker_task g m hand phase)
    task_stays m (Batching b) phase is at s = go m.log refl (subst (λ h. HandHeld g m h now may m.log) is s.in_hand)
      where
        go : (o : Option Generation) → m.log ≡ o → HandHeld g m (Batching b) now may o → Stays m (Acts m)
        go None none held = absurd held
        go (Some log) some held =
            let e : m ≡ working m (Batching b) log = memory_is m (Batching b) log held.phase is some in
            subst (λ n. IsHeld g n now may f → Stays n (Acts n)) (sym e)
            (λ s. batch_keeps g m log f now new_now may new_may reply b s) s
    task_stays m Empty Checkpoint is at s =
        let log = checkpoint_facts g m now may f m.log (subst (λ p. Kept g m now may f p m.log) at s.kept) in
        let e : m ≡ working m Empty log.0 = memory_is m Empty log.0 at is log.1 in
        subst (λ n. IsHeld g n now may f → Stays n (serve g n (head g n))) (sym e) (serve_stays m log.0) s
    task_stays m Empty Trim is at s = waits_stays m s
    task_stays m Empty Arming is at s = waits_stays m s
    task_stays m Empty Deciding is at s = waits_stays m s
    task_stays m Empty Committed is at s = waits_stays m s
    task_stays m (Preparing t c b act) phase is at s = waits_stays m s
    task_stays m (Committing t again act) phase is at s = waits_stays m s

    -- A turn of the worker, whatever it does: it waits, answers that there is no space, forms a batch, or goes on with one.
    pub worker_keeps : (m : Memory) → IsHeld g m now may f
        → DoesIt g (call_of g m (task_of g m Worker)) reply now may new_now new_may
        → Keeps g new_now new_may f (step_of g now m (task_of g m Worker) reply)
    worker_keeps m s = task_stays m m.hand m.phase refl refl s
