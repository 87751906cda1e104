-- The step of each act of a batch, and what is in hand after it.
use Rattle.std.proofs.Common.{ℕ, ◌+◌, ◌<◌, ◌≤◌, ◌≡◌, true, false, cond, List, [], ◌∷◌, ◌++◌, map, Some, arith, refl, sym, ap, ◌∙◌, subst}
use Rattle.bow_units.specs.declared.sizes.Geometry.{Geometry}
use Rattle.bow_units.specs.declared.statuses.Kind.TheVariants.{Free, Backup}
use Rattle.bow_flat.specs.Flat.{Flat}
use Rattle.bow_log.specs.Generations.{Generation}
use Rattle.bow_chain.specs.Contents.{Contents}
use Rattle.bow_chain.specs.Sound.{log_in}
use Rattle.bow_copy.specs.declared.jobs.Job.{Job}
use Rattle.bow_copy.specs.declared.jobs.Act.{Act}
use Rattle.bow_guard.specs.Cuts.{Candidates}
use Rattle.bow_guard.specs.Device.{unsaved}
use Rattle.bow_queue.specs.declared.tickets.Ticket.{Ticket}
use Rattle.bow_ranges.specs.Kinds.{kind_at, with_kind}
use Rattle.bow_machine.specs.Requests.{request_of}
use Rattle.bow_machine.specs.Memory.{Memory, Batch, Hand, Empty, Batching, picks, reserved}
use Rattle.bow_machine.specs.Calls.{Failed, Succeeded, Gave}
use Rattle.bow_machine.specs.Steps.{moved, answered_for, fault_after, fault_events, log_for, kinds_for, batch_after, batch_step, is_log_write, changed}
use Rattle.bow_machine.specs.MemoryIsSound.{ForWrite}
use Rattle.bow_machine.proofs.Held.{JobHeld, BatchHeld}
use Rattle.bow_machine.proofs.BatchActs.{lead, running, not_tried, tried, lead_done, lead_failed, log_act, log_done, log_failed, last_act, last_done, last_failed}
use Rattle.bow_machine.proofs.BatchStands.{working, Working, to_standing, gave_up}
use Rattle.bow_machine.proofs.BatchAnswers.{batch_failed}
use Rattle.bow_machine.proofs.Hands.{Keeps}

-- a batch of which so many acts are done
abbrev pub batch_at : Job → ℕ → List (List ℕ) → Ticket → Batch
batch_at job done slots t = record { progress = running job done; slots = slots; ticket = t }

abbrev pub batching : Job → ℕ → List (List ℕ) → Ticket → Hand
batching job done slots t = Batching (batch_at job done slots t)

-- the memory with that batch in hand
abbrev pub at_work : Memory → Job → ℕ → List (List ℕ) → Ticket → Generation → Memory
at_work m job done slots t log = working m (batching job done slots t) log

-- what a batch has reserved, before its log is given and after that
pub reserves : (job : Job) (done : ℕ) (slots : List (List ℕ)) (t : Ticket) → done ≤ lead job
    → reserved (batching job done slots t) ≡ picks job
reserves job done slots t h =
    ap (λ given. cond given (record { first = 0; count = 0 }) (picks job)) (not_tried job done h)

pub reserves_none : (job : Job) (slots : List (List ℕ)) (t : Ticket)
    → reserved (batching job (lead job + 1) slots t) ≡ record { first = 0; count = 0 }
reserves_none job slots t =
    ap (λ given. cond given (record { first = 0; count = 0 }) (picks job)) (tried job (lead job) (omega arith))

module _ (g : Geometry) (m : Memory) (job : Job) (slots : List (List ℕ)) (t : Ticket) (log : Generation) where
  -- the memory after the batch has written its log, with this in hand
  abbrev pub logged : Hand → Memory
  logged hand = working (record m { kinds = kinds_for job m.kinds; clean = false }) hand (log_for job slots log)

  module _ (done : ℕ) (before : done < lead job) where
    pub lead_succeeded : batch_step g (at_work m job done slots t log) (batch_at job done slots t) Succeeded ≡ moved (at_work m job (done + 1) slots t log) []
    lead_succeeded =
        ap (λ a. moved (batch_after (at_work m job done slots t log) (batch_at job done slots t) Succeeded a) [])
        (lead_done job done before)

    pub lead_gave : (v : List ℕ)
        → batch_step g (at_work m job done slots t log) (batch_at job done slots t) (Gave v) ≡ moved (at_work m job (done + 1) (slots ++ v ∷ []) t log) []
    lead_gave v =
        ap (λ a. moved (batch_after (at_work m job done slots t log) (batch_at job done slots t) (Gave v) a) [])
        (lead_done job done before)

    pub lead_fails : batch_step g (at_work m job done slots t log) (batch_at job done slots t) Failed ≡ answered_for (working (record m { kinds = with_kind m.kinds (picks job) Free }) Empty log) (request_of t m.requests) fault_after (fault_events g)
    lead_fails =
        ap
        (λ a. answered_for (batch_after (at_work m job done slots t log) (batch_at job done slots t) Failed a) (request_of t m.requests) fault_after (fault_events g))
        (lead_failed job done before)

  pub log_succeeded : batch_step g (at_work m job (lead job) slots t log) (batch_at job (lead job) slots t) Succeeded ≡ moved (logged (batching job (lead job + 1) slots t)) []
  log_succeeded =
      ap
      (λ a. moved (batch_after (at_work m job (lead job) slots t log) (batch_at job (lead job) slots t) Succeeded a) [])
      (log_done job)

  pub log_fails : batch_step g (at_work m job (lead job) slots t log) (batch_at job (lead job) slots t) Failed ≡ answered_for (logged Empty) (request_of t m.requests) fault_after (fault_events g)
  log_fails =
      ap
      (λ a. answered_for (batch_after (at_work m job (lead job) slots t log) (batch_at job (lead job) slots t) Failed a) (request_of t m.requests) fault_after (fault_events g))
      (log_failed job)
      ∙ ap
      (λ (a : Act). answered_for (record (cond (is_log_write a) (changed (at_work m job (lead job) slots t log) (batch_at job (lead job) slots t)) (at_work m job (lead job) slots t log)) { hand = Empty }) (request_of t m.requests) fault_after (fault_events g))
      (log_act job)

  pub last_succeeded : batch_step g (at_work m job (lead job + 1) slots t log) (batch_at job (lead job + 1) slots t) Succeeded ≡ moved (working (record m { kinds = map unsaved m.kinds; clean = true }) Empty log) []
  last_succeeded =
      ap
      (λ a. moved (batch_after (at_work m job (lead job + 1) slots t log) (batch_at job (lead job + 1) slots t) Succeeded a) [])
      (last_done job)

  pub last_fails : batch_step g (at_work m job (lead job + 1) slots t log) (batch_at job (lead job + 1) slots t) Failed ≡ answered_for (working m Empty log) (request_of t m.requests) fault_after (fault_events g)
  last_fails =
      ap
      (λ a. answered_for (batch_after (at_work m job (lead job + 1) slots t log) (batch_at job (lead job + 1) slots t) Failed a) (request_of t m.requests) fault_after (fault_events g))
      (last_failed job)
      ∙ ap
      (λ (a : Act). answered_for (record (cond (is_log_write a) (changed (at_work m job (lead job + 1) slots t log) (batch_at job (lead job + 1) slots t)) (at_work m job (lead job + 1) slots t log)) { hand = Empty }) (request_of t m.requests) fault_after (fault_events g))
      (last_act job)

  -- ----------------------------------------------------------------------------------------------------------------
  -- What is in hand.

  pub held_before : (done : ℕ) (now : Contents) (may : Candidates) → done ≤ lead job
      → ForWrite g (at_work m job done slots t log) t
      → JobHeld g (at_work m job done slots t log) log job done slots now may
      → BatchHeld g (at_work m job done slots t log) (batch_at job done slots t) now may log
  held_before done now may below write held = record { phase = refl; for_write = write; runs = refl; so_far = omega arith; before = λ h. held; after = λ is. absurd (omega arith) }

  pub held_after : (now : Contents) (may : Candidates) → ForWrite g (at_work m job (lead job + 1) slots t log) t
      → log_in g (now 0) ≡ Some log → m.clean ≡ false
      → BatchHeld g (at_work m job (lead job + 1) slots t log) (batch_at job (lead job + 1) slots t) now may log
  held_after now may write spelled dirty = record { phase = refl; for_write = write; runs = refl; so_far = omega arith; before = λ h. absurd (omega arith); after = λ is. (spelled, dirty) }

  -- Before its log is given, the batch goes on.
  pub goes_on : (done : ℕ) (now : Contents) (may : Candidates) (f : Flat) → done ≤ lead job
      → ForWrite g (at_work m job done slots t log) t
      → JobHeld g (at_work m job done slots t log) log job done slots now may
      → Working g m (batching job done slots t) log now may f
      → Keeps g now may f (moved (at_work m job done slots t log) [])
  goes_on done now may f below write held w = (tt, to_standing g m (batching job done slots t) log now may f w (held_before done now may below write held))

  -- An act before its log has failed: the batch is given up.
  pub gives_up : (done : ℕ) (now : Contents) (may : Candidates) (f : Flat) → done < lead job
      → (picks job).first + (picks job).count ≤ g.blocks
      → ((j : ℕ) → j < (picks job).count → kind_at m.kinds ((picks job).first + j) ≡ Backup)
      → ForWrite g (at_work m job done slots t log) t → Working g m (batching job done slots t) log now may f
      → Keeps g now may f (batch_step g (at_work m job done slots t log) (batch_at job done slots t) Failed)
  gives_up done now may f below inside backup write w =
      subst (Keeps g now may f) (sym (lead_fails done below))
      (batch_failed g (record m { kinds = with_kind m.kinds (picks job) Free }) log now may f t (at_work m job done slots t log) refl write (gave_up g m log f (batching job done slots t) now may (picks job) (reserves job done slots t (omega arith)) inside backup w))
