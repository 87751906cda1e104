-- Each act of each batch, done or failed, keeps what the machine stands for.
use Rattle.std.proofs.Common.{ℕ, zero, suc, ◌+◌, ◌<◌, ◌≡◌, Bool, false, List, arith, refl, sym, ap, subst, inl, inr}
use Rattle.std.proofs.lemmas.Bool.{cases_eq, cases_lt}
use Rattle.bow_units.specs.declared.sizes.Geometry.{Geometry}
use Rattle.bow_flat.specs.Flat.{Flat}
use Rattle.bow_log.specs.Generations.{Generation}
use Rattle.bow_chain.specs.Contents.{Contents}
use Rattle.bow_copy.specs.Acts.{next_act}
use Rattle.bow_copy.specs.declared.jobs.Job.{Job}
use Rattle.bow_copy.specs.declared.jobs.Job.TheVariants.{Rewrite, Link, Copy, Move}
use Rattle.bow_guard.specs.Cuts.{Candidates}
use Rattle.bow_queue.specs.declared.tickets.Ticket.{Ticket}
use Rattle.bow_machine.specs.Memory.{Memory, Batch, Batching}
use Rattle.bow_machine.specs.Calls.{Reply, Does}
use Rattle.bow_machine.specs.Steps.{batch_step, call_of_act}
use Rattle.bow_machine.specs.MemoryIsSound.{ForWrite}
use Rattle.bow_machine.proofs.Held.{JobHeld, BatchHeld, IsHeld}
use Rattle.bow_machine.proofs.BatchActs.{lead, running, last_act}
use Rattle.bow_machine.proofs.BatchStands.{working, Working, from_standing}
use Rattle.bow_machine.proofs.Hands.{Keeps}
use Rattle.bow_machine.proofs.BatchSteps.{batch_at, batching, at_work}
use Rattle.bow_machine.proofs.BatchLogs.{last_keeps}
use Rattle.bow_machine.proofs.BatchRewrites.{rewrite_keeps}
use Rattle.bow_machine.proofs.BatchLinks.{link_writes, link_flushes, link_keeps}
use Rattle.bow_machine.proofs.BatchMoves.{move_reads, move_writes, move_flushes, move_keeps}
use Rattle.bow_machine.proofs.BatchCopies.{copy_goes_on}
use Rattle.bow_machine.proofs.BatchCopyLogs.{copy_keeps}

module _ (g : Geometry) (m : Memory) (t : Ticket) (log : Generation) (f : Flat) (now new_now : Contents)
    (may new_may : Candidates) (reply : Reply) where
  -- the disk does what the next act asks for
  abbrev Acted : Job → ℕ → List (List ℕ) → Type 0
  Acted job done slots =
      Does g (call_of_act g (at_work m job done slots t log) (batch_at job done slots t) (next_act (running job done))) reply now may new_now new_may

  abbrev Stays : Job → ℕ → List (List ℕ) → Type 0
  Stays job done slots =
      Keeps g new_now new_may f (batch_step g (at_work m job done slots t log) (batch_at job done slots t) reply)

  -- an act before the log
  lead_stays : (job : Job) (done : ℕ) (slots : List (List ℕ)) → done < lead job
      → ForWrite g (at_work m job done slots t log) t
      → JobHeld g (at_work m job done slots t log) log job done slots now may
      → Working g m (batching job done slots t) log now may f
      → Acted job done slots → Stays job done slots
  lead_stays Rewrite done slots below write h w does = absurd (omega arith)
  lead_stays (Link dest) zero slots below write h w does =
      link_writes g m dest slots t log f now new_now may new_may reply write h w does
  lead_stays (Link dest) (suc zero) slots below write h w does =
      link_flushes g m dest slots t log f now new_now may new_may reply write h w does
  lead_stays (Link dest) (suc (suc n)) slots below write h w does = absurd (omega arith)
  lead_stays (Copy source dest count) done slots below write h w does =
      copy_goes_on g m source dest count slots t log f now new_now may new_may done reply write h.0 h.1 w does below
  lead_stays (Move from to) zero slots below write h w does =
      move_reads g m from to slots t log f now new_now may new_may reply write h w does
  lead_stays (Move from to) (suc zero) slots below write h w does =
      move_writes g m from to slots t log f now new_now may new_may reply write h w does
  lead_stays (Move from to) (suc (suc zero)) slots below write h w does =
      move_flushes g m from to slots t log f now new_now may new_may reply write h w does
  lead_stays (Move from to) (suc (suc (suc n))) slots below write h w does = absurd (omega arith)

  -- the log
  log_stays : (job : Job) (slots : List (List ℕ)) → ForWrite g (at_work m job (lead job) slots t log) t
      → JobHeld g (at_work m job (lead job) slots t log) log job (lead job) slots now may
      → Working g m (batching job (lead job) slots t) log now may f
      → Acted job (lead job) slots → Stays job (lead job) slots
  log_stays Rewrite slots write h w does = rewrite_keeps g m slots t log f now new_now may new_may w reply write does
  log_stays (Link dest) slots write h w does =
      link_keeps g m dest slots t log f now new_now may new_may reply write h w does
  log_stays (Copy source dest count) slots write h w does =
      copy_keeps g m source dest count slots t log f now new_now may new_may reply write h w does
  log_stays (Move from to) slots write h w does =
      move_keeps g m from to slots t log f now new_now may new_may reply write h w does

  -- the last flush
  last_stays : (job : Job) (slots : List (List ℕ))
      → BatchHeld g (at_work m job (lead job + 1) slots t log) (batch_at job (lead job + 1) slots t) now may log
      → Working g m (batching job (lead job + 1) slots t) log now may f
      → Acted job (lead job + 1) slots → Stays job (lead job + 1) slots
  last_stays job slots h w does =
      last_keeps g m job slots t log f now new_now may new_may reply h.for_write (h.after refl).0 w
      (subst (λ a. Does g (call_of_act g (at_work m job (lead job + 1) slots t log) (batch_at job (lead job + 1) slots t) a) reply now may new_now new_may) (last_act job) does)

  at_stays : (job : Job) (done : ℕ) (slots : List (List ℕ)) → IsHeld g (at_work m job done slots t log) now may f
      → Acted job done slots → Stays job done slots
  at_stays job done slots s does = elim (cases_lt done (lead job)) [
    | inl before ↦ lead_stays job done slots before h.for_write (h.before (omega arith)) (from_standing g m (batching job done slots t) log now may f s) does
    | inr past ↦ elim (cases_eq done (lead job)) [
      | inl is ↦ subst Step (sym is) (λ s does. log_stays job slots (s.in_hand).for_write ((s.in_hand).before (omega arith)) (from_standing g m (batching job (lead job) slots t) log now may f s) does) s does
      | inr ne ↦
          let last : done ≡ lead job + 1 = omega (arith, h.so_far) in
          subst Step (sym last)
          (λ s does. last_stays job slots s.in_hand (from_standing g m (batching job (lead job + 1) slots t) log now may f s) does) s does
    ]
  ]
    where
      h : BatchHeld g (at_work m job done slots t log) (batch_at job done slots t) now may log
      h = s.in_hand

      Step : ℕ → Type 0
      Step d = IsHeld g (at_work m job d slots t log) now may f → Acted job d slots → Stays job d slots

module _ (g : Geometry) (m : Memory) (log : Generation) (f : Flat) (now new_now : Contents) (may new_may : Candidates)
    (reply : Reply) where
  -- the same of any batch: none that is in hand has failed
  pub batch_keeps : (b : Batch) → IsHeld g (working m (Batching b) log) now may f
      → Does g (call_of_act g (working m (Batching b) log) b (next_act b.progress)) reply now may new_now new_may
      → Keeps g new_now new_may f (batch_step g (working m (Batching b) log) b reply)
  batch_keeps b s does =
      subst Step (ap running_or (sym runs))
      (λ s does. at_stays g m b.ticket log f now new_now may new_may reply b.progress.job b.progress.done b.slots s does) s does
    where
      runs : b.progress.failed ≡ false
      runs = (s.in_hand).runs

      running_or : Bool → Batch
      running_or failed = record { progress = record { job = b.progress.job; done = b.progress.done; failed = failed }; slots = b.slots; ticket = b.ticket }

      Step : Batch → Type 0
      Step c = IsHeld g (working m (Batching c) log) now may f → Does g (call_of_act g (working m (Batching c) log) c (next_act c.progress)) reply now may new_now new_may → Keeps g new_now new_may f (batch_step g (working m (Batching c) log) c reply)
