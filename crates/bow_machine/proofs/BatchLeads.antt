-- An act of a batch before its log: a read, a write of a picked block, or a flush.
use Rattle.std.proofs.Common.{ℕ, ◌+◌, ◌<◌, ◌≤◌, ◌≡◌, true, List, [], ◌∷◌, ◌++◌, arith, refl, sym, ap, ◌∙◌, subst}
use Rattle.bow_units.specs.declared.sizes.Geometry.{Geometry}
use Rattle.bow_units.specs.declared.sizes.Extent.{Extent}
use Rattle.bow_units.specs.declared.statuses.Kind.TheVariants.{Backup}
use Rattle.bow_flat.specs.Flat.{Flat}
use Rattle.bow_log.specs.Generations.{Generation}
use Rattle.bow_chain.specs.Contents.{Contents}
use Rattle.bow_copy.specs.declared.jobs.Job.{Job}
use Rattle.bow_guard.specs.Cuts.{Candidates, IsFlushed}
use Rattle.bow_queue.specs.declared.tickets.Ticket.{Ticket}
use Rattle.bow_ranges.specs.Kinds.{kind_at, holds}
use Rattle.bow_machine.specs.Memory.{Memory, picks}
use Rattle.bow_machine.specs.Calls.{Reply, Failed, Succeeded, Gave, ReadCall, WriteCall, FlushCall, WriteTried, Does}
use Rattle.bow_machine.specs.Steps.{batch_step}
use Rattle.bow_machine.specs.MemoryIsSound.{ForWrite}
use Rattle.bow_machine.proofs.Held.{JobHeld}
use Rattle.bow_machine.proofs.BatchActs.{lead}
use Rattle.bow_machine.proofs.BatchStands.{Working, rehanded, block_written, all_flushed}
use Rattle.bow_machine.proofs.BatchAnswers.{keeps_same, for_write_kept}
use Rattle.bow_machine.proofs.Hands.{Keeps}
use Rattle.bow_machine.proofs.BatchSteps.{batch_at, batching, at_work, reserves, lead_succeeded, lead_gave, goes_on, gives_up}

-- the picked blocks are on the device, and are of the kind that backups have
pub record PicksStand (g : Geometry) (m : Memory) (job : Job) : Type 0 where
  pub inside : (picks job).first + (picks job).count ≤ g.blocks
  pub backup : (j : ℕ) → j < (picks job).count → kind_at m.kinds ((picks job).first + j) ≡ Backup

module _ (g : Geometry) (m : Memory) (job : Job) (slots : List (List ℕ)) (t : Ticket) (log : Generation) (f : Flat)
    (done : ℕ) (below : done < lead job) (write : ForWrite g (at_work m job done slots t log) t)
    (picked : PicksStand g m job) where
  -- the batch goes on, with more in its buffer
  further : (more : List (List ℕ)) (now : Contents) (may : Candidates)
      → Working g m (batching job done slots t) log now may f
      → Working g m (batching job (done + 1) more t) log now may f
  further more now may w =
      rehanded g m log f (batching job done slots t) (batching job (done + 1) more t) now may
      (reserves job (done + 1) more t (omega arith) ∙ sym (reserves job done slots t (omega arith))) w

  still : (more : List (List ℕ)) → ForWrite g (at_work m job (done + 1) more t log) t
  still more =
      for_write_kept g (at_work m job done slots t log) (at_work m job (done + 1) more t log) t refl refl (λ b h. h) write

  fails : (now : Contents) (may : Candidates) → Working g m (batching job done slots t) log now may f
      → Keeps g now may f (batch_step g (at_work m job done slots t log) (batch_at job done slots t) Failed)
  fails now may w = gives_up g m job slots t log done now may f below picked.inside picked.backup write w

  module _ (now new_now : Contents) (may new_may : Candidates)
      (w : Working g m (batching job done slots t) log now may f) where
    pub lead_reads : (b : ℕ) (reply : Reply)
        → ((v : List ℕ) → v ≡ now b → JobHeld g (at_work m job (done + 1) (slots ++ v ∷ []) t log) log job (done + 1) (slots ++ v ∷ []) now may)
        → Does g (ReadCall b) reply now may new_now new_may
        → Keeps g new_now new_may f (batch_step g (at_work m job done slots t log) (batch_at job done slots t) reply)
    lead_reads b Failed held does =
        keeps_same g now new_now may new_may f
        (batch_step g (at_work m job done slots t log) (batch_at job done slots t) Failed) does.0 does.1
        (fails now may w)
    lead_reads b Succeeded held does = absurd does
    lead_reads b (Gave v) held does =
        let more = slots ++ v ∷ [] in
        keeps_same g now new_now may new_may f
        (batch_step g (at_work m job done slots t log) (batch_at job done slots t) (Gave v)) does.1 does.2
        (subst (Keeps g now may f) (sym (lead_gave g m job slots t log done below v)) (goes_on g m job more t log (done + 1) now may f (omega arith) (still more) (held v does.0) (further more now may w)))

    pub lead_writes : (b : ℕ) (v : List ℕ) (reply : Reply) → b < g.blocks → kind_at m.kinds b ≡ Backup
        → holds (picks job) b ≡ true
        → (WriteTried b v now new_now may new_may → new_now b ≡ v → JobHeld g (at_work m job (done + 1) slots t log) log job (done + 1) slots new_now new_may)
        → Does g (WriteCall b v) reply now may new_now new_may
        → Keeps g new_now new_may f (batch_step g (at_work m job done slots t log) (batch_at job done slots t) reply)
    lead_writes b v Failed on kind in_picks held does = fails new_now new_may (written does)
      where
        written : WriteTried b v now new_now may new_may → Working g m (batching job done slots t) log new_now new_may f
        written tried =
            block_written g m log f (batching job done slots t) now new_now may new_may b v tried on kind
            (ap (λ (e : Extent). holds e b) (reserves job done slots t (omega arith)) ∙ in_picks) w
    lead_writes b v Succeeded on kind in_picks held does =
        let written = block_written g m log f (batching job done slots t) now new_now may new_may b v does.0 on kind (ap (λ (e : Extent). holds e b) (reserves job done slots t (omega arith)) ∙ in_picks) w in
        subst (Keeps g new_now new_may f) (sym (lead_succeeded g m job slots t log done below))
        (goes_on g m job slots t log (done + 1) new_now new_may f (omega arith) (still slots) (held does.0 does.1) (further slots new_now new_may written))
    lead_writes b v (Gave u) on kind in_picks held does = absurd does

    pub lead_flushes : (reply : Reply)
        → (IsFlushed g now new_may → JobHeld g (at_work m job (done + 1) slots t log) log job (done + 1) slots now new_may)
        → Does g FlushCall reply now may new_now new_may
        → Keeps g new_now new_may f (batch_step g (at_work m job done slots t log) (batch_at job done slots t) reply)
    lead_flushes Failed held does =
        keeps_same g now new_now may new_may f
        (batch_step g (at_work m job done slots t log) (batch_at job done slots t) Failed) does.0 does.1
        (fails now may w)
    lead_flushes Succeeded held does =
        let flushed = all_flushed g m log f (batching job done slots t) now may new_may does.1 w in
        keeps_same g now new_now new_may new_may f
        (batch_step g (at_work m job done slots t log) (batch_at job done slots t) Succeeded) does.0 refl
        (subst (Keeps g now new_may f) (sym (lead_succeeded g m job slots t log done below)) (goes_on g m job slots t log (done + 1) now new_may f (omega arith) (still slots) (held does.1) (further slots now new_may flushed)))
    lead_flushes (Gave v) held does = absurd does
