-- What the next act of a batch means for its slots, and what it leads to.
use Rattle.std.proofs.Common.{ℕ, zero, suc, ◌+◌, ◌-◌, ◌*◌, ◌≡◌, ◌≢◌, ◌<◌, ◌≤◌, Bool, true, false, get_or, refl, sym, ap, ◌∙◌, subst, arith, inl, inr}
use Rattle.std.proofs.lemmas.Bool.{cases_lt, false≢true}
use Rattle.bow_units.specs.declared.sizes.Geometry.{Geometry}
use Rattle.bow_units.specs.declared.statuses.Kind.{Kind}
use Rattle.std.specs.Prelude.{List, Some}
use Rattle.bow_log.specs.Generations.{Generation}
use Rattle.bow_copy.specs.Acts.{IsJob, Progress, acts_before_log, next_act, after_act, is_write_log, log_tried}
use Rattle.bow_copy.specs.declared.jobs.Job.{Job}
use Rattle.bow_copy.specs.declared.jobs.Job.TheVariants.{Rewrite, Link, Copy, Move}
use Rattle.bow_copy.specs.declared.jobs.Act.{Act}
use Rattle.bow_copy.specs.declared.jobs.Act.TheVariants.{Read, Write, Flush, WriteLog, End}
use Rattle.bow_copy.specs.declared.jobs.After.TheVariants.{Going}
use Rattle.bow_copy.proofs.ActsInOrder.{read_at, write_at, copy_moves, copy_flushes, act_some}
use Rattle.bow_machine.specs.Memory.{Memory, Batch, Batching, picks}
use Rattle.bow_machine.specs.MemoryIsSound.{MemoryIsSound, JobIsReady}
use Rattle.bow_machine.proofs.BatchActs.{lead, running, lead_act, lead_done, lead_copy, log_act, last_act, tried}
use Rattle.bow_machine.proofs.SoundBatches.{InHand, in_hand_of, act_is, stage, batch_call}
use Rattle.bow_machine.specs.MemoryLaws.{IsOnDevice}
use Rattle.bow_machine.specs.MemoryIsSound.{IsTable}
use Rattle.bow_machine.specs.Steps.{call_of_act}
use Rattle.bow_ranges.specs.Kinds.{kind_at}
use Rattle.bow_units.specs.declared.statuses.Kind.TheVariants.{Backup}
use Rattle.bow_core.specs.Batches.{ArePicked}
use Rattle.bow_core.specs.Held.{slots_in}

-- a read is of the next slot, a write is of a slot that was read, and no other act needs one
abbrev pub Row : Job → ℕ → Act → Type 0
Row job done (Read x slot) = (slot ≡ slots_in job done) × (slots_in job (done + 1) ≡ slot + 1) × (slot < 8)
Row job done (Write x slot) = (slot < slots_in job done) × (slots_in job (done + 1) ≡ slots_in job done) × (slot < 8)
Row job done Flush = slots_in job (done + 1) ≡ slots_in job done
Row job done WriteLog = slots_in job (done + 1) ≡ slots_in job done
Row job done End = ⊥

copy_row : (source dest count done : ℕ) → count ≤ 8 → done < lead (Copy source dest count) → Row (Copy source dest count) done (get_or (acts_before_log (Copy source dest count)) done End)
copy_row source dest count done few below = elim (cases_lt done count) [
  | inl reading ↦ subst (Row (Copy source dest count) done) (sym (copy_moves source dest count done (omega (arith, reading)) ∙ read_at source dest count done reading))
      (omega (arith, reading), omega (arith, reading), omega (arith, reading, few))
  | inr past ↦ elim (cases_lt done (2 * count)) [
    | inl writing ↦ subst (Row (Copy source dest count) done) (sym (copy_moves source dest count done writing ∙ write_at source dest count done past writing))
        (omega (arith, past, writing), omega (arith, past), omega (arith, past, writing, few))
    | inr flushing ↦ subst (Row (Copy source dest count) done) (sym (copy_flushes source dest count done flushing below)) (omega (arith, past))
  ]
]

lead_row : (job : Job) (done : ℕ) → IsJob job → done < lead job → Row job done (get_or (acts_before_log job) done End)
lead_row Rewrite done is below = absurd (omega (arith, below))
lead_row (Link dest) zero is below = (omega arith, refl, omega arith)
lead_row (Link dest) (suc zero) is below = refl
lead_row (Link dest) (suc (suc n)) is below = absurd (omega (arith, below))
lead_row (Copy source dest count) done is below = copy_row source dest count done is.1 below
lead_row (Move from to) zero is below = (refl, refl, omega arith)
lead_row (Move from to) (suc zero) is below = (omega arith, refl, omega arith)
lead_row (Move from to) (suc (suc zero)) is below = refl
lead_row (Move from to) (suc (suc (suc n))) is below = absurd (omega (arith, below))

late_slots : (job : Job) (done : ℕ) → lead job ≤ done → slots_in job (done + 1) ≡ slots_in job done
late_slots Rewrite done late = refl
late_slots (Link dest) done late = refl
late_slots (Copy source dest count) done late = omega (arith, late, lead_copy source dest count)
late_slots (Move from to) done late = omega (arith, late)

is_job : (g : Geometry) (table : List Kind) (clean : Bool) (log : Generation) (job : Job) (done : ℕ) (slots : List (List ℕ)) → JobIsReady g table clean log job done slots → IsJob job
is_job g table clean log Rewrite done slots ready = tt
is_job g table clean log (Link dest) done slots ready = tt
is_job g table clean log (Copy source dest count) done slots ready = ((ready.0).some, (ready.0).few)
is_job g table clean log (Move from to) done slots ready = tt

one_picked : (g : Geometry) (table : List Kind) (b : ℕ) → IsTable g table → b < g.blocks → kind_at table b ≡ Backup → ArePicked table (record { first = b; count = 1 })
one_picked g table b t on is = record { inside = omega (arith, on, t.size); backups = λ x low high. let e : x ≡ b = omega (arith, low, high) in ap (kind_at table) e ∙ is }

-- the picked blocks of a job that is ready hold backups
ready_picked : (g : Geometry) (table : List Kind) (clean : Bool) (log : Generation) (job : Job) (done : ℕ) (slots : List (List ℕ)) → IsTable g table → JobIsReady g table clean log job done slots → ArePicked table (picks job)
ready_picked g table clean log Rewrite done slots t ready = record { inside = omega arith; backups = λ x low high. absurd (omega (arith, low, high)) }
ready_picked g table clean log (Link dest) done slots t ready = one_picked g table dest t ((ready.0).inside) ((ready.0).kind)
ready_picked g table clean log (Move from to) done slots t ready = one_picked g table to t ((ready.0).inside) ((ready.0).kind)
ready_picked g table clean log (Copy source dest count) done slots t ready = record {
  inside = omega (arith, (ready.0).dest_inside, t.size);
  backups = λ x low high. let there : dest + (x - dest) ≡ x = omega (arith, low) in ap (kind_at table) (sym there) ∙ (ready.0).dests (x - dest) (omega (arith, low, high));
}

module _ (g : Geometry) (m : Memory) (b : Batch) (s : MemoryIsSound g m) (held : m.hand ≡ Batching b) where
  i : InHand g m b
  i = in_hand_of g m b held s

  abbrev job : Job
  job = b.progress.job

  abbrev done : ℕ
  done = b.progress.done

  at_act : (act : Act) → next_act (running job done) ≡ act → next_act b.progress ≡ act
  at_act act is = act_is g m b s i ∙ is

  log_at : done ≡ lead job → next_act b.progress ≡ WriteLog
  log_at at = at_act WriteLog (ap (λ d. next_act (running job d)) at ∙ log_act job)

  flush_at : done ≡ lead job + 1 → next_act b.progress ≡ Flush
  flush_at at = at_act Flush (ap (λ d. next_act (running job d)) at ∙ last_act job)

  -- the row of the next act of a batch
  pub act_row : Row job done (next_act b.progress)
  act_row = elim (stage g m b s i) [
    | inl before ↦ subst (Row job done) (sym (at_act _ (lead_act job done before)))
        (lead_row job done (is_job g m.kinds m.clean (i.log) job done b.slots (i.held.before (omega (arith, before)))) before)
    | inr (inl at) ↦ subst (Row job done) (sym (log_at at)) (late_slots job done (omega (arith, at)))
    | inr (inr last) ↦ subst (Row job done) (sym (flush_at last)) (late_slots job done (omega (arith, last)))
  ]

  pub row_of : (act : Act) → next_act b.progress ≡ act → Row job done act
  row_of act is = subst (Row job done) is act_row

  pub not_over : next_act b.progress ≢ End
  not_over over = subst (Row job done) over act_row

  -- a read or a write is one of the acts before the log
  early : (act : Act) → next_act b.progress ≡ act → act ≢ WriteLog → act ≢ Flush → done < lead job
  early act is log flush = elim (stage g m b s i) [
    | inl before ↦ before
    | inr (inl at) ↦ absurd (log (sym is ∙ log_at at))
    | inr (inr last) ↦ absurd (flush (sym is ∙ flush_at last))
  ]

  pub read_goes_on : (x slot : ℕ) → next_act b.progress ≡ Read x slot → after_act b.progress true ≡ Going
  read_goes_on x slot is = ap (λ p. after_act p true) progress_is ∙ lead_done job done (early (Read x slot) is (λ e. cc e) (λ e. cc e))
    where
      progress_is : b.progress ≡ running job done
      progress_is = let at : Bool → Progress = λ failed. record { job = job; done = done; failed = failed } in ap at i.held.runs

  -- the log is written right after the acts before it
  pub log_stage : next_act b.progress ≡ WriteLog → done ≡ lead job
  log_stage is = elim (stage g m b s i) [
    | inl before ↦ absurd (not_log (lead_is_log before))
    | inr (inl at) ↦ at
    | inr (inr last) ↦ absurd (let clash : WriteLog ≡ Flush = sym is ∙ flush_at last in cc clash)
  ]
    where
      not_log : false ≡ true → ⊥
      not_log e = false≢true e

      lead_is_log : done < lead job → false ≡ true
      lead_is_log before = sym ((act_some job done before).1) ∙ ap is_write_log (sym (lead_act job done before) ∙ sym (act_is g m b s i) ∙ is)

  -- before the log was tried the picked blocks hold backups
  pub still_picked : log_tried job (done + 1) ≡ false → ArePicked m.kinds (picks job)
  still_picked untried = elim (cases_lt done (lead job)) [
    | inl before ↦ ready_picked g m.kinds m.clean (i.log) job done b.slots s.table (i.held.before (omega (arith, before)))
    | inr past ↦ absurd (false≢true (sym untried ∙ tried job done past))
  ]

  pub read_on : (x slot : ℕ) → next_act b.progress ≡ Read x slot → x < g.blocks
  read_on x slot is = subst (λ a. IsOnDevice g (Some (call_of_act g m b a))) is (batch_call g m b s i)

  pub write_on : (x slot : ℕ) → next_act b.progress ≡ Write x slot → x < g.blocks
  write_on x slot is = (subst (λ a. IsOnDevice g (Some (call_of_act g m b a))) is (batch_call g m b s i)).0

  pub runs_on : b.progress.failed ≡ false
  runs_on = i.held.runs
