-- Which act of a batch is next, and what it leads to.
use Rattle.std.proofs.Common.{◌≡◌, ℕ, zero, suc, ◌+◌, ◌-◌, ◌*◌, ◌^◌, ◌<◌, ◌≤◌, ◌==◌, true, false, cond, [], ◌∷◌, length, get_or, refl, sym, ap, ◌∙◌, arith, add-one}
use Rattle.std.proofs.Math.Seq.{get_or-append_seam}
use Rattle.std.proofs.lemmas.List.{get_or-append_right}
use Rattle.bow_copy.specs.Acts.{Progress, block_after, acts, acts_before_log, next_act, log_tried, after_act}
use Rattle.bow_copy.specs.declared.jobs.Job.{Job}
use Rattle.bow_copy.specs.declared.jobs.Job.TheVariants.{Copy}
use Rattle.bow_copy.specs.declared.jobs.Act.TheVariants.{Read, Write, Flush, WriteLog, End}
use Rattle.bow_copy.specs.declared.jobs.After.TheVariants.{Going, LogGiven, Clean, Failed}
use Rattle.bow_copy.proofs.ActsInOrder.{log_tried_from, length-before-copy, act_before, length-acts, act_some, read_at, write_at, copy_moves, copy_flushes, goes_on}

-- how many acts come before the log
abbrev pub lead : Job → ℕ
lead job = length (acts_before_log job)

-- a batch of which so many acts are done, and none failed
abbrev pub running : Job → ℕ → Progress
running job done = record { job = job; done = done; failed = false }

pub not_tried : (job : Job) (done : ℕ) → done ≤ lead job → log_tried job done ≡ false
not_tried job zero h = refl
not_tried job (suc n) h = ap (log_tried job) (sym (add-one n)) ∙ log_tried_from job n ∙ (grind arith)

pub tried : (job : Job) (done : ℕ) → lead job ≤ done → log_tried job (done + 1) ≡ true
tried job done h = log_tried_from job done ∙ grind arith

-- ----------------------------------------------------------------------------------------------------------------
-- Before the log.

pub lead_act : (job : Job) (done : ℕ) → done < lead job
    → next_act (running job done) ≡ get_or (acts_before_log job) done End
lead_act job done h = act_before job done h

pub lead_done : (job : Job) (done : ℕ) → done < lead job → after_act (running job done) true ≡ Going
lead_done job done h = goes_on (running job done) (λ e. (act_some job done h).0 (sym (lead_act job done h) ∙ e)) h

pub lead_failed : (job : Job) (done : ℕ) → done < lead job → after_act (running job done) false ≡ Failed false
lead_failed job done h = ap Failed (not_tried job (done + 1) (omega arith))

-- ----------------------------------------------------------------------------------------------------------------
-- The log.

pub log_act : (job : Job) → next_act (running job (lead job)) ≡ WriteLog
log_act job = get_or-append_seam (acts_before_log job) WriteLog (Flush ∷ []) End

pub log_done : (job : Job) → after_act (running job (lead job)) true ≡ LogGiven
log_done job = rw (log_act job) refl

pub log_failed : (job : Job) → after_act (running job (lead job)) false ≡ Failed true
log_failed job = ap Failed (tried job (lead job) (omega arith))

-- ----------------------------------------------------------------------------------------------------------------
-- The last flush.

pub last_act : (job : Job) → next_act (running job (lead job + 1)) ≡ Flush
last_act job =
    let one : lead job + 1 - lead job ≡ 1 = omega arith in
    get_or-append_right (acts_before_log job) (WriteLog ∷ Flush ∷ []) (lead job) (lead job + 1) End refl (omega arith)
    ∙ ap (λ i. get_or (WriteLog ∷ Flush ∷ []) i End) one

pub last_done : (job : Job) → after_act (running job (lead job + 1)) true ≡ Clean
last_done job =
    let whole : (lead job + 1 + 1 == length (acts job)) ≡ true = grind (arith, length-acts job) in
    rw (last_act job) (ap (λ t. cond t Clean Going) whole)

pub last_failed : (job : Job) → after_act (running job (lead job + 1)) false ≡ Failed true
last_failed job = ap Failed (tried job (lead job + 1) (omega arith))

-- ----------------------------------------------------------------------------------------------------------------
-- The acts of a copy.

pub lead_copy : (source dest count : ℕ) → lead (Copy source dest count) ≡ 2 * count + 1
lead_copy source dest count = length-before-copy source dest count

-- numbers of blocks are small
plain : (first i : ℕ) → first + i < 2 ^ 32 → block_after first i ≡ first + i
plain first i small = omega arith

pub copy_reads : (source dest count i : ℕ) → i < count → source + i < 2 ^ 32
    → next_act (running (Copy source dest count) i) ≡ Read (source + i) i
copy_reads source dest count i h small =
    lead_act (Copy source dest count) i (omega (arith, lead_copy source dest count))
    ∙ copy_moves source dest count i (omega arith) ∙ read_at source dest count i h
    ∙ ap (λ b. Read b i) (plain source i small)

pub copy_writes : (source dest count i : ℕ) → i < count → dest + i < 2 ^ 32
    → next_act (running (Copy source dest count) (count + i)) ≡ Write (dest + i) i
copy_writes source dest count i h small =
    let there : count + i - count ≡ i = omega arith in
    lead_act (Copy source dest count) (count + i) (omega (arith, lead_copy source dest count))
    ∙ copy_moves source dest count (count + i) (omega arith)
    ∙ write_at source dest count (count + i) (omega arith) (omega arith)
    ∙ ap (λ j. Write (block_after dest j) j) there
    ∙ ap (λ b. Write b i) (plain dest i small)

pub copy_flush : (source dest count : ℕ) → next_act (running (Copy source dest count) (2 * count)) ≡ Flush
copy_flush source dest count =
    let below : 2 * count < lead (Copy source dest count) = omega (arith, lead_copy source dest count) in
    lead_act (Copy source dest count) (2 * count) below ∙ copy_flushes source dest count (2 * count) (omega arith) below
