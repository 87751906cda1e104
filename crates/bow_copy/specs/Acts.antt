-- The acts of each job, in order, and what each leads to.
use Rattle.std.specs.Prelude.{◌≡◌, ◌⊎◌, ◌==◌, ℕ, ◌+◌, ◌-◌, ◌^◌, ◌≤◌, Bool, true, false, if◌then◌else◌, List, [], ◌∷◌, ◌++◌, length, map, take, slice_index_or, min}
use Rattle.std.specs.List.{range_with_len, list_any}
use Rattle.bow_copy.specs.declared.jobs.Job.{Job}
use Rattle.bow_copy.specs.declared.jobs.Job.TheVariants.{Rewrite, Link, Copy, Move}
use Rattle.bow_copy.specs.declared.jobs.Act.{Act}
use Rattle.bow_copy.specs.declared.jobs.Act.TheVariants.{Read, Write, Flush, WriteLog, End}
use Rattle.bow_copy.specs.declared.jobs.After.{After}
use Rattle.bow_copy.specs.declared.jobs.After.TheVariants.{Going, LogGiven, Clean, Failed}

-- a copy has 1 to 8 blocks
abbrev pub IsJob : Job → Type 0
IsJob (Copy source dest count) = (1 ≤ count) × (count ≤ 8)
IsJob _ = Unit {0}

-- the block i places after this one; numbers of blocks end at 2 ^ 64 - 1
abbrev pub block_after : ℕ → ℕ → ℕ
block_after first i = min (first + i) (2 ^ 64 - 1)

-- reads of the blocks from this one on, the i-th into slot i
abbrev pub reads : ℕ → ℕ → List Act
reads first count = map (λ i. Read (block_after first i) i) (range_with_len 0 count)

-- writes of the blocks from this one on, the i-th from slot i
abbrev pub writes : ℕ → ℕ → List Act
writes first count = map (λ i. Write (block_after first i) i) (range_with_len 0 count)

-- the acts before the log is written
abbrev pub acts_before_log : Job → List Act
acts_before_log Rewrite = []
acts_before_log (Link dest) = Write dest 0 ∷ Flush ∷ []
acts_before_log (Copy source dest count) = reads source count ++ writes dest count ++ Flush ∷ []
acts_before_log (Move from to) = Read from 0 ∷ Write to 0 ∷ Flush ∷ []

-- all acts of a job, in order
abbrev pub acts : Job → List Act
acts job = acts_before_log job ++ WriteLog ∷ Flush ∷ []

-- a batch: its job, how many of its acts were done, and whether one failed
pub record Progress : Type 0 where
  pub job : Job
  pub done : ℕ
  pub failed : Bool

-- one failed, or all are done
abbrev pub IsOver : Progress → Type 0
IsOver p = (p.failed ≡ true) ⊎ (p.done ≡ length (acts p.job))

-- the next act; none comes after the last one, or after a failure
abbrev pub next_act : Progress → Act
next_act p = if p.failed then End else slice_index_or (acts p.job) p.done End

-- the act writes the log
abbrev pub is_write_log : Act → Bool
is_write_log WriteLog = true
is_write_log _ = false

-- whether writing the log was tried, once this many acts were
abbrev pub log_tried : Job → ℕ → Bool
log_tried job tried = list_any is_write_log (take tried (acts job))

-- what the next act leads to, done or failed
abbrev pub after_act : Progress → Bool → After
after_act p true =
    if is_write_log (next_act p) then LogGiven
    else (if p.done + 1 == length (acts p.job) then Clean else Going)
after_act p false = Failed (log_tried p.job (p.done + 1))

-- the batch after its next act, done or failed
abbrev pub step_of : Progress → Bool → Progress
step_of p true = record p { done = p.done + 1 }
step_of p false = record p { failed = true }

-- the acts of a copy between blocks whose numbers all fit
abbrev pub plain_copy : ℕ → ℕ → ℕ → List Act
plain_copy source dest count = map (λ i. Read (source + i) i) (range_with_len 0 count)
    ++ map (λ i. Write (dest + i) i) (range_with_len 0 count) ++ Flush ∷ WriteLog ∷ Flush ∷ []
