-- A batch that backs up blocks: it reads them, writes them to the picked blocks, and flushes.
use Rattle.std.proofs.Common.{ℕ, ◌+◌, ◌-◌, ◌*◌, ◌<◌, ◌≡◌, ◌≢◌, true, List, [], ◌∷◌, ◌++◌, length, get_or, arith, refl, sym, ap, ◌∙◌, subst, inl, inr, length-append}
use Rattle.std.proofs.lemmas.Bool.{cases_eq, cases_lt}
use Rattle.std.proofs.lemmas.List.{get_or_append_left, get_or-append_right}
use Rattle.bow_units.specs.declared.sizes.Geometry.{Geometry}
use Rattle.bow_flat.specs.Flat.{Flat}
use Rattle.bow_log.specs.Generations.{Generation}
use Rattle.bow_chain.specs.Contents.{Contents}
use Rattle.bow_copy.specs.Acts.{next_act}
use Rattle.bow_copy.specs.declared.jobs.Job.{Job}
use Rattle.bow_copy.specs.declared.jobs.Job.TheVariants.{Copy}
use Rattle.bow_copy.specs.declared.jobs.Act.{Act}
use Rattle.bow_guard.specs.Cuts.{Candidates}
use Rattle.bow_queue.specs.declared.tickets.Ticket.{Ticket}
use Rattle.bow_ranges.specs.Kinds.{holds}
use Rattle.bow_machine.specs.Memory.{Memory}
use Rattle.bow_machine.specs.Calls.{Reply, Does}
use Rattle.bow_machine.specs.Steps.{batch_step, call_of_act}
use Rattle.bow_machine.specs.MemoryIsSound.{ForWrite}
use Rattle.bow_machine.proofs.Held.{CopyHeld, copy_on}
use Rattle.bow_machine.proofs.BatchActs.{lead, running, lead_copy, copy_reads, copy_writes, copy_flush}
use Rattle.bow_machine.proofs.BatchStands.{Working}
use Rattle.bow_machine.proofs.Hands.{Keeps}
use Rattle.bow_machine.proofs.BatchSteps.{batch_at, batching, at_work}
use Rattle.bow_machine.proofs.BatchLeads.{PicksStand, lead_reads, lead_writes, lead_flushes}

-- one more block is read
read_more : (now : Contents) (source : ℕ) (slots : List (List ℕ)) (v : List ℕ) → v ≡ now (source + length slots)
    → ((j : ℕ) → j < length slots → now (source + j) ≡ get_or slots j []) → (j : ℕ) → j < length (slots ++ v ∷ [])
    → now (source + j) ≡ get_or (slots ++ v ∷ []) j []
read_more now source slots v is old j below = elim (cases_lt j (length slots)) [
  | inl under ↦ old j under ∙ sym (get_or_append_left slots (v ∷ []) [] j under)
  | inr past ↦
      let last : j ≡ length slots = omega (arith, length-append slots (v ∷ []), below, past) in
      let none : j - length slots ≡ 0 = omega (arith, last) in
      ap (λ i. now (source + i)) last ∙ sym is
      ∙ sym (get_or-append_right slots (v ∷ []) (length slots) j [] refl past ∙ ap (λ i. get_or (v ∷ []) i []) none)
]

holds_at : (first count i : ℕ) → i < count → holds (record { first = first; count = count }) (first + i) ≡ true
holds_at first count i below = grind arith

module _ (g : Geometry) (m : Memory) (source dest count : ℕ) (slots : List (List ℕ)) (t : Ticket) (log : Generation)
    (f : Flat) (now new_now : Contents) (may new_may : Candidates) where
  abbrev pub job : Job
  job = Copy source dest count

  -- what is in hand, with this many acts done and this buffer
  abbrev pub CopyInHand : ℕ → List (List ℕ) → Contents → Candidates → Type 0
  CopyInHand done buffer i j = CopyHeld g (at_work m job done buffer t log) log source dest count done buffer i j

  picked : (done : ℕ) → CopyInHand done slots now may → PicksStand g m job
  picked done h = record { inside = h.ready.dest_inside; backup = h.ready.dests }

  -- the act that is next makes this call
  at_call : (done : ℕ) (reply : Reply) (act : Act) → next_act (running job done) ≡ act
      → Does g (call_of_act g (at_work m job done slots t log) (batch_at job done slots t) (next_act (running job done))) reply now may new_now new_may
      → Does g (call_of_act g (at_work m job done slots t log) (batch_at job done slots t) act) reply now may new_now new_may
  at_call done reply act is does =
      subst
      (λ a. Does g (call_of_act g (at_work m job done slots t log) (batch_at job done slots t) a) reply now may new_now new_may) is does

  module _ (done : ℕ) (reply : Reply) (write : ForWrite g (at_work m job done slots t log) t)
      (h : CopyInHand done slots now may) (clean : m.clean ≡ true)
      (w : Working g m (batching job done slots t) log now may f)
      (does : Does g (call_of_act g (at_work m job done slots t log) (batch_at job done slots t) (next_act (running job done))) reply now may new_now new_may) where
    reads : done < count
        → Keeps g new_now new_may f (batch_step g (at_work m job done slots t log) (batch_at job done slots t) reply)
    reads below =
        lead_reads g m job slots t log f done (omega (arith, lead_copy source dest count, below)) write (picked done h) now new_now may new_may w
        (source + done) reply
        (λ v is. (held v is, clean))
        (at_call done reply _ (copy_reads source dest count done below (omega (arith, h.ready.source_inside, w.memory.sizes.few, below))) does)
      where
        at_end : length slots ≡ done
        at_end = omega (arith, h.ready.buffer, below)

        held : (v : List ℕ) → v ≡ now (source + done) → CopyInHand (done + 1) (slots ++ v ∷ []) now may
        held v is = record {
          ready = copy_on g m.kinds log source dest count done (done + 1) slots (slots ++ v ∷ []) (omega (arith, length-append slots (v ∷ []), at_end, below)) h.ready;
          read = read_more now source slots v (is ∙ ap (λ i. now (source + i)) (sym at_end)) h.read;
          wrote = λ j under late. absurd (omega (arith, below, late));
          durable = λ late. absurd (omega (arith, below, late));
        }

    writes : (i : ℕ) → i < count → done ≡ count + i
        → Keeps g new_now new_may f (batch_step g (at_work m job done slots t log) (batch_at job done slots t) reply)
    writes i below at =
        lead_writes g m job slots t log f done (omega (arith, lead_copy source dest count, below, at)) write
        (picked done h) now new_now may new_may w (dest + i) (get_or slots i []) reply
        (omega (arith, h.ready.dest_inside, below)) (h.ready.dests i below) (holds_at dest count i below)
        (λ tried is. (held tried.given.others_now is, clean))
        (at_call done reply _ (ap (λ d. next_act (running job d)) at ∙ copy_writes source dest count i below (omega (arith, h.ready.dest_inside, w.memory.sizes.few, below))) does)
      where
        full : length slots ≡ count
        full = omega (arith, h.ready.buffer, at)

        held : ((x : ℕ) → x ≢ dest + i → new_now x ≡ now x) → new_now (dest + i) ≡ get_or slots i []
            → CopyInHand (done + 1) slots new_now new_may
        held others is = record {
          ready = copy_on g m.kinds log source dest count done (done + 1) slots slots (omega (arith, full, at)) h.ready;
          read = λ j under. others (source + j) (λ e. absurd (omega (arith, h.ready.apart, e, under, full, below))) ∙ h.read j under;
          wrote = λ j under late. elim (cases_eq j i) [
            | inl same ↦ subst (λ n. new_now (dest + n) ≡ get_or slots n []) (sym same) is
            | inr other ↦ others (dest + j) (λ e. other (omega (arith, e))) ∙ h.wrote j under (omega (arith, late, other, at))
          ];
          durable = λ late. absurd (omega (arith, late, at, below));
        }

    flushes : done ≡ 2 * count
        → Keeps g new_now new_may f (batch_step g (at_work m job done slots t log) (batch_at job done slots t) reply)
    flushes at =
        lead_flushes g m job slots t log f done (omega (arith, lead_copy source dest count, at)) write (picked done h) now new_now may new_may w reply
        (λ flushed. (
          record {
            ready = copy_on g m.kinds log source dest count done (done + 1) slots slots (omega (arith, h.ready.buffer, at, h.ready.some)) h.ready;
            read = h.read;
            wrote = λ j under late. h.wrote j under (omega (arith, at, under));
            durable = λ late j under. flushed (dest + j) (omega (arith, h.ready.dest_inside, under));
          },
          clean,
        ))
        (at_call done reply _ (ap (λ d. next_act (running job d)) at ∙ copy_flush source dest count) does)

    -- Each act before the log.
    pub copy_goes_on : done < lead job
        → Keeps g new_now new_may f (batch_step g (at_work m job done slots t log) (batch_at job done slots t) reply)
    copy_goes_on before = elim (cases_lt done count) [
      | inl reading ↦ reads reading
      | inr past ↦ elim (cases_lt done (2 * count)) [
        | inl writing ↦ writes (done - count) (omega (arith, past, writing)) (omega (arith, past))
        | inr flushing ↦ flushes (omega (arith, flushing, before, lead_copy source dest count))
      ]
    ]
