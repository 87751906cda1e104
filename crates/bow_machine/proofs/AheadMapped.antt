-- A turn of a request leads to a machine that is led.
use Rattle.std.proofs.Common.{ℕ, ◌+◌, ◌<◌, ◌≤◌, ◌≡◌, ◌≢◌, ◌⊎◌, ◌==◌, ◌&&◌, Bool, true, false, not, cond, List, length, Option, Some, None, arith, refl, sym, ap, ◌∙◌, subst, inl, inr}
use Rattle.std.proofs.lemmas.Bool.{cases_eq, or_cases, and_parts, eqb-true}
use Rattle.bow_units.specs.declared.sizes.Extent.{Extent}
use Rattle.bow_units.specs.declared.sizes.Geometry.{Geometry}
use Rattle.bow_units.specs.declared.requests.Op.{Op}
use Rattle.bow_units.specs.declared.requests.Op.TheVariants.{Read, Write, Discard, Flush, Prepare, Commit}
use Rattle.bow_units.specs.declared.requests.Outcome.{Outcome}
use Rattle.bow_units.specs.declared.requests.Outcome.TheVariants as outcomes
use Rattle.bow_units.specs.declared.requests.Phase.{Phase}
use Rattle.bow_units.specs.declared.requests.Phase.TheVariants.{Trim, Arming, Checkpoint, Deciding, Committed}
use Rattle.bow_units.specs.declared.statuses.Kind.{Kind}
use Rattle.bow_units.specs.declared.statuses.Kind.TheVariants.{Current, Changed}
use Rattle.bow_log.specs.Generations.{Generation}
use Rattle.bow_chain.specs.Contents.{Contents}
use Rattle.bow_flat.specs.Flat.{Flat, May, added, put, discards}
use Rattle.bow_guard.specs.Cuts.{Candidates, IsFlushed, WriteGiven}
use Rattle.bow_queue.specs.declared.tickets.Ticket.{Ticket}
use Rattle.bow_queue.specs.Requests.{open_writes}
use Rattle.bow_ranges.specs.Kinds.{kind_at, reclaimed}
use Rattle.bow_machine.proofs.Known.{may_dropped}
use Rattle.bow_machine.proofs.MappedWrites.{written_other}
use Rattle.bow_machine.specs.Requests.{Request, request_of, refusal}
use Rattle.bow_machine.specs.Memory.{Memory, has_command, has_move, may_be_written, is_direct, kinds_written, place_of, place_with}
use Rattle.bow_machine.specs.Calls.{Reply, Failed, Succeeded, Gave, ReadCall, WriteCall, FlushCall}
use Rattle.bow_machine.specs.Tasks.{Map, Task, Waits, Answers, WritesBlock, ReadsBlock, FlushesFor, DiscardsFor, unless_refused, unless_command, is_waiting, task_for, map_task, task_of}
use Rattle.bow_machine.specs.Steps.{extent_of, next_block, kinds_discarded, step_of}
use Rattle.bow_machine.specs.MemoryIsSound.{IsRequest}
use Rattle.bow_machine.proofs.Held.{IsHeld}
use Rattle.bow_machine.specs.Ahead.{IsPlace0, IsLedIn, IsLed}
use Rattle.bow_machine.proofs.RequestLists.{found_request}
use Rattle.bow_machine.proofs.Tables.{kind_freed}
use Rattle.bow_machine.proofs.Mapped.{IsOpen}
use Rattle.bow_machine.proofs.MappedTests.{write_inside, discard_inside, settled_phase}
use Rattle.bow_machine.proofs.BatchStands.{place_other}
use Rattle.bow_machine.proofs.Consequences.{standing_in}
use Rattle.bow_machine.proofs.AheadLeads.{head_inside, open_written, place_written, flushed_led}
use Rattle.bow_machine.proofs.AheadSteps.{LedAfter, plain_step, Leads, not_failed, disk_led, log_in_checkpoint}

open_not_current : (k : Kind) → IsOpen k → k ≢ Current
open_not_current k h is = grind arith

changed_not_place : (k : Kind) → IsPlace0 k → k ≢ Changed
changed_not_place k h is = grind arith

open_when : (k : Kind) → may_be_written k ≡ true → IsOpen k
open_when k h = grind arith

place_is : (m : Memory) (log : Generation) (b : ℕ) → m.log ≡ Some log → b ≢ 0 → place_of m b ≡ b
place_is m log b some ne = ap (λ l. place_with l b) some ∙ place_other log b ne

-- each phase but those in which nothing but a read or a command is done
settled_cases : (A : Type 0) (phase : Phase) → (phase ≢ Arming) × (phase ≢ Deciding) → ((phase ≡ Trim) ⊎ (phase ≡ Committed) → A) → (phase ≡ Checkpoint → A) → A
settled_cases A Trim settled plain at = plain (inl refl)
settled_cases A Arming settled plain at = absurd (settled.0 refl)
settled_cases A Checkpoint settled plain at = at refl
settled_cases A Deciding settled plain at = absurd (settled.1 refl)
settled_cases A Committed settled plain at = plain (inr refl)

module _ (g : Geometry) (m : Memory) (now new_now : Contents) (may new_may : Candidates) (f : Flat) (s : IsHeld g m now may f) (l : IsLed g m now may f) where
  -- the disk is the same
  same : new_now ≡ now → new_may ≡ may → IsLed g m new_now new_may f
  same same_now same_may = disk_led g m.phase m.kinds m.log f.pending now new_now may new_may same_now same_may l

  abbrev LeadsSo : Reply → Task → Type 0
  LeadsSo reply task = Leads g m now may new_now new_may f reply task

  waits_lead : (reply : Reply) → LeadsSo reply Waits
  waits_lead reply does ok new = same does.0 does.1

  answers_lead : (reply : Reply) (r : Request) (outcome : Outcome) → LeadsSo reply (Answers r outcome)
  answers_lead reply r outcome does ok new = same does.0 does.1

  reads_lead : (reply : Reply) (r : Request) (b : ℕ) → LeadsSo reply (ReadsBlock r b)
  reads_lead (Gave v) r b does ok new = same does.1 does.2
  reads_lead Failed r b does ok new = not_failed (ReadCall (place_of m b)) Failed refl ok
  reads_lead Succeeded r b does ok new = absurd does

  -- ----------------------------------------------------------------------------------------------------------------
  -- A write in Checkpoint.
  module _ (b : ℕ) (v : List ℕ) (on : b < g.blocks) (write : WriteGiven (place_of m b) v now new_now may new_may) (is : m.phase ≡ Checkpoint) (direct : is_direct m m.phase b ≡ true) where
    abbrev Written : ℕ → Type 0
    Written x = IsLedIn g m.phase (kinds_written m.phase m.kinds x) m.log new_now new_may (put f.pending x (added (f.pending x) v))

    at_current : (log : Generation) → m.log ≡ Some log → b ≡ 0 → Written b
    at_current log some z =
        let k = standing_in g m now may f log Checkpoint is some s in
        let place : place_of m b ≡ log.current = ap (place_of m) z ∙ ap (λ o. place_with o 0) some in
        let above : log.current ≢ 0 = λ e. let valid = k.leaves.log.behind.valid in omega (arith, valid.current_not_0, e) in
        subst Written (sym z) (place_written g s.memory.sizes m.phase m.kinds m.log now new_now may new_may f.pending log.current v
        (subst (λ p. WriteGiven p v now new_now may new_may) place write) l above is (k.hidden log.current k.sound.generation.current_inside (inr (inr k.sound.current))).1)

    at_open : (log : Generation) → m.log ≡ Some log → b ≢ 0 → Written b
    at_open log some ne = open_written g s.memory.sizes m.phase m.kinds m.log now new_now may new_may f.pending b v
        (subst (λ p. WriteGiven p v now new_now may new_may) (place_is m log b some ne) write) l ne is
        (kinds_written m.phase m.kinds b) is_open (λ x other. written_other m.phase m.kinds b x (omega (arith, on, s.memory.table.size)) other)
        (λ o is_o e. open_not_current (kind_at m.kinds b) is_open (ap (kind_at m.kinds) (sym e) ∙ (standing_in g m now may f o Checkpoint is is_o s).sound.current))
      where
        is_open : IsOpen (kind_at m.kinds b)
        is_open = elim (or_cases (may_be_written (kind_at m.kinds b)) ((b == 0) && not (has_move m.hand)) (subst (λ p. is_direct m p b ≡ true) is direct)) [
          | inl can ↦ open_when (kind_at m.kinds b) can
          | inr zeroth ↦ absurd (ne (eqb-true b 0 (and_parts (b == 0) (not (has_move m.hand)) zeroth).0))
        ]

    checkpoint_written : Written b
    checkpoint_written =
        let log = log_in_checkpoint g m now may f s is in
        elim (cases_eq b 0) [ inl z ↦ at_current log.0 log.1 z | inr ne ↦ at_open log.0 log.1 ne ]

  writes_lead : (reply : Reply) (r : Request) (b : ℕ) → b < g.blocks → (m.phase ≢ Arming) × (m.phase ≢ Deciding) → is_direct m m.phase b ≡ true → LeadsSo reply (WritesBlock r b)
  writes_lead Succeeded r b on settled direct does ok new = settled_cases (LedAfter g new_now new_may f (step_of g now m (WritesBlock r b) Succeeded)) m.phase settled
      (λ plain. plain_step g new_now new_may f (step_of g now m (WritesBlock r b) Succeeded) plain new)
      (λ is. checkpoint_written b (next_block g r) on does.0.given is direct)
  writes_lead Failed r b on settled direct does ok new = not_failed (WriteCall (place_of m b) (next_block g r)) Failed refl ok
  writes_lead (Gave v) r b on settled direct does ok new = absurd does

  -- ----------------------------------------------------------------------------------------------------------------

  checkpoint_flushed : m.phase ≡ Checkpoint → IsFlushed g now new_may → IsLedIn g m.phase m.kinds m.log now new_may f.current
  checkpoint_flushed is flushed =
      let log = log_in_checkpoint g m now may f s is in
      let k = standing_in g m now may f log.0 Checkpoint is log.1 s in
      subst (λ o. IsLedIn g m.phase m.kinds o now new_may f.current) (sym log.1)
      (flushed_led g s.memory.sizes m.phase m.kinds log.0 now new_may f.current flushed (l.led is log.0 log.1) k.sound.generation.current_inside k.sound.current
      (λ b up on. subst (λ p. May (f.current b) (now p)) (place_is m log.0 b log.1 (λ z. omega (arith, z, up))) (s.shown b on))
      (subst (λ p. May (f.current 0) (now p)) (ap (λ o. place_with o 0) log.1) (s.shown 0 (omega (arith, s.memory.sizes.enough)))))

  flushes_lead : (reply : Reply) (r : Request) → (m.phase ≢ Arming) × (m.phase ≢ Deciding) → LeadsSo reply (FlushesFor r)
  flushes_lead Succeeded r settled does ok new = settled_cases (LedAfter g new_now new_may f (step_of g now m (FlushesFor r) Succeeded)) m.phase settled
      (λ plain. plain_step g new_now new_may f (step_of g now m (FlushesFor r) Succeeded) plain new)
      (λ is. subst (λ i. IsLedIn g m.phase m.kinds m.log i new_may f.current) (sym does.0) (checkpoint_flushed is does.1))
  flushes_lead Failed r settled does ok new = not_failed FlushCall Failed refl ok
  flushes_lead (Gave v) r settled does ok new = absurd does

  checkpoint_discarded : m.phase ≡ Checkpoint → (e : Extent) → IsLedIn g m.phase (kinds_discarded g m e m.phase) m.log now may (λ b. cond (discards e b) None (f.pending b))
  checkpoint_discarded is e = record {
    others = λ b up on v h. may_dropped (discards e b) (f.pending b) v (l.others b up on v h);
    heads = λ v head h magic spells. let old = l.heads v head h magic spells in (place head.current (head_inside g s.memory.sizes v head spells) old.0, old.1);
    current = l.current;
    arming = l.arming;
    led = l.led;
    deciding = l.deciding;
  }
    where
      but : List Extent
      but = open_writes g.blocks m.requests

      -- a block that is freed was changed
      freed : (x : ℕ) → x < length m.kinds → IsPlace0 (kind_at m.kinds x) → IsPlace0 (kind_at (reclaimed m.kinds e but) x)
      freed x on at = elim (kind_freed m.kinds e but x on) [ inl changed ↦ absurd (changed_not_place (kind_at m.kinds x) at changed.0) | inr kept ↦ subst IsPlace0 (sym kept) at ]

      place : (x : ℕ) → x < g.blocks → IsPlace0 (kind_at m.kinds x) → IsPlace0 (kind_at (kinds_discarded g m e m.phase) x)
      place x on at = subst (λ p. IsPlace0 (kind_at (kinds_discarded g m e p) x)) (sym is) (freed x (omega (arith, on, s.memory.table.size)) at)

  discards_lead : (reply : Reply) (r : Request) → (m.phase ≢ Arming) × (m.phase ≢ Deciding) → LeadsSo reply (DiscardsFor r)
  discards_lead reply r settled does ok new = settled_cases (LedAfter g new_now new_may f (step_of g now m (DiscardsFor r) reply)) m.phase settled
      (λ plain. plain_step g new_now new_may f (step_of g now m (DiscardsFor r) reply) plain new)
      (λ is. disk_led g m.phase (kinds_discarded g m (extent_of r.op) m.phase) m.log (λ b. cond (discards (extent_of r.op) b) None (f.pending b)) now new_now may new_may does.0 does.1 (checkpoint_discarded is (extent_of r.op)))

  -- ----------------------------------------------------------------------------------------------------------------
  -- The task of the request.

  module _ (reply : Reply) (r : Request) (request : IsRequest r) where
    leads_if : (t : Bool) (one other : Task) → (t ≡ true → LeadsSo reply one) → (t ≡ false → LeadsSo reply other) → LeadsSo reply (cond t one other)
    leads_if true one other a b = a refl
    leads_if false one other a b = b refl

    leads_unless : (refusal : Option Outcome) (task : Task) → (refusal ≡ None → LeadsSo reply task) → LeadsSo reply (unless_refused r refusal task)
    leads_unless None task go_on = go_on refl
    leads_unless (Some outcome) task go_on = answers_lead reply r outcome

    leads_free : (task : Task) → LeadsSo reply task → LeadsSo reply (unless_command m task)
    leads_free task go_on = leads_if (has_command m.hand) Waits task (λ c. waits_lead reply) (λ c. go_on)

    task_leads : (op : Op) → r.op ≡ op → LeadsSo reply (task_for g m r op)
    task_leads (Read e p) is = leads_unless (refusal g m.phase (Read e p)) _ (λ passed.
        leads_if (r.done == e.count) (Answers r outcomes.Data) (ReadsBlock r (e.first + r.done)) (λ full. answers_lead reply r outcomes.Data) (λ more. reads_lead reply r (e.first + r.done)))
    task_leads (Write e p) is = leads_free _ (leads_unless (refusal g m.phase (Write e p)) _ (λ passed.
        leads_if (is_waiting m r) Waits _ (λ w. waits_lead reply) (λ first.
        leads_if (r.done == e.count) (Answers r outcomes.Done) _ (λ full. answers_lead reply r outcomes.Done) (λ more.
        leads_if (is_direct m m.phase (e.first + r.done)) (WritesBlock r (e.first + r.done)) Waits
        (λ direct. let inside = write_inside g m.phase e p passed in writes_lead reply r (e.first + r.done) (on e p is more inside.0) (settled_phase m.phase inside.2) direct) (λ worker. waits_lead reply)))))
      where
        on : (e : Extent) (p : List ℕ) → r.op ≡ Write e p → (r.done == e.count) ≡ false → e.first + e.count ≤ g.blocks → e.first + r.done < g.blocks
        on e p is more inside = let most : r.done ≤ e.count = subst (λ o. r.done ≤ (extent_of o).count) is request in less r.done e.count e.first g.blocks more most inside
          where
            less : (n k first blocks : ℕ) → (n == k) ≡ false → n ≤ k → first + k ≤ blocks → first + n < blocks
            less n k first blocks ne le inside = grind arith
    task_leads (Discard e) is = leads_free _ (leads_unless (refusal g m.phase (Discard e)) (DiscardsFor r) (λ passed. discards_lead reply r (settled_phase m.phase (discard_inside g m.phase e passed).1)))
    task_leads Flush is = leads_free _ (leads_unless (refusal g m.phase Flush) (FlushesFor r) (λ passed. flushes_lead reply r (settled_phase m.phase passed)))
    task_leads Prepare is = waits_lead reply
    task_leads Commit is = waits_lead reply

  -- A turn of a request.
  pub map_leads : (reply : Reply) (ticket : Ticket) → Leads g m now may new_now new_may f reply (task_of g m (Map ticket))
  map_leads reply ticket = go (request_of ticket m.requests) refl
    where
      go : (found : Option Request) → request_of ticket m.requests ≡ found → Leads g m now may new_now new_may f reply (map_task g m found)
      go None is = waits_lead reply
      go (Some r) is = task_leads reply r (found_request ticket m.requests r s.memory.requests is) r.op refl

  -- nothing done, or a request answered
  pub nothing_leads : (reply : Reply) → Leads g m now may new_now new_may f reply Waits
  nothing_leads reply = waits_lead reply

  pub answer_leads : (reply : Reply) (r : Request) (outcome : Outcome) → Leads g m now may new_now new_may f reply (Answers r outcome)
  answer_leads reply r outcome = answers_lead reply r outcome
