-- Each act of a batch, done or failed, keeps memory sound; and what it asks of the disk.
use Rattle.std.proofs.Common.{ℕ, zero, suc, ◌+◌, ◌-◌, ◌*◌, ◌<◌, ◌≤◌, ◌≡◌, ◌≢◌, ◌⊎◌, Bool, true, false, cond, List, [], ◌∷◌, ◌++◌, length, map, min, Option, Some, None, arith, refl, sym, ap, ◌∙◌, subst, subst₂, inl, inr, length-append}
use Rattle.std.proofs.lemmas.Bool.{cases_eq, cases_lt, false≢true}
use Rattle.std.specs.Prelude.{slice_index_or}
use Rattle.std.specs.List.{AllByRecursion as Each}
use Rattle.std.specs.Option.{option_map}
use Rattle.bow_units.specs.declared.sizes.Geometry.{Geometry}
use Rattle.bow_units.specs.declared.sizes.Extent.{Extent}
use Rattle.bow_units.specs.Sizes.{IsValid}
use Rattle.bow_units.specs.declared.requests.Phase.TheVariants.{Checkpoint}
use Rattle.bow_units.specs.declared.statuses.Kind.{Kind}
use Rattle.bow_units.specs.declared.statuses.Kind.TheVariants.{Sector0, Current, Unchanged, Free, Changed, Backup, Saved}
use Rattle.bow_log.specs.Generations.{Generation}
use Rattle.bow_units.specs.declared.requests.Outcome.{Outcome}
use Rattle.bow_flat.specs.Flat.{Event}
use Rattle.bow_copy.specs.Acts.{Progress, acts, next_act, after_act, log_tried}
use Rattle.bow_copy.specs.declared.jobs.Job.{Job}
use Rattle.bow_copy.specs.declared.jobs.Job.TheVariants.{Rewrite, Link, Copy, Move}
use Rattle.bow_copy.specs.declared.jobs.Act.{Act}
use Rattle.bow_copy.specs.declared.jobs.Act.TheVariants.{Write, Flush, WriteLog}
use Rattle.bow_guard.specs.Device.{unsaved}
use Rattle.bow_queue.specs.declared.tickets.Ticket.{Ticket}
use Rattle.bow_ranges.specs.Kinds.{kind_at, with_kind, holds, is_free, count_of}
use Rattle.bow_machine.specs.Requests.{Request, request_of, without_request}
use Rattle.bow_machine.specs.Memory.{Memory, Batch, Hand, Empty, Batching, picks, reserved, reserved_by, has_command, may_be_written}
use Rattle.bow_machine.specs.Calls.{Call, ReadCall, WriteCall, FlushCall, Reply, Failed, Succeeded, Gave}
use Rattle.bow_machine.specs.Tasks.{spelling}
use Rattle.bow_machine.specs.Steps.{Step, moved, answered_for, fault_after, fault_events, log_or_blank, log_for, kinds_for, changed, cleaned, given_up, is_log_write, call_of_act, batch_after, batch_step}
use Rattle.bow_machine.specs.MemoryIsSound.{IsTable, is_touched}
use Rattle.bow_machine.specs.MemoryIsSound.{IsForWrite, LogIsSound, LogIsHeld, CopyIsReady, JobIsReady, BatchIsSound, HandIsSound, MemoryIsSound}
use Rattle.bow_machine.specs.MemoryLaws.{CanHave, IsOnDevice}
use Rattle.bow_machine.specs.Ends.{acts_left}
use Rattle.bow_machine.specs.Ties.{copies_in, LogGoesOn, IsTouchedStill}
use Rattle.bow_copy.proofs.ActsInOrder.{length-acts}
use Rattle.bow_machine.proofs.Tables.{table_unsaved, count_unsaved, kind_unsaved}
use Rattle.bow_machine.proofs.Mapped.{empty_not_in_hand}
use Rattle.bow_machine.proofs.SoundLogs.{not_unsaved}
use Rattle.bow_machine.proofs.BatchStands.{holds_one}
use Rattle.bow_machine.proofs.RequestLists.{each_append}
use Rattle.bow_machine.proofs.BatchActs.{lead, running, not_tried, tried, lead_done, lead_failed, log_act, log_done, log_failed, last_act, last_done, last_failed, lead_copy, copy_reads, copy_writes, copy_flush}
use Rattle.bow_machine.proofs.SoundLists.{few_without, waiting_without, rising_without}
use Rattle.bow_machine.proofs.SoundHands.{for_write_in, sound_requests}
use Rattle.bow_machine.proofs.Mapped.{waits_without}
use Rattle.bow_machine.proofs.SoundTasks.{batch_in_hand}
use Rattle.bow_machine.proofs.SoundLogs.{spelling_length, respared, spare_table, InSaved, spare_log, LogChange, rewrite_change, link_change, copy_change, move_change, clean_log}

-- ----------------------------------------------------------------------------------------------------------------
-- The acts before the log.

each_at : (P : List ℕ → Type 0) (vs : List (List ℕ)) (i : ℕ) (d : List ℕ) → Each P vs → i < length vs → P (slice_index_or vs i d)
each_at P [] i d each below = absurd (omega arith)
each_at P (v ∷ vs) zero d each below = each.0
each_at P (v ∷ vs) (suc i) d each below = each_at P vs i d each.1 (omega arith)

-- a block of an extent is held by it
holds_in : (first count i : ℕ) → i < count → holds (record { first = first; count = count }) (first + i) ≡ true
holds_in first count i below = grind arith

-- The call is on the device, and a write is of a picked block; once it is done the job is ready for its next act.
abbrev pub GoesOn : Geometry → List Kind → Bool → Generation → Job → ℕ → List (List ℕ) → Call → Type 0
GoesOn g table clean log job done slots (ReadCall x) = (x < g.blocks) × ((v : List ℕ) → JobIsReady g table clean log job (done + 1) (slots ++ v ∷ []))
GoesOn g table clean log job done slots (WriteCall x v) = ((x < g.blocks) × (length v ≡ g.block_size)) × JobIsReady g table clean log job (done + 1) slots × (holds (picks job) x ≡ true)
GoesOn g table clean log job done slots FlushCall = JobIsReady g table clean log job (done + 1) slots

module _ (g : Geometry) (m : Memory) (table : List Kind) (clean : Bool) (log : Generation) (slots : List (List ℕ)) (t : Ticket) (sizes : IsValid g) (inside : log.current < g.blocks) (blocks : Each (λ v. length v ≡ g.block_size) slots) where
  -- the call of an act, by the job and how far it is
  abbrev call_at : Job → ℕ → Act → Call
  call_at job done act = call_of_act g m (record { progress = running job done; slots = slots; ticket = t }) act

  copy_goes : (source dest count done : ℕ) → CopyIsReady g table log source dest count done slots → clean ≡ true → done < lead (Copy source dest count)
      → GoesOn g table clean log (Copy source dest count) done slots (call_at (Copy source dest count) done (next_act (running (Copy source dest count) done)))
  copy_goes source dest count done h c below = elim (cases_lt done count) [
    | inl reading ↦
        subst (λ a. GoesOn g table clean log (Copy source dest count) done slots (call_at (Copy source dest count) done a)) (sym (copy_reads source dest count done reading (omega (arith, h.source_inside, sizes.few, reading))))
        (omega (arith, h.source_inside, reading), λ v. (at (done + 1) (slots ++ v ∷ []) (omega (arith, length-append slots (v ∷ []), h.buffer, reading)), c))
    | inr past ↦ elim (cases_lt done (2 * count)) [
      | inl writing ↦
          let i : ℕ = done - count in
          let is : done ≡ count + i = omega arith in
          let under : i < count = omega arith in
          let act : next_act (running (Copy source dest count) done) ≡ Write (dest + i) i = ap (λ d. next_act (running (Copy source dest count) d)) is ∙ copy_writes source dest count i under (omega (arith, h.dest_inside, sizes.few, under)) in
          subst (λ a. GoesOn g table clean log (Copy source dest count) done slots (call_at (Copy source dest count) done a)) (sym act)
          ((omega (arith, h.dest_inside, under), each_at (λ v. length v ≡ g.block_size) slots i [] blocks (omega (arith, h.buffer, past, under))), (at (done + 1) slots (omega (arith, h.buffer, past)), c), holds_in dest count i under)
      | inr flushing ↦
          let is : done ≡ 2 * count = omega (arith, flushing, below, lead_copy source dest count) in
          let act : next_act (running (Copy source dest count) done) ≡ Flush = ap (λ d. next_act (running (Copy source dest count) d)) is ∙ copy_flush source dest count in
          subst (λ a. GoesOn g table clean log (Copy source dest count) done slots (call_at (Copy source dest count) done a)) (sym act)
          (at (done + 1) slots (omega (arith, h.buffer, past)), c)
    ]
  ]
    where
      at : (n : ℕ) (buffer : List (List ℕ)) → length buffer ≡ min n count → CopyIsReady g table log source dest count n buffer
      at n buffer long = record { some = h.some; few = h.few; not_full = h.not_full; source_inside = h.source_inside; dest_inside = h.dest_inside; sources = h.sources; dests = h.dests; apart = h.apart; buffer = long }

  lead_goes : (job : Job) (done : ℕ) → done < lead job → JobIsReady g table clean log job done slots → GoesOn g table clean log job done slots (call_at job done (next_act (running job done)))
  lead_goes Rewrite done below h = absurd (omega arith)
  lead_goes (Link dest) zero below (h, c) = ((h.inside, each_at (λ v. length v ≡ g.block_size) slots 0 [] blocks (omega (arith, ap length h.buffer))), (h, c), holds_one dest dest refl)
  lead_goes (Link dest) (suc zero) below (h, c) = (h, c)
  lead_goes (Link dest) (suc (suc n)) below h = absurd (omega arith)
  lead_goes (Copy source dest count) done below (h, c) = copy_goes source dest count done h c below
  lead_goes (Move from to) zero below (h, c) = (omega (arith, inside, h.from_current), λ v. (record { from_current = h.from_current; inside = h.inside; kind = h.kind; buffer = omega (arith, length-append slots (v ∷ []), h.buffer) }, c))
  lead_goes (Move from to) (suc zero) below (h, c) = ((h.inside, each_at (λ v. length v ≡ g.block_size) slots 0 [] blocks (omega (arith, h.buffer))), (record { from_current = h.from_current; inside = h.inside; kind = h.kind; buffer = omega (arith, h.buffer) }, c), holds_one to to refl)
  lead_goes (Move from to) (suc (suc zero)) below (h, c) = (record { from_current = h.from_current; inside = h.inside; kind = h.kind; buffer = omega (arith, h.buffer) }, c)
  lead_goes (Move from to) (suc (suc (suc n))) below h = absurd (omega arith)

-- ----------------------------------------------------------------------------------------------------------------
-- The batch in hand.

-- the log in memory, and what is held
pub record InHand (g : Geometry) (m : Memory) (b : Batch) : Type 0 where
  pub log : Generation
  pub some : m.log ≡ Some log
  pub held : BatchIsSound g m b log
  pub kept : LogIsSound g m.kinds m.clean m.trimmed (reserved_by b).count log

pub in_hand_of : (g : Geometry) (m : Memory) (b : Batch) → m.hand ≡ Batching b → MemoryIsSound g m → InHand g m b
in_hand_of g m b is s =
    let h = batch_in_hand g m b m.log (subst (λ hand. HandIsSound g m hand m.log) is s.in_hand) in
    record {
      log = h.0;
      some = h.1;
      held = h.2;
      kept = subst₂ (λ p l. LogIsHeld g m.kinds m.clean m.trimmed (reserved_by b).count p l) h.2.phase h.1 (subst (λ hand. LogIsHeld g m.kinds m.clean m.trimmed (reserved hand).count m.phase m.log) is s.log);
    }

-- other kinds, another hand and log, and a log that is clean or not
abbrev pub worked : Memory → List Kind → Hand → Option Generation → Bool → Memory
worked m table hand log clean = record m { kinds = table; hand = hand; log = log; clean = clean }

pub worked_sound : (g : Geometry) (m : Memory) (table : List Kind) (hand : Hand) (some : Option Generation) (clean : Bool) (log : Generation) → m.phase ≡ Checkpoint → some ≡ Some log → IsTable g table
    → LogIsSound g table clean m.trimmed (reserved hand).count log → HandIsSound g (worked m table hand some clean) hand (Some log) → MemoryIsSound g m → MemoryIsSound g (worked m table hand some clean)
worked_sound g m table hand some clean log phase is is_table kept held s = record {
  sizes = s.sizes;
  table = is_table;
  few = s.few;
  requests = s.requests;
  rising = s.rising;
  log = subst₂ (λ p l. LogIsHeld g table clean m.trimmed (reserved hand).count p l) (sym phase) (sym is) kept;
  in_hand = subst (λ l. HandIsSound g (worked m table hand some clean) hand l) (sym is) held;
}

-- with nothing in hand, a request is answered, if there is one
pub answered_for_sound : (g : Geometry) (m : Memory) (found : Option Request) (outcome : Request → Outcome) (happens : Request → List Event) → m.hand ≡ Empty → MemoryIsSound g m
    → MemoryIsSound g (answered_for m found outcome happens).memory
answered_for_sound g m None outcome happens empty s = s
answered_for_sound g m (Some r) outcome happens empty s =
    sound_requests g m (without_request r.ticket m.requests) (few_without r.ticket m.requests s.few) (waiting_without g r.ticket m.requests s.requests) (rising_without r.ticket m.requests s.rising)
    (waits_without g m r.ticket m.hand (empty_not_in_hand m.hand r.ticket empty)) s

-- the blocks that a job picked
pub record PicksAre (g : Geometry) (table : List Kind) (e : Extent) : Type 0 where
  pub inside : e.first + e.count ≤ g.blocks
  pub backups : (j : ℕ) → j < e.count → kind_at table (e.first + j) ≡ Backup

picks_are : (g : Geometry) (table : List Kind) (clean : Bool) (log : Generation) (job : Job) (done : ℕ) (slots : List (List ℕ)) → JobIsReady g table clean log job done slots → PicksAre g table (picks job)
picks_are g table clean log Rewrite done slots h = record { inside = omega arith; backups = λ j below. absurd (omega arith) }
picks_are g table clean log (Link dest) done slots (h, c) = record { inside = omega (arith, h.inside); backups = λ j below. let there : dest + j ≡ dest = omega arith in ap (kind_at table) there ∙ h.kind }
picks_are g table clean log (Copy source dest count) done slots (h, c) = record { inside = h.dest_inside; backups = h.dests }
picks_are g table clean log (Move from to) done slots (h, c) = record { inside = omega (arith, h.inside); backups = λ j below. let there : to + j ≡ to = omega arith in ap (kind_at table) there ∙ h.kind }

-- the job's log write
job_change : (g : Geometry) (table : List Kind) (clean : Bool) (trimmed : ℕ) (log : Generation) (job : Job) (slots : List (List ℕ)) → IsValid g → IsTable g table → JobIsReady g table clean log job (lead job) slots
    → LogIsSound g table clean trimmed (picks job).count log → LogChange g table trimmed log job slots
job_change g table clean trimmed log Rewrite slots sizes is h k = rewrite_change g table clean trimmed log slots sizes is k
job_change g table clean trimmed log (Link dest) slots sizes is (h, c) k = link_change g table clean trimmed log slots sizes is dest h k
job_change g table clean trimmed log (Copy source dest count) slots sizes is (h, c) k =
    copy_change g table clean trimmed log slots sizes is source dest count (subst (λ n. CopyIsReady g table log source dest count n slots) (lead_copy source dest count) h) k
job_change g table clean trimmed log (Move from to) slots sizes is (h, c) k = move_change g table clean trimmed log slots sizes is from to h k

-- the blocks that a batch that has begun saves
abbrev pub TakesNow : Batch → ℕ → Type 0
TakesNow b x = (0 < b.progress.done) × InSaved b.progress.job x

-- the log is the same
pub same_log : (g : Geometry) (table new_table : List Kind) (log : Option Generation) (old new : Generation) → log ≡ Some old → log ≡ Some new → LogGoesOn g table new_table old new
same_log g table new_table log old new was is =
    let e : Some old ≡ Some new = sym was ∙ is in
    let same : new ≡ old = let back : old ≡ new = cc e in sym back in
    record { sequence = inl (ap (λ (l : Generation). l.sequence) same); copies = inl (ap (copies_in g) same) }

-- what was saved and is changed is touched all the same
unsaved_touched : (k : Kind) → is_touched (unsaved k) ≡ is_touched k
unsaved_touched Saved = refl
unsaved_touched Sector0 = refl
unsaved_touched Current = refl
unsaved_touched Unchanged = refl
unsaved_touched Free = refl
unsaved_touched Changed = refl
unsaved_touched Backup = refl

-- the next act of this batch writes this log
abbrev pub WritesNow : Batch → Generation → Generation → Type 0
WritesNow b old new = (next_act b.progress ≡ WriteLog) × (new ≡ log_for b.progress.job b.slots old)

-- one log is the other
pub same_is : (log : Option Generation) (old new : Generation) → log ≡ Some old → log ≡ Some new → new ≡ old
same_is log old new was is = let e : Some old ≡ Some new = sym was ∙ is in let same : old ≡ new = cc e in sym same

unsaved_still : (k : Kind) → is_touched k ≡ true → IsTouchedStill k (unsaved k)
unsaved_still Saved is = inr (refl, refl)
unsaved_still Changed is = inl refl
unsaved_still Sector0 is = absurd (false≢true is)
unsaved_still Current is = absurd (false≢true is)
unsaved_still Unchanged is = absurd (false≢true is)
unsaved_still Free is = absurd (false≢true is)
unsaved_still Backup is = absurd (false≢true is)

-- a job that saves blocks has acts before its log
lead_some : (job : Job) (x : ℕ) → InSaved job x → 0 < lead job
lead_some Rewrite x h = absurd h
lead_some (Link dest) x h = absurd h
lead_some (Copy source dest count) x h = omega (arith, lead_copy source dest count)
lead_some (Move from to) x h = omega arith

-- an act of a batch that failed: with nothing in hand, the write for which it was formed is answered
pub record BatchFails (g : Geometry) (m : Memory) (b : Batch) (step : Step) : Type 0 where
  pub left : Memory
  pub is : step ≡ answered_for left (request_of b.ticket m.requests) fault_after (fault_events g)
  pub sound : MemoryIsSound g left
  pub empty : left.hand ≡ Empty
  pub requests : left.requests ≡ m.requests
  pub saved : (x : ℕ) → kind_at left.kinds x ≡ Saved → (kind_at m.kinds x ≡ Saved) ⊎ TakesNow b x
  pub touched : (x : ℕ) → is_touched (kind_at left.kinds x) ≡ true → (is_touched (kind_at m.kinds x) ≡ true) ⊎ TakesNow b x
  pub goes_on : (old new : Generation) → m.log ≡ Some old → left.log ≡ Some new → LogGoesOn g m.kinds left.kinds old new
  pub written : (old new : Generation) → m.log ≡ Some old → left.log ≡ Some new → (new ≡ old) ⊎ WritesNow b old new
  pub stays : (x : ℕ) → is_touched (kind_at m.kinds x) ≡ true → IsTouchedStill (kind_at m.kinds x) (kind_at left.kinds x)

-- an act of a batch that was done: fewer acts are left, and as many free blocks
pub record BatchGoes (g : Geometry) (m : Memory) (b : Batch) (step : Step) : Type 0 where
  pub left : Memory
  pub is : step ≡ moved left []
  pub sound : MemoryIsSound g left
  pub requests : left.requests ≡ m.requests
  pub free : count_of is_free left.kinds ≡ count_of is_free m.kinds
  pub plain : has_command left.hand ≡ false
  pub acts : acts_left left.hand left.clean < acts_left (Batching b) m.clean
  pub saved : (x : ℕ) → kind_at left.kinds x ≡ Saved → (kind_at m.kinds x ≡ Saved) ⊎ TakesNow b x
  pub touched : (x : ℕ) → is_touched (kind_at left.kinds x) ≡ true → (is_touched (kind_at m.kinds x) ≡ true) ⊎ TakesNow b x
  pub goes_on : (old new : Generation) → m.log ≡ Some old → left.log ≡ Some new → LogGoesOn g m.kinds left.kinds old new
  pub written : (old new : Generation) → m.log ≡ Some old → left.log ≡ Some new → (new ≡ old) ⊎ WritesNow b old new
  pub stays : (x : ℕ) → is_touched (kind_at m.kinds x) ≡ true → IsTouchedStill (kind_at m.kinds x) (kind_at left.kinds x)

module _ (g : Geometry) (m : Memory) (b : Batch) (s : MemoryIsSound g m) (i : InHand g m b) where
  abbrev job : Job
  job = b.progress.job

  abbrev done : ℕ
  done = b.progress.done

  progress_is : b.progress ≡ running job done
  progress_is = let at : Bool → Progress = λ failed. record { job = job; done = done; failed = failed } in ap at i.held.runs

  after_is : (ok : Bool) → after_act b.progress ok ≡ after_act (running job done) ok
  after_is ok = ap (λ p. after_act p ok) progress_is

  pub act_is : next_act b.progress ≡ next_act (running job done)
  act_is = ap next_act progress_is

  abbrev the_call : Call
  the_call = call_of_act g m b (next_act b.progress)

  ready : done ≤ lead job → JobIsReady g m.kinds m.clean i.log job done b.slots
  ready early = i.held.before early

  -- what is reserved, before the log was given and after that
  reserves_picks : done ≤ lead job → (reserved_by b).count ≡ (picks job).count
  reserves_picks early = let none : Extent = record { first = 0; count = 0 } in ap (λ given. (cond given none (picks job)).count) (not_tried job done early)

  kept_picks : done ≤ lead job → LogIsSound g m.kinds m.clean m.trimmed (picks job).count i.log
  kept_picks early = subst (λ n. LogIsSound g m.kinds m.clean m.trimmed n i.log) (reserves_picks early) i.kept

  kept_none : done ≡ lead job + 1 → LogIsSound g m.kinds m.clean m.trimmed 0 i.log
  kept_none late =
      let none : Extent = record { first = 0; count = 0 } in
      subst (λ n. LogIsSound g m.kinds m.clean m.trimmed n i.log) (ap (λ d. (cond (log_tried job d) none (picks job)).count) late ∙ ap (λ given. (cond given none (picks job)).count) (tried job (lead job) (omega arith))) i.kept

  -- ----------------------------------------------------------------------------------------------------------------
  -- Before the log.

  pub goes_on : done < lead job → GoesOn g m.kinds m.clean i.log job done b.slots the_call
  goes_on below = subst (λ a. GoesOn g m.kinds m.clean i.log job done b.slots (call_of_act g m b a)) (sym act_is)
      (lead_goes g m m.kinds m.clean i.log b.slots b.ticket s.sizes i.kept.generation.current_inside i.held.blocks job done below (ready (omega arith)))

  -- the batch has one act more done, and this buffer
  abbrev with_slots : List (List ℕ) → Batch
  with_slots slots = record { progress = record { job = job; done = done + 1; failed = false }; slots = slots; ticket = b.ticket }

  stays_for : (n : Memory) → n.phase ≡ m.phase → n.requests ≡ m.requests → ((x : ℕ) → may_be_written (kind_at m.kinds x) ≡ false → may_be_written (kind_at n.kinds x) ≡ false)
      → IsForWrite g n job b.ticket
  stays_for n phase requests kinds = for_write_in g m n job b.ticket phase (λ w. ap (request_of b.ticket) requests ∙ w.waits) (λ x on. kinds x) i.held.for_write

  going_sound : done < lead job → (slots : List (List ℕ)) → Each (λ v. length v ≡ g.block_size) slots → JobIsReady g m.kinds m.clean i.log job (done + 1) slots
      → MemoryIsSound g (record m { hand = Batching (with_slots slots) })
  going_sound below slots blocks ready_next =
      worked_sound g m m.kinds (Batching (with_slots slots)) m.log m.clean i.log i.held.phase i.some s.table
      (subst (λ n. LogIsSound g m.kinds m.clean m.trimmed n i.log) (sym reserves_next) (kept_picks (omega arith)))
      (record {
        phase = i.held.phase;
        for_write = stays_for (record m { hand = Batching (with_slots slots) }) refl refl (λ x held. held);
        runs = refl;
        so_far = omega arith;
        blocks = blocks;
        before = λ early. ready_next;
        after = λ late. absurd (omega arith);
      }) s
    where
      reserves_next : (reserved_by (with_slots slots)).count ≡ (picks job).count
      reserves_next = let none : Extent = record { first = 0; count = 0 } in ap (λ given. (cond given none (picks job)).count) (not_tried job (done + 1) (omega arith))

  more_done : length (acts job) ≡ lead job + 2
  more_done = length-acts job

  -- an act before the log, with this in the buffer after it
  went : done < lead job → (reply : Reply) (slots : List (List ℕ)) → batch_step g m b reply ≡ moved (record m { hand = Batching (with_slots slots) }) [] → MemoryIsSound g (record m { hand = Batching (with_slots slots) })
      → BatchGoes g m b (batch_step g m b reply)
  went below reply slots is sound = record {
    left = record m { hand = Batching (with_slots slots) };
    is = is;
    sound = sound;
    requests = refl;
    free = refl;
    plain = refl;
    acts = omega (arith, more_done, below);
    saved = λ x is. inl is;
    touched = λ x is. inl is;
    goes_on = same_log g m.kinds m.kinds m.log;
    written = λ old new was is. inl (same_is m.log old new was is);
    stays = λ x is. inl refl;
  }

  going : done < lead job → (reply : Reply) → CanHave g the_call reply → (ok : reply ≢ Failed) → BatchGoes g m b (batch_step g m b reply)
  going below Failed can ok = absurd (ok refl)
  going below Succeeded can ok = went below Succeeded b.slots (ap (λ a. moved (batch_after m b Succeeded a) []) (after_is true ∙ lead_done job done below)) (from the_call (goes_on below) can)
    where
      from : (call : Call) → GoesOn g m.kinds m.clean i.log job done b.slots call → CanHave g call Succeeded → MemoryIsSound g (record m { hand = Batching (with_slots b.slots) })
      from (ReadCall x) goes can = absurd can
      from (WriteCall x v) goes can = going_sound below b.slots i.held.blocks goes.1
      from FlushCall goes can = going_sound below b.slots i.held.blocks goes
  going below (Gave v) can ok = went below (Gave v) (b.slots ++ v ∷ []) (ap (λ a. moved (batch_after m b (Gave v) a) []) (after_is true ∙ lead_done job done below)) (from the_call (goes_on below) can)
    where
      from : (call : Call) → GoesOn g m.kinds m.clean i.log job done b.slots call → CanHave g call (Gave v) → MemoryIsSound g (record m { hand = Batching (with_slots (b.slots ++ v ∷ [])) })
      from (ReadCall x) goes can = going_sound below (b.slots ++ v ∷ []) (each_append (λ u. length u ≡ g.block_size) b.slots (v ∷ []) i.held.blocks (can, tt)) (goes.1 v)
      from (WriteCall x u) goes can = absurd can
      from FlushCall goes can = absurd can

  -- the picked blocks are given up
  given_up_sound : done ≤ lead job → MemoryIsSound g (given_up m job)
  given_up_sound early =
      let p = picks_are g m.kinds m.clean i.log job done b.slots (ready early) in
      worked_sound g m (with_kind m.kinds (picks job) Free) Empty m.log m.clean i.log i.held.phase i.some
      (spare_table g m.kinds (picks job) Backup Free s.table p.inside p.backups (inr refl) (inl refl))
      (subst (λ n. LogIsSound g (with_kind m.kinds (picks job) Free) m.clean m.trimmed n i.log) none
      (spare_log g m.kinds (picks job) Backup Free s.table p.inside p.backups (inr refl) (inl refl) m.clean m.trimmed 0 i.log (subst (λ n. LogIsSound g m.kinds m.clean m.trimmed n i.log) all (kept_picks early)))) tt s
    where
      all : (picks job).count ≡ 0 + (picks job).count * 1
      all = omega arith

      none : 0 + (picks job).count * 0 ≡ 0
      none = omega arith

  lead_fails : done < lead job → BatchFails g m b (batch_step g m b Failed)
  lead_fails below = record {
    left = given_up m job;
    is = ap (λ a. answered_for (batch_after m b Failed a) (request_of b.ticket m.requests) fault_after (fault_events g)) (after_is false ∙ lead_failed job done below);
    sound = given_up_sound (omega arith);
    empty = refl;
    requests = refl;
    saved = λ x is. let p = picks_are g m.kinds m.clean i.log job done b.slots (ready (omega arith)) in elim (respared g m.kinds (picks job) Backup Free s.table p.inside p.backups (inr refl) (inl refl) x) [
      | inl now ↦ absurd (let clash : Free ≡ Saved = sym now.1 ∙ is in grind arith)
      | inr same ↦ inl (sym same ∙ is)
    ];
    touched = λ x is. let p = picks_are g m.kinds m.clean i.log job done b.slots (ready (omega arith)) in elim (respared g m.kinds (picks job) Backup Free s.table p.inside p.backups (inr refl) (inl refl) x) [
      | inl now ↦ absurd (false≢true (ap is_touched (sym now.1) ∙ is))
      | inr same ↦ inl (ap is_touched (sym same) ∙ is)
    ];
    goes_on = same_log g m.kinds (with_kind m.kinds (picks job) Free) m.log;
    written = λ old new was is. inl (same_is m.log old new was is);
    stays = λ x is. let p = picks_are g m.kinds m.clean i.log job done b.slots (ready (omega arith)) in elim (respared g m.kinds (picks job) Backup Free s.table p.inside p.backups (inr refl) (inl refl) x) [
      | inl now ↦ absurd (false≢true (ap is_touched (sym now.0) ∙ is))
      | inr same ↦ inl same
    ];
  }

  -- ----------------------------------------------------------------------------------------------------------------
  -- The log write.

  at_log : done ≡ lead job → next_act b.progress ≡ WriteLog
  at_log at = act_is ∙ ap (λ d. next_act (running job d)) at ∙ log_act job

  pub log_call : done ≡ lead job → the_call ≡ WriteCall 0 (spelling g (log_for job b.slots i.log))
  log_call at = ap (call_of_act g m b) (at_log at) ∙ ap (λ l. WriteCall 0 (spelling g (log_or_blank (option_map (log_for job b.slots) l)))) i.some

  pub change : done ≡ lead job → LogChange g m.kinds m.trimmed i.log job b.slots
  change at = job_change g m.kinds m.clean m.trimmed i.log job b.slots s.sizes s.table (subst (λ d. JobIsReady g m.kinds m.clean i.log job d b.slots) at (ready (omega (arith, at)))) (kept_picks (omega (arith, at)))

  changed_log : option_map (log_for job b.slots) m.log ≡ Some (log_for job b.slots i.log)
  changed_log = ap (option_map (log_for job b.slots)) i.some

  log_sound : done ≡ lead job → MemoryIsSound g (record (changed m b) { hand = Batching (with_slots b.slots) })
  log_sound at =
      let c = change at in
      worked_sound g m (kinds_for job m.kinds) (Batching (with_slots b.slots)) (option_map (log_for job b.slots) m.log) false (log_for job b.slots i.log) i.held.phase changed_log c.is_table
      (subst (λ n. LogIsSound g (kinds_for job m.kinds) false m.trimmed n (log_for job b.slots i.log)) (sym reserves_none) c.sound)
      (record {
        phase = i.held.phase;
        for_write = stays_for (record (changed m b) { hand = Batching (with_slots b.slots) }) refl refl c.kept_back;
        runs = refl;
        so_far = omega (arith, at);
        blocks = i.held.blocks;
        before = λ early. absurd (omega (arith, at, early));
        after = λ late. refl;
      }) s
    where
      reserves_none : (reserved_by (with_slots b.slots)).count ≡ 0
      reserves_none = let none : Extent = record { first = 0; count = 0 } in ap (λ given. (cond given none (picks job)).count) (tried job done (omega (arith, at)))

  log_saved : done ≡ lead job → (x : ℕ) → kind_at (kinds_for job m.kinds) x ≡ Saved → (kind_at m.kinds x ≡ Saved) ⊎ TakesNow b x
  log_saved at x is = elim ((change at).saved x is) [ inl was ↦ inl was | inr takes ↦ inr (let some = lead_some job x takes in omega (arith, some, at), takes) ]

  log_touched : done ≡ lead job → (x : ℕ) → is_touched (kind_at (kinds_for job m.kinds) x) ≡ true → (is_touched (kind_at m.kinds x) ≡ true) ⊎ TakesNow b x
  log_touched at x is = elim ((change at).touched x is) [ inl was ↦ inl was | inr takes ↦ inr (let some = lead_some job x takes in omega (arith, some, at), takes) ]

  log_written : done ≡ lead job → (old new : Generation) → m.log ≡ Some old → option_map (log_for job b.slots) m.log ≡ Some new → (new ≡ old) ⊎ WritesNow b old new
  log_written at old new was is =
      let first : Some i.log ≡ Some old = sym i.some ∙ was in
      let second : Some (log_for job b.slots i.log) ≡ Some new = sym changed_log ∙ is in
      let one : i.log ≡ old = cc first in
      let two : log_for job b.slots i.log ≡ new = cc second in
      inr (at_log at, sym two ∙ ap (log_for job b.slots) one)

  log_goes_on : done ≡ lead job → (old new : Generation) → m.log ≡ Some old → option_map (log_for job b.slots) m.log ≡ Some new → LogGoesOn g m.kinds (kinds_for job m.kinds) old new
  log_goes_on at old new was is =
      let first : Some i.log ≡ Some old = sym i.some ∙ was in
      let second : Some (log_for job b.slots i.log) ≡ Some new = sym changed_log ∙ is in
      let one : i.log ≡ old = cc first in
      let two : log_for job b.slots i.log ≡ new = cc second in
      subst₂ (LogGoesOn g m.kinds (kinds_for job m.kinds)) one two (change at).goes_on

  log_goes : done ≡ lead job → BatchGoes g m b (batch_step g m b Succeeded)
  log_goes at = record {
    left = record (changed m b) { hand = Batching (with_slots b.slots) };
    is = ap (λ a. moved (batch_after m b Succeeded a) []) (after_is true ∙ ap (λ d. after_act (running job d) true) at ∙ log_done job);
    sound = log_sound at;
    requests = refl;
    free = (change at).free;
    plain = refl;
    acts = omega (arith, more_done, at);
    saved = log_saved at;
    touched = log_touched at;
    goes_on = log_goes_on at;
    written = log_written at;
    stays = λ x is. inl ((change at).stays x is);
  }

  log_fails : done ≡ lead job → BatchFails g m b (batch_step g m b Failed)
  log_fails at =
      let c = change at in
      record {
        left = record (changed m b) { hand = Empty };
        is =
            ap (λ a. answered_for (batch_after m b Failed a) (request_of b.ticket m.requests) fault_after (fault_events g)) (after_is false ∙ ap (λ d. after_act (running job d) false) at ∙ log_failed job)
            ∙ ap (λ a. answered_for (record (cond (is_log_write a) (changed m b) m) { hand = Empty }) (request_of b.ticket m.requests) fault_after (fault_events g)) (at_log at);
        sound = worked_sound g m (kinds_for job m.kinds) Empty (option_map (log_for job b.slots) m.log) false (log_for job b.slots i.log) i.held.phase changed_log c.is_table c.sound tt s;
        empty = refl;
        requests = refl;
        saved = log_saved at;
        touched = log_touched at;
        goes_on = log_goes_on at;
        written = log_written at;
        stays = λ x is. inl ((change at).stays x is);
      }

  -- ----------------------------------------------------------------------------------------------------------------
  -- The last flush.

  at_last : done ≡ lead job + 1 → next_act b.progress ≡ Flush
  at_last at = act_is ∙ ap (λ d. next_act (running job d)) at ∙ last_act job

  pub last_call : done ≡ lead job + 1 → the_call ≡ FlushCall
  last_call at = ap (call_of_act g m b) (at_last at)

  last_goes : done ≡ lead job + 1 → BatchGoes g m b (batch_step g m b Succeeded)
  last_goes at = record {
    left = cleaned m;
    is = ap (λ a. moved (batch_after m b Succeeded a) []) (after_is true ∙ ap (λ d. after_act (running job d) true) at ∙ last_done job);
    sound = worked_sound g m (map unsaved m.kinds) Empty m.log true i.log i.held.phase i.some (table_unsaved g m.kinds s.table) (clean_log g m.kinds m.clean m.trimmed i.log (kept_none at)) tt s;
    requests = refl;
    free = count_unsaved m.kinds is_free refl;
    plain = refl;
    acts = omega (arith, more_done, at);
    saved = λ x is. absurd (not_unsaved (kind_at m.kinds x) (sym (kind_unsaved m.kinds x) ∙ is));
    touched = λ x is. inl (sym (unsaved_touched (kind_at m.kinds x)) ∙ ap is_touched (sym (kind_unsaved m.kinds x)) ∙ is);
    goes_on = same_log g m.kinds (map unsaved m.kinds) m.log;
    written = λ old new was is. inl (same_is m.log old new was is);
    stays = λ x is. subst (IsTouchedStill (kind_at m.kinds x)) (sym (kind_unsaved m.kinds x)) (unsaved_still (kind_at m.kinds x) is);
  }

  last_fails : done ≡ lead job + 1 → BatchFails g m b (batch_step g m b Failed)
  last_fails at = record {
    left = record m { hand = Empty };
    is =
        ap (λ a. answered_for (batch_after m b Failed a) (request_of b.ticket m.requests) fault_after (fault_events g)) (after_is false ∙ ap (λ d. after_act (running job d) false) at ∙ last_failed job)
        ∙ ap (λ a. answered_for (record (cond (is_log_write a) (changed m b) m) { hand = Empty }) (request_of b.ticket m.requests) fault_after (fault_events g)) (at_last at);
    sound = worked_sound g m m.kinds Empty m.log m.clean i.log i.held.phase i.some s.table (kept_none at) tt s;
    empty = refl;
    requests = refl;
    saved = λ x is. inl is;
    touched = λ x is. inl is;
    goes_on = same_log g m.kinds m.kinds m.log;
    written = λ old new was is. inl (same_is m.log old new was is);
    stays = λ x is. inl refl;
  }

  -- ----------------------------------------------------------------------------------------------------------------

  -- before the log, at the log, or at the last flush
  pub stage : (done < lead job) ⊎ ((done ≡ lead job) ⊎ (done ≡ lead job + 1))
  stage = elim (cases_lt done (lead job)) [
    | inl before ↦ inl before
    | inr past ↦ elim (cases_eq done (lead job)) [ inl at ↦ inr (inl at) | inr ne ↦ inr (inr (omega (arith, i.held.so_far, past, ne))) ]
  ]

  -- An act that failed.
  pub batch_fails : BatchFails g m b (batch_step g m b Failed)
  batch_fails = elim stage [ inl before ↦ lead_fails before | inr (inl at) ↦ log_fails at | inr (inr last) ↦ last_fails last ]

  -- An act that was done.
  pub batch_goes : (reply : Reply) → CanHave g the_call reply → reply ≢ Failed → BatchGoes g m b (batch_step g m b reply)
  batch_goes Failed can ok = absurd (ok refl)
  batch_goes Succeeded can ok = elim stage [ inl before ↦ going before Succeeded can ok | inr (inl at) ↦ log_goes at | inr (inr last) ↦ last_goes last ]
  batch_goes (Gave v) can ok = elim stage [
    | inl before ↦ going before (Gave v) can ok
    | inr (inl at) ↦ absurd (subst (λ call. CanHave g call (Gave v)) (log_call at) can)
    | inr (inr last) ↦ absurd (subst (λ call. CanHave g call (Gave v)) (last_call last) can)
  ]

  -- The call of an act.
  pub batch_call : IsOnDevice g (Some the_call)
  batch_call = elim stage [
    | inl before ↦ from the_call (goes_on before)
    | inr (inl at) ↦ subst (λ call. IsOnDevice g (Some call)) (sym (log_call at)) (omega (arith, s.sizes.enough), spelling_length g (log_for job b.slots i.log) s.sizes (change at).sound.generation.few)
    | inr (inr last) ↦ subst (λ call. IsOnDevice g (Some call)) (sym (last_call last)) tt
  ]
    where
      from : (call : Call) → GoesOn g m.kinds m.clean i.log job done b.slots call → IsOnDevice g (Some call)
      from (ReadCall x) goes = goes.0
      from (WriteCall x v) goes = goes.0
      from FlushCall goes = tt
