-- Each act of a batch that does not fail leads to a machine that is led.
use Rattle.std.proofs.Common.{ℕ, zero, suc, ◌+◌, ◌-◌, ◌*◌, ◌<◌, ◌≤◌, ◌≡◌, ◌≢◌, Bool, true, false, List, [], ◌∷◌, ◌++◌, length, map, Some, None, arith, refl, sym, ap, ◌∙◌, subst, inl, inr, Contains}
use Rattle.std.proofs.lemmas.Bool.{cases_eq, cases_lt}
use Rattle.bow_units.specs.Sizes.{IsValid}
use Rattle.bow_units.specs.declared.sizes.Geometry.{Geometry}
use Rattle.bow_units.specs.declared.requests.Phase.TheVariants.{Checkpoint}
use Rattle.bow_units.specs.declared.statuses.Kind.{Kind}
use Rattle.bow_units.specs.declared.statuses.Kind.TheVariants.{Sector0, Current, Backup, Saved}
use Rattle.bow_log.specs.Generations.{Generation}
use Rattle.bow_chain.specs.Contents.{Contents}
use Rattle.bow_chain.specs.Sound.{log_in}
use Rattle.bow_chain.proofs.Counting.{some_inj}
use Rattle.bow_copy.specs.Acts.{next_act}
use Rattle.bow_copy.specs.declared.jobs.Job.{Job}
use Rattle.bow_copy.specs.declared.jobs.Job.TheVariants.{Rewrite, Link, Copy, Move}
use Rattle.bow_copy.specs.declared.jobs.Act.{Act}
use Rattle.bow_copy.specs.declared.jobs.Act.TheVariants.{Read, Write, Flush, WriteLog, End}
use Rattle.bow_flat.specs.Flat.{Flat, May}
use Rattle.bow_guard.specs.Cuts.{Candidates}
use Rattle.bow_guard.proofs.Device.{one_of}
use Rattle.bow_guard.specs.Device.{unsaved}
use Rattle.bow_queue.specs.declared.tickets.Ticket.{Ticket}
use Rattle.bow_ranges.specs.Kinds.{kind_at, with_kind}
use Rattle.bow_machine.specs.Memory.{Memory, Batch, Empty, Batching}
use Rattle.bow_machine.specs.Calls.{Call, Reply, Failed, Succeeded, Gave, Does, WriteCall, FlushCall}
use Rattle.bow_machine.specs.Tasks.{spelling}
use Rattle.bow_machine.specs.Steps.{Moved, one_block, log_for, kinds_for, batch_step, call_of_act}
use Rattle.bow_machine.proofs.Held.{IsKept, CopyHeld, JobHeld, BatchHeld, IsHeld}
use Rattle.bow_machine.specs.Ahead.{Shows0, IsPlace0, IsLedIn}
use Rattle.bow_machine.proofs.Tables.{length_with}
use Rattle.bow_machine.proofs.BatchActs.{lead, running, log_act, last_act, lead_copy, copy_reads, copy_writes, copy_flush}
use Rattle.bow_machine.proofs.BatchStands.{working}
use Rattle.bow_machine.proofs.BatchSteps.{batch_at, batching, at_work, logged, lead_succeeded, lead_gave, log_succeeded, last_succeeded}
use Rattle.bow_machine.proofs.AheadLeads.{place_with_kind, hidden_written, zeroth_written, flushed_so, flushed_led}
use Rattle.bow_machine.proofs.AheadSteps.{Stands, LedAfter, StepLed, not_failed, disk_led}

backup_current : (k : Kind) → k ≡ Backup → k ≢ Current
backup_current k is e = grind arith

backup_sector0 : (k : Kind) → k ≡ Backup → k ≢ Sector0
backup_sector0 k is e = grind arith

current_sector0 : (k : Kind) → k ≡ Current → k ≢ Sector0
current_sector0 k is e = grind arith

module _ (g : Geometry) (sizes : IsValid g) (m : Memory) (t : Ticket) (log : Generation) (f : Flat) (now new_now : Contents) (may new_may : Candidates) (held : (b : ℕ) → b < g.blocks → Contains (may b) (now b)) where
  -- the machine is led in Checkpoint, with the kinds of m and this log
  abbrev pub LedAt : List Kind → Generation → Contents → Candidates → Type 0
  LedAt kinds o i j = IsLedIn g Checkpoint kinds (Some o) i j f.pending

  -- ----------------------------------------------------------------------------------------------------------------
  -- Before the log.

  module _ (job : Job) (done : ℕ) (slots : List (List ℕ)) (below : done < lead job) (led : kind_at m.kinds log.current ≡ Current → LedAt m.kinds log now may) where
    -- the batch after its act, with this buffer
    abbrev Further : List (List ℕ) → Type 0
    Further buffer = IsHeld g (at_work m job (done + 1) buffer t log) new_now new_may f

    -- what the act has to be: no log is written, and what is written was picked
    abbrev IsLead : Act → Type 0
    IsLead (Read b slot) = Unit {0}
    IsLead (Write b slot) = (b < g.blocks) × (kind_at m.kinds b ≡ Backup)
    IsLead Flush = Unit {0}
    IsLead WriteLog = ⊥
    IsLead End = ⊥

    abbrev call : Act → Call
    call act = call_of_act g (at_work m job done slots t log) (batch_at job done slots t) act

    act_led : (act : Act) → IsLead act → (reply : Reply) → Does g (call act) reply now may new_now new_may → (reply ≡ Failed → Some (call act) ≡ None)
        → StepLed g new_now new_may f (batch_step g (at_work m job done slots t log) (batch_at job done slots t) reply)
    act_led act is Failed does ok = not_failed (call act) Failed refl ok
    act_led (Read b slot) is (Gave v) does ok = subst (StepLed g new_now new_may f) (sym (lead_gave g m job slots t log done below v))
        (λ new. disk_led g Checkpoint m.kinds (Some log) f.pending now new_now may new_may does.1 does.2 (led (new.kept).sound.current))
    act_led (Read b slot) is Succeeded does ok = absurd does
    act_led (Write b slot) is Succeeded does ok = subst (StepLed g new_now new_may f) (sym (lead_succeeded g m job slots t log done below)) written
      where
        written : StepLed g new_now new_may f (record { memory = at_work m job (done + 1) slots t log; told = Moved; events = [] })
        written new =
            let k : IsKept g (at_work m job (done + 1) slots t log) new_now new_may f Checkpoint log = new.kept in
            hidden_written g sizes Checkpoint m.kinds (Some log) now new_now may new_may f.pending b _ does.0.given (led k.sound.current)
            (λ z. backup_sector0 (kind_at m.kinds b) is.1 (ap (kind_at m.kinds) z ∙ new.memory.table.zeroth)) refl is.1 (k.hidden b is.0 (inr (inl is.1))).1
            (λ o some e. backup_current (kind_at m.kinds b) is.1 (ap (kind_at m.kinds) (sym e ∙ ap (λ (x : Generation). x.current) (sym (some_inj some))) ∙ k.sound.current))
    act_led (Write b slot) is (Gave v) does ok = absurd does
    act_led Flush is Succeeded does ok = subst (StepLed g new_now new_may f) (sym (lead_succeeded g m job slots t log done below)) flushed
      where
        flushed : StepLed g new_now new_may f (record { memory = at_work m job (done + 1) slots t log; told = Moved; events = [] })
        flushed new =
            let k : IsKept g (at_work m job (done + 1) slots t log) new_now new_may f Checkpoint log = new.kept in
            disk_led g Checkpoint m.kinds (Some log) f.pending now new_now new_may new_may does.0 refl
            (flushed_so g sizes Checkpoint m.kinds (Some log) now may new_may f.pending held does.1 (λ o some. subst (λ (x : Generation). x.current < g.blocks) (some_inj some) k.sound.generation.current_inside) (led k.sound.current))
    act_led Flush is (Gave v) does ok = absurd does
    act_led WriteLog is reply does ok = absurd is
    act_led End is reply does ok = absurd is

    -- what is in hand after it
    further : (reply : Reply) → (reply ≡ Failed → ⊥) → Stands g new_now new_may f (batch_step g (at_work m job done slots t log) (batch_at job done slots t) reply) → (buffer : List (List ℕ)) × Further buffer
    further Failed ok new = absurd (ok refl)
    further Succeeded ok new = (slots, subst (Stands g new_now new_may f) (lead_succeeded g m job slots t log done below) new)
    further (Gave v) ok new = (slots ++ v ∷ [], subst (Stands g new_now new_may f) (lead_gave g m job slots t log done below v) new)

    -- and of its job
    job_further : (reply : Reply) → (reply ≡ Failed → ⊥) → Stands g new_now new_may f (batch_step g (at_work m job done slots t log) (batch_at job done slots t) reply)
        → (buffer : List (List ℕ)) × JobHeld g (at_work m job (done + 1) buffer t log) log job (done + 1) buffer new_now new_may
    job_further reply ok new = let more = further reply ok new in (more.0, (more.1.in_hand).before (omega (arith, below)))

  -- the disk does what the next act asks for
  abbrev Acted : Job → ℕ → List (List ℕ) → Reply → Type 0
  Acted job done slots reply = Does g (call_of_act g (at_work m job done slots t log) (batch_at job done slots t) (next_act (running job done))) reply now may new_now new_may

  -- and that has not failed
  abbrev Unfailed : Job → ℕ → List (List ℕ) → Reply → Type 0
  Unfailed job done slots reply = reply ≡ Failed → Some (call_of_act g (at_work m job done slots t log) (batch_at job done slots t) (next_act (running job done))) ≡ None

  abbrev StepOf : Job → ℕ → List (List ℕ) → Reply → Type 0
  StepOf job done slots reply = StepLed g new_now new_may f (batch_step g (at_work m job done slots t log) (batch_at job done slots t) reply)

  -- an act before the log
  module _ (reply : Reply) (slots : List (List ℕ)) where
    copy_led : (source dest count done : ℕ) → done < lead (Copy source dest count) → (kind_at m.kinds log.current ≡ Current → LedAt m.kinds log now may)
        → Acted (Copy source dest count) done slots reply → Unfailed (Copy source dest count) done slots reply → StepOf (Copy source dest count) done slots reply
    copy_led source dest count done below led does ok new =
        elim (cases_lt done count) [
          | inl reading ↦ by_act (Read (source + done) done) tt (copy_reads source dest count done reading (omega (arith, h.ready.source_inside, sizes.few, reading)))
          | inr past ↦ elim (cases_lt done (2 * count)) [
            | inl writing ↦
                let i = done - count in
                let at : done ≡ count + i = omega (arith, past) in
                let under : i < count = omega (arith, past, writing) in
                by_act (Write (dest + i) i) (omega (arith, h.ready.dest_inside, under), h.ready.dests i under)
                (ap (λ d. next_act (running (Copy source dest count) d)) at ∙ copy_writes source dest count i under (omega (arith, h.ready.dest_inside, sizes.few, under)))
            | inr flushing ↦
                let at : done ≡ 2 * count = omega (arith, flushing, below, lead_copy source dest count) in
                by_act Flush tt (ap (λ d. next_act (running (Copy source dest count) d)) at ∙ copy_flush source dest count)
          ]
        ]
      where
        fine : reply ≡ Failed → ⊥
        fine is = not_failed _ reply is ok

        h : CopyHeld g (at_work m (Copy source dest count) (done + 1) (job_further (Copy source dest count) done slots below led reply fine new).0 t log) log source dest count (done + 1) (job_further (Copy source dest count) done slots below led reply fine new).0 new_now new_may
        h = (job_further (Copy source dest count) done slots below led reply fine new).1.0

        by_act : (act : Act) → IsLead (Copy source dest count) done slots below led act → next_act (running (Copy source dest count) done) ≡ act
            → LedAfter g new_now new_may f (batch_step g (at_work m (Copy source dest count) done slots t log) (batch_at (Copy source dest count) done slots t) reply)
        by_act act lead is = act_led (Copy source dest count) done slots below led act lead reply
            (subst (λ a. Does g (call_of_act g (at_work m (Copy source dest count) done slots t log) (batch_at (Copy source dest count) done slots t) a) reply now may new_now new_may) is does)
            (λ e. absurd (fine e)) new

    pub lead_led : (job : Job) (done : ℕ) → done < lead job → (kind_at m.kinds log.current ≡ Current → LedAt m.kinds log now may) → Acted job done slots reply → Unfailed job done slots reply → StepOf job done slots reply
    lead_led Rewrite done below led does ok = absurd (omega arith)
    lead_led (Link dest) zero below led does ok = λ new.
        let h = (job_further (Link dest) 0 slots below led reply (λ is. not_failed _ reply is ok) new).1 in
        act_led (Link dest) 0 slots below led (Write dest 0) (h.0.ready.inside, h.0.ready.kind) reply does ok new
    lead_led (Link dest) (suc zero) below led does ok = act_led (Link dest) 1 slots below led Flush tt reply does ok
    lead_led (Link dest) (suc (suc n)) below led does ok = absurd (omega arith)
    lead_led (Copy source dest count) done below led does ok = copy_led source dest count done below led does ok
    lead_led (Move from to) zero below led does ok = act_led (Move from to) 0 slots below led (Read from 0) tt reply does ok
    lead_led (Move from to) (suc zero) below led does ok = λ new.
        let h = (job_further (Move from to) 1 slots below led reply (λ is. not_failed _ reply is ok) new).1 in
        act_led (Move from to) 1 slots below led (Write to 0) (h.0.ready.inside, h.0.ready.kind) reply does ok new
    lead_led (Move from to) (suc (suc zero)) below led does ok = act_led (Move from to) 2 slots below led Flush tt reply does ok
    lead_led (Move from to) (suc (suc (suc n))) below led does ok = absurd (omega arith)

  -- ----------------------------------------------------------------------------------------------------------------
  -- The log.

  module _ (slots : List (List ℕ)) (inside : log.current < g.blocks) (size : length m.kinds ≡ g.blocks) (l : LedAt m.kinds log now may) where
    abbrev LogHeld : Job → Type 0
    LogHeld job = JobHeld g (at_work m job (lead job) slots t log) log job (lead job) slots now may

    -- the places of block 0 before are so after it
    places : (job : Job) → LogHeld job → (x : ℕ) → IsPlace0 (kind_at m.kinds x) → IsPlace0 (kind_at (kinds_for job m.kinds) x)
    places Rewrite h x at = at
    places (Link dest) h x at = at
    places (Copy source dest count) h x at = place_with_kind m.kinds (record { first = source; count = count }) Saved x (omega (arith, h.0.ready.source_inside, size)) (inr refl) at
    places (Move from to) h x at =
        let fits : to + 1 ≤ length m.kinds = omega (arith, h.0.ready.inside, size) in
        let first : List Kind = with_kind m.kinds (one_block to) Current in
        let long : length first ≡ length m.kinds = length_with m.kinds (one_block to) Current fits in
        place_with_kind first (one_block from) Saved x (omega (arith, long, h.0.ready.from_current, inside, size)) (inr refl) (place_with_kind m.kinds (one_block to) Current x fits (inl refl) at)

    -- what the new log's current place may hold is pending
    shows : (job : Job) → LogHeld job → Shows0 may f.pending (log_for job slots log).current
    shows Rewrite h = l.current log refl
    shows (Link dest) h = l.current log refl
    shows (Copy source dest count) h = l.current log refl
    shows (Move from to) h = λ v has.
        let is : v ≡ now to = one_of (now to) v (subst (λ vs. Contains vs v) (h.0.durable (omega arith)) has) in
        subst (May (f.pending 0)) (sym (is ∙ h.0.wrote (omega arith) ∙ ap now h.0.ready.from_current)) (l.current log refl (now log.current) (held log.current inside))

    pub log_led : (job : Job) → LogHeld job → (reply : Reply) → Acted job (lead job) slots reply → Unfailed job (lead job) slots reply → StepOf job (lead job) slots reply
    log_led job h Failed does ok = not_failed _ Failed refl ok
    log_led job h Succeeded does ok = subst (StepLed g new_now new_may f) (sym (log_succeeded g m job slots t log)) given
      where
        wrote : Does g (WriteCall 0 (spelling g (log_for job slots log))) Succeeded now may new_now new_may
        wrote = subst (λ a. Does g (call_of_act g (at_work m job (lead job) slots t log) (batch_at job (lead job) slots t) a) Succeeded now may new_now new_may) (log_act job) does

        given : StepLed g new_now new_may f (record { memory = logged g m job slots t log (batching job (lead job + 1) slots t); told = Moved; events = [] })
        given new =
            let k : IsKept g (logged g m job slots t log (batching job (lead job + 1) slots t)) new_now new_may f Checkpoint (log_for job slots log) = new.kept in
            let spelled : log_in g (new_now 0) ≡ Some (log_for job slots log) = ((new.in_hand).after refl).0 in
            zeroth_written g sizes Checkpoint m.kinds (kinds_for job m.kinds) (Some log) (Some (log_for job slots log)) now new_now may new_may f.pending (spelling g (log_for job slots log)) wrote.0.given l (λ ne. absurd (ne refl)) (λ at. absurd (grind arith)) (places job h)
            (λ head magic spells.
            let same : log_for job slots log ≡ head = some_inj (sym spelled ∙ ap (log_in g) wrote.1 ∙ spells) in
            subst (λ (o : Generation). IsPlace0 (kind_at (kinds_for job m.kinds) o.current) × Shows0 may f.pending o.current) same (inl k.sound.current, shows job h))
            (λ o some. subst (λ (o : Generation). (o.current ≢ 0) × Shows0 may f.pending o.current) (some_inj some)
            (λ z. current_sector0 (kind_at (kinds_for job m.kinds) (log_for job slots log).current) k.sound.current (ap (kind_at (kinds_for job m.kinds)) z ∙ new.memory.table.zeroth), shows job h))
            (λ is o some. spelled ∙ some)
    log_led job h (Gave v) does ok = absurd (subst (λ a. Does g (call_of_act g (at_work m job (lead job) slots t log) (batch_at job (lead job) slots t) a) (Gave v) now may new_now new_may) (log_act job) does)

    -- the last flush
    last_led : (job : Job) (reply : Reply) → Acted job (lead job + 1) slots reply → Unfailed job (lead job + 1) slots reply → StepOf job (lead job + 1) slots reply
    last_led job Failed does ok = not_failed _ Failed refl ok
    last_led job Succeeded does ok = subst (StepLed g new_now new_may f) (sym (last_succeeded g m job slots t log)) ended
      where
        flushed : Does g FlushCall Succeeded now may new_now new_may
        flushed = subst (λ a. Does g (call_of_act g (at_work m job (lead job + 1) slots t log) (batch_at job (lead job + 1) slots t) a) Succeeded now may new_now new_may) (last_act job) does

        ended : StepLed g new_now new_may f (record { memory = working (record m { kinds = map unsaved m.kinds; clean = true }) Empty log; told = Moved; events = [] })
        ended new =
            let k : IsKept g (working (record m { kinds = map unsaved m.kinds; clean = true }) Empty log) new_now new_may f Checkpoint log = new.kept in
            disk_led g Checkpoint (map unsaved m.kinds) (Some log) f.pending now new_now new_may new_may flushed.0 refl
            (flushed_led g sizes Checkpoint (map unsaved m.kinds) log now new_may f.pending flushed.1 (l.led refl log refl) inside k.sound.current
            (λ b up on. l.others b up on (now b) (held b on)) (l.current log refl (now log.current) (held log.current inside)))
    last_led job (Gave v) does ok = absurd (subst (λ a. Does g (call_of_act g (at_work m job (lead job + 1) slots t log) (batch_at job (lead job + 1) slots t) a) (Gave v) now may new_now new_may) (last_act job) does)

    -- each act of a batch that is in hand
    at_led : (job : Job) (done : ℕ) (reply : Reply) → BatchHeld g (at_work m job done slots t log) (batch_at job done slots t) now may log → Acted job done slots reply → Unfailed job done slots reply → StepOf job done slots reply
    at_led job done reply h does ok = elim (cases_lt done (lead job)) [
      | inl before ↦ lead_led reply slots job done before (λ current. l) does ok
      | inr past ↦ elim (cases_eq done (lead job)) [
        | inl is ↦ subst Led (sym is) (λ h does ok. log_led job (h.before (omega arith)) reply does ok) h does ok
        | inr ne ↦
            let last : done ≡ lead job + 1 = omega (arith, h.so_far) in
            subst Led (sym last) (λ h does ok. last_led job reply does ok) h does ok
      ]
    ]
      where
        Led : ℕ → Type 0
        Led d = BatchHeld g (at_work m job d slots t log) (batch_at job d slots t) now may log → Acted job d slots reply → Unfailed job d slots reply → StepOf job d slots reply

module _ (g : Geometry) (m : Memory) (log : Generation) (f : Flat) (now new_now : Contents) (may new_may : Candidates) (reply : Reply) where
  -- the same of any batch: none that is in hand has failed
  pub batch_led : (b : Batch) → IsHeld g (working m (Batching b) log) now may f → IsLedIn g Checkpoint m.kinds (Some log) now may f.pending
      → Does g (call_of_act g (working m (Batching b) log) b (next_act b.progress)) reply now may new_now new_may → (reply ≡ Failed → Some (call_of_act g (working m (Batching b) log) b (next_act b.progress)) ≡ None)
      → StepLed g new_now new_may f (batch_step g (working m (Batching b) log) b reply)
  batch_led b s l does ok = subst Step_led (ap running_or (sym runs))
      (λ s does ok. at_led g s.memory.sizes m b.ticket log f now new_now may new_may s.held b.slots s.kept.sound.generation.current_inside s.memory.table.size l b.progress.job b.progress.done reply s.in_hand does ok) s does ok
    where
      runs : b.progress.failed ≡ false
      runs = (s.in_hand).runs

      running_or : Bool → Batch
      running_or failed = record { progress = record { job = b.progress.job; done = b.progress.done; failed = failed }; slots = b.slots; ticket = b.ticket }

      Step_led : Batch → Type 0
      Step_led c = IsHeld g (working m (Batching c) log) now may f → Does g (call_of_act g (working m (Batching c) log) c (next_act c.progress)) reply now may new_now new_may
          → (reply ≡ Failed → Some (call_of_act g (working m (Batching c) log) c (next_act c.progress)) ≡ None) → StepLed g new_now new_may f (batch_step g (working m (Batching c) log) c reply)
