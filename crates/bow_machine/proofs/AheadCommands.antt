-- A turn of the commands leads to a machine that is led.
use Rattle.std.proofs.Common.{ℕ, ◌<◌, ◌≡◌, ◌≢◌, Bool, true, false, cond, List, [], ◌∷◌, Option, Some, None, arith, refl, sym, ap, ◌∙◌, subst, inl, inr, Contains}
use Rattle.std.specs.Prelude.{nat_lt}
use Rattle.bow_units.specs.Magics.{HasMagic}
use Rattle.bow_units.specs.declared.sizes.Geometry.{Geometry}
use Rattle.bow_units.specs.declared.sizes.Extent.{Extent}
use Rattle.bow_units.specs.declared.requests.Op.{Op}
use Rattle.bow_units.specs.declared.requests.Op.TheVariants.{Read, Write, Discard, Flush, Prepare, Commit}
use Rattle.bow_units.specs.declared.requests.Outcome.{Outcome}
use Rattle.bow_units.specs.declared.requests.Outcome.TheVariants as outcomes
use Rattle.bow_units.specs.declared.requests.Phase.{Phase}
use Rattle.bow_units.specs.declared.requests.Phase.TheVariants.{Trim, Arming, Checkpoint, Deciding, Committed}
use Rattle.bow_log.specs.Generations.{Generation, IsGeneration}
use Rattle.bow_chain.specs.Contents.{Contents}
use Rattle.bow_chain.specs.Sound.{log_in}
use Rattle.bow_chain.proofs.Counting.{some_inj}
use Rattle.bow_flat.specs.Flat.{Flat, Event, May, narrowed}
use Rattle.bow_flat.specs.Flat.Event.{Arms, Prepares}
use Rattle.bow_guard.specs.Cuts.{Candidates, IsFlushed}
use Rattle.bow_guard.proofs.Device.{one_of}
use Rattle.bow_guard.proofs.Phases.{may_plain}
use Rattle.bow_queue.specs.declared.tickets.Ticket.{Ticket}
use Rattle.bow_ranges.specs.Kinds.{kind_at, is_free, count_of}
use Rattle.bow_ranges.specs.Picks.{picked}
use Rattle.bow_machine.specs.MemoryIsSound.{IsForCommand}
use Rattle.bow_machine.proofs.Known.{may_narrowed}
use Rattle.bow_machine.specs.Requests.{Request, request_of}
use Rattle.bow_machine.specs.Memory.{Memory, Hand, Empty, Batching, Preparing, Committing, PrepareAct, ReadsBlock0, WritesCurrent, WritesBackup, FlushesCopies, WritesFirstLog, FlushesFirstLog, CommitAct, FlushesAll, ReadsCurrent, WritesBlock0, FlushesDecision, place_of, place_with, has_command}
use Rattle.bow_machine.specs.Calls.{Reply, Failed, Succeeded, Gave, Does, DoesIt}
use Rattle.bow_machine.specs.Tasks.{Task, Waits, Answers, WritesBlock, ReadsBlock, FlushesFor, DiscardsFor, Acts, Command, prepare_on, without_picked, taken, first_of, take_first, command_task, task_of, spelling}
use Rattle.bow_machine.specs.Steps.{log_of_memory, log_or_blank, first_log, armed, call_of_prepare, prepare_step, call_of_commit, commit_step, released, answered_for, answered, moved, committing_events, act_step, call_in_hand}
use Rattle.bow_machine.specs.MemoryIsSound.{FoundIn}
use Rattle.bow_machine.proofs.Held.{PrepareHeld, CommitHeld, HandHeld, IsHeld}
use Rattle.bow_machine.specs.Ahead.{Shows0, IsPlace0, BeginsLog, IsLedIn, IsLed}
use Rattle.bow_machine.proofs.Spelled.{spelled}
use Rattle.bow_machine.proofs.BatchStands.{place_other}
use Rattle.bow_machine.proofs.Commands.{IsCommandTask, command_acts}
use Rattle.bow_machine.proofs.AheadLeads.{zeroth_written, flushed_so, flushed_led}
use Rattle.bow_machine.proofs.AheadSteps.{StepLed, plain_step, Leads, not_failed, disk_led, LogKept, log_in_checkpoint, log_in_arming, log_in_deciding}
use Rattle.bow_machine.proofs.AheadMapped.{nothing_leads, answer_leads}

-- in Deciding a block without a magic begins no log
begins_not : {A : Type 0} (v : List ℕ) → (HasMagic v → ⊥) → BeginsLog Deciding v → A
begins_not v plain (inl at) = absurd (grind arith)
begins_not v plain (inr magic) = absurd (plain magic)

module _ (g : Geometry) (m : Memory) (now new_now : Contents) (may new_may : Candidates) (f : Flat) (s : IsHeld g m now may f) (l : IsLed g m now may f) (t : Ticket) (op : Op) (waits : IsForCommand m.requests t op) where
  -- the request is answered: that of the command still waits
  answer_led : (n : Memory) (outcome : Request → Outcome) (happens : Request → List Event) → ((r : Request) → StepLed g new_now new_may f (answered n r (outcome r) (happens r)))
      → StepLed g new_now new_may f (answered_for n (request_of t m.requests) outcome happens)
  answer_led n outcome happens each = subst (λ o. StepLed g new_now new_may f (answered_for n o outcome happens)) (sym waits.waits) (each waits.command)

  same : new_now ≡ now → new_may ≡ may → IsLedIn g m.phase m.kinds m.log new_now new_may f.pending
  same same_now same_may = disk_led g m.phase m.kinds m.log f.pending now new_now may new_may same_now same_may l

  -- ----------------------------------------------------------------------------------------------------------------
  -- A prepare.

  -- its copies are durable
  arms_led : (c b : ℕ) (content : List ℕ) → c < g.blocks → content ≡ now 0 → now c ≡ content → IsFlushed g now new_may → StepLed g now new_may f (moved (armed m t c b content) (Arms now ∷ []))
  arms_led c b content inside read wrote flushed new = record {
    others = λ x up on v h. subst (May (narrowed (f.current x) (now x))) (sym (one x on v h)) (may_narrowed (f.current x) (now x));
    heads = λ v head h begins spells. elim begins [ inl at ↦ absurd (grind arith) | inr magic ↦ absurd (may_plain (narrowed (f.current 0) (now 0)) v new.state.pending_0 (subst (May (narrowed (f.current 0) (now 0))) (sym (one 0 (omega (arith, s.memory.sizes.enough)) v h)) (may_narrowed (f.current 0) (now 0))) magic) ];
    current = λ o some v h. subst (May (narrowed (f.current 0) (now 0))) (sym (at_c o some v h)) (may_narrowed (f.current 0) (now 0));
    arming = λ at o some. flushed o.current (subst (λ x. x < g.blocks) (there o some) inside);
    led = λ at o some. absurd (grind arith);
    deciding = λ at. absurd (grind arith);
  }
    where
      one : (x : ℕ) → x < g.blocks → (v : List ℕ) → Contains (new_may x) v → v ≡ now x
      one x on v h = one_of (now x) v (subst (λ vs. Contains vs v) (flushed x on) h)

      there : (o : Generation) → Some (first_log c b content) ≡ Some o → c ≡ o.current
      there o some = ap (λ (x : Generation). x.current) (some_inj some)

      at_c : (o : Generation) → Some (first_log c b content) ≡ Some o → (v : List ℕ) → Contains (new_may o.current) v → v ≡ now 0
      at_c o some v h = one c inside v (subst (λ x. Contains (new_may x) v) (sym (there o some)) h) ∙ wrote ∙ read

  -- its log is written
  first_led : (c b : ℕ) → m.phase ≡ Arming → Does g (call_of_prepare g m c b WritesFirstLog) Succeeded now may new_now new_may → StepLed g new_now new_may f (prepare_step now m t c b WritesFirstLog Succeeded)
  first_led c b is does new =
      zeroth_written g s.memory.sizes m.phase m.kinds m.kinds m.log m.log now new_now may new_may f.pending (spelling g (log_of_memory m)) does.0.given l (λ ne. refl)
      (λ at. absurd (let clash : Arming ≡ Deciding = sym is ∙ at in grind arith)) (λ x at. at)
      (λ head begins spells.
      let same : log.0 ≡ head = some_inj (sym spells_it ∙ spells) in
      subst (λ (o : Generation). IsPlace0 (kind_at m.kinds o.current) × Shows0 may f.pending o.current) same (inl log.2.sound.current, l.current log.0 log.1))
      (λ o some. (λ z. not_0 (ap (λ (x : Generation). x.current) (some_inj (sym log.1 ∙ some)) ∙ z), l.current o some))
      (λ at o some. absurd (let clash : Arming ≡ Checkpoint = sym is ∙ at in grind arith))
    where
      log : LogKept g m now may f Arming
      log = log_in_arming g m now may f s is

      not_0 : log.0.current ≢ 0
      not_0 z = let valid = log.2.leaves.log.behind.valid in omega (arith, valid.current_not_0, z)

      spells_it : log_in g (spelling g (log_of_memory m)) ≡ Some log.0
      spells_it = ap (λ o. log_in g (spelling g (log_or_blank o))) log.1 ∙ spelled g log.0 s.memory.sizes log.2.leaves.log.behind.valid log.2.sound.fits

  -- and durable
  ends_led : (c b : ℕ) → m.phase ≡ Arming → ((log : Generation) → m.log ≡ Some log → log_in g (now 0) ≡ Some log) → Does g (call_of_prepare g m c b FlushesFirstLog) Succeeded now may new_now new_may
      → StepLed g new_now new_may f (prepare_step now m t c b FlushesFirstLog Succeeded)
  ends_led c b is given does = answer_led (record m { phase = Checkpoint; hand = Empty; clean = true }) (λ r. outcomes.Done) (λ r. Prepares ∷ []) (λ r new.
      disk_led g Checkpoint m.kinds m.log f.pending now new_now new_may new_may does.0 refl
      (subst (λ o. IsLedIn g Checkpoint m.kinds o now new_may f.pending) (sym log.1)
      (flushed_led g s.memory.sizes Checkpoint m.kinds log.0 now new_may f.pending does.1 (given log.0 log.1) log.2.sound.generation.current_inside log.2.sound.current
      (λ x up on. l.others x up on (now x) (s.held x on)) (l.current log.0 log.1 (now log.0.current) (s.held log.0.current log.2.sound.generation.current_inside)))))
    where
      log : LogKept g m now may f Arming
      log = log_in_arming g m now may f s is

  prepare_led : (c b : ℕ) (act : PrepareAct) (reply : Reply) → PrepareHeld g m c b act now → Does g (call_of_prepare g m c b act) reply now may new_now new_may → (reply ≡ Failed → ⊥) → StepLed g new_now new_may f (prepare_step now m t c b act reply)
  prepare_led c b act Failed p does ok = absurd (ok refl)
  prepare_led c b ReadsBlock0 Succeeded p does ok = absurd does
  prepare_led c b ReadsBlock0 (Gave v) p does ok = plain_step g new_now new_may f (prepare_step now m t c b ReadsBlock0 (Gave v)) (inl p.phase)
  prepare_led c b (WritesCurrent content) Succeeded p does ok = plain_step g new_now new_may f (prepare_step now m t c b (WritesCurrent content) Succeeded) (inl p.0.phase)
  prepare_led c b (WritesCurrent content) (Gave v) p does ok = absurd does
  prepare_led c b (WritesBackup content) Succeeded p does ok = plain_step g new_now new_may f (prepare_step now m t c b (WritesBackup content) Succeeded) (inl p.0.phase)
  prepare_led c b (WritesBackup content) (Gave v) p does ok = absurd does
  prepare_led c b (FlushesCopies content) Succeeded p does ok = subst (λ i. StepLed g i new_may f (prepare_step now m t c b (FlushesCopies content) Succeeded)) (sym does.0) (arms_led c b content p.0.c_inside p.1 p.2 does.1)
  prepare_led c b (FlushesCopies content) (Gave v) p does ok = absurd does
  prepare_led c b WritesFirstLog Succeeded p does ok = first_led c b p does
  prepare_led c b WritesFirstLog (Gave v) p does ok = absurd does
  prepare_led c b FlushesFirstLog Succeeded p does ok = ends_led c b p.0 p.1 does
  prepare_led c b FlushesFirstLog (Gave v) p does ok = absurd does

  -- ----------------------------------------------------------------------------------------------------------------
  -- A commit.

  -- where the log in memory lies
  found_log : (again : Bool) → FoundIn m again → (log : Generation) × (m.log ≡ Some log) × (log.current < g.blocks) × (log.current ≢ 0)
  found_log false is = let log = log_in_checkpoint g m now may f s is in (log.0, log.1, log.2.sound.generation.current_inside, above log.0 log.2.leaves.log.behind.valid)
    where
      above : (o : Generation) → IsGeneration g o → o.current ≢ 0
      above o valid z = omega (arith, valid.current_not_0, z)
  found_log true is = let log = log_in_deciding g m now may f s is in (log.0, log.1, log.2.sound.generation.current_inside, above log.0 log.2.leaves.log.behind.valid)
    where
      above : (o : Generation) → IsGeneration g o → o.current ≢ 0
      above o valid z = omega (arith, valid.current_not_0, z)

  -- all is flushed
  all_flushed : (again : Bool) → FoundIn m again → IsFlushed g now new_may → IsLedIn g m.phase m.kinds m.log now new_may f.pending
  all_flushed again is flushed =
      let log = found_log again is in
      flushed_so g s.memory.sizes m.phase m.kinds m.log now may new_may f.pending s.held flushed (λ o some. subst (λ (x : Generation). x.current < g.blocks) (some_inj (sym log.1 ∙ some)) log.2) l

  -- the content that decides begins with no magic
  plain : (again : Bool) → FoundIn m again → (content : List ℕ) → content ≡ now (place_of m 0) → HasMagic content → ⊥
  plain again is content read = may_plain (f.current 0) content s.state.current_0 (subst (May (f.current 0)) (sym read) (s.shown 0 (omega (arith, s.memory.sizes.enough))))

  -- it is written for the first time
  decides_led : (content : List ℕ) → m.phase ≡ Checkpoint → IsFlushed g now may → content ≡ now (place_of m 0) → Does g (call_of_commit m (WritesBlock0 content)) Succeeded now may new_now new_may
      → StepLed g new_now new_may f (commit_step m t false (WritesBlock0 content) Succeeded)
  decides_led content is flushed read does new =
      zeroth_written g s.memory.sizes Deciding m.kinds m.kinds m.log m.log now new_now may new_may f.current content does.0.given before (λ ne. refl) (λ at. plain false is content read) (λ x at. at)
      (λ head begins spells. begins_not content (plain false is content read) begins)
      (λ o some. (λ z. (found_log false is).3 (ap (λ (x : Generation). x.current) (some_inj (sym (found_log false is).1 ∙ some)) ∙ z), before.current o some))
      (λ at o some. absurd (grind arith))
    where
      log : LogKept g m now may f Checkpoint
      log = log_in_checkpoint g m now may f s is

      before : IsLedIn g Deciding m.kinds m.log now may f.current
      before = subst (λ o. IsLedIn g Deciding m.kinds o now may f.current) (sym log.1)
          (flushed_led g s.memory.sizes Deciding m.kinds log.0 now may f.current flushed (l.led is log.0 log.1) log.2.sound.generation.current_inside log.2.sound.current
          (λ x up on. subst (λ p. May (f.current x) (now p)) (ap (λ o. place_with o x) log.1 ∙ place_other log.0 x (λ z. omega (arith, z, up))) (s.shown x on))
          (subst (λ p. May (f.current 0) (now p)) (ap (λ o. place_with o 0) log.1) (s.shown 0 (omega (arith, s.memory.sizes.enough)))))

  -- and once more
  decides_again : (content : List ℕ) → m.phase ≡ Deciding → content ≡ now (place_of m 0) → Does g (call_of_commit m (WritesBlock0 content)) Succeeded now may new_now new_may
      → StepLed g new_now new_may f (commit_step m t true (WritesBlock0 content) Succeeded)
  decides_again content is read does new =
      zeroth_written g s.memory.sizes Deciding m.kinds m.kinds m.log m.log now new_now may new_may f.pending content does.0.given (subst (λ p. IsLedIn g p m.kinds m.log now may f.pending) is l) (λ ne. refl) (λ at. plain true is content read) (λ x at. at)
      (λ head begins spells. begins_not content (plain true is content read) begins)
      (λ o some. (λ z. (found_log true is).3 (ap (λ (x : Generation). x.current) (some_inj (sym (found_log true is).1 ∙ some)) ∙ z), l.current o some))
      (λ at o some. absurd (grind arith))

  commit_led : (again : Bool) (act : CommitAct) (reply : Reply) → CommitHeld g m again act now may → Does g (call_of_commit m act) reply now may new_now new_may → (reply ≡ Failed → ⊥) → StepLed g new_now new_may f (commit_step m t again act reply)
  commit_led again act Failed p does ok = absurd (ok refl)
  commit_led false FlushesAll Succeeded p does ok = λ new. disk_led g m.phase m.kinds m.log f.pending now new_now new_may new_may does.0 refl (all_flushed false p does.1)
  commit_led true FlushesAll Succeeded p does ok = λ new. disk_led g m.phase m.kinds m.log f.pending now new_now new_may new_may does.0 refl (all_flushed true p does.1)
  commit_led again FlushesAll (Gave v) p does ok = absurd does
  commit_led again ReadsCurrent Succeeded p does ok = absurd does
  commit_led false ReadsCurrent (Gave v) p does ok = λ new. same does.1 does.2
  commit_led true ReadsCurrent (Gave v) p does ok = λ new. same does.1 does.2
  commit_led false (WritesBlock0 content) Succeeded p does ok = decides_led content p.0 p.1 p.2 does
  commit_led true (WritesBlock0 content) Succeeded p does ok = decides_again content p.0 p.2 does
  commit_led again (WritesBlock0 content) (Gave v) p does ok = absurd does
  commit_led again FlushesDecision Succeeded p does ok = answer_led (released m) (λ r. outcomes.Done) (λ r. committing_events again) (λ r. plain_step g new_now new_may f (answered (released m) r outcomes.Done (committing_events again)) (inr refl))
  commit_led again FlushesDecision (Gave v) p does ok = absurd does

-- ----------------------------------------------------------------------------------------------------------------
-- The turn.

-- an act of the command in hand
hand_led : (g : Geometry) (m : Memory) (now new_now : Contents) (may new_may : Candidates) (f : Flat) (hand : Hand) (reply : Reply) → m.hand ≡ hand → has_command hand ≡ true → IsHeld g m now may f → IsLed g m now may f
    → DoesIt g (call_in_hand g m hand) reply now may new_now new_may → (reply ≡ Failed → call_in_hand g m hand ≡ None) → StepLed g new_now new_may f (act_step g now m hand reply)
hand_led g m now new_now may new_may f Empty reply is command s l does ok = absurd (grind arith)
hand_led g m now new_now may new_may f (Batching b) reply is command s l does ok = absurd (grind arith)
hand_led g m now new_now may new_may f (Preparing t c b act) reply is command s l does ok =
    let held = subst (λ h. HandHeld g m h now may m.log) is s.in_hand in
    prepare_led g m now new_now may new_may f s l t Prepare held.1 c b act reply held.0 does (λ e. not_failed _ reply e ok)
hand_led g m now new_now may new_may f (Committing t again act) reply is command s l does ok =
    let held = subst (λ h. HandHeld g m h now may m.log) is s.in_hand in
    commit_led g m now new_now may new_may f s l t Commit held.1 again act reply held.0 does (λ e. not_failed _ reply e ok)

-- the memory in which the turn acts is led where the one before it is
abbrev ActsLed : Geometry → Contents → Candidates → Flat → Task → Type 0
ActsLed g now may f (Acts memory) = IsLed g memory now may f
ActsLed g now may f task = Unit {0}

module _ (g : Geometry) (m : Memory) (now : Contents) (may : Candidates) (f : Flat) (l : IsLed g m now may f) where
  prepares_led : (r : Request) (c b : Option Extent) → ActsLed g now may f (prepare_on m r c b)
  prepares_led r None b = tt
  prepares_led r (Some c) None = tt
  prepares_led r (Some c) (Some b) = l

  taken_led : (r : Request) (op : Op) (phase : Phase) → ActsLed g now may f (taken m r op phase)
  taken_led r Prepare Trim = go (nat_lt (count_of is_free m.kinds) 2)
    where
      go : (few : Bool) → ActsLed g now may f (cond few (Answers r (outcomes.NoSpace 0)) (prepare_on m r (picked m.kinds 1) (picked (without_picked m.kinds (picked m.kinds 1)) 1)))
      go true = tt
      go false = prepares_led r (picked m.kinds 1) (picked (without_picked m.kinds (picked m.kinds 1)) 1)
  taken_led r Prepare Arming = l
  taken_led r Prepare Checkpoint = tt
  taken_led r Prepare Deciding = tt
  taken_led r Prepare Committed = tt
  taken_led r Commit Trim = tt
  taken_led r Commit Arming = tt
  taken_led r Commit Checkpoint = l
  taken_led r Commit Deciding = l
  taken_led r Commit Committed = tt
  taken_led r (Read e p) phase = tt
  taken_led r (Write e p) phase = tt
  taken_led r (Discard e) phase = tt
  taken_led r Flush phase = tt

  first_led_of : (found : Option Request) → ActsLed g now may f (take_first m found)
  first_led_of None = tt
  first_led_of (Some r) = taken_led r r.op m.phase

  acts_led : (hand : Hand) → ActsLed g now may f (command_task m hand)
  acts_led Empty = first_led_of (first_of m.requests)
  acts_led (Batching b) = tt
  acts_led (Preparing t c b act) = l
  acts_led (Committing t again act) = l

-- A turn of the commands.
pub command_leads : (g : Geometry) (m : Memory) (now new_now : Contents) (may new_may : Candidates) (f : Flat) (reply : Reply) → IsHeld g m now may f → IsLed g m now may f → Leads g m now may new_now new_may f reply (task_of g m Command)
command_leads g m now new_now may new_may f reply s l = go (task_of g m Command) (command_acts g m now may f s) (acts_led g m now may f l m.hand)
  where
    go : (task : Task) → IsCommandTask g now may f task → ActsLed g now may f task → Leads g m now may new_now new_may f reply task
    go Waits is led = nothing_leads g m now new_now may new_may f s l reply
    go (Answers r outcome) is led = answer_leads g m now new_now may new_may f s l reply r outcome
    go (Acts memory) is led = λ does ok. hand_led g memory now new_now may new_may f memory.hand reply refl is.commands is.stands led does ok
    go (WritesBlock r b) is led = absurd is
    go (ReadsBlock r b) is led = absurd is
    go (FlushesFor r) is led = absurd is
    go (DiscardsFor r) is led = absurd is
