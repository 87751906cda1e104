-- From a step of the machine over a disk to the flat state.
use Rattle.std.proofs.Common.{ℕ, zero, suc, ◌≡◌, ◌⊎◌, ◌<◌, ◌≤◌, ◌+◌, List, [], ◌∷◌, Option, Some, None, Bool, true, false, get_or, refl, sym, ap, ◌∙◌, subst, arith, inl, inr, ⊎_elim}
use Rattle.std.specs.Prelude.{Contains, not}
use Rattle.std.proofs.lemmas.List.{get_or-set_same}
use Rattle.std.proofs.lemmas.Bool.{false≢true, cases_Bool}
use Rattle.bow_units.specs.Causes.{Rose}
use Rattle.bow_units.specs.declared.sizes.Geometry.{Geometry}
use Rattle.bow_disk.specs.Disk.{Content, IsCrash, IsShaped, Goes, Same, Written}
use Rattle.bow_chain.specs.Contents.{Contents, contents_of}
use Rattle.bow_flat.specs.Flat.{Flat}
use Rattle.bow_guard.specs.Cuts.{candidates_of}
use Rattle.bow_guard.specs.Standing.{StandsFor, Ahead}
use Rattle.bow_guard.proofs.Joined.{writes_are_given, flushes_are_done, crashes_are_cuts}
use Rattle.bow_queue.specs.declared.tickets.Ticket.{Ticket}
use Rattle.bow_machine.specs.Requests.{Request}
use Rattle.bow_machine.specs.Memory.{Memory}
use Rattle.bow_machine.specs.Calls.{Call, ReadCall, WriteCall, FlushCall, Reply, Failed, Succeeded, Gave, DoesIt}
use Rattle.bow_machine.specs.Tasks.{Task, Waits, Answers, WritesBlock, ReadsBlock, FlushesFor, DiscardsFor, Acts}
use Rattle.bow_machine.specs.Steps.{Step, Told, Idle, Moved, Wrote, Got, Answered, call_of, step_of}
use Rattle.bow_machine.specs.Laws.{after_all, AllowsAll}
use Rattle.bow_machine.specs.Ready.{is_ready, is_idle}
use Rattle.bow_machine.specs.Standing.{IsStanding}
use Rattle.bow_machine.specs.MemoryLaws.{IsOnDevice, FaultIsTold, tells_fault, served_by}
use Rattle.bow_machine.proofs.Orders.{disk_by_reply}
use Rattle.bow_machine.proofs.SoundCalls.{calls_are_on_device, faults_are_told, idle_changes_nothing, ready_is_table}
use Rattle.bow_machine.proofs.Whole.{step_keeps}
use Rattle.bow_machine.proofs.Cuts.{machine_cut}
use Rattle.bow_core.specs.Calls.{DoesOne, Passes, calls_in, HasFault, StaysWithout, Counted}
use Rattle.bow_core.specs.Standing.{StandsOver, StandsIn, Leads, seen, step_seen, state_after}
use Rattle.bow_core.specs.Steps.{IsStep, HasFailed, FailureIsTold, done_by, task_in, call_in}
use Rattle.bow_machine.specs.Steps.{unknown}
use Rattle.bow_core.specs.Turns.{told_of}
use Rattle.bow_core.specs.Views.{View, IsOpened}
use Rattle.bow_machine.specs.declared.turns.Turn.{Turn}
use Rattle.bow_core.specs.declared.turns.Step.{Step as OwnStep}
use Rattle.bow_machine.specs.Ahead.{IsLed}
use Rattle.bow_machine.proofs.Ahead.{led_keeps}
use Rattle.bow_machine.proofs.SoundPast.{older_logs_stay}
use Rattle.bow_core.specs.Forward.{SoundAreAheadIn}
use Rattle.bow_core.specs.Further.{KeepsOn, LedOver, BehindOver}
use Rattle.bow_core.proofs.Listed.{sound_listed, listed_ahead}
use Rattle.bow_machine.proofs.GoesForward.{sound_are_led}
use Rattle.bow_chain.proofs.Counting.{some_inj}
use Rattle.bow_core.proofs.Replies.{can_have}
use Rattle.bow_core.proofs.Telling.{may_call, calls_tell}
use Rattle.std.specs.Prelude.{◌↔◌}
use Rattle.bow_units.specs.declared.requests.Phase.TheVariants.{Arming}
use Rattle.bow_units.specs.declared.statuses.Kind.{Kind}
use Rattle.bow_units.specs.declared.requests.Outcome.TheVariants.{NoSpace}
use Rattle.bow_log.specs.Generations.{Generation}
use Rattle.bow_machine.specs.Memory.{reserved}
use Rattle.bow_machine.specs.MemoryIsSound.{LogIsHeld}
use Rattle.bow_machine.specs.MemoryLaws.{CanHaveIt}
use Rattle.bow_machine.specs.Tasks.{task_of}
use Rattle.bow_machine.proofs.SoundTies.{saved_is_next, touched_is_left, covered_stays_touched, logs_go_on, arming_is_untouched, checkpoint_follows}
use Rattle.bow_core.specs.Refusals.{RefusesExactly}
use Rattle.bow_core.specs.Room.{FindsNoSpace}
use Rattle.bow_core.proofs.Refusing.{refused_exactly}
use Rattle.bow_core.specs.Ties.{IsTied}
use Rattle.bow_core.proofs.Spaces.{finds_none}

same_it : (c d : Content) → Same c d → (contents_of d.now ≡ contents_of c.now) × (candidates_of d.candidates ≡ candidates_of c.candidates)
same_it c d same = (ap contents_of same.0, ap candidates_of same.1)

module _ (g : Geometry) (c d : Content) (old : IsShaped g.block_size g.blocks c) (new : IsShaped g.block_size g.blocks d) where
  held : (b : ℕ) → b < g.blocks → Contains (candidates_of d.candidates b) (contents_of d.now b)
  held b on = new.held b on

  wrote_v : (b : ℕ) (v : List ℕ) → b < g.blocks → Written b v c d → contents_of d.now b ≡ v
  wrote_v b v on w = ap (λ (l : List (List ℕ)). get_or l b []) w.0 ∙ get_or-set_same c.now b v [] (omega (arith, old.blocks))

  -- what a call does to lists, it does to functions
  pub does_it : (call : Option Call) (reply : Reply) → IsOnDevice g call → DoesOne call reply c d → DoesIt g call reply (contents_of c.now) (candidates_of c.candidates) (contents_of d.now) (candidates_of d.candidates)
  does_it None reply on does = same_it c d does
  does_it (Some (ReadCall b)) (Gave v) on does = (sym does.1, ap contents_of (does.0).0, ap candidates_of (does.0).1)
  does_it (Some (ReadCall b)) Failed on does = same_it c d does
  does_it (Some (ReadCall b)) Succeeded on does = absurd does
  does_it (Some (WriteCall b v)) Succeeded on does = (record { given = writes_are_given g.block_size g.blocks b v c d old on.0 (inr (inr does)); held = held b on.0 }, wrote_v b v on.0 does)
  does_it (Some (WriteCall b v)) Failed on does = record { given = writes_are_given g.block_size g.blocks b v c d old on.0 does; held = held b on.0 }
  does_it (Some (WriteCall b v)) (Gave w) on does = absurd does
  does_it (Some FlushCall) Succeeded on does = flushes_are_done g g.block_size c d old does
  does_it (Some FlushCall) Failed on does = same_it c d does
  does_it (Some FlushCall) (Gave v) on does = absurd does

-- what a cut left since then
pub since_then_so : (P : List (List ℕ) → Type 0) (calls before now : ℕ) (past since : ℕ → List (List ℕ) → Type 0) (d : Content) → Passes calls (Some d) before now past since
    → ((image : List (List ℕ)) → IsCrash d.candidates image → P image)
    → (t : ℕ) (image : List (List ℕ)) → t ≤ before → since t image → past t image ⊎ P image
since_then_so P zero before now past since d time crash t image le left = inl (time.1 t image left)
since_then_so P (suc n) before now past since d time crash t image le left = ⊎_elim (λ old. inl old) (λ cut. inr (crash image cut)) (time.nothing_else t image le left)

-- ----------------------------------------------------------------------------------------------------------------
-- A turn that is ready tells something.

abbrev tells : Told → Bool
tells Idle = false
tells Moved = true
tells (Wrote t i) = true
tells (Got t i) = true
tells (Answered t op outcome) = true

call_tells : (g : Geometry) (m : Memory) (task : Task) (reply : Reply) → may_call task ≡ true → tells (done_by g m task reply).told ≡ true
call_tells = calls_tell (λ told. tells told ≡ true) refl (λ r n. refl) (λ r. refl) (λ t i. refl) (λ t i. refl)

task_tells : (g : Geometry) (m : Memory) (task : Task) (reply : Reply) → is_idle task ≡ false → tells (done_by g m task reply).told ≡ true
task_tells g m Waits reply busy = absurd (false≢true (sym busy))
task_tells g m (Answers r o) reply busy = refl
task_tells g m (WritesBlock r b) reply busy = call_tells g m (WritesBlock r b) reply refl
task_tells g m (ReadsBlock r b) reply busy = call_tells g m (ReadsBlock r b) reply refl
task_tells g m (FlushesFor r) reply busy = call_tells g m (FlushesFor r) reply refl
task_tells g m (DiscardsFor r) reply busy = refl
task_tells g m (Acts taken) reply busy = call_tells g m (Acts taken) reply refl

-- ----------------------------------------------------------------------------------------------------------------
-- What follows from one step.

-- a fault that is told had its cause
fault_cause : (requests : List Request) (served : Option Ticket) (call : Option Call) (reply : Reply) (told : Told) (before now : ℕ) → FaultIsTold requests served call reply told → HasFault call reply before now → tells_fault told ≡ true → Rose before now
fault_cause requests served (Some call) Failed told before now row has is = has
fault_cause requests served (Some call) Succeeded told before now row has is = absurd (false≢true (sym row ∙ is))
fault_cause requests served (Some call) (Gave v) told before now row has is = absurd (false≢true (sym row ∙ is))
fault_cause requests served None Failed told before now row has is = absurd (false≢true (sym row ∙ is))
fault_cause requests served None Succeeded told before now row has is = absurd (false≢true (sym row ∙ is))
fault_cause requests served None (Gave v) told before now row has is = absurd (false≢true (sym row ∙ is))

-- and where none is told, no call failed
unfailed : (requests : List Request) (served : Option Ticket) (call : Option Call) (reply : Reply) (told : Told) → FaultIsTold requests served call reply told → tells_fault told ≡ false → reply ≡ Failed → call ≡ None
unfailed requests served None reply told row quiet is = refl
unfailed requests served (Some call) Failed told row quiet is = absurd (false≢true (sym quiet ∙ ap tells_fault row.answered))
unfailed requests served (Some call) Succeeded told row quiet is = absurd (grind arith)
unfailed requests served (Some call) (Gave v) told row quiet is = absurd (grind arith)

-- a call failed exactly where a fault is told
failed_told : (requests : List Request) (served : Option Ticket) (call : Option Call) (reply : Reply) (told : Told) → FaultIsTold requests served call reply told → HasFailed call reply ↔ (tells_fault told ≡ true)
failed_told requests served None Failed told row = (λ has. absurd has, λ is. false≢true (sym row ∙ is))
failed_told requests served None Succeeded told row = (λ has. absurd has, λ is. false≢true (sym row ∙ is))
failed_told requests served None (Gave v) told row = (λ has. absurd has, λ is. false≢true (sym row ∙ is))
failed_told requests served (Some call) Failed told row = (λ has. ap tells_fault row.answered, λ is. tt)
failed_told requests served (Some call) Succeeded told row = (λ has. absurd has, λ is. false≢true (sym row ∙ is))
failed_told requests served (Some call) (Gave v) told row = (λ has. absurd has, λ is. false≢true (sym row ∙ is))

-- so of a step that was made so
pub failure_told : {D : Type 0} (stated : D → Option Geometry) (content : D → Option Content) (moment : D → ℕ) (left : D → ℕ → List (List ℕ) → Type 0) (faults : D → ℕ)
    (old : View D) (turn : Turn) (tells_so : OwnStep) (new : View D) → IsOpened stated old → FailureIsTold stated content moment left faults old turn tells_so new
failure_told stated content moment left faults old turn tells_so new opened made =
    let g = old.geometry in
    let m = old.memory in
    let task = task_in old turn in
    let row = faults_are_told g m turn made.reply unknown opened.sound (can_have g _ made.reply made.made.may) in
    let both = failed_told m.requests (served_by task) (call_of g m task) made.reply (done_by g m task made.reply).told row in
    (λ has. ap tells_fault made.told ∙ both.0 has, λ is. both.1 (sym (ap tells_fault made.told) ∙ is))

-- in Arming there is a log
arming_log : (g : Geometry) (table : List Kind) (clean : Bool) (trimmed picked : ℕ) (log : Option Generation) → LogIsHeld g table clean trimmed picked Arming log → (l : Generation) × (log ≡ Some l)
arming_log g table clean trimmed picked None held = absurd held
arming_log g table clean trimmed picked (Some l) held = (l, refl)

one_at_most : (call : Option Call) → calls_in call ≤ 1
one_at_most None = omega arith
one_at_most (Some call) = omega arith

module _ {D : Type 0} (stated : D → Option Geometry) (content : D → Option Content) (moment : D → ℕ) (left : D → ℕ → List (List ℕ) → Type 0) (faults : D → ℕ)
    (old : View D) (turn : Turn) (tells_so : OwnStep) (new : View D) (opened : IsOpened stated old) (step : IsStep stated content moment left faults old turn tells_so new) where
  abbrev g : Geometry
  g = old.geometry

  abbrev m : Memory
  m = old.memory

  pub step_cause : tells_fault (told_of tells_so) ≡ true → Rose (faults old.disk) (faults new.disk)
  step_cause is =
      let task = task_in old turn in
      let row = faults_are_told g m turn step.reply unknown opened.sound (can_have g _ step.reply step.made.may) in
      fault_cause m.requests (served_by task) (call_of g m task) step.reply (done_by g m task step.reply).told (faults old.disk) (faults new.disk) row step.made.cause (ap tells_fault (sym step.told) ∙ is)

  -- where no fault is told, no call failed
  pub no_failure : tells_fault (told_of tells_so) ≡ false → step.reply ≡ Failed → call_of g m (task_in old turn) ≡ None
  no_failure quiet =
      let task = task_in old turn in
      let row = faults_are_told g m turn step.reply unknown opened.sound (can_have g _ step.reply step.made.may) in
      unfailed m.requests (served_by task) (call_of g m task) step.reply (done_by g m task step.reply).told row (ap tells_fault (sym step.told) ∙ quiet)

  pub unready_idle : is_ready g m turn ≡ false → told_of tells_so ≡ Idle
  unready_idle unready =
      step.told ∙ ap (λ (s : Step). s.told) ((idle_changes_nothing g m turn step.reply unknown opened.sound unready).1)

  pub idle_unready : told_of tells_so ≡ Idle → is_ready g m turn ≡ false
  idle_unready idle = elim (cases_Bool (is_ready g m turn)) [
    | inl ready ↦ absurd (false≢true (sym (ap tells idle) ∙ ap tells step.told ∙ task_tells g m (task_in old turn) step.reply (ready_is_table g m turn opened.sound ∙ ap not ready)))
    | inr unready ↦ unready
  ]

  same_counted : (call : Option Call) → call ≡ None → Counted (calls_in call) old.calls new.calls → new.calls ≡ old.calls
  same_counted call none counted = let e = ap calls_in none in omega (arith, counted, e)

  pub idle_same : told_of tells_so ≡ Idle → new ≡ old
  idle_same idle =
      let unready = idle_unready idle in
      let both = idle_changes_nothing g m turn step.reply unknown opened.sound unready in
      let memory : new.memory ≡ old.memory = step.memory ∙ ap (λ (s : Step). s.memory) both.1 in
      let disk : new.disk ≡ old.disk = subst (λ call. StaysWithout call old.disk new.disk) both.0 step.made.stays in
      let calls : new.calls ≡ old.calls = same_counted (call_in old turn) both.0 step.made.counted in
      same new.disk new.geometry new.places new.memory new.admitted new.calls disk step.geometry step.places memory step.admitted calls
    where
      same : (disk : D) (geometry : Geometry) (places : ℕ) (memory : Memory) (admitted calls : ℕ) → disk ≡ old.disk → geometry ≡ old.geometry → places ≡ old.places → memory ≡ old.memory → admitted ≡ old.admitted → calls ≡ old.calls
          → record { disk = disk; geometry = geometry; places = places; memory = memory; admitted = admitted; calls = calls } ≡ old
      same disk geometry places memory admitted calls a b c d e f = rw (a, b, c, d, e, f) refl

  pub one_call : (old.calls ≤ new.calls) × (new.calls ≤ old.calls + 1)
  one_call = let few = one_at_most (call_in old turn) in let counted : Counted (calls_in (call_in old turn)) old.calls new.calls = step.made.counted in (omega (arith, counted), omega (arith, counted, few))

  can : CanHaveIt g (call_of g m (task_of g m turn)) step.reply
  can = can_have g _ step.reply step.made.may

  pub step_space : (r : Request) → (told_of tells_so ≡ Answered r.ticket r.op (NoSpace r.done)) ↔ FindsNoSpace g m turn r
  step_space r =
      let both = finds_none g m step.reply opened.sound turn r can in
      (λ tells. both.0 (sym step.told ∙ tells), λ none. step.told ∙ both.1 none)

  pub step_refuses : RefusesExactly g m turn tells_so
  step_refuses r outcome waits is =
      let both = refused_exactly g m step.reply opened.sound r outcome waits is turn in
      (λ tells. both.0 (sym step.told ∙ tells), λ refuses. step.told ∙ both.1 refuses)

  pub step_tied : IsTied g m new.memory
  step_tied = subst (IsTied g m) (sym step.memory) (record {
    saved = λ b on is. saved_is_next g m turn step.reply unknown b opened.sound can on is;
    touched = λ b on is. touched_is_left g m turn step.reply unknown b opened.sound can on is;
    covered = λ b on covers is not. covered_stays_touched g m turn step.reply unknown b opened.sound can on covers is not;
    logs = λ log next here there. logs_go_on g m turn step.reply unknown log next opened.sound can here there;
    begins = λ is. checkpoint_follows g m turn step.reply unknown opened.sound can is;
    arming = λ is. untouched is;
  })
    where
      untouched : m.phase ≡ Arming → ((done_by g m (task_in old turn) step.reply).memory.log ≡ m.log) × ((done_by g m (task_in old turn) step.reply).memory.kinds ≡ m.kinds)
      untouched is =
          let log = arming_log g m.kinds m.clean m.trimmed (reserved m.hand).count m.log (subst (λ p. LogIsHeld g m.kinds m.clean m.trimmed (reserved m.hand).count p m.log) is opened.sound.log) in
          let stays = arming_is_untouched g m turn step.reply unknown log.0 opened.sound can is log.1 in
          (stays.1, stays.2)

  module _ (shaped : (d : D) (c : Content) → content d ≡ Some c → (g : Geometry) → stated d ≡ Some g → IsShaped g.block_size g.blocks c) where
    -- it leads from each state for which the device stood
    pub step_leads : (f : Flat) → StandsIn content old f → Leads content moment left old turn tells_so new f
    step_leads f stands = go (content old.disk) refl (content new.disk) refl step.made.disk stands
      where
        go : (o : Option Content) → content old.disk ≡ o → (n : Option Content) → content new.disk ≡ n → Goes (DoesOne (call_in old turn) step.reply) o n → StandsOver g m o f → Leads content moment left old turn tells_so new f
        go None is n at goes stands = absurd stands
        go (Some c) is None at goes stands = absurd goes
        go (Some c) is (Some d) at goes stands =
            let sizes : stated new.disk ≡ Some g = step.made.sizes in
            let does = does_it g c d (shaped old.disk c is g opened.sizes) (shaped new.disk d at g sizes) (call_in old turn) step.reply (calls_are_on_device g m turn opened.sound) goes in
            let kept = step_keeps g m turn step.reply (contents_of c.now) (contents_of d.now) (candidates_of c.candidates) (candidates_of d.candidates) f stands does in
            let both = subst (λ (n : Contents). AllowsAll g.blocks (step_of g n m (task_in old turn) step.reply).events f
            × IsStanding g (step_of g n m (task_in old turn) step.reply).memory (contents_of d.now) (candidates_of d.candidates) (after_all g.blocks (step_of g n m (task_in old turn) step.reply).events f)) (sym (ap seen is)) kept in
            let same = disk_by_reply g m turn step.reply unknown (seen (content old.disk)) in
            let after : Flat = state_after content old turn step.reply f in
            let memory : new.memory ≡ (step_seen content old turn step.reply).memory = step.memory ∙ same.0 in
            let standing : IsStanding g new.memory (contents_of d.now) (candidates_of d.candidates) after = subst (λ k. IsStanding g k (contents_of d.now) (candidates_of d.candidates) after) (sym memory) both.1 in
            record {
              reply = step.reply;
              memory = memory;
              told = step.told ∙ same.1;
              allowed = both.0;
              stands = subst (λ o. StandsOver new.geometry new.memory o after) (sym at) (subst (λ h. StandsOver h new.memory (Some d) after) (sym step.geometry) standing);
              cuts = since_then_so (λ image. StandsFor g after (contents_of image)) (calls_in (call_in old turn)) (moment old.disk) (moment new.disk) (left old.disk) (left new.disk) d
                  (subst (λ o. Passes (calls_in (call_in old turn)) o (moment old.disk) (moment new.disk) (left old.disk) (left new.disk)) at step.made.time)
                  (λ image crash. machine_cut g new.memory (contents_of d.now) (candidates_of d.candidates) after (contents_of image) standing (((crashes_are_cuts g g.block_size d image (shaped new.disk d at g sizes)).0 crash).1));
            }

    -- what the step keeps for readers and for devices given up forward
    pub step_keeps_on : (f : Flat) → StandsIn content old f → KeepsOn content old turn tells_so new f
    step_keeps_on f stands = go (content old.disk) refl (content new.disk) refl step.made.disk stands
      where
        go : (o : Option Content) → content old.disk ≡ o → (n : Option Content) → content new.disk ≡ n → Goes (DoesOne (call_in old turn) step.reply) o n → StandsOver g m o f → KeepsOn content old turn tells_so new f
        go None is n at goes stands = absurd stands
        go (Some c) is None at goes stands = absurd goes
        go (Some c) is (Some d) at goes stands =
            let does = does_it g c d (shaped old.disk c is g opened.sizes) (shaped new.disk d at g step.made.sizes) (call_in old turn) step.reply (calls_are_on_device g m turn opened.sound) goes in
            let same = disk_by_reply g m turn step.reply unknown (seen (content old.disk)) in
            let memory : new.memory ≡ (step_seen content old turn step.reply).memory = step.memory ∙ same.0 in
            let at_now : (step_of g (contents_of c.now) m (task_in old turn) step.reply).memory ≡ new.memory = ap (λ (n : Contents). (step_of g n m (task_in old turn) step.reply).memory) (sym (ap seen is)) ∙ sym memory in
            let events = ap (λ (n : Contents). after_all g.blocks (step_of g n m (task_in old turn) step.reply).events f) (sym (ap seen is)) in
            let put : (o : Option Content) → o ≡ Some d → content new.disk ≡ o = λ o e. at ∙ sym e in
            record {
              reply = step.reply;
              memory = memory;
              told = step.told ∙ same.1;
              led = λ quiet led.
                  let was = subst (λ o. LedOver g m o f) is led in
                  let now = led_keeps g m turn step.reply (contents_of c.now) (contents_of d.now) (candidates_of c.candidates) (candidates_of d.candidates) f stands was (no_failure quiet) does in
                  let own = subst (λ (n : Memory). IsLed g n (contents_of d.now) (candidates_of d.candidates) (after_all g.blocks (step_of g (contents_of c.now) m (task_in old turn) step.reply).events f)) at_now now in
                  let after = subst (λ e. IsLed g new.memory (contents_of d.now) (candidates_of d.candidates) e) events own in
                  subst (λ o. LedOver new.geometry new.memory o (state_after content old turn step.reply f)) (sym at) (subst (λ h. LedOver h new.memory (Some d) (state_after content old turn step.reply f)) (sym step.geometry) after);
              ahead = λ one quiet led sound.
                  let was = subst (λ o. LedOver g m o one) is led in
                  let all = sound_listed g c (shaped old.disk c is g opened.sizes) f (λ image crash. sound c is image crash) in
                  let own = sound_are_led g m (contents_of c.now) (candidates_of c.candidates) one f was stands all in
                  let kept = (step_keeps g m turn step.reply (contents_of c.now) (contents_of d.now) (candidates_of c.candidates) (candidates_of d.candidates) f stands does).1 in
                  let now = led_keeps g m turn step.reply (contents_of c.now) (contents_of d.now) (candidates_of c.candidates) (candidates_of d.candidates) f stands own (no_failure quiet) does in
                  subst (λ h. SoundAreAheadIn content (record new { geometry = h }) (state_after content old turn step.reply f)) (sym step.geometry)
                  (λ e told image crash sound. subst (λ s. Ahead g s (contents_of image)) events
                  (listed_ahead g d (shaped new.disk d at g step.made.sizes) (step_of g (contents_of c.now) m (task_in old turn) step.reply).memory (after_all g.blocks (step_of g (contents_of c.now) m (task_in old turn) step.reply).events f) kept now image
                  (subst (λ (x : Content). IsCrash x.candidates image) (some_inj (sym told ∙ at)) crash)));
              older = λ log next behind phase here there stood.
                  let was = subst (λ o. BehindOver g o log behind) is stood in
                  let now = older_logs_stay g m turn step.reply (contents_of c.now) (contents_of d.now) (candidates_of c.candidates) (candidates_of d.candidates) f log next behind stands phase here was does (ap (λ (n : Memory). n.log) at_now ∙ there) in
                  let own = subst (λ h. BehindOver h (Some d) next behind ⊎ BehindOver h (Some d) next (log ∷ behind)) (sym step.geometry) now in
                  subst (λ o. BehindOver new.geometry o next behind ⊎ BehindOver new.geometry o next (log ∷ behind)) (sym at) own;
            }
