-- For each thing that a step of sound memory tells: its row, and its events.
use Rattle.std.proofs.Common.{ℕ, ◌+◌, ◌≡◌, ◌≢◌, ◌⊎◌, ◌==◌, nat_lt, Bool, true, false, cond, List, [], ◌∷◌, Option, Some, None, arith, refl, sym, ap, ◌∙◌, subst, inl, inr}
use Rattle.std.proofs.lemmas.Bool.{cond_both, and_parts, eqb-true, false≢true}
use Rattle.bow_units.specs.declared.sizes.Extent.{Extent}
use Rattle.bow_units.specs.declared.sizes.Geometry.{Geometry}
use Rattle.bow_units.specs.declared.requests.Op.{Op}
use Rattle.bow_units.specs.declared.requests.Op.TheVariants.{Read, Write, Discard, Flush, Prepare, Commit}
use Rattle.bow_units.specs.declared.requests.Outcome.{Outcome}
use Rattle.bow_units.specs.declared.requests.Outcome.TheVariants.{Done, Data, NoSpace, DiskFault, WrongPhase}
use Rattle.bow_units.specs.declared.requests.Phase.{Phase}
use Rattle.bow_units.specs.declared.requests.Phase.TheVariants.{Trim, Arming, Checkpoint, Deciding, Committed}
use Rattle.bow_log.specs.Generations.{Generation}
use Rattle.bow_chain.specs.Contents.{Contents}
use Rattle.bow_copy.specs.Acts.{next_act}
use Rattle.bow_flat.specs.Flat.{Event, block_at}
use Rattle.bow_flat.specs.Flat.Event.{Arms, Decides, Writes, Fails, Reads, Discards, Flushes, Prepares}
use Rattle.bow_queue.specs.Requests.{is_command}
use Rattle.bow_queue.specs.declared.tickets.Ticket.{Ticket}
use Rattle.bow_ranges.specs.Kinds.{is_free, count_of}
use Rattle.bow_ranges.specs.Picks.{picked}
use Rattle.bow_machine.specs.Requests.{Request, request_of, without_request, with_request, refusal}
use Rattle.bow_machine.specs.Memory.{Memory, Batch, Hand, Empty, Batching, Preparing, Committing, PrepareAct, ReadsBlock0, WritesCurrent, WritesBackup, FlushesCopies, WritesFirstLog, FlushesFirstLog, CommitAct, FlushesAll, ReadsCurrent, WritesBlock0, FlushesDecision, has_command, is_direct}
use Rattle.bow_machine.specs.Calls.{WriteCall, Reply, Failed, Succeeded, Gave}
use Rattle.bow_machine.specs.Tasks.{Turn, Map, Worker, Command, Task, Waits, Answers, WritesBlock, ReadsBlock, FlushesFor, DiscardsFor, Acts, unless_refused, unless_command, is_waiting, task_for, map_task, needs_worker, head, formed_for, serve, worker_task, without_picked, prepare_on, taken, take_first, command_task, task_of}
use Rattle.bow_machine.specs.Steps.{Step, with_read, answered_for, fault_after, fault_events, released, commit_failed, call_of_act, payload_of, extent_of, next_block, deciding_events, committing_events, batch_step, prepare_step, commit_step, act_step, call_in_hand, call_of_prepare, call_of_commit, call_of, step_of}
use Rattle.bow_machine.specs.MemoryIsSound.{FoundIn}
use Rattle.bow_machine.specs.MemoryIsSound.{PrepareIsSound, CommitIsSound, IsForCommand, HandIsSound, MemoryIsSound}
use Rattle.bow_machine.specs.MemoryLaws.{CanHave, CanHaveIt, HasNoBlock, HasNoTwo}
use Rattle.bow_machine.specs.Told.{EndsCommit, AnswerRow, MovedRow, ToldRow, StepsTellSo, IsArmingAct, IsDecidingAct, ActsTellSo}
use Rattle.bow_machine.proofs.RequestLists.{find_passes, found_ticket}
use Rattle.bow_machine.proofs.Commands.{command_answers}
use Rattle.bow_machine.proofs.FormedHeads.{passes}
use Rattle.bow_machine.proofs.SoundTasks.{is_busy, TaskIsSound, IsFresh, ActsOn}
use Rattle.bow_machine.proofs.SoundBatches.{in_hand_of, batch_fails, batch_goes}
use Rattle.bow_machine.proofs.SoundTurns.{turn_sound}
use Rattle.bow_machine.proofs.SoundSteps.{reply_ok}
use Rattle.bow_machine.proofs.SoundSpace.{formed_only, no_space_is_exact, prepare_space_is_exact}

-- ----------------------------------------------------------------------------------------------------------------
-- Answers without a call.

-- if the task is an answer, it has its row, with no event
abbrev AnswersSo : Geometry → Memory → Task → Type 0
AnswersSo g m (Answers r outcome) = AnswerRow g m r r.op outcome []
AnswersSo g m Waits = Unit {0}
AnswersSo g m (WritesBlock r b) = Unit {0}
AnswersSo g m (ReadsBlock r b) = Unit {0}
AnswersSo g m (FlushesFor r) = Unit {0}
AnswersSo g m (DiscardsFor r) = Unit {0}
AnswersSo g m (Acts taken) = Unit {0}

module _ (g : Geometry) (m : Memory) where
  abbrev So : Task → Type 0
  So task = AnswersSo g m task

  -- by what was asked for
  row_of : (r : Request) (op : Op) (outcome : Outcome) → r.op ≡ op → AnswerRow g m r op outcome [] → So (Answers r outcome)
  row_of r op outcome is row = subst (λ o. AnswerRow g m r o outcome []) (sym is) row

  so_unless : (r : Request) (op : Op) → r.op ≡ op → (task : Task) → (refusal g m.phase op ≡ None → So task) → So (unless_refused r (refusal g m.phase op) task)
  so_unless r op is task goes = go (refusal g m.phase op) refl
    where
      go : (o : Option Outcome) → refusal g m.phase op ≡ o → So (unless_refused r o task)
      go None passed = goes passed
      go (Some outcome) refused = row_of r op outcome is (inl (refused, refl))

  so_free : (task : Task) → So task → So (unless_command m task)
  so_free task so = cond_both (has_command m.hand) Waits task So (λ busy. tt) (λ free. so)

  map_so : (r : Request) (op : Op) → r.op ≡ op → So (task_for g m r op)
  map_so r (Read e p) is = so_unless r (Read e p) is _ (λ passed. cond_both (r.done == e.count) (Answers r Data) (ReadsBlock r (e.first + r.done)) So (λ full. row_of r (Read e p) Data is (inr (passed, inl (refl, eqb-true r.done e.count full, refl)))) (λ more. tt))
  map_so r (Write e p) is = so_free _ (so_unless r (Write e p) is _ (λ passed. cond_both (is_waiting m r) Waits _ So (λ waits. tt) (λ first.
      cond_both (r.done == e.count) (Answers r Done) _ So (λ full. row_of r (Write e p) Done is (inr (passed, inl (refl, eqb-true r.done e.count full, refl)))) (λ more.
      cond_both (is_direct m m.phase (e.first + r.done)) (WritesBlock r (e.first + r.done)) Waits So (λ direct. tt) (λ held. tt)))))
  map_so r (Discard e) is = so_free _ (so_unless r (Discard e) is (DiscardsFor r) (λ passed. tt))
  map_so r Flush is = so_free _ (so_unless r Flush is (FlushesFor r) (λ passed. tt))
  map_so r Prepare is = tt
  map_so r Commit is = tt

  -- whatever the worker answers is that there is no space
  abbrev Only : Task → Type 0
  Only task = (other : Request) (outcome : Outcome) → task ≡ Answers other outcome → outcome ≡ NoSpace other.done

  waits_only : Only Waits
  waits_only other outcome is = absurd (grind arith)

  acts_only : (n : Memory) → Only (Acts n)
  acts_only n other outcome is = absurd (grind arith)

  formed_for_only : (r : Request) (op : Op) (log : Option Generation) → Only (formed_for g m r op log)
  formed_for_only r (Write e p) (Some log) other outcome is = (formed_only g m r e log other outcome is).1
  formed_for_only r (Write e p) None other outcome is = waits_only other outcome is
  formed_for_only r (Read e p) log other outcome is = waits_only other outcome is
  formed_for_only r (Discard e) log other outcome is = waits_only other outcome is
  formed_for_only r Flush log other outcome is = waits_only other outcome is
  formed_for_only r Prepare log other outcome is = waits_only other outcome is
  formed_for_only r Commit log other outcome is = waits_only other outcome is

  serve_only : (found : Option Request) → Only (serve g m found)
  serve_only None = waits_only
  serve_only (Some r) = formed_for_only r r.op m.log

  worker_only : (hand : Hand) (phase : Phase) → Only (worker_task g m hand phase)
  worker_only (Batching b) phase = acts_only m
  worker_only Empty Checkpoint = serve_only (head g m)
  worker_only Empty Trim = waits_only
  worker_only Empty Arming = waits_only
  worker_only Empty Deciding = waits_only
  worker_only Empty Committed = waits_only
  worker_only (Preparing t c b act) phase = waits_only
  worker_only (Committing t again act) phase = waits_only

  -- the head is a write
  head_row : (r : Request) (op : Op) → r.op ≡ op → needs_worker g m r op ≡ true → HasNoBlock g m r → So (Answers r (NoSpace r.done))
  head_row r (Write e p) is needs none = row_of r (Write e p) (NoSpace r.done) is (inr (passes _ (and_parts _ _ (and_parts _ _ (and_parts _ _ needs).0).0).0, inr (inr (refl, none, refl))))
  head_row r (Read e p) is needs none = absurd (false≢true needs)
  head_row r (Discard e) is needs none = absurd (false≢true needs)
  head_row r Flush is needs none = absurd (false≢true needs)
  head_row r Prepare is needs none = absurd (false≢true needs)
  head_row r Commit is needs none = absurd (false≢true needs)

  module _ (s : MemoryIsSound g m) where
    worker_so : (task : Task) → task_of g m Worker ≡ task → So task
    worker_so (Answers r outcome) is =
        let what = worker_only m.hand m.phase r outcome is in
        let none : HasNoBlock g m r = (no_space_is_exact g m r s).0 (is ∙ ap (Answers r) what) in
        subst (λ o. So (Answers r o)) (sym what) (head_row r r.op refl (find_passes (λ q. needs_worker g m q q.op) m.requests r none.is_head) none)
    worker_so Waits is = tt
    worker_so (WritesBlock r b) is = tt
    worker_so (ReadsBlock r b) is = tt
    worker_so (FlushesFor r) is = tt
    worker_so (DiscardsFor r) is = tt
    worker_so (Acts n) is = tt

    is_not : (p other : Phase) → m.phase ≡ p → p ≢ other → m.phase ≢ other
    is_not p other is ne e = ne (sym is ∙ e)

    -- a command that has no place in this phase is refused so, with nothing in hand
    abbrev Misplaced : Request → Op → Phase → Outcome → Type 0
    Misplaced r op phase outcome = (WrongPhase phase ≡ outcome) × (AnswerRow g m r op (WrongPhase m.phase) [])

    phase_row : (r : Request) (op : Op) (phase : Phase) (outcome : Outcome) → r.op ≡ op → m.phase ≡ phase → Misplaced r op phase outcome → So (Answers r outcome)
    phase_row r op phase outcome is at (what, row) = subst (λ o. So (Answers r o)) (ap WrongPhase at ∙ what) (row_of r op (WrongPhase m.phase) is row)

    prepare_row : (r : Request) → m.hand ≡ Empty → (phase : Phase) → m.phase ≡ phase → phase ≢ Trim → phase ≢ Arming → AnswerRow g m r Prepare (WrongPhase m.phase) []
    prepare_row r empty phase at trim arming = inr (refl, inr (inr (inr (refl, empty, is_not phase Trim at trim, is_not phase Arming at arming, refl))))

    commit_row : (r : Request) → m.hand ≡ Empty → (phase : Phase) → m.phase ≡ phase → phase ≢ Checkpoint → phase ≢ Deciding → AnswerRow g m r Commit (WrongPhase m.phase) []
    commit_row r empty phase at checkpoint deciding = inr (refl, inr (inr (refl, empty, is_not phase Checkpoint at checkpoint, is_not phase Deciding at deciding, refl)))

    -- a command that has no place in this phase
    wrong : (r : Request) (op : Op) (phase : Phase) (outcome : Outcome) → taken m r op phase ≡ Answers r outcome → r.op ≡ op → m.phase ≡ phase → is_command op ≡ true → task_of g m Command ≡ Answers r outcome → So (Answers r outcome)
    wrong r Prepare Trim outcome is op phase command task =
        let what : outcome ≡ NoSpace 0 = few (nat_lt (count_of is_free m.kinds) 2) (picked m.kinds 1) (picked (without_picked m.kinds (picked m.kinds 1)) 1) is in
        let none : HasNoTwo m r = (prepare_space_is_exact g m r s).0 (task ∙ ap (Answers r) what) in
        subst (λ o. So (Answers r o)) (sym what) (row_of r Prepare (NoSpace 0) op (inr (refl, inr (inr (inl (refl, none, refl))))))
      where
        few : (t : Bool) (c b : Option Extent) → cond t (Answers r (NoSpace 0)) (prepare_on m r c b) ≡ Answers r outcome → outcome ≡ NoSpace 0
        few true c b e = let same : NoSpace 0 ≡ outcome = cc e in sym same
        few false None b e = let same : NoSpace 0 ≡ outcome = cc e in sym same
        few false (Some c) None e = let same : NoSpace 0 ≡ outcome = cc e in sym same
        few false (Some c) (Some b) e = absurd (grind arith)
    wrong r Prepare Arming outcome is op phase command task = absurd (grind arith)
    wrong r Prepare Checkpoint outcome is op phase command task = phase_row r Prepare Checkpoint outcome op phase (cc is, prepare_row r (command_answers g m r outcome task).0 Checkpoint phase (λ e. absurd (grind arith)) (λ e. absurd (grind arith)))
    wrong r Prepare Deciding outcome is op phase command task = phase_row r Prepare Deciding outcome op phase (cc is, prepare_row r (command_answers g m r outcome task).0 Deciding phase (λ e. absurd (grind arith)) (λ e. absurd (grind arith)))
    wrong r Prepare Committed outcome is op phase command task = phase_row r Prepare Committed outcome op phase (cc is, prepare_row r (command_answers g m r outcome task).0 Committed phase (λ e. absurd (grind arith)) (λ e. absurd (grind arith)))
    wrong r Commit Trim outcome is op phase command task = phase_row r Commit Trim outcome op phase (cc is, commit_row r (command_answers g m r outcome task).0 Trim phase (λ e. absurd (grind arith)) (λ e. absurd (grind arith)))
    wrong r Commit Arming outcome is op phase command task = phase_row r Commit Arming outcome op phase (cc is, commit_row r (command_answers g m r outcome task).0 Arming phase (λ e. absurd (grind arith)) (λ e. absurd (grind arith)))
    wrong r Commit Checkpoint outcome is op phase command task = absurd (grind arith)
    wrong r Commit Deciding outcome is op phase command task = absurd (grind arith)
    wrong r Commit Committed outcome is op phase command task = phase_row r Commit Committed outcome op phase (cc is, commit_row r (command_answers g m r outcome task).0 Committed phase (λ e. absurd (grind arith)) (λ e. absurd (grind arith)))
    wrong r (Read e p) phase outcome is op at command task = absurd (false≢true command)
    wrong r (Write e p) phase outcome is op at command task = absurd (false≢true command)
    wrong r (Discard e) phase outcome is op at command task = absurd (false≢true command)
    wrong r Flush phase outcome is op at command task = absurd (false≢true command)

    command_so : (task : Task) → task_of g m Command ≡ task → So task
    command_so (Answers r outcome) is =
        let at = command_answers g m r outcome is in
        let took : taken m r r.op m.phase ≡ Answers r outcome = sym (ap (command_task m) at.0 ∙ ap (take_first m) at.1) ∙ is in
        wrong r r.op m.phase outcome took refl refl (find_passes (λ q. is_command q.op) m.requests r at.1) is
    command_so Waits is = tt
    command_so (WritesBlock r b) is = tt
    command_so (ReadsBlock r b) is = tt
    command_so (FlushesFor r) is = tt
    command_so (DiscardsFor r) is = tt
    command_so (Acts n) is = tt

    turn_so : (turn : Turn) → So (task_of g m turn)
    turn_so (Map ticket) = go (request_of ticket m.requests)
      where
        go : (found : Option Request) → So (map_task g m found)
        go None = tt
        go (Some r) = map_so r r.op refl
    turn_so Worker = worker_so (task_of g m Worker) refl
    turn_so Command = command_so (task_of g m Command) refl

-- ----------------------------------------------------------------------------------------------------------------
-- Acts.

-- what a step tells has its row
abbrev TellsSo : Geometry → Contents → Memory → Step → Type 0
TellsSo g now m step = ToldRow g now m step.told step.events step.memory.requests

-- `n` is what the turn acts on, with the phase and the requests of `m`
module _ (g : Geometry) (now : Contents) (m n : Memory) (phase : n.phase ≡ m.phase) (requests : n.requests ≡ m.requests) (begun : (n ≡ m) ⊎ IsFresh n.hand) (s : MemoryIsSound g n) where
  in_phase : (p : Phase) → n.phase ≡ p → m.phase ≡ p
  in_phase p is = sym phase ∙ is

  -- what is in hand after its first act was in hand before the turn
  was_in_hand : (P : Hand → Type 0) → (IsFresh n.hand → ⊥) → P n.hand → P m.hand
  was_in_hand P late held = elim begun [ inl same ↦ subst (λ k. P k.hand) same held | inr fresh ↦ absurd (late fresh) ]

  -- the request of this ticket is answered
  answer_told : (t : Ticket) (r : Request) (left : Memory) (outcome : Request → Outcome) (happens : Request → List Event) (step : Step) → step ≡ answered_for left (request_of t n.requests) outcome happens
      → left.requests ≡ n.requests → request_of t n.requests ≡ Some r → AnswerRow g m r r.op (outcome r) (happens r) → TellsSo g now m step
  answer_told t r left outcome happens step is same waits row =
      let mine : r.ticket ≡ t = found_ticket t n.requests r waits in
      let found : request_of r.ticket m.requests ≡ Some r = ap (λ u. request_of u m.requests) mine ∙ ap (request_of t) (sym requests) ∙ waits in
      let whole : step ≡ answered_for left (Some r) outcome happens = is ∙ ap (λ o. answered_for left o outcome happens) waits in
      subst (TellsSo g now m) (sym whole) (r, found, (refl, row, ap (without_request r.ticket) (same ∙ requests)))

  batch_told : (b : Batch) → n.hand ≡ Batching b → (reply : Reply) → CanHave g (call_of_act g n b (next_act b.progress)) reply → TellsSo g now m (batch_step g n b reply)
  batch_told b is Failed can =
      let i = in_hand_of g n b is s in
      let f = batch_fails g n b s i in
      let w = i.held.for_write.waits in
      let passed : refusal g m.phase (Write w.extent w.payload) ≡ None = ap (λ p. refusal g p (Write w.extent w.payload)) (sym phase) ∙ ap (refusal g n.phase) (sym w.op) ∙ w.passed in
      answer_told b.ticket w.write f.left fault_after (fault_events g) (batch_step g n b Failed) f.is f.requests w.waits
      (subst (λ o. AnswerRow g m w.write o (DiskFault w.write.done) (Fails ((extent_of o).first + w.write.done) (block_at g.block_size (payload_of o) w.write.done) ∷ [])) (sym w.op) (inr (passed, inr (inl (refl, w.left, refl)))))
  batch_told b is Succeeded can = let go = batch_goes g n b s (in_hand_of g n b is s) Succeeded can (reply_ok []).1 in subst (TellsSo g now m) (sym go.is) (inl refl, go.requests ∙ requests)
  batch_told b is (Gave v) can = let go = batch_goes g n b s (in_hand_of g n b is s) (Gave v) can (reply_ok v).0 in subst (TellsSo g now m) (sym go.is) (inl refl, go.requests ∙ requests)

  module _ (t : Ticket) (c b : ℕ) (act_in : PrepareAct) (is : n.hand ≡ Preparing t c b act_in) (w : IsForCommand n.requests t Prepare) where
    prepare_phase : (act : PrepareAct) → PrepareIsSound g n c b act → (m.phase ≡ Trim) ⊎ (m.phase ≡ Arming)
    prepare_phase ReadsBlock0 h = inl (in_phase Trim h.phase)
    prepare_phase (WritesCurrent v) h = inl (in_phase Trim h.0.phase)
    prepare_phase (WritesBackup v) h = inl (in_phase Trim h.0.phase)
    prepare_phase (FlushesCopies v) h = inl (in_phase Trim h.0.phase)
    prepare_phase WritesFirstLog h = inr (in_phase Arming h)
    prepare_phase FlushesFirstLog h = inr (in_phase Arming h)

    arming_act : (v : List ℕ) → act_in ≡ FlushesCopies v → IsArmingAct m.hand
    arming_act v same =
        let here : n.hand ≡ Preparing t c b (FlushesCopies v) = is ∙ ap (Preparing t c b) same in
        was_in_hand IsArmingAct (λ fresh. subst IsFresh here fresh) (subst IsArmingAct (sym here) tt)

    prepare_told : (act : PrepareAct) → act_in ≡ act → PrepareIsSound g n c b act → (reply : Reply) → CanHave g (call_of_prepare g n c b act) reply → TellsSo g now m (prepare_step now n t c b act reply)
    prepare_told act same h Failed can = answer_told t w.command (record n { hand = Empty }) (λ r. DiskFault 0) (λ r. []) (prepare_step now n t c b act Failed) refl refl w.waits
        (subst (λ o. AnswerRow g m w.command o (DiskFault 0) []) (sym w.asks) (inr (refl, inr (inl (refl, prepare_phase act h, refl)))))
    prepare_told ReadsBlock0 same h Succeeded can = absurd can
    prepare_told ReadsBlock0 same h (Gave v) can = (inl refl, requests)
    prepare_told (WritesCurrent v) same h Succeeded can = (inl refl, requests)
    prepare_told (WritesCurrent v) same h (Gave u) can = absurd can
    prepare_told (WritesBackup v) same h Succeeded can = (inl refl, requests)
    prepare_told (WritesBackup v) same h (Gave u) can = absurd can
    prepare_told (FlushesCopies v) same h Succeeded can = (inr (inl (in_phase Trim h.0.phase, arming_act v same, refl)), requests)
    prepare_told (FlushesCopies v) same h (Gave u) can = absurd can
    prepare_told WritesFirstLog same h Succeeded can = (inl refl, requests)
    prepare_told WritesFirstLog same h (Gave u) can = absurd can
    prepare_told FlushesFirstLog same h Succeeded can = answer_told t w.command (record n { phase = Checkpoint; hand = Empty; clean = true }) (λ r. Done) (λ r. Prepares ∷ []) (prepare_step now n t c b FlushesFirstLog Succeeded) refl refl w.waits
        (subst (λ o. AnswerRow g m w.command o Done (Prepares ∷ [])) (sym w.asks) (inr (refl, inl (refl, in_phase Arming h, refl))))
    prepare_told FlushesFirstLog same h (Gave u) can = absurd can

  module _ (t : Ticket) (again_in : Bool) (act_in : CommitAct) (is : n.hand ≡ Committing t again_in act_in) (w : IsForCommand n.requests t Commit) where
    found_phase : (again : Bool) → FoundIn n again → (m.phase ≡ Checkpoint) ⊎ (m.phase ≡ Deciding)
    found_phase true is = inr (in_phase Deciding is)
    found_phase false is = inl (in_phase Checkpoint is)

    deciding_act : (v : List ℕ) → again_in ≡ false → act_in ≡ WritesBlock0 v → IsDecidingAct m.hand
    deciding_act v first same =
        let here : n.hand ≡ Committing t false (WritesBlock0 v) = is ∙ ap (λ a. Committing t a act_in) first ∙ ap (Committing t false) same in
        was_in_hand IsDecidingAct (λ fresh. subst IsFresh here fresh) (subst IsDecidingAct (sym here) tt)

    -- where a fault may come, with these events
    abbrev FailsSo : List Event → Type 0
    FailsSo happens = ((m.phase ≡ Checkpoint) × IsDecidingAct m.hand × (happens ≡ Decides ∷ [])) ⊎ (((m.phase ≡ Checkpoint) ⊎ (m.phase ≡ Deciding)) × (happens ≡ []))

    failed_so : {happens : List Event} → FailsSo happens → AnswerRow g m w.command Commit (DiskFault 0) happens
    failed_so so = inr (refl, inr (inl (refl, so)))

    -- a commit that fails tells of the decision where its write decides
    fault_row : (again : Bool) (act : CommitAct) → again_in ≡ again → act_in ≡ act → CommitIsSound g n again act → AnswerRow g m w.command Commit (DiskFault 0) (deciding_events again act)
    fault_row true FlushesAll first same h = failed_so (inr (found_phase true h, refl))
    fault_row false FlushesAll first same h = failed_so (inr (found_phase false h, refl))
    fault_row true ReadsCurrent first same h = failed_so (inr (found_phase true h, refl))
    fault_row false ReadsCurrent first same h = failed_so (inr (found_phase false h, refl))
    fault_row true (WritesBlock0 v) first same h = failed_so (inr (found_phase true h.0, refl))
    fault_row false (WritesBlock0 v) first same h = failed_so (inl (in_phase Checkpoint h.0, deciding_act v first same, refl))
    fault_row true FlushesDecision first same h = failed_so (inr (inr (in_phase Deciding h), refl))
    fault_row false FlushesDecision first same h = failed_so (inr (inr (in_phase Deciding h), refl))

    moved_row : (again : Bool) (act : CommitAct) → again_in ≡ again → act_in ≡ act → CommitIsSound g n again act → MovedRow now m (deciding_events again act)
    moved_row true FlushesAll first same h = inl refl
    moved_row false FlushesAll first same h = inl refl
    moved_row true ReadsCurrent first same h = inl refl
    moved_row false ReadsCurrent first same h = inl refl
    moved_row true (WritesBlock0 v) first same h = inl refl
    moved_row false (WritesBlock0 v) first same h = inr (inr (in_phase Checkpoint h.0, deciding_act v first same, refl))
    moved_row true FlushesDecision first same h = inl refl
    moved_row false FlushesDecision first same h = inl refl

    ends_now : (again : Bool) → again_in ≡ again → act_in ≡ FlushesDecision → EndsCommit m.hand (committing_events again)
    ends_now again first same =
        let here : n.hand ≡ Committing t again FlushesDecision = is ∙ ap (λ a. Committing t a act_in) first ∙ ap (Committing t again) same in
        was_in_hand (λ hand. EndsCommit hand (committing_events again)) (λ fresh. subst IsFresh here fresh) (subst (λ hand. EndsCommit hand (committing_events again)) (sym here) refl)

    failed_requests : (act : CommitAct) → (commit_failed n act).requests ≡ n.requests
    failed_requests FlushesAll = refl
    failed_requests ReadsCurrent = refl
    failed_requests (WritesBlock0 v) = refl
    failed_requests FlushesDecision = refl

    commit_told : (again : Bool) (act : CommitAct) → again_in ≡ again → act_in ≡ act → CommitIsSound g n again act → (reply : Reply) → CanHave g (call_of_commit n act) reply → TellsSo g now m (commit_step n t again act reply)
    commit_told again act first same h Failed can = answer_told t w.command (commit_failed n act) (λ r. DiskFault 0) (λ r. deciding_events again act) (commit_step n t again act Failed) refl (failed_requests act) w.waits
        (subst (λ o. AnswerRow g m w.command o (DiskFault 0) (deciding_events again act)) (sym w.asks) (fault_row again act first same h))
    commit_told again FlushesAll first same h Succeeded can = (moved_row again FlushesAll first same h, requests)
    commit_told again FlushesAll first same h (Gave u) can = absurd can
    commit_told again ReadsCurrent first same h Succeeded can = absurd can
    commit_told again ReadsCurrent first same h (Gave u) can = (moved_row again ReadsCurrent first same h, requests)
    commit_told again (WritesBlock0 v) first same h Succeeded can = (moved_row again (WritesBlock0 v) first same h, requests)
    commit_told again (WritesBlock0 v) first same h (Gave u) can = absurd can
    commit_told again FlushesDecision first same h Succeeded can = answer_told t w.command (released n) (λ r. Done) (λ r. committing_events again) (commit_step n t again FlushesDecision Succeeded) refl refl w.waits
        (subst (λ o. AnswerRow g m w.command o Done (committing_events again)) (sym w.asks) (inr (refl, inl (refl, in_phase Deciding h, ends_now again first same))))
    commit_told again FlushesDecision first same h (Gave u) can = absurd can

  act_told : (hand : Hand) → n.hand ≡ hand → is_busy hand ≡ true → (reply : Reply) → CanHaveIt g (call_in_hand g n hand) reply → TellsSo g now m (act_step g now n hand reply)
  act_told Empty is busy reply can = absurd (grind arith)
  act_told (Batching b) is busy reply can = batch_told b is reply can
  act_told (Preparing t c b act) is busy reply can = let h = subst (λ h. HandIsSound g n h n.log) is s.in_hand in prepare_told t c b act is h.1 act refl h.0 reply can
  act_told (Committing t again act) is busy reply can = let h = subst (λ h. HandIsSound g n h n.log) is s.in_hand in commit_told t again act is h.1 again act refl refl h.0 reply can

-- ----------------------------------------------------------------------------------------------------------------

module _ (g : Geometry) (m : Memory) (now : Contents) (s : MemoryIsSound g m) where
  write_event : (r : Request) (b : ℕ) (e : Extent) (p : List ℕ) → r.op ≡ Write e p → b ≡ e.first + r.done → Writes b (next_block g r) ∷ [] ≡ Writes (e.first + r.done) (block_at g.block_size p r.done) ∷ []
  write_event r b e p op block = ap (λ x. Writes x (next_block g r) ∷ []) block ∙ ap (λ o. Writes (e.first + r.done) (block_at g.block_size (payload_of o) r.done) ∷ []) op

  begun_of : (n : Memory) → ActsOn g m n → (n ≡ m) ⊎ IsFresh n.hand
  begun_of n a = elim a.less [ inl same ↦ inl same | inr first ↦ inr first.1 ]

  task_told : (task : Task) → TaskIsSound g m task → AnswersSo g m task → (reply : Reply) → CanHaveIt g (call_of g m task) reply → TellsSo g now m (step_of g now m task reply)
  task_told Waits is so reply can = (refl, refl)
  task_told (Answers r outcome) is so reply can = (r, is.request.found, (refl, so, refl))
  task_told (WritesBlock r b) is so Succeeded can = (r, is.request.found, record { extent = is.extent; payload = is.payload; op = is.op; passed = is.passed; first = is.first; next = refl; left = is.left; happens = write_event r b is.extent is.payload is.op is.block; goes_on = refl })
  task_told (WritesBlock r b) is so Failed can =
      let passed : refusal g m.phase (Write is.extent is.payload) ≡ None = ap (refusal g m.phase) (sym is.op) ∙ is.passed in
      (r, is.request.found, (refl, subst (λ o. AnswerRow g m r o (DiskFault r.done) (Fails ((extent_of o).first + r.done) (block_at g.block_size (payload_of o) r.done) ∷ [])) (sym is.op) (inr (passed, inr (inl (refl, is.left, refl)))), refl))
  task_told (WritesBlock r b) is so (Gave v) can = absurd can
  task_told (ReadsBlock r b) is so (Gave v) can = (r, is.request.found, record { extent = is.extent; payload = is.payload; op = is.op; passed = is.passed; next = refl; left = is.left; content = v; whole = can; happens = ap (λ x. Reads x v ∷ []) is.block; goes_on = ap (λ o. with_request (record r { op = with_read g.block_size o r.done v; done = r.done + 1 }) m.requests) is.op })
  task_told (ReadsBlock r b) is so Failed can =
      let passed : refusal g m.phase (Read is.extent is.payload) ≡ None = ap (refusal g m.phase) (sym is.op) ∙ is.passed in
      (r, is.request.found, (refl, subst (λ o. AnswerRow g m r o (DiskFault r.done) []) (sym is.op) (inr (passed, inr (refl, is.left, refl))), refl))
  task_told (ReadsBlock r b) is so Succeeded can = absurd can
  task_told (FlushesFor r) is so Succeeded can = (r, is.request.found, (refl, subst (λ o. AnswerRow g m r o Done (Flushes ∷ [])) (sym is.op) (inr (is.passed, inl (refl, refl))), refl))
  task_told (FlushesFor r) is so Failed can = (r, is.request.found, (refl, subst (λ o. AnswerRow g m r o (DiskFault 0) []) (sym is.op) (inr (is.passed, inr (refl, refl))), refl))
  task_told (FlushesFor r) is so (Gave v) can = absurd can
  task_told (DiscardsFor r) is so reply can = (r, is.request.found, (refl, subst (λ o. AnswerRow g m r o Done (Discards (extent_of o) ∷ [])) (sym is.op) (inr (is.passed, (refl, refl))), refl))
  task_told (Acts n) is so reply can = act_told g now m n is.phase is.requests (begun_of n is) is.sound n.hand refl is.busy reply can

pub steps_tell_so : StepsTellSo
steps_tell_so g m turn reply now s can = task_told g m now s (task_of g m turn) (turn_sound g m turn s) (turn_so g m s turn) reply can

-- At its act a prepare arms, and a commit decides.
pub acts_tell_so : ActsTellSo
acts_tell_so g m reply now s can = (λ arms ok. arming m.hand refl arms ok, λ decides. deciding m.hand refl decides)
  where
    -- what the turn of the commands does with this in hand
    turn_is : (hand : Hand) → m.hand ≡ hand → command_task m hand ≡ Acts m → (step_of g now m (task_of g m Command) reply).events ≡ (act_step g now m hand reply).events
    turn_is hand is acts = ap (λ t. (step_of g now m t reply).events) (ap (command_task m) is ∙ acts) ∙ ap (λ h. (act_step g now m h reply).events) is

    arming : (hand : Hand) → m.hand ≡ hand → IsArmingAct hand → reply ≡ Succeeded → (step_of g now m (task_of g m Command) reply).events ≡ Arms now ∷ []
    arming (Preparing t c b (FlushesCopies v)) is arms ok = turn_is (Preparing t c b (FlushesCopies v)) is refl ∙ ap (λ r. (prepare_step now m t c b (FlushesCopies v) r).events) ok
    arming (Preparing t c b ReadsBlock0) is arms ok = absurd arms
    arming (Preparing t c b (WritesCurrent v)) is arms ok = absurd arms
    arming (Preparing t c b (WritesBackup v)) is arms ok = absurd arms
    arming (Preparing t c b WritesFirstLog) is arms ok = absurd arms
    arming (Preparing t c b FlushesFirstLog) is arms ok = absurd arms
    arming (Committing t again act) is arms ok = absurd arms
    arming (Batching b) is arms ok = absurd arms
    arming Empty is arms ok = absurd arms

    decides_by : (t : Ticket) (v : List ℕ) → IsForCommand m.requests t Commit → (reply : Reply) → CanHave g (WriteCall 0 v) reply → (commit_step m t false (WritesBlock0 v) reply).events ≡ Decides ∷ []
    decides_by t v w Succeeded can = refl
    decides_by t v w Failed can = ap (λ o. (answered_for (commit_failed m (WritesBlock0 v)) o (λ r. DiskFault 0) (λ r. Decides ∷ [])).events) w.waits
    decides_by t v w (Gave u) can = absurd can

    deciding : (hand : Hand) → m.hand ≡ hand → IsDecidingAct hand → (step_of g now m (task_of g m Command) reply).events ≡ Decides ∷ []
    deciding (Committing t false (WritesBlock0 v)) is decides =
        turn_is (Committing t false (WritesBlock0 v)) is refl
        ∙ decides_by t v (subst (λ h. HandIsSound g m h m.log) is s.in_hand).1 reply (subst (λ h. CanHaveIt g (call_in_hand g m h) reply) is (subst (λ t. CanHaveIt g (call_of g m t) reply) (ap (command_task m) is) can))
    deciding (Committing t false FlushesAll) is decides = absurd decides
    deciding (Committing t false ReadsCurrent) is decides = absurd decides
    deciding (Committing t false FlushesDecision) is decides = absurd decides
    deciding (Committing t true act) is decides = absurd decides
    deciding (Preparing t c b act) is decides = absurd decides
    deciding (Batching b) is decides = absurd decides
    deciding Empty is decides = absurd decides
