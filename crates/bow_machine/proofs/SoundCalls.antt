-- Over sound memory: readiness is the table; each call is on the device; a fault is told exactly where the call failed.
use Rattle.std.proofs.Common.{ℕ, ◌+◌, ◌*◌, ◌<◌, ◌≤◌, ◌≡◌, ◌==◌, Bool, true, false, not, cond, List, [], length, Option, Some, None, arith, refl, sym, ap, ◌∙◌, subst, inl, inr, length-drop}
use Rattle.std.proofs.Math.Nat.{mul-le-mul_right}
use Rattle.std.proofs.lemmas.List.{length-take}
use Rattle.bow_units.specs.declared.sizes.Geometry.{Geometry}
use Rattle.bow_units.specs.declared.requests.Op.TheVariants.{Flush}
use Rattle.bow_units.specs.declared.requests.Phase.{Phase}
use Rattle.bow_units.specs.declared.requests.Phase.TheVariants.{Trim, Arming, Checkpoint, Deciding, Committed}
use Rattle.bow_units.specs.declared.requests.Outcome.TheVariants as outcomes
use Rattle.bow_units.specs.declared.statuses.Kind.{Kind}
use Rattle.bow_log.specs.Generations.{Generation}
use Rattle.bow_chain.specs.Contents.{Contents}
use Rattle.bow_flat.specs.Flat.{block_at}
use Rattle.bow_queue.specs.declared.tickets.Ticket.{Ticket}
use Rattle.bow_machine.specs.Requests.{Request, request_of}
use Rattle.bow_machine.specs.Memory.{Memory, Hand, Empty, Batching, Preparing, Committing, PrepareAct, ReadsBlock0, WritesCurrent, WritesBackup, FlushesCopies, WritesFirstLog, FlushesFirstLog, CommitAct, FlushesAll, ReadsCurrent, WritesBlock0, FlushesDecision, reserved, place_with, place_of}
use Rattle.bow_machine.specs.Calls.{Call, Reply, Failed, Succeeded, Gave}
use Rattle.bow_machine.specs.Tasks.{Map, Worker, Command, Task, Waits, Answers, WritesBlock, ReadsBlock, FlushesFor, DiscardsFor, Acts, spelling, task_of}
use Rattle.bow_machine.specs.Steps.{Answered, Step, payload_of, log_or_blank, log_of_memory, answered_for, act_step, call_in_hand, call_of_prepare, call_of_commit, call_of, step_of}
use Rattle.bow_machine.specs.MemoryIsSound.{IsTransfer, IsAdmissible, LogIsHeld, PrepareIsSound, CommitIsSound, HandIsSound, MemoryIsSound}
use Rattle.bow_machine.specs.MemoryLaws.{CanHaveIt, ReadyIsTable, IdleChangesNothing, IsOnDevice, CallsAreOnDevice, ticket_of_hand, served_by, tells_fault, FaultIsTold, FaultsAreTold}
use Rattle.bow_machine.proofs.RequestLists.{found_ticket}
use Rattle.bow_machine.proofs.ReadyTable.{map_ready, worker_ready, command_ready}
use Rattle.bow_machine.proofs.Consequences.{idle_waits}
use Rattle.bow_machine.proofs.SoundLists.{found_waiting}
use Rattle.bow_machine.proofs.SoundTasks.{is_busy, TaskIsSound}
use Rattle.bow_machine.proofs.SoundLogs.{spelling_length}
use Rattle.bow_machine.proofs.SoundBatches.{in_hand_of, batch_call}
use Rattle.bow_machine.proofs.SoundCommands.{ActEnds, ActIsDone}
use Rattle.bow_machine.proofs.SoundActs.{none_done, act_fails, act_done}
use Rattle.bow_machine.proofs.SoundTurns.{checkpoint_log, turn_sound}
use Rattle.bow_machine.proofs.SoundSteps.{reply_ok}

-- ----------------------------------------------------------------------------------------------------------------
-- Readiness.

pub ready_is_table : ReadyIsTable
ready_is_table g m (Map ticket) s = map_ready g m (request_of ticket m.requests)
ready_is_table g m Worker s = worker_ready g m m.hand m.phase (λ is. checkpoint_log g m.kinds m.clean m.trimmed (reserved m.hand).count m.log (subst (λ p. LogIsHeld g m.kinds m.clean m.trimmed (reserved m.hand).count p m.log) is s.log))
ready_is_table g m Command s = command_ready m m.hand

pub idle_changes_nothing : IdleChangesNothing
idle_changes_nothing g m turn reply now s unready =
    let waits = idle_waits (task_of g m turn) (ready_is_table g m turn s ∙ ap not unready) in
    (ap (call_of g m) waits, ap (λ task. step_of g now m task reply) waits)

-- ----------------------------------------------------------------------------------------------------------------
-- Calls.

-- one block of whole blocks is one block
block_length : (size count i : ℕ) (bytes : List ℕ) → length bytes ≡ count * size → i < count → length (block_at size bytes i) ≡ size
block_length size count i bytes long below =
    let next : (i + 1) * size ≤ count * size = mul-le-mul_right size (omega arith) in
    let split : (i + 1) * size ≡ i * size + size = omega arith in
    simp (length-take, length-drop) (omega (arith, next, split, long))

place_if : (t : Bool) (blocks current b : ℕ) → current < blocks → b < blocks → cond t current b < blocks
place_if true blocks current b one other = one
place_if false blocks current b one other = other

-- where a block's content lies is on the device
held_place : (g : Geometry) (table : List Kind) (clean : Bool) (trimmed picked : ℕ) (phase : Phase) (log : Option Generation) (b : ℕ) → LogIsHeld g table clean trimmed picked phase log → b < g.blocks → place_with log b < g.blocks
held_place g table clean trimmed picked Trim None b k on = on
held_place g table clean trimmed picked Trim (Some log) b k on = absurd k
held_place g table clean trimmed picked Arming None b k on = absurd k
held_place g table clean trimmed picked Arming (Some log) b k on = place_if (b == 0) g.blocks log.current b k.0.generation.current_inside on
held_place g table clean trimmed picked Checkpoint None b k on = absurd k
held_place g table clean trimmed picked Checkpoint (Some log) b k on = place_if (b == 0) g.blocks log.current b k.generation.current_inside on
held_place g table clean trimmed picked Deciding None b k on = absurd k
held_place g table clean trimmed picked Deciding (Some log) b k on = place_if (b == 0) g.blocks log.current b k.generation.current_inside on
held_place g table clean trimmed picked Committed None b k on = on
held_place g table clean trimmed picked Committed (Some log) b k on = absurd k

module _ (g : Geometry) (m : Memory) (s : MemoryIsSound g m) where
  pub place_inside : (b : ℕ) → b < g.blocks → place_of m b < g.blocks
  place_inside b on = held_place g m.kinds m.clean m.trimmed (reserved m.hand).count m.phase m.log b s.log on

  some : 0 < g.blocks
  some = omega (arith, s.sizes.enough)

  -- the first log is one block
  first_length : m.phase ≡ Arming → length (spelling g (log_of_memory m)) ≡ g.block_size
  first_length is = go m.log (subst (λ p. LogIsHeld g m.kinds m.clean m.trimmed (reserved m.hand).count p m.log) is s.log)
    where
      go : (l : Option Generation) → LogIsHeld g m.kinds m.clean m.trimmed (reserved m.hand).count Arming l → length (spelling g (log_or_blank l)) ≡ g.block_size
      go None k = absurd k
      go (Some log) k = spelling_length g log s.sizes k.0.generation.few

  prepare_call : (c b : ℕ) (act : PrepareAct) → PrepareIsSound g m c b act → IsOnDevice g (Some (call_of_prepare g m c b act))
  prepare_call c b ReadsBlock0 h = some
  prepare_call c b (WritesCurrent v) h = (h.0.c_inside, h.1)
  prepare_call c b (WritesBackup v) h = (h.0.b_inside, h.1)
  prepare_call c b (FlushesCopies v) h = tt
  prepare_call c b WritesFirstLog h = (some, first_length h)
  prepare_call c b FlushesFirstLog h = tt

  commit_call : (again : Bool) (act : CommitAct) → CommitIsSound g m again act → IsOnDevice g (Some (call_of_commit m act))
  commit_call again FlushesAll h = tt
  commit_call again ReadsCurrent h = place_inside 0 some
  commit_call again (WritesBlock0 v) h = (some, h.1)
  commit_call again FlushesDecision h = tt

  hand_call : (hand : Hand) → m.hand ≡ hand → IsOnDevice g (call_in_hand g m hand)
  hand_call Empty is = tt
  hand_call (Batching b) is = batch_call g m b s (in_hand_of g m b is s)
  hand_call (Preparing t c b act) is = prepare_call c b act (subst (λ h. HandIsSound g m h m.log) is s.in_hand).0
  hand_call (Committing t again act) is = commit_call again act (subst (λ h. HandIsSound g m h m.log) is s.in_hand).0

module _ (g : Geometry) (m : Memory) (s : MemoryIsSound g m) where
  task_call : (task : Task) → TaskIsSound g m task → IsOnDevice g (call_of g m task)
  task_call Waits is = tt
  task_call (Answers r outcome) is = tt
  task_call (WritesBlock r b) is = (place_inside g m s b is.inside, subst (λ o. length (block_at g.block_size (payload_of o) r.done) ≡ g.block_size) (sym is.op) (block_length g.block_size is.extent.count r.done is.payload whole is.left))
    where
      whole : length is.payload ≡ is.extent.count * g.block_size
      whole = let t : IsTransfer g is.extent is.payload = subst (IsAdmissible g) is.op (found_waiting g r.ticket m.requests r s.requests is.request.found).op in t.whole
  task_call (ReadsBlock r b) is = place_inside g m s b is.inside
  task_call (FlushesFor r) is = tt
  task_call (DiscardsFor r) is = tt
  task_call (Acts taken) is = hand_call g taken is.sound taken.hand refl

pub calls_are_on_device : CallsAreOnDevice
calls_are_on_device g m turn s = task_call g m s (task_of g m turn) (turn_sound g m turn s)

-- ----------------------------------------------------------------------------------------------------------------
-- Faults.

-- something in hand makes a call
busy_call : (g : Geometry) (m : Memory) (hand : Hand) → is_busy hand ≡ true → (call : Call) × (call_in_hand g m hand ≡ Some call)
busy_call g m Empty busy = absurd (grind arith)
busy_call g m (Batching b) busy = (_, refl)
busy_call g m (Preparing t c b act) busy = (_, refl)
busy_call g m (Committing t again act) busy = (_, refl)

-- what is told where a request is answered
ends_told : (g : Geometry) (m : Memory) (t : Ticket) (r : Request) (step : Step) → request_of t m.requests ≡ Some r → (e : ActEnds g m t step) → step.told ≡ Answered r.ticket r.op (e.outcome r)
ends_told g m t r step waits e = ap (λ (x : Step). x.told) e.is ∙ ap (λ o. (answered_for e.left o e.outcome e.happens).told) waits

done_told : (g : Geometry) (m : Memory) (t : Ticket) (r : Request) (step : Step) → request_of t m.requests ≡ Some r → ActIsDone g m t step → tells_fault step.told ≡ false
done_told g m t r step waits (inl a) = ap tells_fault (ends_told g m t r step waits a.ends) ∙ ap (λ o. tells_fault (Answered r.ticket r.op o)) (a.done r)
done_told g m t r step waits (inr go) = ap (λ (x : Step). tells_fault x.told) go.is

module _ (g : Geometry) (m : Memory) (now : Contents) (s : MemoryIsSound g m) where
  act_told : (hand : Hand) → m.hand ≡ hand → is_busy hand ≡ true → (reply : Reply) → CanHaveIt g (call_in_hand g m hand) reply
      → FaultIsTold m.requests (ticket_of_hand hand) (call_in_hand g m hand) reply (act_step g now m hand reply).told
  act_told hand is busy reply can = subst (λ call. FaultIsTold m.requests (ticket_of_hand hand) call reply (act_step g now m hand reply).told) (sym call.1) (go reply can)
    where
      call : (call : Call) × (call_in_hand g m hand ≡ Some call)
      call = busy_call g m hand busy

      go : (reply : Reply) → CanHaveIt g (call_in_hand g m hand) reply → FaultIsTold m.requests (ticket_of_hand hand) (Some call.0) reply (act_step g now m hand reply).told
      go Failed can =
          let f = act_fails g m s now hand is busy in
          let mine : f.request.ticket ≡ f.ticket = found_ticket f.ticket m.requests f.request f.waits in
          record {
            request = f.request;
            waits = ap (λ t. request_of t m.requests) mine ∙ f.waits;
            for_it = f.is ∙ ap Some (sym mine);
            answered = ends_told g m f.ticket f.request (act_step g now m hand Failed) f.waits f.ends ∙ ap (Answered f.request.ticket f.request.op) f.fault;
          }
      go Succeeded can = let d = act_done g m s now hand is busy Succeeded can (reply_ok []).1 in done_told g m d.ticket d.request _ d.waits d.done
      go (Gave v) can = let d = act_done g m s now hand is busy (Gave v) can (reply_ok v).0 in done_told g m d.ticket d.request _ d.waits d.done

module _ (g : Geometry) (m : Memory) (now : Contents) (s : MemoryIsSound g m) where
  task_told : (task : Task) → TaskIsSound g m task → (reply : Reply) → CanHaveIt g (call_of g m task) reply → FaultIsTold m.requests (served_by task) (call_of g m task) reply (step_of g now m task reply).told
  task_told Waits is reply can = refl
  task_told (Answers r outcome) is reply can = is.no_fault
  task_told (WritesBlock r b) is Failed can = record { request = r; waits = is.request.found; for_it = refl; answered = refl }
  task_told (WritesBlock r b) is Succeeded can = refl
  task_told (WritesBlock r b) is (Gave v) can = refl
  task_told (ReadsBlock r b) is Failed can = record { request = r; waits = is.request.found; for_it = refl; answered = refl }
  task_told (ReadsBlock r b) is Succeeded can = absurd can
  task_told (ReadsBlock r b) is (Gave v) can = refl
  task_told (FlushesFor r) is Failed can = record { request = r; waits = is.request.found; for_it = refl; answered = ap (λ n. Answered r.ticket r.op (outcomes.DiskFault n)) (sym (none_done g m r.ticket Flush r refl s.requests is.request.found is.op)) }
  task_told (FlushesFor r) is Succeeded can = refl
  task_told (FlushesFor r) is (Gave v) can = refl
  task_told (DiscardsFor r) is reply can = refl
  task_told (Acts taken) is reply can = subst (λ rs. FaultIsTold rs (ticket_of_hand taken.hand) (call_in_hand g taken taken.hand) reply (act_step g now taken taken.hand reply).told) is.requests (act_told g taken now is.sound taken.hand refl is.busy reply can)

pub faults_are_told : FaultsAreTold
faults_are_told g m turn reply now s can = task_told g m now s (task_of g m turn) (turn_sound g m turn s) reply can
