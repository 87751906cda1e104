-- A request's turn, done: what the code made of the disk and of memory is the machine's step.
use Rattle.std.proofs.Common.{ℕ, ◌+◌, ◌*◌, ◌≡◌, ◌⊎◌, ◌<◌, ◌≤◌, ◌==◌, Bool, true, false, not, List, [], ◌∷◌, length, Option, Some, None, refl, sym, ap, ◌∙◌, subst, arith, inl, inr}
use Rattle.std.specs.Prelude.{Result, Ok, IsSome, unwrap_or}
use Rattle.std.proofs.Math.Nat.{mul-le-mul_right}
use Rattle.std.proofs.lemmas.Bool.{cases_Bool, eqb-true, false≢true}
use Rattle.bow_units.specs.declared.sizes.Geometry.{Geometry}
use Rattle.bow_units.specs.declared.sizes.Extent.{Extent}
use Rattle.bow_units.specs.declared.requests.Op.{Op}
use Rattle.bow_units.specs.declared.requests.Op.TheVariants.{Flush, Read, Write}
use Rattle.bow_units.specs.declared.requests.Outcome.{Outcome}
use Rattle.bow_units.specs.declared.requests.Outcome.TheVariants as outcomes
use Rattle.bow_units.specs.declared.requests.Phase.{Phase}
use Rattle.bow_units.specs.declared.requests.Phase.TheVariants.{Trim, Arming, Checkpoint, Deciding, Committed}
use Rattle.bow_units.specs.declared.statuses.Kind.{Kind}
use Rattle.bow_units.specs.declared.statuses.Kind.TheVariants as kinds
use Rattle.bow_log.specs.Generations.{Generation}
use Rattle.bow_ranges.specs.Kinds.{kind_at}
use Rattle.bow_queue.specs.declared.tickets.Ticket.{Ticket}
use Rattle.bow_flat.specs.Flat.{Event}
use Rattle.bow_flat.specs.Flat.Event.{Flushes}
use Rattle.bow_machine.specs.Requests.{Request, request_of}
use Rattle.bow_machine.specs.Memory.{Memory, place_of, is_direct, may_be_written, reserved}
use Rattle.bow_machine.specs.MemoryIsSound.{MemoryIsSound, LogIsHeld, IsWaiting, IsTransfer, IsAdmissible}
use Rattle.bow_machine.specs.MemoryLaws.{IsOnDevice}
use Rattle.bow_machine.specs.Steps.{Step, payload_of, extent_of, call_of, next_block, answered, answered_for, kinds_discarded}
use Rattle.bow_machine.specs.Tasks.{Task, Waits, Answers, task_of, map_task, WritesBlock, ReadsBlock, FlushesFor, DiscardsFor}
use Rattle.bow_machine.specs.declared.turns.Turn.TheVariants.{Map}
use Rattle.bow_machine.proofs.RequestLists.{found_ticket}
use Rattle.bow_machine.proofs.SoundLists.{found_waiting}
use Rattle.bow_machine.proofs.SoundTasks.{TaskIsSound, WritesNext, ReadsNext, map_sound}
use Rattle.bow_machine.proofs.SoundCalls.{calls_are_on_device, ready_is_table}
use Rattle.bow_machine.specs.Ready.{is_idle, is_ready}
use Rattle.bow_queue.specs.Requests.{the_request}
use Rattle.bow_core.specs.Inside.{is_saved}
use Rattle.bow_queue.specs.Requests.{one_done, one_read}
use Rattle.bow_core.specs.Calls.{reply_of, read_reply, DoesOne}
use Rattle.bow_core.specs.Ports.{Makes}
use Rattle.bow_core.specs.Steps.{IsDone, done_by}
use Rattle.bow_core.specs.Turns.{told_of}
use Rattle.bow_core.specs.declared.turns.Step.{Step as Inside}
use Rattle.bow_core.specs.declared.turns.Step.TheVariants as inside
use Rattle.bow_disk.specs.Disk.{Content, Goes}
use Rattle.bow_machine.specs.Calls.{ReadCall, WriteCall, FlushCall, Reply, Succeeded, Gave}
use Rattle.bow_machine.specs.Memory.{kinds_written}
use Rattle.bow_machine.specs.Requests.{with_request}

-- ----------------------------------------------------------------------------------------------------------------
-- The request of a ticket.

pub the_found : (t : Ticket) (requests : List Request) → IsSome (request_of t requests) → request_of t requests ≡ Some (the_request t requests)
the_found t requests some = go (request_of t requests) some
  where
    go : (o : Option Request) → IsSome o → o ≡ Some (unwrap_or o (record { ticket = t; op = Flush; done = 0 }))
    go None some = absurd (false≢true some)
    go (Some r) some = refl

-- a task that is not to wait is that of a request that waits
pub busy_found : (g : Geometry) (m : Memory) (t : Ticket) (task : Task) → task_of g m (Map t) ≡ task → (task ≡ Waits → ⊥) → IsSome (request_of t m.requests)
busy_found g m t task is busy = go (request_of t m.requests) is
  where
    go : (o : Option Request) → map_task g m o ≡ task → IsSome o
    go None is = absurd (busy (sym is))
    go (Some r) is = refl

-- the answer to a request that waits
module _ (m : Memory) (t : Ticket) (o : Outcome) (happens : List Event) (some : IsSome (request_of t m.requests)) where
  found : request_of t m.requests ≡ Some (the_request t m.requests)
  found = the_found t m.requests some

  pub answers_told : (answered_for m (request_of t m.requests) (λ r. o) (λ r. [])).told ≡ (answered m (the_request t m.requests) o happens).told
  answers_told = rw found refl

  pub answers_memory : (answered_for m (request_of t m.requests) (λ r. o) (λ r. [])).memory ≡ (answered m (the_request t m.requests) o happens).memory
  answers_memory = rw found refl

-- ----------------------------------------------------------------------------------------------------------------
-- No direct write falls on a saved block.

unchanged_open : (kind : Kind) → (kind ≡ kinds.Free) ⊎ (kind ≡ kinds.Unchanged) → is_saved kind ≡ false
unchanged_open kind is = grind (arith, is)

written_open : (kind : Kind) → may_be_written kind ≡ true → is_saved kind ≡ false
written_open kind is = grind (arith, is)

pub trim_open : (g : Geometry) (m : Memory) → MemoryIsSound g m → m.phase ≡ Trim → (b : ℕ) → b < g.blocks → is_saved (kind_at m.kinds b) ≡ false
trim_open g m s phase b inside = go m.log (subst (λ p. LogIsHeld g m.kinds m.clean m.trimmed (reserved m.hand).count p m.log) phase s.log) (cases_Bool (b == 0))
  where
    go : (log : Option Generation) → LogIsHeld g m.kinds m.clean m.trimmed (reserved m.hand).count Trim log → ((b == 0) ≡ true) ⊎ ((b == 0) ≡ false) → is_saved (kind_at m.kinds b) ≡ false
    go None held (inl zero) = let e : b ≡ 0 = eqb-true b 0 zero in rw (e, s.table.zeroth) refl
    go None held (inr other) = unchanged_open (kind_at m.kinds b) (held b (grind (arith, other)) inside)
    go (Some log) held c = absurd held

pub direct_open : (g : Geometry) (m : Memory) (b : ℕ) → MemoryIsSound g m → b < g.blocks → is_direct m m.phase b ≡ true → is_saved (kind_at m.kinds b) ≡ false
direct_open g m b s inside direct = go m.phase refl m.log s.log direct (cases_Bool (b == 0))
  where
    go : (phase : Phase) → m.phase ≡ phase → (log : Option Generation) → LogIsHeld g m.kinds m.clean m.trimmed (reserved m.hand).count m.phase log → is_direct m phase b ≡ true → ((b == 0) ≡ true) ⊎ ((b == 0) ≡ false) → is_saved (kind_at m.kinds b) ≡ false
    go phase at log held direct (inl zero) = let e : b ≡ 0 = eqb-true b 0 zero in rw (e, s.table.zeroth) refl
    go Trim at log held direct (inr other) = trim_open g m s at b inside
    go Checkpoint at log held direct (inr other) = elim (cases_Bool (may_be_written (kind_at m.kinds b))) [
      | inl written ↦ written_open (kind_at m.kinds b) written
      | inr closed ↦ absurd (false≢true (rw (closed, other) at direct))
    ]
    go Committed at None held direct (inr other) = let held : LogIsHeld g m.kinds m.clean m.trimmed (reserved m.hand).count Committed None = subst (λ p. LogIsHeld g m.kinds m.clean m.trimmed (reserved m.hand).count p None) at held in
        unchanged_open (kind_at m.kinds b) (inr (held b (grind (arith, other)) inside))
    go Committed at (Some log) held direct (inr other) = absurd (subst (λ p. LogIsHeld g m.kinds m.clean m.trimmed (reserved m.hand).count p (Some log)) at held)
    go Arming at log held direct (inr other) = absurd (false≢true direct)
    go Deciding at log held direct (inr other) = absurd (false≢true direct)

-- ----------------------------------------------------------------------------------------------------------------
-- What a task needs.

transfer_room : (g : Geometry) (e : Extent) (p : List ℕ) (done : ℕ) → IsTransfer g e p → done < e.count → (done < 16) × ((done + 1) * g.block_size ≤ length p)
transfer_room g e p done whole left = (omega (arith, whole.few, left), subst (λ n. (done + 1) * g.block_size ≤ n) (sym whole.whole) (mul-le-mul_right g.block_size (omega (arith, left))))

module _ (g : Geometry) (m : Memory) (s : MemoryIsSound g m) (t : Ticket) (b : ℕ) where
  pub write_next : task_of g m (Map t) ≡ WritesBlock (the_request t m.requests) b → WritesNext g m (the_request t m.requests) b
  write_next task = subst (TaskIsSound g m) task (map_sound g m t s)

  pub read_next : task_of g m (Map t) ≡ ReadsBlock (the_request t m.requests) b → ReadsNext g m (the_request t m.requests) b
  read_next task = subst (TaskIsSound g m) task (map_sound g m t s)

  pub write_place : task_of g m (Map t) ≡ WritesBlock (the_request t m.requests) b → place_of m b < g.blocks
  write_place task = (subst (λ k. IsOnDevice g (call_of g m k)) task (calls_are_on_device g m (Map t) s)).0

  pub read_place : task_of g m (Map t) ≡ ReadsBlock (the_request t m.requests) b → place_of m b < g.blocks
  read_place task = subst (λ k. IsOnDevice g (call_of g m k)) task (calls_are_on_device g m (Map t) s)

  -- a transfer that goes on has its next block in its payload
  room : (op : Op) (e : Extent) → (IsAdmissible g op → IsTransfer g e (payload_of op)) → (the_request t m.requests).op ≡ op → request_of (the_request t m.requests).ticket m.requests ≡ Some (the_request t m.requests) → (the_request t m.requests).done < e.count
      → ((the_request t m.requests).done < 16) × (((the_request t m.requests).done + 1) * g.block_size ≤ length (payload_of (the_request t m.requests).op))
  room op e transfer is found left =
      let r = the_request t m.requests in
      let waits : IsWaiting g r = found_waiting g r.ticket m.requests r s.requests found in
      let room = transfer_room g e (payload_of op) r.done (transfer (subst (IsAdmissible g) is waits.op)) left in
      (room.0, subst (λ op. (r.done + 1) * g.block_size ≤ length (payload_of op)) (sym is) room.1)

  pub write_room : task_of g m (Map t) ≡ WritesBlock (the_request t m.requests) b
      → ((the_request t m.requests).done < 16) × (((the_request t m.requests).done + 1) * g.block_size ≤ length (payload_of (the_request t m.requests).op))
  write_room task = let w = write_next task in room (Write w.extent w.payload) w.extent (λ whole. whole) w.op w.request.found w.left

  pub read_room : task_of g m (Map t) ≡ ReadsBlock (the_request t m.requests) b
      → ((the_request t m.requests).done < 16) × (((the_request t m.requests).done + 1) * g.block_size ≤ length (payload_of (the_request t m.requests).op))
  read_room task = let w = read_next task in room (Read w.extent w.payload) w.extent (λ whole. whole) w.op w.request.found w.left

  pub write_open : task_of g m (Map t) ≡ WritesBlock (the_request t m.requests) b → (b < g.blocks) × (is_saved (kind_at m.kinds b) ≡ false)
  write_open task = let w = write_next task in (w.inside, direct_open g m b s w.inside w.direct)

-- ----------------------------------------------------------------------------------------------------------------
-- The step of a task, by the reply that its call had.

module _ {D : Type 0} (stated : D → Option Geometry) (content : D → Option Content) (moment : D → ℕ) (left : D → ℕ → List (List ℕ) → Type 0) (faults : D → ℕ)
    (g : Geometry) (m : Memory) (old new : D) (before now : ℕ) where
  -- the same of a task that is that one
  pub as_task : (task other : Task) (tells : Inside) (after : Memory) → task ≡ other → IsDone stated content moment left faults g m other tells after old new before now → IsDone stated content moment left faults g m task tells after old new before now
  as_task task other tells after is done = subst (λ k. IsDone stated content moment left faults g m k tells after old new before now) (sym is) done

  pub wrote_is : {T E : Type 0} (result : Result T E) (x : T) → result ≡ Ok x → (task : Task) (t : Ticket) (b place done : ℕ) (after : Memory) → task ≡ WritesBlock (the_request t m.requests) b → place ≡ place_of m b
      → IsSome (request_of t m.requests) → (the_request t m.requests).done ≡ done
      → Makes stated content moment left faults g (Some (WriteCall place (next_block g (the_request t m.requests)))) (reply_of result) old new before now
      → after ≡ record m { kinds = kinds_written m.phase m.kinds b; requests = with_request (one_done (the_request t m.requests)) m.requests }
      → IsDone stated content moment left faults g m task (inside.Wrote t done) after old new before now
  wrote_is result x ok task t b place done after is at some number made memory =
      let r = the_request t m.requests in
      let own : r.ticket ≡ t = found_ticket t m.requests r (the_found t m.requests some) in
      as_task task (WritesBlock r b) (inside.Wrote t done) after is (record {
        reply = Succeeded;
        made = rw (← at) (subst (λ q. Makes stated content moment left faults g (Some (WriteCall place (next_block g r))) q old new before now) (ap reply_of ok) made);
        memory = memory;
        told = rw (own, number) refl;
      })

  -- a task whose step answers a request
  pub answers_is : (task : Task) (reply : Reply) (o : Outcome) (happens : List Event) (t : Ticket) (tells : Inside) (after : Memory) → IsSome (request_of t m.requests) → done_by g m task reply ≡ answered m (the_request t m.requests) o happens
      → Makes stated content moment left faults g (call_of g m task) reply old new before now
      → told_of tells ≡ (answered_for m (request_of t m.requests) (λ r. o) (λ r. [])).told → after ≡ (answered_for m (request_of t m.requests) (λ r. o) (λ r. [])).memory
      → IsDone stated content moment left faults g m task tells after old new before now
  answers_is task reply o happens t tells after some is made told memory = record {
    reply = reply;
    made = made;
    memory = memory ∙ answers_memory m t o happens some ∙ ap (λ (s : Step). s.memory) (sym is);
    told = told ∙ answers_told m t o happens some ∙ ap (λ (s : Step). s.told) (sym is);
  }

  pub flushed_is : {T E : Type 0} (result : Result T E) (x : T) → result ≡ Ok x → (task : Task) (t : Ticket) (tells : Inside) (after : Memory) → task ≡ FlushesFor (the_request t m.requests) → IsSome (request_of t m.requests)
      → Makes stated content moment left faults g (Some FlushCall) (reply_of result) old new before now
      → told_of tells ≡ (answered_for m (request_of t m.requests) (λ r. outcomes.Done) (λ r. [])).told → after ≡ (answered_for m (request_of t m.requests) (λ r. outcomes.Done) (λ r. [])).memory
      → IsDone stated content moment left faults g m task tells after old new before now
  flushed_is result x ok task t tells after is some made told memory =
      as_task task (FlushesFor (the_request t m.requests)) tells after is (answers_is (FlushesFor (the_request t m.requests)) Succeeded outcomes.Done (Flushes ∷ []) t tells after some refl
      (subst (λ q. Makes stated content moment left faults g (Some FlushCall) q old new before now) (ap reply_of ok) made) told memory)

  pub got_is : {T E : Type 0} (result : Result T E) (x : T) → result ≡ Ok x → (task : Task) (t : Ticket) (b place done : ℕ) (v : List ℕ) (after : Memory) → task ≡ ReadsBlock (the_request t m.requests) b → place ≡ place_of m b
      → IsSome (request_of t m.requests) → (the_request t m.requests).done ≡ done
      → Makes stated content moment left faults g (Some (ReadCall place)) (read_reply result v) old new before now
      → after ≡ record m { requests = with_request (one_read g.block_size (the_request t m.requests) v) m.requests }
      → IsDone stated content moment left faults g m task (inside.Got t done) after old new before now
  got_is result x ok task t b place done v after is at some number made memory =
      let r = the_request t m.requests in
      let own : r.ticket ≡ t = found_ticket t m.requests r (the_found t m.requests some) in
      as_task task (ReadsBlock r b) (inside.Got t done) after is (record {
        reply = Gave v;
        made = rw (← at) (subst (λ q. Makes stated content moment left faults g (Some (ReadCall place)) q old new before now) (ap (λ o. read_reply o v) ok) made);
        memory = memory;
        told = rw (own, number) refl;
      })

-- no call was made
pub none_made : {D : Type 0} (stated : D → Option Geometry) (content : D → Option Content) (moment : D → ℕ) (left : D → ℕ → List (List ℕ) → Type 0) (faults : D → ℕ) (g : Geometry) (old : D) (before : ℕ)
    → stated old ≡ Some g → Makes stated content moment left faults g None Succeeded old old before before
none_made stated content moment left faults g old before sizes = record {
  may = refl;
  disk = go (content old);
  time = (refl, λ t c was. was);
  counted = omega arith;
  sizes = sizes;
  later = omega arith;
  cause = tt;
  stays = refl;
}
  where
    go : (o : Option Content) → Goes (DoesOne None Succeeded) o o
    go None = tt
    go (Some c) = (refl, refl)

module _ {D : Type 0} (stated : D → Option Geometry) (content : D → Option Content) (moment : D → ℕ) (left : D → ℕ → List (List ℕ) → Type 0) (faults : D → ℕ)
    (g : Geometry) (m : Memory) (old : D) (before : ℕ) (sizes : stated old ≡ Some g) where
  pub waits_done : (task : Task) → task ≡ Waits → IsDone stated content moment left faults g m task inside.Idle m old old before before
  waits_done task is = as_task stated content moment left faults g m old old before before task Waits inside.Idle m is
      (record { reply = Succeeded; made = none_made stated content moment left faults g old before sizes; memory = refl; told = refl })

  pub answers_done : (task : Task) (t : Ticket) (r : Request) (o : Outcome) (tells : Inside) (after : Memory) → task ≡ Answers r o → request_of t m.requests ≡ Some r
      → told_of tells ≡ (answered_for m (request_of t m.requests) (λ r. o) (λ r. [])).told → after ≡ (answered_for m (request_of t m.requests) (λ r. o) (λ r. [])).memory
      → IsDone stated content moment left faults g m task tells after old old before before
  answers_done task t r o tells after is found told memory =
      let e : (answered_for m (request_of t m.requests) (λ r. o) (λ r. [])) ≡ answered m r o [] = ap (λ f. answered_for m f (λ r. o) (λ r. [])) found in
      as_task stated content moment left faults g m old old before before task (Answers r o) tells after is
      (record { reply = Succeeded; made = none_made stated content moment left faults g old before sizes; memory = memory ∙ ap (λ (s : Step). s.memory) e; told = told ∙ ap (λ (s : Step). s.told) e })

  pub discards_done : (task : Task) (t : Ticket) (r : Request) (tells : Inside) (mid after : Memory) → task ≡ DiscardsFor r → request_of t m.requests ≡ Some r → mid ≡ record m { kinds = kinds_discarded g m (extent_of r.op) m.phase }
      → told_of tells ≡ (answered_for mid (request_of t mid.requests) (λ r. outcomes.Done) (λ r. [])).told → after ≡ (answered_for mid (request_of t mid.requests) (λ r. outcomes.Done) (λ r. [])).memory
      → IsDone stated content moment left faults g m task tells after old old before before
  discards_done task t r tells mid after is found mid_is told memory =
      let n : Memory = record m { kinds = kinds_discarded g m (extent_of r.op) m.phase } in
      let e : answered_for mid (request_of t mid.requests) (λ r. outcomes.Done) (λ r. []) ≡ answered n r outcomes.Done [] = ap (λ (x : Memory). answered_for x (request_of t x.requests) (λ r. outcomes.Done) (λ r. [])) mid_is ∙ ap (λ f. answered_for n f (λ r. outcomes.Done) (λ r. [])) found in
      as_task stated content moment left faults g m old old before before task (DiscardsFor r) tells after is
      (record { reply = Succeeded; made = none_made stated content moment left faults g old before sizes; memory = memory ∙ ap (λ (s : Step). s.memory) e; told = told ∙ ap (λ (s : Step). s.told) e })

-- a request's turn is ready exactly where its task is not to wait
pub ready_is : (g : Geometry) (m : Memory) (t : Ticket) (b : Bool) → MemoryIsSound g m → is_idle (task_of g m (Map t)) ≡ b → not b ≡ is_ready g m (Map t)
ready_is g m t b s is = go b (is_ready g m (Map t)) (sym is ∙ ready_is_table g m (Map t) s)
  where
    go : (b ready : Bool) → b ≡ not ready → not b ≡ ready
    go b true e = rw e refl
    go b false e = rw e refl
