-- What the tests let through: the task of a turn over sound memory, and the tasks of a request's turn.
use Rattle.std.proofs.Common.{ℕ, ◌+◌, ◌<◌, ◌≤◌, ◌≡◌, ◌≢◌, ◌⊎◌, ◌==◌, ◌&&◌, Bool, true, false, not, cond, List, Option, Some, None, arith, refl, sym, ap, ◌∙◌, subst, subst₂, inl, inr}
use Rattle.std.proofs.lemmas.Bool.{or_cases, and_parts, eqb-true}
use Rattle.bow_units.specs.declared.sizes.Extent.{Extent}
use Rattle.bow_units.specs.declared.sizes.Geometry.{Geometry}
use Rattle.bow_units.specs.declared.requests.Op.{Op}
use Rattle.bow_units.specs.declared.requests.Op.TheVariants.{Read, Write, Discard, Flush, Prepare, Commit}
use Rattle.bow_units.specs.declared.requests.Phase.{Phase}
use Rattle.bow_units.specs.declared.requests.Phase.TheVariants.{Trim, Arming, Checkpoint, Deciding, Committed}
use Rattle.bow_units.specs.declared.requests.Outcome.{Outcome}
use Rattle.bow_units.specs.declared.requests.Outcome.TheVariants as outcomes
use Rattle.bow_units.specs.declared.statuses.Kind.{Kind}
use Rattle.bow_units.specs.declared.statuses.Kind.TheVariants.{Free, Saved}
use Rattle.bow_chain.specs.Contents.{Contents}
use Rattle.bow_log.specs.Generations.{Generation}
use Rattle.bow_queue.specs.Extents.{is_on_device}
use Rattle.bow_queue.specs.Requests.{is_command}
use Rattle.bow_queue.specs.declared.tickets.Ticket.{Ticket}
use Rattle.bow_ranges.specs.Kinds.{holds, kind_at}
use Rattle.bow_machine.specs.Requests.{Request, request_of, is_reserved, unsettled, refusal}
use Rattle.bow_machine.specs.Memory.{ReadsBlock0, WritesFirstLog, FlushesAll, Memory, Batch, Hand, Empty, Batching, Preparing, Committing, has_command, has_move, may_be_written, is_direct, kinds_written, reserved}
use Rattle.bow_machine.specs.Tasks.{Map, Task, Waits, Answers, WritesBlock, ReadsBlock, FlushesFor, DiscardsFor, Acts, unless_refused, unless_command, is_waiting, task_for, map_task, task_of}
use Rattle.bow_machine.specs.Calls.{Reply, Failed, Succeeded, Gave}
use Rattle.bow_machine.specs.Steps.{Answered, extent_of, kinds_discarded, act_step, call_in_hand, call_of, step_of}
use Rattle.bow_machine.specs.MemoryIsSound.{IsRequest, is_touched, ForWrite}
use Rattle.bow_machine.specs.MemoryIsSound.{BatchIsSound, HandIsSound, MemoryIsSound}
use Rattle.bow_machine.specs.MemoryLaws.{CanHaveIt, tells_fault}
use Rattle.bow_machine.specs.Ends.{left_in}
use Rattle.bow_machine.proofs.Less.{IsLess}
use Rattle.bow_machine.proofs.RequestLists.{found_ticket}
use Rattle.bow_machine.proofs.Mapped.{NotInHand}
use Rattle.bow_machine.proofs.MappedTests.{write_inside, read_inside, discard_inside, settled_phase}
use Rattle.bow_machine.proofs.MappedTurn.{less, write_parts, some_request}
use Rattle.bow_machine.proofs.SoundLists.{found_waiting, other_command}

-- the request waits, and nothing is in hand for it
pub record IsApart (m : Memory) (r : Request) : Type 0 where
  pub found : request_of r.ticket m.requests ≡ Some r
  pub apart : NotInHand m.hand r.ticket

-- the phase is none of the two in which nothing but a read or a command is done
abbrev pub IsSettled : Phase → Type 0
IsSettled phase = (phase ≢ Arming) × (phase ≢ Deciding)

-- an answer that tells of no disk fault
pub record AnswersIt (m : Memory) (r : Request) (outcome : Outcome) : Type 0 where
  pub request : IsApart m r
  pub no_fault : tells_fault (Answered r.ticket r.op outcome) ≡ false

-- the next block of a write that passed the tests, and waits on none
pub record WritesNext (g : Geometry) (m : Memory) (r : Request) (b : ℕ) : Type 0 where
  pub request : IsApart m r
  pub extent : Extent
  pub payload : List ℕ
  pub op : r.op ≡ Write extent payload
  pub block : b ≡ extent.first + r.done
  pub left : r.done < extent.count
  pub inside : b < g.blocks
  pub settled : IsSettled m.phase
  pub direct : is_direct m m.phase b ≡ true
  pub first : is_waiting m r ≡ false
  pub free : has_command m.hand ≡ false
  pub passed : refusal g m.phase r.op ≡ None

-- the next block of a read that passed the test
pub record ReadsNext (g : Geometry) (m : Memory) (r : Request) (b : ℕ) : Type 0 where
  pub request : IsApart m r
  pub extent : Extent
  pub payload : List ℕ
  pub op : r.op ≡ Read extent payload
  pub block : b ≡ extent.first + r.done
  pub left : r.done < extent.count
  pub inside : b < g.blocks
  pub passed : refusal g m.phase r.op ≡ None

-- a flush that passed the test
pub record FlushesNow (g : Geometry) (m : Memory) (r : Request) : Type 0 where
  pub request : IsApart m r
  pub op : r.op ≡ Flush
  pub passed : refusal g m.phase Flush ≡ None

-- a discard that passed the tests
pub record DiscardsNow (g : Geometry) (m : Memory) (r : Request) : Type 0 where
  pub request : IsApart m r
  pub extent : Extent
  pub op : r.op ≡ Discard extent
  pub inside : extent.first + extent.count ≤ g.blocks
  pub settled : IsSettled m.phase
  pub free : has_command m.hand ≡ false
  pub passed : refusal g m.phase (Discard extent) ≡ None

-- something is in hand
abbrev pub is_busy : Hand → Bool
is_busy Empty = false
is_busy (Batching b) = true
is_busy (Preparing t c b act) = true
is_busy (Committing t again act) = true

-- no act of it is done
abbrev pub IsFresh : Hand → Type 0
IsFresh Empty = Unit {0}
IsFresh (Batching b) = b.progress.done ≡ 0
IsFresh (Preparing t c b ReadsBlock0) = Unit {0}
IsFresh (Preparing t c b WritesFirstLog) = Unit {0}
IsFresh (Preparing t c b act) = ⊥
IsFresh (Committing t again FlushesAll) = Unit {0}
IsFresh (Committing t again act) = ⊥

-- what is acted on: sound memory with something in hand, which differs from the one before where less is left
pub record ActsOn (g : Geometry) (m taken : Memory) : Type 0 where
  pub sound : MemoryIsSound g taken
  pub busy : is_busy taken.hand ≡ true
  pub requests : taken.requests ≡ m.requests
  pub phase : taken.phase ≡ m.phase
  pub log : taken.log ≡ m.log
  pub table : (taken.phase ≡ Checkpoint) ⊎ (taken.kinds ≡ m.kinds)
  pub saved : (x : ℕ) → kind_at taken.kinds x ≡ Saved → kind_at m.kinds x ≡ Saved
  pub still_saved : (x : ℕ) → kind_at m.kinds x ≡ Saved → kind_at taken.kinds x ≡ Saved
  pub touched : (x : ℕ) → is_touched (kind_at taken.kinds x) ≡ true → is_touched (kind_at m.kinds x) ≡ true
  pub stays : (x : ℕ) → is_touched (kind_at m.kinds x) ≡ true → kind_at taken.kinds x ≡ kind_at m.kinds x
  pub picked : (x : ℕ) → holds (reserved taken.hand) x ≡ true → (taken ≡ m) ⊎ (kind_at m.kinds x ≡ Free)
  pub less : (taken ≡ m) ⊎ (IsLess (left_in taken) (left_in m) × IsFresh taken.hand)

-- a task of sound memory
abbrev pub TaskIsSound : Geometry → Memory → Task → Type 0
TaskIsSound g m Waits = Unit {0}
TaskIsSound g m (Answers r outcome) = AnswersIt m r outcome
TaskIsSound g m (WritesBlock r b) = WritesNext g m r b
TaskIsSound g m (ReadsBlock r b) = ReadsNext g m r b
TaskIsSound g m (FlushesFor r) = FlushesNow g m r
TaskIsSound g m (DiscardsFor r) = DiscardsNow g m r
TaskIsSound g m (Acts taken) = ActsOn g m taken

-- What holds of the phase, the kinds and the log after a step: where they stay, where a block of a write was tried, after
-- a discard, and after an act.
pub task_by : (g : Geometry) (now : Contents) (m : Memory) (P : Phase → List Kind → Option Generation → Type 0) → P m.phase m.kinds m.log
    → ((r : Request) (b : ℕ) → WritesNext g m r b → P m.phase (kinds_written m.phase m.kinds b) m.log)
    → ((r : Request) → DiscardsNow g m r → P m.phase (kinds_discarded g m (extent_of r.op) m.phase) m.log)
    → ((taken : Memory) (reply : Reply) → ActsOn g m taken → CanHaveIt g (call_in_hand g taken taken.hand) reply
    → let after = (act_step g now taken taken.hand reply).memory in P after.phase after.kinds after.log)
    → (task : Task) (reply : Reply) → TaskIsSound g m task → CanHaveIt g (call_of g m task) reply
    → let after = (step_of g now m task reply).memory in P after.phase after.kinds after.log
task_by g now m P same writes discards acts Waits reply is can = same
task_by g now m P same writes discards acts (Answers r outcome) reply is can = same
task_by g now m P same writes discards acts (WritesBlock r b) Failed is can = writes r b is
task_by g now m P same writes discards acts (WritesBlock r b) Succeeded is can = writes r b is
task_by g now m P same writes discards acts (WritesBlock r b) (Gave v) is can = absurd can
task_by g now m P same writes discards acts (ReadsBlock r b) Failed is can = same
task_by g now m P same writes discards acts (ReadsBlock r b) Succeeded is can = absurd can
task_by g now m P same writes discards acts (ReadsBlock r b) (Gave v) is can = same
task_by g now m P same writes discards acts (FlushesFor r) Failed is can = same
task_by g now m P same writes discards acts (FlushesFor r) Succeeded is can = same
task_by g now m P same writes discards acts (FlushesFor r) (Gave v) is can = absurd can
task_by g now m P same writes discards acts (DiscardsFor r) reply is can = discards r is
task_by g now m P same writes discards acts (Acts taken) reply is can = acts taken reply is can

-- ----------------------------------------------------------------------------------------------------------------

-- an outcome, if there is one, that tells of no disk fault
abbrev NoFault : Ticket → Op → Option Outcome → Type 0
NoFault t op None = Unit {0}
NoFault t op (Some outcome) = tells_fault (Answered t op outcome) ≡ false

unsettled_tells : (t : Ticket) (op : Op) (phase : Phase) → NoFault t op (unsettled phase)
unsettled_tells t op Trim = tt
unsettled_tells t op Arming = refl
unsettled_tells t op Checkpoint = tt
unsettled_tells t op Deciding = refl
unsettled_tells t op Committed = tt

-- no test refuses with a disk fault
refusal_tells : (g : Geometry) (t : Ticket) (op : Op) (phase : Phase) (asked : Op) → NoFault t op (refusal g phase asked)
refusal_tells g t op phase (Read e p) = go (is_on_device g.blocks e)
  where
    go : (on : Bool) → NoFault t op (cond on None (Some outcomes.OutOfRange))
    go true = tt
    go false = refl
refusal_tells g t op phase (Write e p) = go (is_on_device g.blocks e) (is_reserved e p)
  where
    go : (on reserved : Bool) → NoFault t op (cond on (cond reserved (Some outcomes.ReservedMagic) (unsettled phase)) (Some outcomes.OutOfRange))
    go true true = refl
    go true false = unsettled_tells t op phase
    go false reserved = refl
refusal_tells g t op phase (Discard e) = go (is_on_device g.blocks e)
  where
    go : (on : Bool) → NoFault t op (cond on (unsettled phase) (Some outcomes.OutOfRange))
    go true = unsettled_tells t op phase
    go false = refl
refusal_tells g t op phase Flush = unsettled_tells t op phase
refusal_tells g t op phase Prepare = tt
refusal_tells g t op phase Commit = tt

-- the batch in hand
pub batch_in_hand : (g : Geometry) (m : Memory) (b : Batch) (log : Option Generation) → HandIsSound g m (Batching b) log → (l : Generation) × (log ≡ Some l) × BatchIsSound g m b l
batch_in_hand g m b None h = absurd h
batch_in_hand g m b (Some l) h = (l, refl, h)

module _ (g : Geometry) (m : Memory) (s : MemoryIsSound g m) (ticket : Ticket) (r : Request) (found : request_of ticket m.requests ≡ Some r) where
  found_here : request_of r.ticket m.requests ≡ Some r
  found_here = ap (λ t. request_of t m.requests) (found_ticket ticket m.requests r found) ∙ found

  -- what is in hand is not for this request, which is no command, and not such a write
  not_the_write : is_command r.op ≡ false → ((b : Batch) → m.phase ≡ Checkpoint → (w : ForWrite g m b.ticket) → w.write ≡ r → ⊥) → IsApart m r
  not_the_write plain unlike = record { found = found_here; apart = go m.hand s.in_hand }
    where
      same_ticket_of : (t u : Ticket) → Some t ≡ Some u → t ≡ u
      same_ticket_of t u e = cc e

      go : (hand : Hand) → HandIsSound g m hand m.log → NotInHand hand r.ticket
      go Empty h e = absurd (grind arith)
      go (Batching b) h e =
          let held = (batch_in_hand g m b m.log h).2 in
          let w = (held.for_write).waits in
          unlike b held.phase w (some_request w.write r (sym w.waits ∙ ap (λ t. request_of t m.requests) (same_ticket_of b.ticket r.ticket e) ∙ found_here))
      go (Preparing t c b act) h e = other_command r t Prepare m.requests found_here refl plain h.1 (same_ticket_of t r.ticket e)
      go (Committing t again act) h e = other_command r t Commit m.requests found_here refl plain h.1 (same_ticket_of t r.ticket e)

  refused : (op : Op) → r.op ≡ op → is_command op ≡ false → (outcome : Outcome) → refusal g m.phase op ≡ Some outcome → AnswersIt m r outcome
  refused op is plain outcome no_way = record {
    request = not_the_write (ap is_command is ∙ plain) (λ b phase w same. absurd (let n : None ≡ Some outcome = sym w.passed ∙ ap (λ (x : Request). refusal g m.phase x.op) same ∙ ap (refusal g m.phase) is ∙ no_way in grind arith));
    no_fault = subst (NoFault r.ticket r.op) no_way (refusal_tells g r.ticket r.op m.phase op);
  }

  other_op : (op : Op) → r.op ≡ op → is_command op ≡ false → ((e : Extent) (p : List ℕ) → op ≢ Write e p) → IsApart m r
  other_op op is plain unlike = not_the_write (ap is_command is ∙ plain) (λ b phase w same. unlike w.extent w.payload (sym is ∙ ap (λ (x : Request). x.op) (sym same) ∙ w.op))

  is_request : IsRequest r
  is_request = (found_waiting g ticket m.requests r s.requests found).done

  -- A write.
  module _ (e : Extent) (p : List ℕ) (op : r.op ≡ Write e p) where
    all_done : (r.done == e.count) ≡ true → AnswersIt m r outcomes.Done
    all_done full = record {
      request = not_the_write (ap is_command op) (λ b phase w same.
          let extent : w.extent ≡ e = write_parts w.extent e w.payload p (sym w.op ∙ ap (λ (x : Request). x.op) same ∙ op) in
          let n = eqb-true r.done e.count full in
          let below : r.done < e.count = subst₂ (λ (x : Request) (y : Extent). x.done < y.count) same extent w.left in
          absurd (omega (arith, n, below)));
      no_fault = refl;
    }

    abbrev block : ℕ
    block = e.first + r.done

    writes_next : refusal g m.phase (Write e p) ≡ None → is_waiting m r ≡ false → (r.done == e.count) ≡ false → is_direct m m.phase block ≡ true → has_command m.hand ≡ false → WritesNext g m r block
    writes_next passed first more direct command = record {
      request = not_the_write (ap is_command op) (λ b phase w same.
          let extent : w.extent ≡ e = write_parts w.extent e w.payload p (sym w.op ∙ ap (λ (x : Request). x.op) same ∙ op) in
          let mine : w.extent.first + w.write.done ≡ block = ap (λ (y : Extent). y.first + w.write.done) extent ∙ ap (λ (x : Request). e.first + x.done) same in
          elim (or_cases (may_be_written (kind_at m.kinds block)) ((block == 0) && not (has_move m.hand)) (subst (λ (q : Phase). is_direct m q block ≡ true) phase direct)) [
            | inl in_place ↦ absurd (let n : true ≡ false = sym in_place ∙ ap (λ x. may_be_written (kind_at m.kinds x)) (sym mine) ∙ w.kept_back in grind arith)
            | inr zeroth ↦ w.not_0 (mine ∙ eqb-true block 0 (and_parts (block == 0) (not (has_move m.hand)) zeroth).0)
          ]);
      extent = e;
      payload = p;
      op = op;
      block = refl;
      left = below;
      inside = omega (arith, below, (write_inside g m.phase e p passed).0);
      settled = settled_phase m.phase (write_inside g m.phase e p passed).2;
      direct = direct;
      first = first;
      free = command;
      passed = ap (refusal g m.phase) op ∙ passed;
    }
      where
        below : r.done < e.count
        below = less r.done e.count more (subst (λ o. r.done ≤ (extent_of o).count) op is_request)

  -- A read.
  module _ (e : Extent) (p : List ℕ) (op : r.op ≡ Read e p) where
    not_read : IsApart m r
    not_read = other_op (Read e p) op refl (λ x q is. absurd (grind arith))

    reads_next : refusal g m.phase (Read e p) ≡ None → (r.done == e.count) ≡ false → ReadsNext g m r (e.first + r.done)
    reads_next passed more = record { request = not_read; extent = e; payload = p; op = op; block = refl; left = below; inside = omega (arith, below, read_inside g m.phase e p passed); passed = ap (refusal g m.phase) op ∙ passed }
      where
        below : r.done < e.count
        below = less r.done e.count more (subst (λ o. r.done ≤ (extent_of o).count) op is_request)

  discards_now : (e : Extent) → r.op ≡ Discard e → refusal g m.phase (Discard e) ≡ None → has_command m.hand ≡ false → DiscardsNow g m r
  discards_now e op passed command =
      let parts = discard_inside g m.phase e passed in
      record { request = other_op (Discard e) op refl (λ x q is. absurd (grind arith)); extent = e; op = op; inside = parts.0; settled = settled_phase m.phase parts.1; free = command; passed = passed }

  -- ----------------------------------------------------------------------------------------------------------------
  -- The task of the request.

  abbrev Sound : Task → Type 0
  Sound task = TaskIsSound g m task

  sound_if : (t : Bool) (one other : Task) → (t ≡ true → Sound one) → (t ≡ false → Sound other) → Sound (cond t one other)
  sound_if true one other a b = a refl
  sound_if false one other a b = b refl

  sound_unless : (refusal : Option Outcome) (task : Task) → ((outcome : Outcome) → refusal ≡ Some outcome → AnswersIt m r outcome) → (refusal ≡ None → Sound task) → Sound (unless_refused r refusal task)
  sound_unless None task other go_on = go_on refl
  sound_unless (Some outcome) task other go_on = other outcome refl

  sound_free : (task : Task) → (has_command m.hand ≡ false → Sound task) → Sound (unless_command m task)
  sound_free task go_on = sound_if (has_command m.hand) Waits task (λ c. tt) go_on

  task_sound : (op : Op) → r.op ≡ op → Sound (task_for g m r op)
  task_sound (Read e p) is = sound_unless (refusal g m.phase (Read e p)) _ (λ outcome refusing. refused (Read e p) is refl outcome refusing) (λ passed.
      sound_if (r.done == e.count) (Answers r outcomes.Data) (ReadsBlock r (e.first + r.done)) (λ full. record { request = not_read e p is; no_fault = refl }) (λ more. reads_next e p is passed more))
  task_sound (Write e p) is = sound_free _ (λ command. sound_unless (refusal g m.phase (Write e p)) _ (λ outcome refusing. refused (Write e p) is refl outcome refusing) (λ passed.
      sound_if (is_waiting m r) Waits _ (λ waits. tt) (λ first.
      sound_if (r.done == e.count) (Answers r outcomes.Done) _ (λ full. all_done e p is full) (λ more.
      sound_if (is_direct m m.phase (e.first + r.done)) (WritesBlock r (e.first + r.done)) Waits (λ direct. writes_next e p is passed first more direct command) (λ held. tt)))))
  task_sound (Discard e) is = sound_free _ (λ command. sound_unless (refusal g m.phase (Discard e)) (DiscardsFor r) (λ outcome refusing. refused (Discard e) is refl outcome refusing) (λ passed. discards_now e is passed command))
  task_sound Flush is = sound_free _ (λ command. sound_unless (refusal g m.phase Flush) (FlushesFor r) (λ outcome refusing. refused Flush is refl outcome refusing) (λ passed. record { request = other_op Flush is refl (λ x q e. absurd (grind arith)); op = is; passed = passed }))
  task_sound Prepare is = tt
  task_sound Commit is = tt

-- The task of a request's turn.
pub map_sound : (g : Geometry) (m : Memory) (ticket : Ticket) → MemoryIsSound g m → TaskIsSound g m (task_of g m (Map ticket))
map_sound g m ticket s = go (request_of ticket m.requests) refl
  where
    go : (found : Option Request) → request_of ticket m.requests ≡ found → TaskIsSound g m (map_task g m found)
    go None is = tt
    go (Some r) is = task_sound g m s ticket r is r.op refl
