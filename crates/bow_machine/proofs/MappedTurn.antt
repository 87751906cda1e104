-- Each step of a turn of a request keeps what the machine stands for.
use Rattle.std.proofs.Common.{ℕ, ◌+◌, ◌<◌, ◌≤◌, ◌≡◌, ◌≢◌, ◌⊎◌, ◌==◌, ◌&&◌, Bool, true, false, not, cond, List, [], ◌∷◌, ◌++◌, Option, Some, None, arith, refl, sym, ap, ◌∙◌, subst, subst₂, inl, inr, Contains}
use Rattle.std.proofs.lemmas.Bool.{or_cases, and_parts, eqb-true}
use Rattle.std.proofs.lemmas.List.Elements.{Contains-append_left, Contains-append_right}
use Rattle.bow_units.specs.declared.sizes.Extent.{Extent}
use Rattle.bow_units.specs.declared.sizes.Geometry.{Geometry}
use Rattle.bow_units.specs.declared.requests.Op.{Op}
use Rattle.bow_units.specs.declared.requests.Op.TheVariants.{Read, Write, Discard, Flush, Prepare, Commit}
use Rattle.bow_units.specs.declared.requests.Phase.{Phase}
use Rattle.bow_units.specs.declared.requests.Phase.TheVariants.{Arming, Checkpoint, Deciding}
use Rattle.bow_units.specs.declared.requests.Outcome.{Outcome}
use Rattle.bow_units.specs.declared.requests.Outcome.TheVariants as outcomes
use Rattle.bow_log.specs.Generations.{Generation}
use Rattle.bow_chain.specs.Contents.{Contents}
use Rattle.bow_flat.specs.Flat.{Flat, May, added, after, block_at}
use Rattle.bow_flat.specs.Flat.Event.{Writes, Fails, Reads, Discards, Flushes}
use Rattle.bow_units.specs.Magics.{IsPlain}
use Rattle.bow_flat.proofs.Valid.{stays_valid}
use Rattle.bow_guard.specs.Cuts.{Candidates}
use Rattle.bow_queue.specs.declared.tickets.Ticket.{Ticket}
use Rattle.bow_ranges.specs.Kinds.{kind_at}
use Rattle.bow_machine.proofs.Hands.{same_disk}
use Rattle.bow_machine.specs.Requests.{Request, request_of, without_request, refusal, unsettled}
use Rattle.bow_machine.specs.Memory.{Memory, Batch, Hand, Empty, Batching, Preparing, Committing, has_command, has_move, may_be_written, is_direct, place_of}
use Rattle.bow_machine.specs.Calls.{Reply, Failed, Succeeded, Gave, DoesIt}
use Rattle.bow_machine.specs.Tasks.{Map, Task, Waits, Answers, WritesBlock, ReadsBlock, FlushesFor, DiscardsFor, unless_refused, unless_command, is_waiting, task_for, map_task, task_of}
use Rattle.bow_machine.specs.Steps.{payload_of, extent_of, with_read, next_block, kinds_discarded, call_of, step_of}
use Rattle.bow_machine.specs.MemoryIsSound.{IsRequest, ForWrite}
use Rattle.bow_machine.proofs.Held.{BatchHeld, HandHeld, IsHeld}
use Rattle.bow_machine.specs.Laws.{after_all, AllowsAll}
use Rattle.bow_machine.proofs.RequestLists.{found_ticket, found_request}
use Rattle.bow_machine.proofs.SoundLists.{other_command}
use Rattle.bow_queue.specs.Requests.{is_command}
use Rattle.bow_machine.proofs.Mapped.{NotInHand, standing_without, standing_with}
use Rattle.bow_machine.proofs.MappedTests.{write_inside, read_inside, discard_inside, settled_phase, no_magic}
use Rattle.bow_machine.proofs.MappedWrites.{flat_written, memory_written, written}
use Rattle.bow_machine.proofs.MappedReads.{standing_read, standing_flushed}
use Rattle.bow_machine.proofs.MappedDiscards.{standing_discarded}

-- Whatever the disk replies, a step of this task leads to a machine that stands for the state changed by its events,
-- and the events may be.
abbrev pub TaskKeeps : Geometry → Memory → Contents → Candidates → Flat → Task → Type 0
TaskKeeps g m now may f task = (reply : Reply) (new_now : Contents) (new_may : Candidates) → DoesIt g (call_of g m task) reply now may new_now new_may
    → AllowsAll g.blocks (step_of g now m task reply).events f × IsHeld g (step_of g now m task reply).memory new_now new_may (after_all g.blocks (step_of g now m task reply).events f)

-- A task that waits does nothing.
pub waits_keep : (g : Geometry) (m : Memory) (now : Contents) (may : Candidates) (f : Flat) → IsHeld g m now may f → TaskKeeps g m now may f Waits
waits_keep g m now may f s reply new_now new_may does = (tt, same_disk g m f now new_now may new_may does.0 does.1 s)

-- A request for which no batch is in hand is answered.
pub answers_keep : (g : Geometry) (m : Memory) (now : Contents) (may : Candidates) (f : Flat) (r : Request) (outcome : Outcome)
    → NotInHand m.hand r.ticket → IsHeld g m now may f → TaskKeeps g m now may f (Answers r outcome)
answers_keep g m now may f r outcome other s reply new_now new_may does = (tt, standing_without g m r.ticket new_now new_may f other (same_disk g m f now new_now may new_may does.0 does.1 s))

-- ----------------------------------------------------------------------------------------------------------------
-- The write of the batch in hand.

batch_held : (g : Geometry) (m : Memory) (hand : Hand) (b : Batch) (now : Contents) (may : Candidates) (log : Option Generation) → hand ≡ Batching b
    → HandHeld g m hand now may log → (l : Generation) × BatchHeld g m b now may l
batch_held g m hand b now may log is h = go log (subst (λ hand. HandHeld g m hand now may log) is h)
  where
    go : (log : Option Generation) → HandHeld g m (Batching b) now may log → (l : Generation) × BatchHeld g m b now may l
    go None h = absurd h
    go (Some l) h = (l, h)

-- less, where it is no more and not the same
pub less : (n k : ℕ) → (n == k) ≡ false → n ≤ k → n < k
less n k ne le = grind arith

pub some_request : (r w : Request) → Some r ≡ Some w → r ≡ w
some_request r w e = cc e

pub write_parts : (e x : Extent) (p q : List ℕ) → Write e p ≡ Write x q → e ≡ x
write_parts e x p q is = cc is

module _ (g : Geometry) (m : Memory) (now : Contents) (may : Candidates) (f : Flat) (s : IsHeld g m now may f) (ticket : Ticket) (r : Request)
    (found : request_of ticket m.requests ≡ Some r) where
  found_here : request_of r.ticket m.requests ≡ Some r
  found_here = ap (λ t. request_of t m.requests) (found_ticket ticket m.requests r found) ∙ found

  -- what is in hand is not for this request, which is no command, and not such a write
  not_the_write : is_command r.op ≡ false → ((b : Batch) → m.phase ≡ Checkpoint → m.hand ≡ Batching b → (w : ForWrite g m b.ticket) → w.write ≡ r → ⊥)
      → NotInHand m.hand r.ticket
  not_the_write plain unlike = go m.hand refl s.in_hand
    where
      same_ticket_of : (t u : Ticket) → Some t ≡ Some u → t ≡ u
      same_ticket_of t u e = cc e

      go : (hand : Hand) → m.hand ≡ hand → HandHeld g m hand now may m.log → NotInHand hand r.ticket
      go Empty is h e = absurd (grind arith)
      go (Batching b) is h e =
          let held = (batch_held g m (Batching b) b now may m.log refl h).1 in
          let w = held.for_write in
          unlike b held.phase is w (some_request w.write r (sym w.waits ∙ ap (λ t. request_of t m.requests) (same_ticket_of b.ticket r.ticket e) ∙ found_here))
      go (Preparing t c b act) is h e = other_command r t Prepare m.requests found_here refl plain h.1 (same_ticket_of t r.ticket e)
      go (Committing t again act) is h e = other_command r t Commit m.requests found_here refl plain h.1 (same_ticket_of t r.ticket e)

  refused : (op : Op) → r.op ≡ op → is_command op ≡ false → (outcome : Outcome) → refusal g m.phase op ≡ Some outcome → NotInHand m.hand r.ticket
  refused op is plain outcome no_way = not_the_write (ap is_command is ∙ plain) (λ b phase at w same. absurd (let n : None ≡ Some outcome = sym w.passed ∙ ap (λ (x : Request). refusal g m.phase x.op) same ∙ ap (refusal g m.phase) is ∙ no_way in grind arith))

  other_op : (op : Op) → r.op ≡ op → is_command op ≡ false → ((e : Extent) (p : List ℕ) → op ≢ Write e p) → NotInHand m.hand r.ticket
  other_op op is plain unlike = not_the_write (ap is_command is ∙ plain) (λ b phase at w same. unlike w.extent w.payload (sym is ∙ ap (λ (x : Request). x.op) (sym same) ∙ w.op))

  is_request : IsRequest r
  is_request = found_request ticket m.requests r s.memory.requests found

  settled_now : unsettled m.phase ≡ None → (m.phase ≢ Arming) × (m.phase ≢ Deciding)
  settled_now h = settled_phase m.phase h

  -- A write.
  module _ (e : Extent) (p : List ℕ) (op : r.op ≡ Write e p) where
    all_done : (r.done == e.count) ≡ true → NotInHand m.hand r.ticket
    all_done full = not_the_write (ap is_command op) (λ b phase at w same.
        let extent : w.extent ≡ e = write_parts w.extent e w.payload p (sym w.op ∙ ap (λ (x : Request). x.op) same ∙ op) in
        let n = eqb-true r.done e.count full in
        let below : r.done < e.count = subst₂ (λ (x : Request) (y : Extent). x.done < y.count) same extent w.left in
        omega (arith, n, below))

    abbrev block : ℕ
    block = e.first + r.done

    module _ (passed : refusal g m.phase (Write e p) ≡ None) (more : (r.done == e.count) ≡ false) (direct : is_direct m m.phase block ≡ true)
        (command : has_command m.hand ≡ false) where
      below : r.done < e.count
      below = less r.done e.count more (subst (λ o. r.done ≤ (extent_of o).count) op is_request)

      on : block < g.blocks
      on = omega (arith, below, (write_inside g m.phase e p passed).0)

      settled : (m.phase ≢ Arming) × (m.phase ≢ Deciding)
      settled = settled_now (write_inside g m.phase e p passed).2

      not_held : NotInHand m.hand r.ticket
      not_held = not_the_write (ap is_command op) (λ b phase at w same.
          let extent : w.extent ≡ e = write_parts w.extent e w.payload p (sym w.op ∙ ap (λ (x : Request). x.op) same ∙ op) in
          let mine : w.extent.first + w.write.done ≡ block = ap (λ (y : Extent). y.first + w.write.done) extent ∙ ap (λ (x : Request). e.first + x.done) same in
          elim (or_cases (may_be_written (kind_at m.kinds block)) ((block == 0) && not (has_move m.hand)) (subst (λ (q : Phase). is_direct m q block ≡ true) phase direct)) [
            | inl in_place ↦ absurd (let n : true ≡ false = sym in_place ∙ ap (λ x. may_be_written (kind_at m.kinds x)) (sym mine) ∙ w.kept_back in grind arith)
            | inr zeroth ↦ w.not_0 (mine ∙ eqb-true block 0 (and_parts (block == 0) (not (has_move m.hand)) zeroth).0)
          ])

      abbrev content : List ℕ
      content = next_block g r

      plain : block ≡ 0 → IsPlain content
      plain zeroth = subst (λ o. IsPlain (block_at g.block_size (payload_of o) r.done)) (sym op) (no_magic g e p r.done s.memory.sizes (write_inside g m.phase e p passed).1 zeroth)

      one_more_done : IsRequest (record r { done = r.done + 1 })
      one_more_done = subst (λ o. r.done + 1 ≤ (extent_of o).count) (sym op) (omega (arith, below))

      f_settled : (f.phase ≢ Arming) × (f.phase ≢ Deciding)
      f_settled = (λ e. settled.0 (sym s.phases ∙ e), λ e. settled.1 (sym s.phases ∙ e))

      writes_keep : TaskKeeps g m now may f (WritesBlock r block)
      writes_keep Succeeded new_now new_may does = (
        (tt, tt),
        standing_with g (memory_written m block) (record r { done = r.done + 1 }) new_now new_may (flat_written f block content (Some (content ∷ []))) not_held one_more_done
            (written g m block content (Some (content ∷ [])) now new_now may new_may f s on command does.0 (only content (new_now (place_of m block)) does.1) (stays_valid g.blocks (Writes block content) f s.state tt (f_settled.0, f_settled.1, plain)) settled direct),
      )
        where
          only : (v w : List ℕ) → w ≡ v → Contains (v ∷ []) w
          only v w is = (0, omega arith, sym is)
      writes_keep Failed new_now new_may does =
          subst (λ x. AllowsAll g.blocks (Fails x content ∷ []) f × IsHeld g (record (memory_written m block) { requests = without_request r.ticket m.requests }) new_now new_may (after g.blocks (Fails x content) f)) (ap (λ o. (extent_of o).first + r.done) (sym op)) (
            (tt, tt),
            standing_without g (memory_written m block) r.ticket new_now new_may (flat_written f block content (added (f.current block) content)) not_held
                (written g m block content (added (f.current block) content) now new_now may new_may f s on command does reads (stays_valid g.blocks (Fails block content) f s.state tt (f_settled.0, f_settled.1, plain)) settled direct),
          )
        where
          may_added : (c : Option (List (List ℕ))) (v w : List ℕ) → May c w ⊎ (w ≡ v) → May (added c v) w
          may_added None v w h = tt
          may_added (Some cs) v w (inl old) = Contains-append_left cs (v ∷ []) w old
          may_added (Some cs) v w (inr new) = subst (λ y. Contains (cs ++ v ∷ []) y) (sym new) (Contains-append_right cs (v ∷ []) v (0, omega arith, refl))

          reads : May (added (f.current block) content) (new_now (place_of m block))
          reads = may_added (f.current block) content (new_now (place_of m block)) (elim does.given.block_now [ inl same ↦ inl (subst (May (f.current block)) (sym same) (s.shown block on)) | inr new ↦ inr new ])
      writes_keep (Gave v) new_now new_may does = absurd does

  -- A read.
  module _ (e : Extent) (p : List ℕ) (op : r.op ≡ Read e p) where
    not_read : NotInHand m.hand r.ticket
    not_read = other_op (Read e p) op refl (λ x q is. absurd (grind arith))

    module _ (passed : refusal g m.phase (Read e p) ≡ None) (more : (r.done == e.count) ≡ false) where
      read_below : r.done < e.count
      read_below = less r.done e.count more (subst (λ o. r.done ≤ (extent_of o).count) op is_request)

      abbrev read_block : ℕ
      read_block = e.first + r.done

      read_on : read_block < g.blocks
      read_on = omega (arith, read_below, read_inside g m.phase e p passed)

      read_more : (v : List ℕ) → IsRequest (record r { op = with_read g.block_size r.op r.done v; done = r.done + 1 })
      read_more v = subst (λ o. r.done + 1 ≤ (extent_of (with_read g.block_size o r.done v)).count) (sym op) (omega (arith, read_below))

      reads_keep : TaskKeeps g m now may f (ReadsBlock r read_block)
      reads_keep (Gave v) new_now new_may does = (
        (subst (May (f.current read_block)) (sym does.0) (s.shown read_block read_on), tt),
        standing_with g m (record r { op = with_read g.block_size r.op r.done v; done = r.done + 1 }) new_now new_may (after g.blocks (Reads read_block v) f) not_read (read_more v)
            (same_disk g m (after g.blocks (Reads read_block v) f) now new_now may new_may does.1 does.2 (subst (λ u. IsHeld g m now may (after g.blocks (Reads read_block u) f)) (sym does.0) (standing_read g m now may f s read_block read_on))),
      )
      reads_keep Failed new_now new_may does = (tt, standing_without g m r.ticket new_now new_may f not_read (same_disk g m f now new_now may new_may does.0 does.1 s))
      reads_keep Succeeded new_now new_may does = absurd does

  -- A flush.
  flushes_keep : r.op ≡ Flush → unsettled m.phase ≡ None → has_command m.hand ≡ false → TaskKeeps g m now may f (FlushesFor r)
  flushes_keep op passed command = go
    where
      not_flush : NotInHand m.hand r.ticket
      not_flush = other_op Flush op refl (λ x q is. absurd (grind arith))

      go : TaskKeeps g m now may f (FlushesFor r)
      go Succeeded new_now new_may does = ((tt, tt), standing_without g m r.ticket new_now new_may (after g.blocks Flushes f) not_flush (subst (λ x. IsHeld g m x new_may (after g.blocks Flushes f)) (sym does.0) (standing_flushed g m now may f s new_may command (settled_now passed) does.1)))
      go Failed new_now new_may does = (tt, standing_without g m r.ticket new_now new_may f not_flush (same_disk g m f now new_now may new_may does.0 does.1 s))
      go (Gave v) new_now new_may does = absurd does

  -- A discard.
  discards_keep : (e : Extent) → r.op ≡ Discard e → refusal g m.phase (Discard e) ≡ None → has_command m.hand ≡ false → TaskKeeps g m now may f (DiscardsFor r)
  discards_keep e op passed command reply new_now new_may does =
      let not_discard : NotInHand m.hand r.ticket = other_op (Discard e) op refl (λ x q is. absurd (grind arith)) in
      let parts = discard_inside g m.phase e passed in
      let inside : (extent_of r.op).first + (extent_of r.op).count ≤ g.blocks = subst (λ o. (extent_of o).first + (extent_of o).count ≤ g.blocks) (sym op) parts.0 in
      let done = standing_discarded g m now may f s (extent_of r.op) inside command (settled_now parts.1) in (
        (tt, tt),
        standing_without g (record m { kinds = kinds_discarded g m (extent_of r.op) m.phase }) r.ticket new_now new_may (after g.blocks (Discards (extent_of r.op)) f) not_discard
            (same_disk g (record m { kinds = kinds_discarded g m (extent_of r.op) m.phase }) (after g.blocks (Discards (extent_of r.op)) f) now new_now may new_may does.0 does.1 done),
      )

  -- ----------------------------------------------------------------------------------------------------------------
  -- The task of the request.

  abbrev Keeps : Task → Type 0
  Keeps task = TaskKeeps g m now may f task

  keeps_if : (t : Bool) (one other : Task) → (t ≡ true → Keeps one) → (t ≡ false → Keeps other) → Keeps (cond t one other)
  keeps_if true one other a b = a refl
  keeps_if false one other a b = b refl

  keeps_unless : (refusal : Option Outcome) (task : Task) → ((outcome : Outcome) → refusal ≡ Some outcome → NotInHand m.hand r.ticket)
      → (refusal ≡ None → Keeps task) → Keeps (unless_refused r refusal task)
  keeps_unless None task other go_on = go_on refl
  keeps_unless (Some outcome) task other go_on = answers_keep g m now may f r outcome (other outcome refl) s

  keeps_free : (task : Task) → (has_command m.hand ≡ false → Keeps task) → Keeps (unless_command m task)
  keeps_free task go_on = keeps_if (has_command m.hand) Waits task (λ c. waits_keep g m now may f s) go_on

  task_keeps : (op : Op) → r.op ≡ op → Keeps (task_for g m r op)
  task_keeps (Read e p) is = keeps_unless (refusal g m.phase (Read e p)) _ (λ outcome is_refused. refused (Read e p) is refl outcome is_refused) (λ passed.
      keeps_if (r.done == e.count) (Answers r outcomes.Data) (ReadsBlock r (e.first + r.done)) (λ full. answers_keep g m now may f r outcomes.Data (not_read e p is) s) (λ more. reads_keep e p is passed more))
  task_keeps (Write e p) is = keeps_free _ (λ command. keeps_unless (refusal g m.phase (Write e p)) _ (λ outcome is_refused. refused (Write e p) is refl outcome is_refused) (λ passed.
      keeps_if (is_waiting m r) Waits _ (λ w. waits_keep g m now may f s) (λ first.
      keeps_if (r.done == e.count) (Answers r outcomes.Done) _ (λ full. answers_keep g m now may f r outcomes.Done (all_done e p is full) s) (λ more.
      keeps_if (is_direct m m.phase (e.first + r.done)) (WritesBlock r (e.first + r.done)) Waits (λ direct. writes_keep e p is passed more direct command) (λ worker. waits_keep g m now may f s)))))
  task_keeps (Discard e) is = keeps_free _ (λ command. keeps_unless (refusal g m.phase (Discard e)) (DiscardsFor r) (λ outcome is_refused. refused (Discard e) is refl outcome is_refused) (λ passed. discards_keep e is passed command))
  task_keeps Flush is = keeps_free _ (λ command. keeps_unless (refusal g m.phase Flush) (FlushesFor r) (λ outcome is_refused. refused Flush is refl outcome is_refused) (λ passed. flushes_keep is passed command))
  task_keeps Prepare is = waits_keep g m now may f s
  task_keeps Commit is = waits_keep g m now may f s

-- A turn of a request.
pub map_keeps : (g : Geometry) (m : Memory) (ticket : Ticket) (now : Contents) (may : Candidates) (f : Flat) → IsHeld g m now may f
    → TaskKeeps g m now may f (task_of g m (Map ticket))
map_keeps g m ticket now may f s = go (request_of ticket m.requests) refl
  where
    go : (found : Option Request) → request_of ticket m.requests ≡ found → TaskKeeps g m now may f (map_task g m found)
    go None is = waits_keep g m now may f s
    go (Some r) is = task_keeps g m now may f s ticket r is r.op refl
