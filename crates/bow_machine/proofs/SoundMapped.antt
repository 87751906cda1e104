-- Each step of a request's turn keeps memory sound.
use Rattle.std.proofs.Common.{ℕ, ◌+◌, ◌*◌, ◌<◌, ◌≤◌, ◌≡◌, ◌≢◌, ◌⊎◌, ◌==◌, ◌&&◌, Bool, true, false, not, cond, List, length, Option, Some, None, arith, refl, sym, ap, ◌∙◌, subst, inl, inr, length-append, length-drop}
use Rattle.std.proofs.lemmas.Bool.{cases_eq, or_cases, and_parts, eqb-true}
use Rattle.std.specs.List.{AllByRecursion as Each}
use Rattle.std.proofs.Math.Nat.{mul-le-mul_right}
use Rattle.std.proofs.lemmas.List.{length-take}
use Rattle.bow_units.specs.declared.sizes.Extent.{Extent}
use Rattle.bow_units.specs.declared.sizes.Geometry.{Geometry}
use Rattle.bow_units.specs.declared.requests.Phase.{Phase}
use Rattle.bow_units.specs.declared.requests.Phase.TheVariants.{Trim, Arming, Checkpoint, Deciding, Committed}
use Rattle.bow_units.specs.declared.statuses.Kind.{Kind}
use Rattle.bow_units.specs.declared.statuses.Kind.TheVariants.{Sector0, Unchanged, Free}
use Rattle.bow_log.specs.Generations.{Generation}
use Rattle.bow_chain.specs.Contents.{Contents}
use Rattle.bow_queue.specs.Requests.{open_writes}
use Rattle.bow_ranges.specs.Kinds.{kind_at, with_kind, holds, is_free, count_of}
use Rattle.bow_machine.specs.Requests.{Request, without_request, with_request, filled}
use Rattle.bow_machine.specs.Memory.{Memory, Hand, Empty, Batching, Preparing, Committing, has_command, has_move, may_be_written, is_direct, kind_written, kinds_written, reserved}
use Rattle.bow_machine.specs.Calls.{Reply, Failed, Succeeded, Gave}
use Rattle.bow_machine.specs.Tasks.{WritesBlock, ReadsBlock}
use Rattle.bow_machine.specs.Steps.{extent_of, with_read, above_0, kinds_discarded, call_of, step_of}
use Rattle.bow_machine.specs.MemoryIsSound.{IsTable, is_touched}
use Rattle.bow_machine.specs.MemoryIsSound.{IsTransfer, IsAdmissible, IsWaiting, Rising, LogIsHeld, HandIsSound, MemoryIsSound}
use Rattle.bow_machine.specs.MemoryLaws.{CanHaveIt}
use Rattle.bow_machine.proofs.Tables.{kind_with, kind_freed, free_and_touched_freed, table_with, table_freed}
use Rattle.bow_machine.proofs.Mapped.{IsOpen, OpenChange}
use Rattle.bow_machine.proofs.MappedWrites.{write_change, write_counts, written_here, written_other, table_written, open_kind}
use Rattle.bow_machine.proofs.MappedDiscards.{above_fits}
use Rattle.bow_machine.proofs.SoundLists.{few_without, few_with, rising_without, rising_with, waiting_without, waiting_with, found_waiting}
use Rattle.bow_machine.proofs.Mapped.{log_open}
use Rattle.bow_machine.proofs.SoundHands.{hand_in, sound_requests}
use Rattle.bow_machine.proofs.Mapped.{StillWaits, waits_without, waits_with}
use Rattle.bow_machine.proofs.SoundTasks.{IsApart, WritesNext, ReadsNext, DiscardsNow}

-- ----------------------------------------------------------------------------------------------------------------
-- The kinds and the requests change, with no command in hand.

module _ (g : Geometry) (m : Memory) (table : List Kind) (requests : List Request) where
  abbrev pub with_both : Memory
  with_both = record m { kinds = table; requests = requests }

  hand_with : (change : m.phase ≡ Checkpoint → OpenChange g m.kinds table) (hand : Hand) (log : Option Generation) → has_command hand ≡ false → StillWaits g m requests hand
      → HandIsSound g m hand log → HandIsSound g with_both hand log
  hand_with change Empty log free waits h = tt
  hand_with change (Batching b) None free waits h = absurd h
  hand_with change (Batching b) (Some log) free waits h = hand_in g m with_both refl refl (change h.phase) (Batching b) (Some log) (λ command. absurd (grind arith)) waits h
  hand_with change (Preparing t c b act) log free waits h = absurd (grind arith)
  hand_with change (Committing t again act) log free waits h = absurd (grind arith)

  pub sound_with : IsTable g table → length requests ≤ 16 → Each (IsWaiting g) requests → Rising requests → LogIsHeld g table m.clean m.trimmed (reserved m.hand).count m.phase m.log → has_command m.hand ≡ false
      → (m.phase ≡ Checkpoint → OpenChange g m.kinds table) → StillWaits g m requests m.hand → MemoryIsSound g m → MemoryIsSound g with_both
  sound_with is_table few each rising log free change waits s = record {
    sizes = s.sizes;
    table = is_table;
    few = few;
    requests = each;
    rising = rising;
    log = log;
    in_hand = hand_with change m.hand m.log free waits s.in_hand;
  }

-- ----------------------------------------------------------------------------------------------------------------
-- A block is written in place.

not_moved : (t : Bool) → not t ≡ true → t ≡ false
not_moved true h = absurd (grind arith)
not_moved false h = refl

module _ (g : Geometry) (m : Memory) (r : Request) (b : ℕ) (s : MemoryIsSound g m) (w : WritesNext g m r b) where
  fits : b < length m.kinds
  fits = omega (arith, w.inside, s.table.size)

  -- block 0, or an open block
  pub which : m.phase ≡ Checkpoint → (b ≡ 0) ⊎ ((b ≢ 0) × IsOpen (kind_at m.kinds b))
  which is = elim (or_cases (may_be_written (kind_at m.kinds b)) ((b == 0) && not (has_move m.hand)) (subst (λ p. is_direct m p b ≡ true) is w.direct)) [
    | inl is_open ↦ inr (λ e. absurd (let n : may_be_written Sector0 ≡ true = ap may_be_written (sym s.table.zeroth ∙ ap (kind_at m.kinds) (sym e)) ∙ is_open in grind arith), open_kind (kind_at m.kinds b) is_open)
    | inr zeroth ↦ inl (eqb-true b 0 (and_parts (b == 0) (not (has_move m.hand)) zeroth).0)
  ]

  abbrev new : List Kind
  new = kinds_written m.phase m.kinds b

  changes : m.phase ≡ Checkpoint → OpenChange g m.kinds new
  changes is = write_change g m b fits is (which is)

  -- once committed, and in Trim, the block is unchanged from then on
  unchanged_from : (p : Phase) → kind_written p (kind_at m.kinds b) ≡ Unchanged → (P : Kind → Type 0) → P Unchanged → ((x : ℕ) → 0 < x → x < g.blocks → P (kind_at m.kinds x))
      → (x : ℕ) → 0 < x → x < g.blocks → P (kind_at (kinds_written p m.kinds b) x)
  unchanged_from p is P here other x above on = elim (cases_eq x b) [
    | inl same ↦
        let to : kind_at (kinds_written p m.kinds b) x ≡ Unchanged = ap (kind_at (kinds_written p m.kinds b)) same ∙ written_here p m.kinds b (λ z. absurd (omega (arith, z, same))) fits ∙ is in
        subst P (sym to) here
    | inr ne ↦ subst P (sym (written_other p m.kinds b x fits ne)) (other x above on)
  ]

  write_log : LogIsHeld g new m.clean m.trimmed (reserved m.hand).count m.phase m.log
  write_log = go m.phase refl m.log s.log
    where
      go : (p : Phase) → m.phase ≡ p → (l : Option Generation) → LogIsHeld g m.kinds m.clean m.trimmed (reserved m.hand).count p l → LogIsHeld g (kinds_written m.phase m.kinds b) m.clean m.trimmed (reserved m.hand).count p l
      go Trim is None k = subst (λ (q : Phase). LogIsHeld g (kinds_written q m.kinds b) m.clean m.trimmed (reserved m.hand).count Trim None) (sym is) (unchanged_from Trim refl (λ kind. (kind ≡ Free) ⊎ (kind ≡ Unchanged)) (inr refl) k)
      go Trim is (Some log) k = absurd k
      go Arming is l k = absurd (w.settled.0 is)
      go Checkpoint is None k = absurd k
      go Checkpoint is (Some log) k = log_open g m.kinds new m.clean m.trimmed (reserved m.hand).count (reserved m.hand).count log (changes is) (let counts = write_counts m b fits is (which is) in omega (arith, counts, k.room)) k
      go Deciding is l k = absurd (w.settled.1 is)
      go Committed is None k = subst (λ (q : Phase). LogIsHeld g (kinds_written q m.kinds b) m.clean m.trimmed (reserved m.hand).count Committed None) (sym is) (committed k)
        where
          committed : ((x : ℕ) → 0 < x → x < g.blocks → kind_at m.kinds x ≡ Unchanged) → (x : ℕ) → 0 < x → x < g.blocks → kind_at (kinds_written Committed m.kinds b) x ≡ Unchanged
          committed k x above on = elim (cases_eq x b) [
            | inl same ↦ ap (kind_at (kinds_written Committed m.kinds b)) same ∙ written_here Committed m.kinds b (λ z. absurd (omega (arith, z, same))) fits ∙ ap (kind_at m.kinds) (sym same) ∙ k x above on
            | inr ne ↦ written_other Committed m.kinds b x fits ne ∙ k x above on
          ]
      go Committed is (Some log) k = absurd k

  -- with one block more of it done
  one_more_waits : IsWaiting g (record r { done = r.done + 1 })
  one_more_waits = record { op = (found_waiting g r.ticket m.requests r s.requests w.request.found).op; done = subst (λ o. r.done + 1 ≤ (extent_of o).count) (sym w.op) (omega (arith, w.left)) }

  pub writes_sound : (now : Contents) (reply : Reply) → CanHaveIt g (call_of g m (WritesBlock r b)) reply → MemoryIsSound g (step_of g now m (WritesBlock r b) reply).memory
  writes_sound now Succeeded can =
      sound_with g m new (with_request (record r { done = r.done + 1 }) m.requests) (table_written g m.phase m.kinds b w.inside s.table)
      (few_with (record r { done = r.done + 1 }) m.requests s.few) (waiting_with g (record r { done = r.done + 1 }) m.requests one_more_waits s.requests) (rising_with (record r { done = r.done + 1 }) m.requests s.rising)
      write_log w.free changes (waits_with g m (record r { done = r.done + 1 }) m.hand w.request.apart) s
  writes_sound now Failed can =
      sound_with g m new (without_request r.ticket m.requests) (table_written g m.phase m.kinds b w.inside s.table)
      (few_without r.ticket m.requests s.few) (waiting_without g r.ticket m.requests s.requests) (rising_without r.ticket m.requests s.rising)
      write_log w.free changes (waits_without g m r.ticket m.hand w.request.apart) s
  writes_sound now (Gave v) can = absurd can

-- ----------------------------------------------------------------------------------------------------------------
-- A block is read.

-- a read's buffer keeps its length
filled_length : (size count i : ℕ) (buffer v : List ℕ) → length buffer ≡ count * size → i < count → length v ≡ size → length (filled size buffer i v) ≡ count * size
filled_length size count i buffer v long below one =
    let next : (i + 1) * size ≤ count * size = mul-le-mul_right size (omega arith) in
    let split : (i + 1) * size ≡ i * size + size = omega arith in
    simp (length-append, length-take, length-drop) (omega (arith, next, split, long, one))

module _ (g : Geometry) (m : Memory) (r : Request) (b : ℕ) (s : MemoryIsSound g m) (w : ReadsNext g m r b) where
  waits_now : IsWaiting g r
  waits_now = found_waiting g r.ticket m.requests r s.requests w.request.found

  transfer : IsTransfer g w.extent w.payload
  transfer = subst (IsAdmissible g) w.op waits_now.op

  read_waits : (v : List ℕ) → length v ≡ g.block_size → IsWaiting g (record r { op = with_read g.block_size r.op r.done v; done = r.done + 1 })
  read_waits v one = subst (λ o. IsWaiting g (record r { op = with_read g.block_size o r.done v; done = r.done + 1 })) (sym w.op) (record {
    op = record { some = transfer.some; few = transfer.few; whole = filled_length g.block_size w.extent.count r.done w.payload v transfer.whole w.left one };
    done = omega (arith, w.left);
  })

  pub reads_sound : (now : Contents) (reply : Reply) → CanHaveIt g (call_of g m (ReadsBlock r b)) reply → MemoryIsSound g (step_of g now m (ReadsBlock r b) reply).memory
  reads_sound now (Gave v) can =
      let one : Request = record r { op = with_read g.block_size r.op r.done v; done = r.done + 1 } in
      sound_requests g m (with_request one m.requests) (few_with one m.requests s.few) (waiting_with g one m.requests (read_waits v can) s.requests) (rising_with one m.requests s.rising) (waits_with g m one m.hand w.request.apart) s
  reads_sound now Failed can =
      sound_requests g m (without_request r.ticket m.requests) (few_without r.ticket m.requests s.few) (waiting_without g r.ticket m.requests s.requests) (rising_without r.ticket m.requests s.rising) (waits_without g m r.ticket m.hand w.request.apart) s
  reads_sound now Succeeded can = absurd can

-- ----------------------------------------------------------------------------------------------------------------
-- A request is answered.

pub answered_sound : (g : Geometry) (m : Memory) (r : Request) → IsApart m r → MemoryIsSound g m → MemoryIsSound g (record m { requests = without_request r.ticket m.requests })
answered_sound g m r apart s =
    sound_requests g m (without_request r.ticket m.requests) (few_without r.ticket m.requests s.few) (waiting_without g r.ticket m.requests s.requests) (rising_without r.ticket m.requests s.rising) (waits_without g m r.ticket m.hand apart.apart) s

-- ----------------------------------------------------------------------------------------------------------------
-- Blocks are discarded.

module _ (g : Geometry) (m : Memory) (r : Request) (s : MemoryIsSound g m) (w : DiscardsNow g m r) where
  abbrev e : Extent
  e = extent_of r.op

  abbrev freed : List Kind
  freed = kinds_discarded g m e m.phase

  e_inside : e.first + e.count ≤ g.blocks
  e_inside = subst (λ o. (extent_of o).first + (extent_of o).count ≤ g.blocks) (sym w.op) w.inside

  abbrev but : List Extent
  but = open_writes g.blocks m.requests

  in_trim : List Kind
  in_trim = with_kind m.kinds (above_0 e) Free

  above : (0 < (above_0 e).first) × ((above_0 e).first + (above_0 e).count ≤ g.blocks)
  above = above_fits g e s.sizes.enough e_inside

  freed_table : IsTable g freed
  freed_table = go m.phase refl
    where
      go : (p : Phase) → m.phase ≡ p → IsTable g (kinds_discarded g m e p)
      go Trim is = table_with g m.kinds (above_0 e) Free (λ x. absurd (grind arith)) above.1 (inl above.0) s.table
      go Checkpoint is = table_freed g m.kinds e but (omega (arith, s.sizes.enough)) s.table
      go Arming is = s.table
      go Deciding is = s.table
      go Committed is = s.table

  freed_change : m.phase ≡ Checkpoint → OpenChange g m.kinds freed
  freed_change is x on = subst (λ (t : List Kind). (kind_at t x ≡ kind_at m.kinds x) ⊎ (IsOpen (kind_at m.kinds x) × IsOpen (kind_at t x))) (sym (ap (kinds_discarded g m e) is))
      (elim (kind_freed m.kinds e but x (omega (arith, s.table.size))) [
        | inl (was, held, uncovered, free) ↦ inr (inl was, inr free)
        | inr same ↦ inl same
      ])

  freed_log : LogIsHeld g freed m.clean m.trimmed (reserved m.hand).count m.phase m.log
  freed_log = go m.phase refl m.log s.log
    where
      go : (p : Phase) → m.phase ≡ p → (l : Option Generation) → LogIsHeld g m.kinds m.clean m.trimmed (reserved m.hand).count p l → LogIsHeld g (kinds_discarded g m e m.phase) m.clean m.trimmed (reserved m.hand).count p l
      go Trim is None k = subst (λ (t : List Kind). LogIsHeld g t m.clean m.trimmed (reserved m.hand).count Trim None) (sym (ap (kinds_discarded g m e) is)) (trimmed k)
        where
          trimmed : ((x : ℕ) → 0 < x → x < g.blocks → (kind_at m.kinds x ≡ Free) ⊎ (kind_at m.kinds x ≡ Unchanged)) → (x : ℕ) → 0 < x → x < g.blocks → (kind_at (with_kind m.kinds (above_0 e) Free) x ≡ Free) ⊎ (kind_at (with_kind m.kinds (above_0 e) Free) x ≡ Unchanged)
          trimmed k x up on = subst (λ kind. (kind ≡ Free) ⊎ (kind ≡ Unchanged)) (sym (kind_with m.kinds (above_0 e) Free x (omega (arith, above.1, s.table.size)))) (at (holds (above_0 e) x) (k x up on))
            where
              at : (t : Bool) → (kind_at m.kinds x ≡ Free) ⊎ (kind_at m.kinds x ≡ Unchanged) → (cond t Free (kind_at m.kinds x) ≡ Free) ⊎ (cond t Free (kind_at m.kinds x) ≡ Unchanged)
              at true old = inl refl
              at false old = old
      go Trim is (Some log) k = absurd k
      go Arming is l k = absurd (w.settled.0 is)
      go Checkpoint is None k = absurd k
      go Checkpoint is (Some log) k = log_open g m.kinds freed m.clean m.trimmed (reserved m.hand).count (reserved m.hand).count log (freed_change is)
          (let counts = subst (λ (t : List Kind). count_of is_free t + count_of is_touched t ≡ count_of is_free m.kinds + count_of is_touched m.kinds) (sym (ap (kinds_discarded g m e) is)) (free_and_touched_freed m.kinds e but) in omega (arith, counts, k.room)) k
      go Deciding is l k = absurd (w.settled.1 is)
      go Committed is None k = subst (λ (t : List Kind). LogIsHeld g t m.clean m.trimmed (reserved m.hand).count Committed None) (sym (ap (kinds_discarded g m e) is)) k
      go Committed is (Some log) k = absurd k

  pub discards_sound : MemoryIsSound g (record m { kinds = freed; requests = without_request r.ticket m.requests })
  discards_sound = sound_with g m freed (without_request r.ticket m.requests) freed_table (few_without r.ticket m.requests s.few) (waiting_without g r.ticket m.requests s.requests) (rising_without r.ticket m.requests s.rising)
      freed_log w.free freed_change (waits_without g m r.ticket m.hand w.request.apart) s
