-- What each step of the device does to the table and the log, as the tally sees it: from what ties each touched block, and
-- each entry, to a write that waits.
use Rattle.std.proofs.Common.{ℕ, ◌+◌, ◌<◌, ◌≤◌, ◌≡◌, ◌≢◌, ◌⊎◌, ◌||◌, Bool, true, false, cond, List, [], ◌∷◌, filter, filter_map}
use Rattle.std.proofs.Common.{Option, Some, None, arith, refl, sym, ap, ◌∙◌, subst, subst₂, inl, inr}
use Rattle.std.specs.List.{list_any, cons_option}
use Rattle.std.proofs.lemmas.Bool.{cases_eq, cases_Bool, false≢true, and_parts, or_right}
use Rattle.bow_units.specs.declared.requests.Op.{Op}
use Rattle.bow_units.specs.declared.requests.Op.TheVariants.{Read, Write, Discard, Flush, Prepare, Commit}
use Rattle.bow_units.specs.declared.requests.Phase.{Phase}
use Rattle.bow_units.specs.declared.requests.Phase.TheVariants.{Trim, Arming, Checkpoint, Deciding, Committed}
use Rattle.bow_units.specs.declared.sizes.Extent.{Extent}
use Rattle.bow_units.specs.declared.sizes.Geometry.{Geometry}
use Rattle.bow_units.specs.declared.statuses.Kind.{Kind}
use Rattle.bow_units.specs.declared.statuses.Kind.TheVariants as kinds
use Rattle.bow_log.specs.Generations.{Generation}
use Rattle.bow_chain.specs.Contents.{Contents}
use Rattle.bow_queue.specs.declared.tickets.Ticket.{Ticket}
use Rattle.bow_queue.specs.Extents.{is_on_device}
use Rattle.bow_queue.specs.Requests.{written, open_writes, same_ticket}
use Rattle.bow_ranges.specs.Kinds.{kind_at, holds}
use Rattle.bow_machine.specs.Requests.{Request, request_of, refusal}
use Rattle.bow_machine.specs.Memory.{Memory, reserved}
use Rattle.bow_machine.specs.Calls.{Reply}
use Rattle.bow_machine.specs.Tasks.{task_of}
use Rattle.bow_machine.specs.declared.turns.Turn.{Turn}
use Rattle.bow_machine.specs.Steps.{call_of, step_of}
use Rattle.bow_machine.specs.MemoryIsSound.{IsTable, is_touched, LogIsSound, LogIsHeld, MemoryIsSound}
use Rattle.bow_machine.specs.MemoryLaws.{CanHaveIt}
use Rattle.bow_machine.specs.Ties.{IsLeftOf, SomeIsSaved}
use Rattle.bow_machine.proofs.SoundSteps.{step_keeps_sound}
use Rattle.bow_machine.proofs.SoundTies.{saved_is_next, touched_is_left, covered_stays_touched, logs_go_on}
use Rattle.bow_machine.proofs.SoundTies.{arming_is_untouched, checkpoint_follows}
use Rattle.bow_history.specs.Journal.{Plan, Place, writes, counts}
use Rattle.bow_history.specs.Fits.{HasTally}
use Rattle.bow_history.proofs.Rows.{passed_counts}
use Rattle.bow_history.proofs.Tally.{is_touched_at, WritesIt, IsOneMore, Grows, untouched_tallied}

-- ----------------------------------------------------------------------------------------------------------------
-- A write that waits and counts is one of those that spare their blocks.

module _ (n : ℕ) (b : ℕ) where
  abbrev spared : List Request → Bool
  spared ws = list_any (λ w. holds w b) (open_writes n ws)

  spares_more : (o : Option Extent) (more : List Extent) → list_any (λ w. holds w b) (filter (is_on_device n) more) ≡ true
      → list_any (λ w. holds w b) (filter (is_on_device n) (cons_option o more)) ≡ true
  spares_more None more h = h
  spares_more (Some e) more h = go (is_on_device n e)
    where
      go : (t : Bool) → list_any (λ w. holds w b) (cond t (e ∷ filter (is_on_device n) more) (filter (is_on_device n) more)) ≡ true
      go true = or_right (holds e b) (list_any (λ w. holds w b) (filter (is_on_device n) more)) h
      go false = h

  spares_it : (e : Extent) (more : List Extent) → is_on_device n e ≡ true → holds e b ≡ true → list_any (λ w. holds w b) (filter (is_on_device n) (e ∷ more)) ≡ true
  spares_it e more on h = subst (λ t. list_any (λ w. holds w b) (cond t (e ∷ filter (is_on_device n) more) (filter (is_on_device n) more)) ≡ true) (sym on) (ap (λ t. t || list_any (λ w. holds w b) (filter (is_on_device n) more)) h)

  pub spares : (t : Ticket) (requests : List Request) (r : Request) (e : Extent) (payload : List ℕ) → request_of t requests ≡ Some r → r.op ≡ Write e payload → is_on_device n e ≡ true → holds e b ≡ true → spared requests ≡ true
  spares t [] r e payload found op on h = absurd (grind arith)
  spares t (x ∷ xs) r e payload found op on h = go (same_ticket x.ticket t) found (spares t xs r e payload)
    where
      go : (same : Bool) → cond same (Some x) (request_of t xs) ≡ Some r → (request_of t xs ≡ Some r → r.op ≡ Write e payload → is_on_device n e ≡ true → holds e b ≡ true → spared xs ≡ true) → spared (x ∷ xs) ≡ true
      go true found rest =
          let is : x ≡ r = cc found in
          subst (λ (o : Op). list_any (λ w. holds w b) (filter (is_on_device n) (cons_option (written o) (filter_map (λ (w : Request). written w.op) xs))) ≡ true)
          (sym (ap (λ (y : Request). y.op) is ∙ op)) (spares_it e (filter_map (λ (w : Request). written w.op) xs) on h)
      go false found rest = spares_more (written x.op) (filter_map (λ (w : Request). written w.op) xs) (rest found op on h)

counted_write : (g : Geometry) (op : Op) → counts g op ≡ true → (e : Extent) × (payload : List ℕ) × (op ≡ Write e payload) × (is_on_device g.blocks e ≡ true)
counted_write g (Write e payload) so = (e, payload, refl, (and_parts _ _ so).0)
counted_write g (Read e payload) so = absurd (false≢true so)
counted_write g (Discard e) so = absurd (false≢true so)
counted_write g Flush so = absurd (false≢true so)
counted_write g Prepare so = absurd (false≢true so)
counted_write g Commit so = absurd (false≢true so)

-- ----------------------------------------------------------------------------------------------------------------
-- The log of sound memory.

-- where one is due, it is sound
pub log_of_sound : (g : Geometry) (m : Memory) → MemoryIsSound g m → (m.phase ≡ Arming) ⊎ (m.phase ≡ Checkpoint)
    → (l : Generation) × (m.log ≡ Some l) × LogIsSound g m.kinds m.clean m.trimmed (reserved m.hand).count l
log_of_sound g m s (inl at) = go m.log refl (subst (λ p. LogIsHeld g m.kinds m.clean m.trimmed (reserved m.hand).count p m.log) at s.log)
  where
    go : (o : Option Generation) → m.log ≡ o → LogIsHeld g m.kinds m.clean m.trimmed (reserved m.hand).count Arming o
        → (l : Generation) × (m.log ≡ Some l) × LogIsSound g m.kinds m.clean m.trimmed (reserved m.hand).count l
    go None is h = absurd h
    go (Some l) is h = (l, is, h.0)
log_of_sound g m s (inr at) = go m.log refl (subst (λ p. LogIsHeld g m.kinds m.clean m.trimmed (reserved m.hand).count p m.log) at s.log)
  where
    go : (o : Option Generation) → m.log ≡ o → LogIsHeld g m.kinds m.clean m.trimmed (reserved m.hand).count Checkpoint o
        → (l : Generation) × (m.log ≡ Some l) × LogIsSound g m.kinds m.clean m.trimmed (reserved m.hand).count l
    go None is h = absurd h
    go (Some l) is h = (l, is, h)

-- ----------------------------------------------------------------------------------------------------------------
-- In Checkpoint.

untouched_kind : (k : Kind) → k ≢ kinds.Changed → k ≢ kinds.Saved → is_touched k ≡ false
untouched_kind kinds.Changed c s = absurd (c refl)
untouched_kind kinds.Saved c s = absurd (s refl)
untouched_kind kinds.Sector0 c s = refl
untouched_kind kinds.Current c s = refl
untouched_kind kinds.Unchanged c s = refl
untouched_kind kinds.Free c s = refl
untouched_kind kinds.Backup c s = refl

left_holds : (e : Extent) (done b : ℕ) → e.first + done ≤ b → b < e.first + e.count → holds e b ≡ true
left_holds e done b from below =
    let low : e.first ≤ b = omega (arith, from) in
    grind (arith, low, below)

module _ (g : Geometry) (m : Memory) (turn : Turn) (reply : Reply) (now : Contents) (s : MemoryIsSound g m)
    (can : CanHaveIt g (call_of g m (task_of g m turn)) reply) where
  -- a block that is left to do of a write
  left_writes : (b : ℕ) → IsLeftOf g m b → WritesIt g m.requests b
  left_writes b l = record {
    ticket = l.write.ticket;
    request = l.write;
    waits = l.waits;
    counts_so = ap (counts g) l.op ∙ passed_counts g m.phase l.extent l.payload (ap (refusal g m.phase) (sym l.op) ∙ l.passed);
    writes_it = ap (λ o. writes o b) l.op ∙ left_holds l.extent l.write.done b l.from l.below;
  }

  module _ (going : (step_of g now m (task_of g m turn) reply).memory.phase ≢ Committed) where
    -- what a waiting write covers stays touched
    still_touched : (t : Ticket) (r : Request) (e : Extent) (payload : List ℕ) → request_of t m.requests ≡ Some r
        → r.op ≡ Write e payload → is_on_device g.blocks e ≡ true → (b : ℕ) → b < g.blocks → holds e b ≡ true
        → is_touched_at m.kinds b ≡ true
        → (kind_at (step_of g now m (task_of g m turn) reply).memory.kinds b ≡ kind_at m.kinds b)
        ⊎ ((kind_at m.kinds b ≡ kinds.Saved) × (kind_at (step_of g now m (task_of g m turn) reply).memory.kinds b ≡ kinds.Changed))
    still_touched t r e payload waits op on b below it touched =
        covered_stays_touched g m turn reply now b s can below (spares g.blocks b t m.requests r e payload waits op on it) touched going

    stays_at : (b : ℕ) → is_touched_at m.kinds b ≡ true
        → (kind_at (step_of g now m (task_of g m turn) reply).memory.kinds b ≡ kind_at m.kinds b)
        ⊎ ((kind_at m.kinds b ≡ kinds.Saved) × (kind_at (step_of g now m (task_of g m turn) reply).memory.kinds b ≡ kinds.Changed))
        → is_touched_at (step_of g now m (task_of g m turn) reply).memory.kinds b ≡ true
    stays_at b touched (inl same) = ap is_touched same ∙ touched
    stays_at b touched (inr changed) = ap is_touched changed.1

    -- a block that becomes saved was not touched
    saved_new : (b : ℕ) → b < g.blocks → kind_at m.kinds b ≢ kinds.Saved
        → kind_at (step_of g now m (task_of g m turn) reply).memory.kinds b ≡ kinds.Saved → is_touched_at m.kinds b ≡ false
    saved_new b below not_saved saved = elim (cases_Bool (is_touched_at m.kinds b)) [
      | inr none ↦ none
      | inl touched ↦ elim (saved_is_next g m turn reply now b s can below saved) [
        | inl was ↦ absurd (not_saved was)
        | inr next ↦
            let l = next.left in
            let passed : refusal g m.phase (Write l.extent l.payload) ≡ None = ap (refusal g m.phase) (sym l.op) ∙ l.passed in
            let on = (and_parts _ _ (passed_counts g m.phase l.extent l.payload passed)).0 in
            elim (still_touched l.write.ticket l.write l.extent l.payload l.waits l.op on b below (left_holds l.extent l.write.done b l.from l.below) touched) [
              | inl same ↦ absurd (not_saved (sym same ∙ saved))
              | inr changed ↦ absurd (not_saved changed.0)
            ]
      ]
    ]

    pub grows : (log next : Generation) → m.log ≡ Some log
        → (step_of g now m (task_of g m turn) reply).memory.log ≡ Some next
        → Grows g m.requests m.kinds (step_of g now m (task_of g m turn) reply).memory.kinds log next
    grows log next was is = record {
      new_ones = λ b above below touched. elim (touched_is_left g m turn reply now b s can below touched) [
        | inl before ↦ inl before
        | inr left ↦ inr (left_writes b left)
      ];
      stays = λ t r waits so b above below it touched.
          let w = counted_write g r.op so in
          stays_at b touched (still_touched t r w.0 w.1 waits w.2 w.3 b below (sym (ap (λ o. writes o b) w.2) ∙ it) touched);
      copies = elim (logs_go_on g m turn reply now log next s can was is).copies [
        | inl same ↦ inl same
        | inr more ↦ inr (more.0, one_more more.1)
      ];
    }
      where
        after_table : IsTable g (step_of g now m (task_of g m turn) reply).memory.kinds
        after_table = (step_keeps_sound g m turn reply now s can).table

        one_more : SomeIsSaved g m.kinds (step_of g now m (task_of g m turn) reply).memory.kinds
            → IsOneMore g m.requests m.kinds (step_of g now m (task_of g m turn) reply).memory.kinds
        one_more (b, below, not_saved, saved) = record {
          block = b;
          above = elim (cases_eq b 0) [
            | inl zeroth ↦ absurd (let clash : kinds.Sector0 ≡ kinds.Saved = sym after_table.zeroth ∙ ap (kind_at (step_of g now m (task_of g m turn) reply).memory.kinds) (sym zeroth) ∙ saved in grind arith)
            | inr above ↦ omega (arith, above)
          ];
          inside = below;
          for_it = elim (touched_is_left g m turn reply now b s can below (ap is_touched saved)) [
            | inl before ↦ absurd (false≢true (sym (saved_new b below not_saved saved) ∙ before))
            | inr left ↦ left_writes b left
          ];
          was = saved_new b below not_saved saved;
          is = ap is_touched saved;
        }

-- ----------------------------------------------------------------------------------------------------------------
-- In any phase.

-- whatever the place, the tally is right
abbrev pub FreeAt : Plan → List Kind → Phase → Option Generation → Type 0
FreeAt plan table phase log = (hands : ℕ → Option Ticket) (q : Place) → HasTally plan table hands q phase log

-- in Checkpoint, before and after, the tally grows
pub record HasGrown (g : Geometry) (m : Memory) (table : List Kind) (phase : Phase) (now_log : Option Generation) : Type 0 where
  pub before : m.phase ≡ Checkpoint
  pub after : phase ≡ Checkpoint
  pub log : Generation
  pub next : Generation
  pub was : m.log ≡ Some log
  pub is : now_log ≡ Some next
  pub grows : Grows g m.requests m.kinds table log next

-- where nothing is counted
free_in : (plan : Plan) (table : List Kind) (phase : Phase) (log : Option Generation) → (phase ≢ Checkpoint) ⊎ (log ≡ None)
    → FreeAt plan table phase log
free_in plan table Trim log h hands q = tt
free_in plan table Arming log h hands q = tt
free_in plan table Deciding log h hands q = tt
free_in plan table Committed log h hands q = tt
free_in plan table Checkpoint log (inl ne) hands q = absurd (ne refl)
free_in plan table Checkpoint log (inr none) hands q = subst (HasTally plan table hands q Checkpoint) (sym none) tt

pub step_goes : (plan : Plan) (m : Memory) (turn : Turn) (reply : Reply) (now : Contents) → MemoryIsSound plan.sizes m
    → CanHaveIt plan.sizes (call_of plan.sizes m (task_of plan.sizes m turn)) reply
    → let after = (step_of plan.sizes now m (task_of plan.sizes m turn) reply).memory in
    FreeAt plan after.kinds after.phase after.log ⊎ HasGrown plan.sizes m after.kinds after.phase after.log
step_goes plan m turn reply now s can = go after.phase refl after.log refl
  where
    after : Memory
    after = (step_of plan.sizes now m (task_of plan.sizes m turn) reply).memory

    go : (p : Phase) → after.phase ≡ p → (l : Option Generation) → after.log ≡ l
        → FreeAt plan after.kinds after.phase after.log ⊎ HasGrown plan.sizes m after.kinds after.phase after.log
    go Trim at l is = inl (free_in plan after.kinds after.phase after.log (inl (λ e. let clash : Trim ≡ Checkpoint = sym at ∙ e in absurd (grind arith))))
    go Arming at l is = inl (free_in plan after.kinds after.phase after.log (inl (λ e. let clash : Arming ≡ Checkpoint = sym at ∙ e in absurd (grind arith))))
    go Deciding at l is = inl (free_in plan after.kinds after.phase after.log (inl (λ e. let clash : Deciding ≡ Checkpoint = sym at ∙ e in absurd (grind arith))))
    go Committed at l is = inl (free_in plan after.kinds after.phase after.log (inl (λ e. let clash : Committed ≡ Checkpoint = sym at ∙ e in absurd (grind arith))))
    go Checkpoint at None is = inl (free_in plan after.kinds after.phase after.log (inr is))
    go Checkpoint at (Some next) is = elim (checkpoint_follows plan.sizes m turn reply now s can at) [
      | inl here ↦
          let log = log_of_sound plan.sizes m s (inr here) in
          inr (record {
            before = here;
            after = at;
            log = log.0;
            next = next;
            was = log.1;
            is = is;
            grows = grows plan.sizes m turn reply now s can (λ e. let clash : Checkpoint ≡ Committed = sym at ∙ e in absurd (grind arith)) log.0 next log.1 is;
          })
      | inr arming ↦
          let log = log_of_sound plan.sizes m s (inl arming) in
          let still = arming_is_untouched plan.sizes m turn reply now log.0 s can arming log.1 in
          inl (λ hands q.
          subst₂ (λ (table : List Kind) (l : Option Generation). HasTally plan table hands q after.phase l) (sym still.2) (sym (still.1 ∙ log.1))
          (subst (λ p. HasTally plan m.kinds hands q p (Some log.0)) (sym at)
          (untouched_tallied plan m.kinds hands q log.0 log.2.generation.few (record { first = still.0; none = λ b below. untouched_kind (kind_at m.kinds b) (still.3 b below).0 (still.3 b below).1 }))))
    ]
