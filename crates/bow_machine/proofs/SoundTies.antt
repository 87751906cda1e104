-- What ties a batch to its write, and that nothing is changed or saved before the checkpoint begins.
use Rattle.std.proofs.Common.{ℕ, ◌+◌, ◌<◌, ◌≤◌, ◌≡◌, ◌≢◌, ◌⊎◌, Bool, true, false, cond, List, length, Option, Some, None, arith, refl, sym, ap, ◌∙◌, subst, subst₂, inl, inr}
use Rattle.std.proofs.lemmas.Bool.{cases_eq, false≢true}
use Rattle.bow_units.specs.declared.sizes.Geometry.{Geometry}
use Rattle.bow_units.specs.declared.requests.Phase.{Phase}
use Rattle.bow_units.specs.declared.requests.Phase.TheVariants.{Trim, Arming, Checkpoint, Deciding, Committed}
use Rattle.bow_units.specs.declared.statuses.Kind.{Kind}
use Rattle.bow_units.specs.declared.statuses.Kind.TheVariants.{Sector0, Current, Unchanged, Free, Changed, Backup, Saved}
use Rattle.bow_units.specs.declared.requests.Outcome.{Outcome}
use Rattle.bow_flat.specs.Flat.{Event}
use Rattle.bow_log.specs.Generations.{Generation}
use Rattle.bow_chain.specs.Contents.{Contents}
use Rattle.bow_queue.specs.Requests.{open_writes}
use Rattle.bow_ranges.specs.Kinds.{kind_at, holds}
use Rattle.bow_machine.specs.Requests.{Request, request_of, refusal}
use Rattle.bow_machine.specs.Memory.{Memory, Batch, Hand, Empty, Batching, Preparing, Committing, PrepareAct, ReadsBlock0, WritesCurrent, WritesBackup, FlushesCopies, WritesFirstLog, FlushesFirstLog, CommitAct, FlushesAll, ReadsCurrent, WritesBlock0, FlushesDecision, kind_written, kinds_written, reserved}
use Rattle.bow_machine.specs.Calls.{Reply, Failed, Succeeded, Gave}
use Rattle.bow_machine.specs.Tasks.{Task, task_of}
use Rattle.bow_copy.specs.Acts.{next_act, after_act}
use Rattle.bow_copy.specs.declared.jobs.After.{After}
use Rattle.bow_copy.specs.declared.jobs.After.TheVariants as afters
use Rattle.bow_machine.specs.Steps.{changed, is_log_write, at_act, batch_after, fault_after, fault_events, released}
use Rattle.bow_machine.specs.Steps.{Step, extent_of, above_0, kinds_discarded, answered_for, act_step, call_in_hand, call_of, step_of}
use Rattle.bow_machine.specs.MemoryIsSound.{FoundIn, is_touched}
use Rattle.bow_machine.specs.MemoryIsSound.{LogIsHeld, PrepareIsSound, CommitIsSound, HandIsSound, MemoryIsSound}
use Rattle.bow_machine.specs.MemoryLaws.{CanHaveIt}
use Rattle.bow_machine.specs.Ties.{IsNextOf, SavedIsNext, IsLeftOf, TouchedIsLeft, LogGoesOn, LogsGoOn, IsTouchedStill, CoveredStaysTouched, ArmingIsUntouched, CheckpointFollows}
use Rattle.bow_machine.proofs.Tables.{kind_with, kind_freed}
use Rattle.bow_machine.proofs.MappedWrites.{kinds_at_0, written_here, written_other, written_was}
use Rattle.bow_machine.proofs.MappedDiscards.{above_fits}
use Rattle.bow_machine.proofs.SoundTasks.{WritesNext, ActsOn, IsFresh, DiscardsNow, TaskIsSound, task_by, batch_in_hand}
use Rattle.bow_machine.proofs.SoundBatches.{same_log}
use Rattle.bow_machine.proofs.Counts.{none_counted}
use Rattle.bow_machine.proofs.SoundCommands.{LeavesSo}
use Rattle.bow_machine.proofs.SoundActs.{act_leaves}
use Rattle.bow_machine.proofs.SoundTurns.{turn_sound}
use Rattle.std.specs.List.{list_any}

-- ----------------------------------------------------------------------------------------------------------------
-- A request's turn saves no block.

-- no block is saved by a write
write_saves : (p : Phase) (table : List Kind) (b x : ℕ) → b < length table → kind_at (kinds_written p table b) x ≡ Saved → kind_at table x ≡ Saved
write_saves p table b x on is = elim (cases_eq x b) [
  | inr ne ↦ sym (written_other p table b x on ne) ∙ is
  | inl same ↦ elim (cases_eq b 0) [
    | inl zeroth ↦ sym (ap (λ (t : List Kind). kind_at t x) (kinds_at_0 p table b zeroth)) ∙ is
    | inr above ↦ ap (kind_at table) same ∙ written_was p (kind_at table b) Saved (inr refl) (sym (written_here p table b above on) ∙ ap (kind_at (kinds_written p table b)) (sym same) ∙ is)
  ]
]

-- a discard leaves a block as it is, or free
discarded_kind : (g : Geometry) (m : Memory) (r : Request) (x : ℕ) → MemoryIsSound g m → DiscardsNow g m r → x < g.blocks
    → let new = kinds_discarded g m (extent_of r.op) m.phase in (kind_at new x ≡ kind_at m.kinds x) ⊎ (kind_at new x ≡ Free)
discarded_kind g m r x s w on = go m.phase
  where
    inside : (extent_of r.op).first + (extent_of r.op).count ≤ g.blocks
    inside = subst (λ o. (extent_of o).first + (extent_of o).count ≤ g.blocks) (sym w.op) w.inside

    go : (p : Phase) → (kind_at (kinds_discarded g m (extent_of r.op) p) x ≡ kind_at m.kinds x) ⊎ (kind_at (kinds_discarded g m (extent_of r.op) p) x ≡ Free)
    go Trim = at (holds (above_0 (extent_of r.op)) x) (kind_with m.kinds (above_0 (extent_of r.op)) Free x (omega (arith, (above_fits g (extent_of r.op) s.sizes.enough inside).1, s.table.size)))
      where
        at : (t : Bool) → kind_at (kinds_discarded g m (extent_of r.op) Trim) x ≡ cond t Free (kind_at m.kinds x)
            → (kind_at (kinds_discarded g m (extent_of r.op) Trim) x ≡ kind_at m.kinds x) ⊎ (kind_at (kinds_discarded g m (extent_of r.op) Trim) x ≡ Free)
        at true is = inr is
        at false is = inl is
    go Checkpoint = elim (kind_freed m.kinds (extent_of r.op) (open_writes g.blocks m.requests) x (omega (arith, on, s.table.size))) [ inl freed ↦ inr freed.3 | inr same ↦ inl same ]
    go Arming = inl refl
    go Deciding = inl refl
    go Committed = inl refl

-- ----------------------------------------------------------------------------------------------------------------
-- An act saves next blocks of its write, and its log's sequence rises only where the log is full.

module _ (g : Geometry) (m : Memory) (now : Contents) (s : MemoryIsSound g m) where
  -- what an act leaves, of what was acted on
  leaves : (taken : Memory) (a : ActsOn g m taken) (reply : Reply) → CanHaveIt g (call_in_hand g taken taken.hand) reply
      → let after = (act_step g now taken taken.hand reply).memory in LeavesSo g taken after.phase after.kinds after.log
  leaves taken a reply can = act_leaves g taken a.sound now taken.hand refl a.busy reply can

  -- a batch that was formed just now has not begun
  never : (taken : Memory) (x : ℕ) (hand : Hand) → taken.hand ≡ hand → IsFresh hand → IsNextOf g taken x → ⊥
  never taken x Empty is fresh next = let clash : Empty ≡ Batching next.batch = sym is ∙ next.in_hand in absurd (grind arith)
  never taken x (Batching b) is fresh next =
      let same : Batching b ≡ Batching next.batch = sym is ∙ next.in_hand in
      let e : b ≡ next.batch = cc same in
      let done : b.progress.done ≡ next.batch.progress.done = ap (λ (c : Batch). c.progress.done) e in
      absurd (omega (arith, done, fresh, next.begun))
  never taken x (Preparing t c b act) is fresh next = let clash : Preparing t c b act ≡ Batching next.batch = sym is ∙ next.in_hand in absurd (grind arith)
  never taken x (Committing t again act) is fresh next = let clash : Committing t again act ≡ Batching next.batch = sym is ∙ next.in_hand in absurd (grind arith)

  -- from what was acted on to the memory before the turn
  next_from_taken : (taken : Memory) → ActsOn g m taken → (x : ℕ) → (kind_at taken.kinds x ≡ Saved) ⊎ IsNextOf g taken x → (kind_at m.kinds x ≡ Saved) ⊎ IsNextOf g m x
  next_from_taken taken a x (inl was) = inl (a.saved x was)
  next_from_taken taken a x (inr next) = elim a.less [ inl same ↦ inr (subst (λ n. IsNextOf g n x) same next) | inr first ↦ absurd (never taken x taken.hand refl first.1 next) ]

  left_from_taken : (taken : Memory) → ActsOn g m taken → (x : ℕ) → (is_touched (kind_at taken.kinds x) ≡ true) ⊎ IsLeftOf g taken x → (is_touched (kind_at m.kinds x) ≡ true) ⊎ IsLeftOf g m x
  left_from_taken taken a x (inl was) = inl (a.touched x was)
  left_from_taken taken a x (inr left) = inr (record { write = left.write; waits = ap (request_of left.write.ticket) (sym a.requests) ∙ left.waits; extent = left.extent; payload = left.payload; op = left.op; passed = ap (λ p. refusal g p left.write.op) (sym a.phase) ∙ left.passed; from = left.from; below = left.below })

  log_from_taken : (taken : Memory) (table : List Kind) (old new : Generation) → ActsOn g m taken → LogGoesOn g taken.kinds table old new → LogGoesOn g m.kinds table old new
  log_from_taken taken table old new a h = record {
    sequence = h.sequence;
    copies = elim h.copies [
      | inl same ↦ inl same
      | inr (more, saves) ↦ inr (more, (saves.0, saves.1, (λ is. saves.2 (a.still_saved saves.0 is)), saves.3))
    ];
  }

  -- ----------------------------------------------------------------------------------------------------------------
  -- What a step leaves of the kinds and the log.

  -- a block that a write may have written
  written_left : (r : Request) (b : ℕ) → WritesNext g m r b → (x : ℕ) → is_touched (kind_at (kinds_written m.phase m.kinds b) x) ≡ true → (is_touched (kind_at m.kinds x) ≡ true) ⊎ IsLeftOf g m x
  written_left r b w x is = elim (cases_eq x b) [
    | inl same ↦ inr (record { write = r; waits = w.request.found; extent = w.extent; payload = w.payload; op = w.op; passed = w.passed; from = omega (arith, w.block, same); below = omega (arith, w.block, same, w.left) })
    | inr ne ↦ inl (ap is_touched (sym (written_other m.phase m.kinds b x (omega (arith, w.inside, s.table.size)) ne)) ∙ is)
  ]

  task_saved : (x : ℕ) → x < g.blocks → (task : Task) (reply : Reply) → TaskIsSound g m task → CanHaveIt g (call_of g m task) reply
      → kind_at (step_of g now m task reply).memory.kinds x ≡ Saved → (kind_at m.kinds x ≡ Saved) ⊎ IsNextOf g m x
  task_saved x on = task_by g now m (λ phase table log. kind_at table x ≡ Saved → (kind_at m.kinds x ≡ Saved) ⊎ IsNextOf g m x) inl
      (λ r b w is. inl (write_saves m.phase m.kinds b x (omega (arith, w.inside, s.table.size)) is))
      (λ r w is. elim (discarded_kind g m r x s w on) [ inl same ↦ inl (sym same ∙ is) | inr free ↦ absurd (let clash : Free ≡ Saved = sym free ∙ is in grind arith) ])
      (λ taken reply a can is. next_from_taken taken a x ((leaves taken a reply can).saved x on is))

  task_touched : (x : ℕ) → x < g.blocks → (task : Task) (reply : Reply) → TaskIsSound g m task → CanHaveIt g (call_of g m task) reply
      → is_touched (kind_at (step_of g now m task reply).memory.kinds x) ≡ true → (is_touched (kind_at m.kinds x) ≡ true) ⊎ IsLeftOf g m x
  task_touched x on = task_by g now m (λ phase table log. is_touched (kind_at table x) ≡ true → (is_touched (kind_at m.kinds x) ≡ true) ⊎ IsLeftOf g m x) inl
      (λ r b w is. written_left r b w x is)
      (λ r w is. elim (discarded_kind g m r x s w on) [ inl same ↦ inl (ap is_touched (sym same) ∙ is) | inr free ↦ absurd (false≢true (ap is_touched (sym free) ∙ is)) ])
      (λ taken reply a can is. left_from_taken taken a x ((leaves taken a reply can).touched x on is))

  task_goes_on : (old new : Generation) → m.log ≡ Some old → (task : Task) (reply : Reply) → TaskIsSound g m task → CanHaveIt g (call_of g m task) reply
      → (step_of g now m task reply).memory.log ≡ Some new → LogGoesOn g m.kinds (step_of g now m task reply).memory.kinds old new
  task_goes_on old new was = task_by g now m (λ phase table log. log ≡ Some new → LogGoesOn g m.kinds table old new) (same_log g m.kinds m.kinds m.log old new was)
      (λ r b w is. same_log g m.kinds (kinds_written m.phase m.kinds b) m.log old new was is)
      (λ r w is. same_log g m.kinds (kinds_discarded g m (extent_of r.op) m.phase) m.log old new was is)
      (λ taken reply a can is. log_from_taken taken _ old new a ((leaves taken a reply can).goes_on old new (a.log ∙ was) is))

  -- in Trim no block is touched
  trim_untouched : m.phase ≡ Trim → (x : ℕ) → x < g.blocks → is_touched (kind_at m.kinds x) ≡ false
  trim_untouched is x on = go m.log (subst (λ p. LogIsHeld g m.kinds m.clean m.trimmed (reserved m.hand).count p m.log) is s.log)
    where
      go : (l : Option Generation) → LogIsHeld g m.kinds m.clean m.trimmed (reserved m.hand).count Trim l → is_touched (kind_at m.kinds x) ≡ false
      go (Some l) k = absurd k
      go None k = elim (cases_eq x 0) [
        | inl zeroth ↦ ap (λ y. is_touched (kind_at m.kinds y)) zeroth ∙ ap is_touched s.table.zeroth
        | inr above ↦ elim (k x (omega (arith, above)) on) [ inl free ↦ ap is_touched free | inr used ↦ ap is_touched used ]
      ]

  -- a write leaves what is touched
  written_stays : (r : Request) (b : ℕ) → WritesNext g m r b → (x : ℕ) → x < g.blocks → is_touched (kind_at m.kinds x) ≡ true → kind_at (kinds_written m.phase m.kinds b) x ≡ kind_at m.kinds x
  written_stays r b w x on is = elim (cases_eq x b) [
    | inr ne ↦ written_other m.phase m.kinds b x (omega (arith, w.inside, s.table.size)) ne
    | inl same ↦ elim (cases_eq b 0) [
      | inl zeroth ↦ ap (λ (t : List Kind). kind_at t x) (kinds_at_0 m.phase m.kinds b zeroth)
      | inr above ↦
          let touched : is_touched (kind_at m.kinds b) ≡ true = ap (λ y. is_touched (kind_at m.kinds y)) (sym same) ∙ is in
          ap (kind_at (kinds_written m.phase m.kinds b)) same ∙ written_here m.phase m.kinds b above (omega (arith, w.inside, s.table.size)) ∙ by_phase m.phase refl (kind_at m.kinds b) touched b w.inside refl ∙ ap (kind_at m.kinds) (sym same)
    ]
  ]
    where
      by_kind : (k : Kind) → is_touched k ≡ true → kind_written Checkpoint k ≡ k
      by_kind Changed is = refl
      by_kind Saved is = refl
      by_kind Free is = absurd (false≢true is)
      by_kind Sector0 is = absurd (false≢true is)
      by_kind Current is = absurd (false≢true is)
      by_kind Unchanged is = absurd (false≢true is)
      by_kind Backup is = absurd (false≢true is)

      by_phase : (p : Phase) → m.phase ≡ p → (k : Kind) → is_touched k ≡ true → (b : ℕ) → b < g.blocks → kind_at m.kinds b ≡ k → kind_written p k ≡ k
      by_phase Trim at k is b on same = absurd (false≢true (sym (trim_untouched at b on) ∙ ap is_touched same ∙ is))
      by_phase Checkpoint at k is b on same = by_kind k is
      by_phase Arming at k is b on same = refl
      by_phase Deciding at k is b on same = refl
      by_phase Committed at k is b on same = refl

  -- so does a discard, where a waiting write covers it
  discard_stays : (r : Request) (x : ℕ) → x < g.blocks → list_any (λ write. holds write x) (open_writes g.blocks m.requests) ≡ true → is_touched (kind_at m.kinds x) ≡ true
      → kind_at (kinds_discarded g m (extent_of r.op) m.phase) x ≡ kind_at m.kinds x
  discard_stays r x on covered is = go m.phase refl
    where
      go : (p : Phase) → m.phase ≡ p → kind_at (kinds_discarded g m (extent_of r.op) p) x ≡ kind_at m.kinds x
      go Trim at = absurd (false≢true (sym (trim_untouched at x on) ∙ is))
      go Checkpoint at = elim (kind_freed m.kinds (extent_of r.op) (open_writes g.blocks m.requests) x (omega (arith, on, s.table.size))) [
        | inl freed ↦ absurd (false≢true (sym freed.2 ∙ covered))
        | inr same ↦ same
      ]
      go Arming at = refl
      go Deciding at = refl
      go Committed at = refl

  task_stays : (x : ℕ) → x < g.blocks → list_any (λ write. holds write x) (open_writes g.blocks m.requests) ≡ true → is_touched (kind_at m.kinds x) ≡ true
      → (task : Task) (reply : Reply) → TaskIsSound g m task → CanHaveIt g (call_of g m task) reply
      → (step_of g now m task reply).memory.phase ≢ Committed → IsTouchedStill (kind_at m.kinds x) (kind_at (step_of g now m task reply).memory.kinds x)
  task_stays x on covered touched = task_by g now m (λ phase table log. phase ≢ Committed → IsTouchedStill (kind_at m.kinds x) (kind_at table x)) (λ going. inl refl)
      (λ r b w going. inl (written_stays r b w x on touched)) (λ r w going. inl (discard_stays r x on covered touched))
      (λ taken reply a can going. subst (λ k. IsTouchedStill k (kind_at (act_step g now taken taken.hand reply).memory.kinds x)) (a.stays x touched)
      ((leaves taken a reply can).stays going x on (ap is_touched (a.stays x touched) ∙ touched)))

pub covered_stays_touched : CoveredStaysTouched
covered_stays_touched g m turn reply now b s can on covered touched going = task_stays g m now s b on covered touched (task_of g m turn) reply (turn_sound g m turn s) can going

pub saved_is_next : SavedIsNext
saved_is_next g m turn reply now b s can on saved = task_saved g m now s b on (task_of g m turn) reply (turn_sound g m turn s) can saved

pub touched_is_left : TouchedIsLeft
touched_is_left g m turn reply now b s can on touched = task_touched g m now s b on (task_of g m turn) reply (turn_sound g m turn s) can touched

pub logs_go_on : LogsGoOn
logs_go_on g m turn reply now log new s can was is = task_goes_on g m now s log new was (task_of g m turn) reply (turn_sound g m turn s) can is

-- ----------------------------------------------------------------------------------------------------------------
-- Arming.

-- the log and the kinds are those of before
abbrev IsSame : Memory → Step → Type 0
IsSame m step = (step.memory.log ≡ m.log) × (step.memory.kinds ≡ m.kinds)

answered_same : (g : Geometry) (m left : Memory) (o : Option Request) (outcome : Request → Outcome) (happens : Request → List Event) → left.log ≡ m.log → left.kinds ≡ m.kinds → IsSame m (answered_for left o outcome happens)
answered_same g m left None outcome happens log table = (log, table)
answered_same g m left (Some r) outcome happens log table = (log, table)

module _ (g : Geometry) (m : Memory) (now : Contents) (s : MemoryIsSound g m) (at : m.phase ≡ Arming) where
  not_trim : (p : Phase) → p ≢ Arming → m.phase ≢ p
  not_trim p ne is = ne (sym is ∙ at)

  found_never : (again : Bool) → FoundIn m again → ⊥
  found_never true is = not_trim Deciding (λ e. grind arith) is
  found_never false is = not_trim Checkpoint (λ e. grind arith) is

  hand_same : (hand : Hand) → m.hand ≡ hand → (reply : Reply) → CanHaveIt g (call_in_hand g m hand) reply → IsSame m (act_step g now m hand reply)
  hand_same Empty is reply can = (refl, refl)
  hand_same (Batching b) is reply can = absurd (not_trim Checkpoint (λ e. grind arith) (batch_in_hand g m b m.log (subst (λ h. HandIsSound g m h m.log) is s.in_hand)).2.phase)
  hand_same (Preparing t c b act) is reply can = prepare act (subst (λ h. HandIsSound g m h m.log) is s.in_hand).0 reply can
    where
      trim : {A : Type 0} → m.phase ≡ Trim → A
      trim is = absurd (not_trim Trim (λ e. grind arith) is)

      prepare : (act : PrepareAct) → PrepareIsSound g m c b act → (reply : Reply) → CanHaveIt g (call_in_hand g m (Preparing t c b act)) reply → IsSame m (act_step g now m (Preparing t c b act) reply)
      prepare ReadsBlock0 h reply can = trim h.phase
      prepare (WritesCurrent v) h reply can = trim h.0.phase
      prepare (WritesBackup v) h reply can = trim h.0.phase
      prepare (FlushesCopies v) h reply can = trim h.0.phase
      prepare WritesFirstLog h Failed can = answered_same g m (record m { hand = Empty }) (request_of t m.requests) _ _ refl refl
      prepare WritesFirstLog h Succeeded can = (refl, refl)
      prepare WritesFirstLog h (Gave v) can = absurd can
      prepare FlushesFirstLog h Failed can = answered_same g m (record m { hand = Empty }) (request_of t m.requests) _ _ refl refl
      prepare FlushesFirstLog h Succeeded can = answered_same g m (record m { phase = Checkpoint; hand = Empty; clean = true }) (request_of t m.requests) _ _ refl refl
      prepare FlushesFirstLog h (Gave v) can = absurd can
  hand_same (Committing t again act) is reply can = commit act (subst (λ h. HandIsSound g m h m.log) is s.in_hand).0
    where
      commit : (act : CommitAct) → CommitIsSound g m again act → IsSame m (act_step g now m (Committing t again act) reply)
      commit FlushesAll h = absurd (found_never again h)
      commit ReadsCurrent h = absurd (found_never again h)
      commit (WritesBlock0 v) h = absurd (found_never again h.0)
      commit FlushesDecision h = absurd (not_trim Deciding (λ e. grind arith) h)

module _ (g : Geometry) (m : Memory) (now : Contents) (s : MemoryIsSound g m) (at : m.phase ≡ Arming) where
  task_same : (task : Task) (reply : Reply) → TaskIsSound g m task → CanHaveIt g (call_of g m task) reply → IsSame m (step_of g now m task reply)
  task_same = task_by g now m (λ phase table log. (log ≡ m.log) × (table ≡ m.kinds)) (refl, refl) (λ r b w. absurd (w.settled.0 at)) (λ r w. absurd (w.settled.0 at))
      (λ taken reply a can.
      let same = hand_same g taken now a.sound (a.phase ∙ at) taken.hand refl reply can in
      (same.0 ∙ a.log, same.1 ∙ elim a.table [ inl there ↦ absurd (let clash : Checkpoint ≡ Arming = sym there ∙ a.phase ∙ at in grind arith) | inr table ↦ table ]))

pub arming_is_untouched : ArmingIsUntouched
arming_is_untouched g m turn reply now log s can at some =
    let k = subst₂ (λ p l. LogIsHeld g m.kinds m.clean m.trimmed (reserved m.hand).count p l) at some s.log in
    let same = task_same g m now s at (task_of g m turn) reply (turn_sound g m turn s) can in
    (k.1, same.0, same.1, λ b on. let no : is_touched (kind_at m.kinds b) ≡ false = none_counted is_touched m.kinds b k.2 (omega (arith, on, s.table.size)) in (λ is. false≢true (sym no ∙ ap is_touched is), λ is. false≢true (sym no ∙ ap is_touched is)))

-- ----------------------------------------------------------------------------------------------------------------
-- Which phases lead to Checkpoint.

-- the phase of a step is this one, or another than Checkpoint
abbrev IsFromIt : Phase → Phase → Type 0
IsFromIt old new = new ≡ Checkpoint → (old ≡ Checkpoint) ⊎ (old ≡ Arming)

answered_from : (left : Memory) (o : Option Request) (outcome : Request → Outcome) (happens : Request → List Event)
    (old : Phase) → IsFromIt old left.phase → IsFromIt old (answered_for left o outcome happens).memory.phase
answered_from left None outcome happens old h = h
answered_from left (Some r) outcome happens old h = h

at_act_phase : (m : Memory) (b : Batch) → (at_act m b).phase ≡ m.phase
at_act_phase m b = go (is_log_write (next_act b.progress))
  where
    go : (t : Bool) → (cond t (changed m b) m).phase ≡ m.phase
    go true = refl
    go false = refl

batch_phase : (m : Memory) (b : Batch) (reply : Reply) (leads : After) → (batch_after m b reply leads).phase ≡ m.phase
batch_phase m b reply afters.Going = refl
batch_phase m b reply afters.LogGiven = refl
batch_phase m b reply afters.Clean = refl
batch_phase m b reply (afters.Failed true) = at_act_phase m b
batch_phase m b reply (afters.Failed false) = refl

module _ (g : Geometry) (m : Memory) (now : Contents) (s : MemoryIsSound g m) where
  stays : IsFromIt m.phase m.phase
  stays is = inl is

  other : (p : Phase) → p ≢ Checkpoint → IsFromIt m.phase p
  other p ne is = absurd (ne is)

  hand_from : (hand : Hand) → m.hand ≡ hand → (reply : Reply) → CanHaveIt g (call_in_hand g m hand) reply
      → IsFromIt m.phase (act_step g now m hand reply).memory.phase
  hand_from Empty is reply can = stays
  hand_from (Batching b) is Failed can =
      answered_from (batch_after m b Failed (after_act b.progress false)) (request_of b.ticket m.requests) fault_after (fault_events g) m.phase
      (λ at. inl (sym (batch_phase m b Failed (after_act b.progress false)) ∙ at))
  hand_from (Batching b) is Succeeded can = λ at. inl (sym (batch_phase m b Succeeded (after_act b.progress true)) ∙ at)
  hand_from (Batching b) is (Gave v) can = λ at. inl (sym (batch_phase m b (Gave v) (after_act b.progress true)) ∙ at)
  hand_from (Preparing t c b act) is reply can = prepare act (subst (λ h. HandIsSound g m h m.log) is s.in_hand).0 reply can
    where
      prepare : (act : PrepareAct) → PrepareIsSound g m c b act → (reply : Reply) → CanHaveIt g (call_in_hand g m (Preparing t c b act)) reply → IsFromIt m.phase (act_step g now m (Preparing t c b act) reply).memory.phase
      prepare act h Failed can = answered_from (record m { hand = Empty }) (request_of t m.requests) _ _ m.phase stays
      prepare ReadsBlock0 h Succeeded can = absurd can
      prepare ReadsBlock0 h (Gave v) can = stays
      prepare (WritesCurrent v) h Succeeded can = stays
      prepare (WritesCurrent v) h (Gave w) can = absurd can
      prepare (WritesBackup v) h Succeeded can = stays
      prepare (WritesBackup v) h (Gave w) can = absurd can
      prepare (FlushesCopies v) h Succeeded can = other Arming (λ e. grind arith)
      prepare (FlushesCopies v) h (Gave w) can = absurd can
      prepare WritesFirstLog h Succeeded can = stays
      prepare WritesFirstLog h (Gave w) can = absurd can
      prepare FlushesFirstLog h Succeeded can = answered_from (record m { phase = Checkpoint; hand = Empty; clean = true }) (request_of t m.requests) _ _ m.phase (λ at. inr h)
      prepare FlushesFirstLog h (Gave w) can = absurd can
  hand_from (Committing t again act) is reply can = commit act reply can
    where
      commit : (act : CommitAct) → (reply : Reply) → CanHaveIt g (call_in_hand g m (Committing t again act)) reply → IsFromIt m.phase (act_step g now m (Committing t again act) reply).memory.phase
      commit FlushesAll Failed can = answered_from (record m { hand = Empty }) (request_of t m.requests) _ _ m.phase stays
      commit FlushesAll Succeeded can = stays
      commit FlushesAll (Gave v) can = absurd can
      commit ReadsCurrent Failed can = answered_from (record m { hand = Empty }) (request_of t m.requests) _ _ m.phase stays
      commit ReadsCurrent Succeeded can = absurd can
      commit ReadsCurrent (Gave v) can = stays
      commit (WritesBlock0 w) Failed can = answered_from (record m { phase = Deciding; hand = Empty }) (request_of t m.requests) _ _ m.phase (other Deciding (λ e. grind arith))
      commit (WritesBlock0 w) Succeeded can = other Deciding (λ e. grind arith)
      commit (WritesBlock0 w) (Gave v) can = absurd can
      commit FlushesDecision Failed can = answered_from (record m { hand = Empty }) (request_of t m.requests) _ _ m.phase stays
      commit FlushesDecision Succeeded can = answered_from (released m) (request_of t m.requests) _ _ m.phase (other Committed (λ e. grind arith))
      commit FlushesDecision (Gave v) can = absurd can

task_from : (g : Geometry) (m : Memory) (now : Contents) (s : MemoryIsSound g m) (task : Task) (reply : Reply) → TaskIsSound g m task
    → CanHaveIt g (call_of g m task) reply → IsFromIt m.phase (step_of g now m task reply).memory.phase
task_from g m now s = task_by g now m (λ phase table log. IsFromIt m.phase phase) inl (λ r b w. inl) (λ r w. inl)
    (λ taken reply a can at. elim (hand_from g taken now a.sound taken.hand refl reply can at) [ inl here ↦ inl (sym a.phase ∙ here) | inr arming ↦ inr (sym a.phase ∙ arming) ])

pub checkpoint_follows : CheckpointFollows
checkpoint_follows g m turn reply now s can at = task_from g m now s (task_of g m turn) reply (turn_sound g m turn s) can at
