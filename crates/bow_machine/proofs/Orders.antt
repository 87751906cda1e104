-- The order of a command's events and the reads beside it; and what a step takes from the disk.
use mathlib.Core.Path.{fun_ext}
use Rattle.std.proofs.Common.{ℕ, ◌+◌, ◌≡◌, ◌==◌, Bool, true, not, cond, List, [], ◌∷◌, Option, Some, None, arith, refl, sym, ap, ◌∙◌, subst, inl, inr}
use Rattle.std.proofs.lemmas.Bool.{cases_eq, cond_both}
use Rattle.bow_units.specs.declared.sizes.Geometry.{Geometry}
use Rattle.bow_units.specs.declared.requests.Op.{Op}
use Rattle.bow_units.specs.declared.requests.Op.TheVariants.{Read, Write, Discard, Flush, Prepare, Commit}
use Rattle.bow_units.specs.declared.requests.Outcome.{Outcome}
use Rattle.bow_units.specs.declared.requests.Outcome.TheVariants as outcomes
use Rattle.bow_units.specs.declared.requests.Phase.TheVariants.{Arming, Deciding}
use Rattle.bow_log.specs.Generations.{Generation}
use Rattle.bow_chain.specs.Contents.{Contents}
use Rattle.bow_flat.specs.Flat.{Flat, May, is_any, narrowed, put, Allows, count_below, after}
use Rattle.bow_flat.specs.Flat.Event.{Reads, Flushes, Arms}
use Rattle.bow_flat.proofs.Valid.{stays_valid}
use Rattle.bow_guard.specs.Cuts.{Candidates}
use Rattle.bow_queue.specs.declared.tickets.Ticket.{Ticket}
use Rattle.bow_guard.specs.Phases.{IsDeciding}
use Rattle.bow_machine.specs.Memory.{Memory, Hand, Empty, Batching, Preparing, Committing, has_command}
use Rattle.bow_machine.specs.Memory.{PrepareAct, ReadsBlock0, WritesCurrent, WritesBackup, FlushesCopies, WritesFirstLog, FlushesFirstLog}
use Rattle.bow_machine.specs.Requests.{Request, request_of, refusal}
use Rattle.bow_machine.specs.Calls.{Reply, Failed, Succeeded, Gave}
use Rattle.bow_machine.specs.Tasks.{Task, Waits, Answers, WritesBlock, ReadsBlock, FlushesFor, DiscardsFor, Acts, unless_refused, unless_command, task_for, map_task, task_of}
use Rattle.bow_machine.specs.Steps.{Step, prepare_step, act_step, step_of}
use Rattle.bow_machine.proofs.Held.{device_of, Kept, IsHeld}
use Rattle.bow_machine.proofs.Joined.{held as whole, kept_on_disk}
use Rattle.bow_machine.specs.Orders.{DiskByReply, IsRead, OnlyReads, ReadsBeforeDecides, DecidingIsFlushed, ReadsBeforeArms}
use Rattle.bow_machine.specs.Standing.{IsStanding}
use Rattle.bow_machine.proofs.Hands.{kept_over}
use Rattle.bow_machine.proofs.MappedWrites.{put_here, put_there}
use Rattle.bow_guard.proofs.Device.{one_of}

-- ----------------------------------------------------------------------------------------------------------------
-- What a step takes from the disk.

-- the same memory, and the same told
abbrev IsSame : Step → Step → Type 0
IsSame one two = (one.memory ≡ two.memory) × (one.told ≡ two.told)

prepare_same : (now other : Contents) (m : Memory) (t : Ticket) (c b : ℕ) (act : PrepareAct) (reply : Reply) → IsSame (prepare_step now m t c b act reply) (prepare_step other m t c b act reply)
prepare_same now other m t c b act Failed = (refl, refl)
prepare_same now other m t c b FlushesFirstLog Succeeded = (refl, refl)
prepare_same now other m t c b FlushesFirstLog (Gave v) = (refl, refl)
prepare_same now other m t c b ReadsBlock0 Succeeded = (refl, refl)
prepare_same now other m t c b ReadsBlock0 (Gave v) = (refl, refl)
prepare_same now other m t c b (WritesCurrent w) Succeeded = (refl, refl)
prepare_same now other m t c b (WritesCurrent w) (Gave v) = (refl, refl)
prepare_same now other m t c b (WritesBackup w) Succeeded = (refl, refl)
prepare_same now other m t c b (WritesBackup w) (Gave v) = (refl, refl)
prepare_same now other m t c b (FlushesCopies w) Succeeded = (refl, refl)
prepare_same now other m t c b (FlushesCopies w) (Gave v) = (refl, refl)
prepare_same now other m t c b WritesFirstLog Succeeded = (refl, refl)
prepare_same now other m t c b WritesFirstLog (Gave v) = (refl, refl)

act_same : (g : Geometry) (now other : Contents) (m : Memory) (hand : Hand) (reply : Reply) → IsSame (act_step g now m hand reply) (act_step g other m hand reply)
act_same g now other m Empty reply = (refl, refl)
act_same g now other m (Batching b) reply = (refl, refl)
act_same g now other m (Preparing t c b act) reply = prepare_same now other m t c b act reply
act_same g now other m (Committing t again act) reply = (refl, refl)

pub disk_by_reply : DiskByReply
disk_by_reply g m turn reply now other = go (task_of g m turn)
  where
    go : (task : Task) → IsSame (step_of g now m task reply) (step_of g other m task reply)
    go Waits = (refl, refl)
    go (Answers r outcome) = (refl, refl)
    go (WritesBlock r b) = (refl, refl)
    go (ReadsBlock r b) = (refl, refl)
    go (FlushesFor r) = (refl, refl)
    go (DiscardsFor r) = (refl, refl)
    go (Acts taken) = act_same g now other taken taken.hand reply

-- ----------------------------------------------------------------------------------------------------------------
-- A command and the reads beside it.

module _ (g : Geometry) (m : Memory) (now : Contents) (reply : Reply) (busy : has_command m.hand ≡ true) where
  abbrev Reads_only : Task → Type 0
  Reads_only task = IsRead (step_of g now m task reply).events

  -- what is not a read waits
  held : (task : Task) → Reads_only (unless_command m task)
  held task = subst (λ t. Reads_only (cond t Waits task)) (sym busy) tt

  reads_block : (r : Request) (b : ℕ) (reply : Reply) → IsRead (step_of g now m (ReadsBlock r b) reply).events
  reads_block r b Failed = tt
  reads_block r b Succeeded = tt
  reads_block r b (Gave v) = tt

  unrefused : (r : Request) (refused : Option Outcome) (task : Task) → Reads_only task → Reads_only (unless_refused r refused task)
  unrefused r None task reads = reads
  unrefused r (Some outcome) task reads = tt

  op_reads : (r : Request) (op : Op) → Reads_only (task_for g m r op)
  op_reads r (Read e p) = unrefused r (refusal g m.phase (Read e p)) _ (cond_both (r.done == e.count) (Answers r outcomes.Data) (ReadsBlock r (e.first + r.done)) Reads_only (λ full. tt) (λ more. reads_block r (e.first + r.done) reply))
  op_reads r (Write e p) = held _
  op_reads r (Discard e) = held _
  op_reads r Flush = held _
  op_reads r Prepare = tt
  op_reads r Commit = tt

pub only_reads : OnlyReads
only_reads g m ticket reply now busy = go (request_of ticket m.requests)
  where
    go : (found : Option Request) → IsRead (step_of g now m (map_task g m found) reply).events
    go None = tt
    go (Some r) = op_reads g m now reply busy r r.op

-- ----------------------------------------------------------------------------------------------------------------
-- The order of the events.

pub reads_before_decides : ReadsBeforeDecides
reads_before_decides n b v f decides reads = (reads, decides, refl)

-- a block that is known has the content that was saved
read_saved : (c : Option (List (List ℕ))) (u v : List ℕ) → May (narrowed c u) v → narrowed c v ≡ narrowed c u
read_saved None u v may = refl
read_saved (Some cs) u v may = ap (λ (w : List ℕ). Some (w ∷ [])) (one_of u v may)

-- narrowed twice
twice : (c : Option (List (List ℕ))) (u v : List ℕ) → narrowed (narrowed c u) v ≡ narrowed c v
twice None u v = refl
twice (Some cs) u v = refl

known_still : (c : Option (List (List ℕ))) (v : List ℕ) → not (is_any (narrowed c v)) ≡ not (is_any c)
known_still None v = refl
known_still (Some cs) v = refl

-- it may be read before it is saved, and saved once it was read
may_before : (c : Option (List (List ℕ))) (u v : List ℕ) → May (narrowed c u) v → May c u → May c v
may_before None u v may was = tt
may_before (Some cs) u v may was = subst (May (Some cs)) (sym (one_of u v may)) was

may_after : (c : Option (List (List ℕ))) (u v : List ℕ) → May (narrowed c u) v → May (narrowed c v) u
may_after None u v may = tt
may_after (Some cs) u v may = (0, omega arith, one_of u v may)

module _ (n b : ℕ) (v : List ℕ) (saved : ℕ → List ℕ) (f : Flat) (reads : Allows n (Reads b v) (after n (Arms saved) f)) where
  abbrev known : Option (List (List ℕ))
  known = f.current b

  abbrev read_first : ℕ → Option (List (List ℕ))
  read_first = put f.current b (narrowed known v)

  -- each block is then known as it is once it is armed
  armed_same : (x : ℕ) → narrowed (read_first x) (saved x) ≡ narrowed (f.current x) (saved x)
  armed_same x = elim (cases_eq x b) [
    | inl is ↦ ap (λ c. narrowed c (saved x)) (put_here f.current b (narrowed known v) x is) ∙ twice known v (saved x) ∙ ap (λ y. narrowed (f.current y) (saved x)) (sym is)
    | inr ne ↦ ap (λ c. narrowed c (saved x)) (put_there f.current b (narrowed known v) x ne)
  ]

  used_same : (x : ℕ) → not (is_any (read_first x)) ≡ not (is_any (f.current x))
  used_same x = elim (cases_eq x b) [
    | inl is ↦ ap (λ c. not (is_any c)) (put_here f.current b (narrowed known v) x is) ∙ known_still known v ∙ ap (λ y. not (is_any (f.current y))) (sym is)
    | inr ne ↦ ap (λ c. not (is_any c)) (put_there f.current b (narrowed known v) x ne)
  ]

  -- and a read changes it no more
  read_same : (x : ℕ) → put (λ y. narrowed (f.current y) (saved y)) b (narrowed (narrowed known (saved b)) v) x ≡ narrowed (f.current x) (saved x)
  read_same x = elim (cases_eq x b) [
    | inl is ↦ put_here (λ y. narrowed (f.current y) (saved y)) b (narrowed (narrowed known (saved b)) v) x is ∙ twice known (saved b) v ∙ read_saved known (saved b) v reads ∙ ap (λ y. narrowed (f.current y) (saved y)) (sym is)
    | inr ne ↦ put_there (λ y. narrowed (f.current y) (saved y)) b (narrowed (narrowed known (saved b)) v) x ne
  ]

  abbrev armed_flat : (ℕ → Option (List (List ℕ))) → (ℕ → Option (List (List ℕ))) → (ℕ → Bool) → Flat
  armed_flat current pending used = record { phase = Arming; current = current; pending = pending; trim = f.trim; used = used; saved = saved; trimmed = count_below f.trim n }

  arms_commutes : after n (Arms saved) (after n (Reads b v) f) ≡ after n (Reads b v) (after n (Arms saved) f)
  arms_commutes =
      let armed : ℕ → Option (List (List ℕ)) = λ x. narrowed (f.current x) (saved x) in
      let known_used : ℕ → Bool = λ x. not (is_any (f.current x)) in
      let first : (λ x. narrowed (read_first x) (saved x)) ≡ armed = fun_ext armed_same in
      let used : (λ x. not (is_any (read_first x))) ≡ known_used = fun_ext used_same in
      let read : put armed b (narrowed (armed b) v) ≡ armed = fun_ext read_same in
      ap (λ c. armed_flat c c (λ x. not (is_any (read_first x)))) first ∙ ap (armed_flat armed armed) used ∙ ap (λ c. armed_flat c armed known_used) (sym read)

pub reads_before_arms : ReadsBeforeArms
reads_before_arms n b v saved f on arms reads = (
  may_before (f.current b) (saved b) v reads (arms.2 b on),
  (
    arms.0,
    arms.1,
    λ x inside. elim (cases_eq x b) [
      | inl is ↦ subst (λ y. May (put f.current b (narrowed (f.current b) v) y) (saved y)) (sym is) (subst (λ c. May c (saved b)) (sym (put_here f.current b (narrowed (f.current b) v) b refl)) (may_after (f.current b) (saved b) v reads))
      | inr ne ↦ subst (λ c. May c (saved x)) (sym (put_there f.current b (narrowed (f.current b) v) x ne)) (arms.2 x inside)
    ],
  ),
  arms_commutes n b v saved f reads,
)

-- ----------------------------------------------------------------------------------------------------------------
-- In Deciding.

module _ (g : Geometry) (m : Memory) (now : Contents) (may : Candidates) (f : Flat) where
  decided_flushed : (log : Option Generation) → Kept g m now may f Deciding log → Kept g m now may (after g.blocks Flushes f) Deciding log
  decided_flushed None k = absurd k
  decided_flushed (Some log) k =
      let d : IsDeciding g f (now log.current) (device_of m log k.older k.clean_log k.clean_older now may) = k.leaves in
      kept_over g m log now now may may f (after g.blocks Flushes f) Deciding Deciding m.phase (λ is. is) (λ b none. (none.0, none.0)) refl k
      (record { log = d.log; clean = d.clean; heads = d.heads; zeroth = d.zeroth; one = d.one; plain = d.plain; current_0 = d.current_0; current = d.current })

pub deciding_holds : (g : Geometry) (m : Memory) (now : Contents) (may : Candidates) (f : Flat) → IsHeld g m now may f
    → m.phase ≡ Deciding → Kept g m now may (after g.blocks Flushes f) m.phase m.log
deciding_holds g m now may f s is =
    subst (λ p. Kept g m now may (after g.blocks Flushes f) p m.log) (sym is)
    (decided_flushed g m now may f m.log (subst (λ p. Kept g m now may f p m.log) is s.kept))

-- where what is kept is so for the state flushed, all stands for it
pub flushed_stands : (g : Geometry) (m : Memory) (now : Contents) (may : Candidates) (f : Flat) → IsStanding g m now may f
    → Kept g m now may (after g.blocks Flushes f) m.phase m.log → IsStanding g m now may (after g.blocks Flushes f)
flushed_stands g m now may f s kept = record {
  sound = s.sound;
  blocks = s.blocks;
  state = stays_valid g.blocks Flushes f s.state tt tt;
  phases = s.phases;
  held = s.held;
  shown = s.shown;
  kept = kept_on_disk g m now may (after g.blocks Flushes f) m.phase m.log kept;
  in_hand = s.in_hand;
}

pub deciding_is_flushed : DecidingIsFlushed
deciding_is_flushed g m now may f s is = flushed_stands g m now may f s (deciding_holds g m now may f (whole g m now may f s) is)
