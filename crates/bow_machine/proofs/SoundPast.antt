-- In Checkpoint a step leaves the older logs behind the log in memory as they are.
use Rattle.std.proofs.Common.{ℕ, ◌<◌, ◌≡◌, ◌≢◌, ◌⊎◌, Bool, true, cond, List, ◌∷◌, Option, Some, None, arith, refl, sym, ap, ◌∙◌, subst, inl, inr}
use Rattle.std.proofs.lemmas.Bool.{false≢true}
use Rattle.bow_units.specs.declared.sizes.Extent.{Extent}
use Rattle.bow_units.specs.declared.sizes.Geometry.{Geometry}
use Rattle.bow_units.specs.declared.requests.Phase.{Phase}
use Rattle.bow_units.specs.declared.requests.Phase.TheVariants.{Trim, Checkpoint}
use Rattle.bow_units.specs.declared.statuses.Kind.{Kind}
use Rattle.bow_units.specs.declared.statuses.Kind.TheVariants.{Sector0, Current, Unchanged, Free, Backup}
use Rattle.bow_log.specs.Generations.{Generation}
use Rattle.bow_chain.specs.Contents.{Contents}
use Rattle.bow_chain.specs.Places.{pass}
use Rattle.bow_chain.specs.Sound.{StandsBehind}
use Rattle.bow_chain.proofs.Counting.{same_chain}
use Rattle.bow_copy.specs.Acts.{next_act, is_write_log}
use Rattle.bow_copy.specs.declared.jobs.Job.{Job}
use Rattle.bow_copy.specs.declared.jobs.Job.TheVariants.{Rewrite, Link, Copy, Move}
use Rattle.bow_copy.specs.declared.jobs.Act.TheVariants.{Flush, WriteLog}
use Rattle.bow_copy.proofs.ActsInOrder.{act_some}
use Rattle.bow_flat.specs.Flat.{Flat}
use Rattle.bow_guard.specs.Cuts.{Candidates}
use Rattle.bow_guard.specs.Device.{Device, Steady}
use Rattle.bow_guard.specs.Guard.{Guarded}
use Rattle.bow_guard.proofs.Kept.{same_keeps}
use Rattle.bow_queue.specs.declared.tickets.Ticket.{Ticket}
use Rattle.bow_ranges.specs.Kinds.{kind_at, holds}
use Rattle.bow_machine.specs.Memory.{Memory, Batch, Hand, Empty, Batching, Preparing, Committing, PrepareAct, ReadsBlock0, WritesCurrent, WritesBackup, FlushesCopies, WritesFirstLog, FlushesFirstLog, CommitAct, FlushesAll, ReadsCurrent, WritesBlock0, FlushesDecision, picks, reserved, reserved_by, place_with, place_of}
use Rattle.bow_machine.specs.Calls.{Call, ReadCall, WriteCall, FlushCall, Reply, Failed, Succeeded, Gave, WriteTried, Does, DoesIt}
use Rattle.bow_machine.specs.Tasks.{Task, Waits, Answers, WritesBlock, ReadsBlock, FlushesFor, DiscardsFor, Acts, spelling, task_of}
use Rattle.bow_machine.specs.Steps.{log_for, call_of_act, call_of_prepare, call_of_commit, call_in_hand, act_step, call_of, step_of}
use Rattle.bow_machine.proofs.Held.{device_of, IsKept, IsHeld}
use Rattle.bow_machine.specs.MemoryIsSound.{PrepareIsSound, HandIsSound, MemoryIsSound}
use Rattle.bow_machine.specs.MemoryLaws.{CanHaveIt}
use Rattle.bow_machine.specs.Past.{OlderLogsStay, ReadersFollow, ReadsBeside}
use Rattle.bow_machine.specs.Standing.{IsStanding}
use Rattle.bow_machine.proofs.Blocks.{blocks_reply}
use Rattle.bow_machine.proofs.Joined.{held}
use Rattle.bow_machine.proofs.BatchActs.{lead, running, not_tried, lead_act, last_act, lead_copy}
use Rattle.bow_machine.proofs.BatchStands.{working, Working, from_standing}
use Rattle.bow_machine.proofs.BatchSteps.{batch_at, batching, at_work}
use Rattle.bow_machine.proofs.BatchMoves as moves
use Rattle.bow_machine.proofs.BatchLinks.{link_guarded}
use Rattle.bow_machine.proofs.BatchCopyLogs.{copy_guarded}
use Rattle.bow_machine.proofs.Workers.{memory_is}
use Rattle.bow_machine.proofs.Consequences.{standing_in}
use Rattle.bow_machine.proofs.Mapped.{IsOpen}
use Rattle.bow_machine.proofs.SoundTasks.{IsFresh, ActsOn, TaskIsSound}
use Rattle.bow_machine.proofs.SoundMapped.{which}
use Rattle.bow_machine.proofs.SoundBatches.{GoesOn, InHand, in_hand_of, goes_on, stage, act_is, log_call, last_call, same_is, WritesNow}
use Rattle.bow_machine.proofs.SoundCommands.{WritesLog}
use Rattle.bow_machine.proofs.SoundActs.{act_leaves}
use Rattle.bow_machine.proofs.SoundTurns.{turn_sound}

-- ----------------------------------------------------------------------------------------------------------------
-- No write is of a block at which a log may keep what it needs.

-- the block is none that is unchanged or a backup, or the batch in hand has picked it
abbrev IsSpared : Memory → ℕ → Type 0
IsSpared m c = ((kind_at m.kinds c ≢ Unchanged) × (kind_at m.kinds c ≢ Backup)) ⊎ (holds (reserved m.hand) c ≡ true)

-- a write call is of such a block
abbrev SparesIt : Memory → Option Call → Type 0
SparesIt m None = Unit {0}
SparesIt m (Some (ReadCall c)) = Unit {0}
SparesIt m (Some (WriteCall c v)) = IsSpared m c
SparesIt m (Some FlushCall) = Unit {0}

spared_kind : (m : Memory) (c : ℕ) (kind : Kind) → kind_at m.kinds c ≡ kind → kind ≢ Unchanged → kind ≢ Backup → IsSpared m c
spared_kind m c kind is not_unchanged not_backup = inl ((λ e. not_unchanged (sym is ∙ e)), (λ e. not_backup (sym is ∙ e)))

open_spared : (k : Kind) → IsOpen k → (k ≢ Unchanged) × (k ≢ Backup)
open_spared k is = ((λ e. no_unchanged k is e), (λ e. no_backup k is e))
  where
    no_unchanged : (k : Kind) → IsOpen k → k ≡ Unchanged → ⊥
    no_unchanged k is e = grind arith

    no_backup : (k : Kind) → IsOpen k → k ≡ Backup → ⊥
    no_backup k is e = grind arith

module _ (g : Geometry) (m : Memory) (s : MemoryIsSound g m) (at : m.phase ≡ Checkpoint) (log : Generation) (some : m.log ≡ Some log) (current : kind_at m.kinds log.current ≡ Current) where
  zero_spared : IsSpared m 0
  zero_spared = spared_kind m 0 Sector0 s.table.zeroth (λ e. grind arith) (λ e. grind arith)

  -- an act of what the turn acts on
  hand_spares : (n : Memory) → ActsOn g m n → (hand : Hand) → n.hand ≡ hand → SparesIt m (call_in_hand g n hand)
  hand_spares n a Empty is = tt
  hand_spares n a (Batching b) is = elim (stage g n b a.sound i) [
    | inl before ↦ from before (call_of_act g n b (next_act b.progress)) (goes_on g n b a.sound i before)
    | inr (inl log_at) ↦ subst (λ call. SparesIt m (Some call)) (sym (log_call g n b a.sound i log_at)) zero_spared
    | inr (inr last) ↦ subst (λ call. SparesIt m (Some call)) (sym (last_call g n b a.sound i last)) tt
  ]
    where
      i : InHand g n b
      i = in_hand_of g n b is a.sound

      from : b.progress.done < lead b.progress.job → (call : Call) → GoesOn g n.kinds n.clean i.log b.progress.job b.progress.done b.slots call → SparesIt m (Some call)
      from before (ReadCall x) goes = tt
      from before FlushCall goes = tt
      from before (WriteCall x v) goes =
          let none : Extent = record { first = 0; count = 0 } in
          let mine : holds (reserved_by b) x ≡ true = ap (λ given. holds (cond given none (picks b.progress.job)) x) (not_tried b.progress.job b.progress.done (omega arith)) ∙ goes.2 in
          let held : holds (reserved n.hand) x ≡ true = ap (λ (h : Hand). holds (reserved h) x) is ∙ mine in
          elim (a.picked x held) [
            | inl same ↦ inr (subst (λ k. holds (reserved k.hand) x ≡ true) same held)
            | inr free ↦ spared_kind m x Free free (λ e. absurd (grind arith)) (λ e. absurd (grind arith))
          ]
  hand_spares n a (Preparing t c b act) is = go act (subst (λ h. HandIsSound g n h n.log) is a.sound.in_hand).0
    where
      never : (p : Phase) → p ≢ Checkpoint → n.phase ≡ p → ⊥
      never p ne in_p = ne (sym in_p ∙ a.phase ∙ at)

      go : (act : PrepareAct) → PrepareIsSound g n c b act → SparesIt m (Some (call_of_prepare g n c b act))
      go ReadsBlock0 h = tt
      go (WritesCurrent v) h = absurd (never Trim (λ e. absurd (grind arith)) h.0.phase)
      go (WritesBackup v) h = absurd (never Trim (λ e. absurd (grind arith)) h.0.phase)
      go (FlushesCopies v) h = tt
      go WritesFirstLog h = zero_spared
      go FlushesFirstLog h = tt
  hand_spares n a (Committing t again act) is = go act
    where
      go : (act : CommitAct) → SparesIt m (Some (call_of_commit n act))
      go FlushesAll = tt
      go ReadsCurrent = tt
      go (WritesBlock0 v) = zero_spared
      go FlushesDecision = tt

  task_spares : (task : Task) → TaskIsSound g m task → SparesIt m (call_of g m task)
  task_spares Waits is = tt
  task_spares (Answers r outcome) is = tt
  task_spares (WritesBlock r b) is = elim (which g m r b s is at) [
    | inl zeroth ↦
        let place : place_of m b ≡ log.current = ap (λ l. place_with l b) some ∙ ap (place_with (Some log)) zeroth in
        spared_kind m (place_of m b) Current (ap (kind_at m.kinds) place ∙ current) (λ e. grind arith) (λ e. grind arith)
    | inr (above, is_open) ↦
        let place : place_of m b ≡ b = ap (λ l. place_with l b) some ∙ own b above in
        inl (subst (λ x. (kind_at m.kinds x ≢ Unchanged) × (kind_at m.kinds x ≢ Backup)) (sym place) (open_spared (kind_at m.kinds b) is_open))
  ]
    where
      own : (b : ℕ) → b ≢ 0 → place_with (Some log) b ≡ b
      own b above = grind arith
  task_spares (ReadsBlock r b) is = tt
  task_spares (FlushesFor r) is = tt
  task_spares (DiscardsFor r) is = tt
  task_spares (Acts n) is = hand_spares n is n.hand refl

-- ----------------------------------------------------------------------------------------------------------------
-- So the chain behind the log in memory is as it was.

-- the older logs behind a log are these alone
one_chain : (g : Geometry) (now : Contents) (log : Generation) (one other : List Generation) → StandsBehind g now log one → StandsBehind g now log other → one ≡ other
one_chain g now log one other a b = same_chain g now (pass log.entries) one other (sym a.sequence ∙ b.sequence) a.chain b.chain

module _ (g : Geometry) (m : Memory) (now new_now : Contents) (may new_may : Candidates) (f : Flat) (log : Generation) (older : List Generation)
    (k : IsKept g m now may f Checkpoint log) (behind : StandsBehind g now log older) where
  abbrev d : Device
  d = device_of m log k.older k.clean_log k.clean_older now may

  guarded : Guarded g f.used f.saved d
  guarded = k.leaves

  mine : k.older ≡ older
  mine = one_chain g now log k.older older guarded.log.behind behind

  -- a steady place is no spared block
  not_steady : (c : ℕ) → IsSpared m c → (x : ℕ) → Steady g d x → x ≢ c
  not_steady c (inl kind) x steady is = elim steady.kind [ inl unchanged ↦ kind.0 (ap (kind_at m.kinds) (sym is) ∙ unchanged) | inr backup ↦ kind.1 (ap (kind_at m.kinds) (sym is) ∙ backup) ]
  not_steady c (inr held) x steady is = false≢true (sym steady.firm.not_picked ∙ ap (holds (reserved m.hand)) is ∙ held)

  steady_same : (call : Option Call) (reply : Reply) → SparesIt m call → DoesIt g call reply now may new_now new_may → (x : ℕ) → Steady g d x → new_now x ≡ now x
  steady_same None reply spares does x steady = ap (λ (i : Contents). i x) does.0
  steady_same (Some (ReadCall c)) (Gave v) spares does x steady = ap (λ (i : Contents). i x) does.1
  steady_same (Some (ReadCall c)) Failed spares does x steady = ap (λ (i : Contents). i x) does.0
  steady_same (Some (ReadCall c)) Succeeded spares does x steady = absurd does
  steady_same (Some (WriteCall c v)) Succeeded spares does x steady = does.0.given.others_now x (not_steady c spares x steady)
  steady_same (Some (WriteCall c v)) Failed spares does x steady = does.given.others_now x (not_steady c spares x steady)
  steady_same (Some (WriteCall c v)) (Gave w) spares does x steady = absurd does
  steady_same (Some FlushCall) Succeeded spares does x steady = ap (λ (i : Contents). i x) does.0
  steady_same (Some FlushCall) Failed spares does x steady = ap (λ (i : Contents). i x) does.0
  steady_same (Some FlushCall) (Gave w) spares does x steady = absurd does

  chain_stays : (call : Option Call) (reply : Reply) → SparesIt m call → DoesIt g call reply now may new_now new_may → StandsBehind g new_now log older
  chain_stays call reply spares does =
      subst (StandsBehind g new_now log) mine
      (same_keeps g f.used f.saved (Steady g d) (Steady g d) now new_now log k.older (λ x p. p) (steady_same call reply spares does) guarded.log).behind

-- ----------------------------------------------------------------------------------------------------------------
-- A batch writes its log.

-- behind this new log stand the older ones, or the one before and these
abbrev Stays : Geometry → Contents → Generation → Generation → List Generation → Type 0
Stays g new_now log new older = StandsBehind g new_now new older ⊎ StandsBehind g new_now new (log ∷ older)

module _ (g : Geometry) (m : Memory) (slots : List (List ℕ)) (t : Ticket) (log : Generation) (f : Flat) (now new_now : Contents) (may new_may : Candidates) (older : List Generation)
    (behind : StandsBehind g now log older) (still : StandsBehind g new_now log older) where
  log_stays : (job : Job) → IsHeld g (at_work m job (lead job) slots t log) now may f → WriteTried 0 (spelling g (log_for job slots log)) now new_now may new_may → Stays g new_now log (log_for job slots log) older
  log_stays Rewrite s tried = inl still
  log_stays (Link dest) s tried =
      let w : Working g m (batching (Link dest) 2 slots t) log now may f = from_standing g m (batching (Link dest) 2 slots t) log now may f s in
      let h = (s.in_hand).before (omega arith) in
      let same = one_chain g now log w.kept.older older w.kept.leaves.log.behind behind in
      inr (subst (λ o. StandsBehind g new_now (log_for (Link dest) slots log) (log ∷ o)) same (link_guarded g m dest slots t log f now new_now may new_may h.0 h.1 w tried).log.behind)
  log_stays (Copy source dest count) s tried =
      let w : Working g m (batching (Copy source dest count) (lead (Copy source dest count)) slots t) log now may f = from_standing g m (batching (Copy source dest count) (lead (Copy source dest count)) slots t) log now may f s in
      let h = (s.in_hand).before (omega arith) in
      let same = one_chain g now log w.kept.older older w.kept.leaves.log.behind behind in
      inl (subst (StandsBehind g new_now (log_for (Copy source dest count) slots log)) same (copy_guarded g m source dest count slots t log f now new_now may new_may h.0 h.1 w tried).log.behind)
  log_stays (Move from to) s tried =
      let w : Working g m (batching (Move from to) 3 slots t) log now may f = from_standing g m (batching (Move from to) 3 slots t) log now may f s in
      let h = (s.in_hand).before (omega arith) in
      inl (record { valid = (moves.change g m from to slots t log f now new_now may new_may h.0 h.1 w).sound.generation; sequence = still.sequence; sums = still.sums; chain = still.chain })

-- a job whose first act writes its log leaves the log as it is
first_writes : (job : Job) (slots : List (List ℕ)) (log : Generation) → lead job ≡ 0 → log_for job slots log ≡ log
first_writes Rewrite slots log none = refl
first_writes (Link dest) slots log none = absurd (omega (arith, none))
first_writes (Copy source dest count) slots log none = absurd (omega (arith, none, lead_copy source dest count))
first_writes (Move from to) slots log none = absurd (omega (arith, none))

-- a batch that writes its log has done all acts before it
at_its_log : (g : Geometry) (n : Memory) (b : Batch) (s : MemoryIsSound g n) (i : InHand g n b) → next_act b.progress ≡ WriteLog → b.progress.done ≡ lead b.progress.job
at_its_log g n b s i write = elim (stage g n b s i) [
  | inl before ↦ absurd (false≢true (sym (act_some b.progress.job b.progress.done before).1 ∙ ap is_write_log (sym (lead_act b.progress.job b.progress.done before) ∙ sym (act_is g n b s i) ∙ write)))
  | inr (inl at) ↦ at
  | inr (inr last) ↦ absurd (let clash : Flush ≡ WriteLog = sym (act_is g n b s i ∙ ap (λ d. next_act (running b.progress.job d)) last ∙ last_act b.progress.job) ∙ write in grind arith)
]

module _ (g : Geometry) (now new_now : Contents) (may new_may : Candidates) (f : Flat) (log : Generation) (older : List Generation) (behind : StandsBehind g now log older) (still : StandsBehind g new_now log older) where
  same_stays : (new : Generation) → new ≡ log → Stays g new_now log new older
  same_stays new same = inl (subst (λ l. StandsBehind g new_now l older) (sym same) still)

  tried_write : (v : List ℕ) (reply : Reply) → Does g (WriteCall 0 v) reply now may new_now new_may → WriteTried 0 v now new_now may new_may
  tried_write v Succeeded does = does.0
  tried_write v Failed does = does
  tried_write v (Gave w) does = absurd does

  -- the batch in hand of a memory that stands writes its log
  writes_stays : (n : Memory) (b : Batch) (new : Generation) (reply : Reply) → IsHeld g n now may f → MemoryIsSound g n → n.phase ≡ Checkpoint → n.log ≡ Some log → n.hand ≡ Batching b → WritesNow b log new
      → DoesIt g (call_in_hand g n n.hand) reply now may new_now new_may → Stays g new_now log new older
  writes_stays n b new reply s sound phase some is writes does =
      subst (λ l. Stays g new_now log l older) (sym writes.1)
      (log_stays g n b.slots b.ticket log f now new_now may new_may older behind still b.progress.job (subst (λ k. IsHeld g k now may f) n_is s) (tried_write _ reply does_write))
    where
      i : InHand g n b
      i = in_hand_of g n b is sound

      at : b.progress.done ≡ lead b.progress.job
      at = at_its_log g n b sound i writes.0

      batch_is : b ≡ batch_at b.progress.job (lead b.progress.job) b.slots b.ticket
      batch_is =
          let with_failed : Bool → Batch = λ failed. record { progress = record { job = b.progress.job; done = b.progress.done; failed = failed }; slots = b.slots; ticket = b.ticket } in
          ap with_failed i.held.runs ∙ ap (λ d. batch_at b.progress.job d b.slots b.ticket) at

      n_is : n ≡ at_work n b.progress.job (lead b.progress.job) b.slots b.ticket log
      n_is = memory_is n (Batching b) log phase is some ∙ ap (λ c. working n (Batching c) log) batch_is

      same : i.log ≡ log
      same = same_is n.log log i.log some i.some

      does_write : Does g (WriteCall 0 (spelling g (log_for b.progress.job b.slots log))) reply now may new_now new_may
      does_write = subst (λ l. Does g (WriteCall 0 (spelling g (log_for b.progress.job b.slots l))) reply now may new_now new_may) same
          (subst (λ call. Does g call reply now may new_now new_may) (log_call g n b sound i at) (subst (λ h. DoesIt g (call_in_hand g n h) reply now may new_now new_may) is does))

  module _ (m : Memory) (s : IsHeld g m now may f) (at : m.phase ≡ Checkpoint) (some : m.log ≡ Some log) where
    -- what is acted on
    act_stays : (n : Memory) → ActsOn g m n → (reply : Reply) → CanHaveIt g (call_in_hand g n n.hand) reply → DoesIt g (call_in_hand g n n.hand) reply now may new_now new_may → (new : Generation)
        → (act_step g now n n.hand reply).memory.log ≡ Some new → Stays g new_now log new older
    act_stays n a reply can does new is = elim (written reply can is) [
      | inl same ↦ same_stays new same
      | inr (b, in_hand, writes) ↦ elim a.less [
        | inl same ↦ writes_stays n b new reply (subst (λ k. IsHeld g k now may f) (sym same) s) a.sound (a.phase ∙ at) (a.log ∙ some) in_hand writes does
        | inr first ↦
            let i = in_hand_of g n b in_hand a.sound in
            let fresh : b.progress.done ≡ 0 = subst IsFresh in_hand first.1 in
            let here = at_its_log g n b a.sound i writes.0 in
            same_stays new (writes.1 ∙ first_writes b.progress.job b.slots log (sym here ∙ fresh))
      ]
    ]
      where
        written : (reply : Reply) → CanHaveIt g (call_in_hand g n n.hand) reply → (act_step g now n n.hand reply).memory.log ≡ Some new → (new ≡ log) ⊎ WritesLog n log new
        written reply can is = (act_leaves g n a.sound now n.hand refl a.busy reply can).written log new (a.log ∙ some) is

    task_stays : (task : Task) → TaskIsSound g m task → (reply : Reply) → CanHaveIt g (call_of g m task) reply → DoesIt g (call_of g m task) reply now may new_now new_may → (new : Generation)
        → (step_of g now m task reply).memory.log ≡ Some new → Stays g new_now log new older
    task_stays Waits is reply can does new now_is = same_stays new (same_is m.log log new some now_is)
    task_stays (Answers r outcome) is reply can does new now_is = same_stays new (same_is m.log log new some now_is)
    task_stays (WritesBlock r b) is Failed can does new now_is = same_stays new (same_is m.log log new some now_is)
    task_stays (WritesBlock r b) is Succeeded can does new now_is = same_stays new (same_is m.log log new some now_is)
    task_stays (WritesBlock r b) is (Gave v) can does new now_is = absurd can
    task_stays (ReadsBlock r b) is Failed can does new now_is = same_stays new (same_is m.log log new some now_is)
    task_stays (ReadsBlock r b) is Succeeded can does new now_is = absurd can
    task_stays (ReadsBlock r b) is (Gave v) can does new now_is = same_stays new (same_is m.log log new some now_is)
    task_stays (FlushesFor r) is Failed can does new now_is = same_stays new (same_is m.log log new some now_is)
    task_stays (FlushesFor r) is Succeeded can does new now_is = same_stays new (same_is m.log log new some now_is)
    task_stays (FlushesFor r) is (Gave v) can does new now_is = absurd can
    task_stays (DiscardsFor r) is reply can does new now_is = same_stays new (same_is m.log log new some now_is)
    task_stays (Acts n) is reply can does new now_is = act_stays n is reply can does new now_is

pub older_logs_stay : OlderLogsStay
older_logs_stay g m turn reply now new_now may new_may f log new older standing at some behind does is =
    let s = held g m now may f standing in
    let sound = standing.sound in
    let can = (blocks_reply g m turn reply now new_now may new_may sound standing.blocks does).0 in
    let k : IsKept g m now may f Checkpoint log = standing_in g m now may f log Checkpoint at some s in
    let task = turn_sound g m turn sound in
    let still = chain_stays g m now new_now may new_may f log older k behind (call_of g m (task_of g m turn)) reply (task_spares g m sound at log some k.sound.current (task_of g m turn) task) does in
    task_stays g now new_now may new_may f log older behind still m s at some (task_of g m turn) task reply can does new is

pub readers_follow : ReadersFollow
readers_follow g m now may f log standing at some =
    let s = held g m now may f standing in
    let k : IsKept g m now may f Checkpoint log = standing_in g m now may f log Checkpoint at some s in
    (k.older, k.leaves.log.behind)

-- the disk holds the same
same_disk : (g : Geometry) (m : Memory) (f : Flat) (now new_now : Contents) (may new_may : Candidates) → new_now ≡ now
    → new_may ≡ may → IsStanding g m now may f → IsStanding g m new_now new_may f
same_disk g m f now new_now may new_may same_now same_may s =
    subst (λ i. IsStanding g m i new_may f) (sym same_now) (subst (λ j. IsStanding g m now j f) (sym same_may) s)

pub reads_beside : ReadsBeside
reads_beside g m b (Gave v) now new_now may new_may f s does = same_disk g m f now new_now may new_may does.1 does.2 s
reads_beside g m b Failed now new_now may new_may f s does = same_disk g m f now new_now may new_may does.0 does.1 s
reads_beside g m b Succeeded now new_now may new_may f s does = absurd does
