-- The tasks of the worker's and the commands' turns over sound memory: what is formed or taken in hand is sound, and less is left.
use Rattle.std.proofs.Common.{ℕ, ◌+◌, ◌-◌, ◌*◌, ◌<◌, ◌≤◌, ◌≡◌, ◌==◌, nat_lt, Bool, true, false, not, cond, List, [], ◌∷◌, length, Option, Some, None, arith, refl, sym, ap, ◌∙◌, subst, inl, inr}
use Rattle.std.proofs.lemmas.Bool.{cond_both, not-false, not-true, eqb-true, eqb-false, false≢true}
use Rattle.std.specs.Prelude.{MatchOption}
use Rattle.std.specs.List.{AllByRecursion as Each, count_by}
use Rattle.bow_units.specs.declared.sizes.Geometry.{Geometry}
use Rattle.bow_units.specs.declared.sizes.Extent.{Extent}
use Rattle.bow_units.specs.declared.requests.Op.{Op}
use Rattle.bow_units.specs.declared.requests.Op.TheVariants.{Read, Write, Discard, Flush, Prepare, Commit}
use Rattle.bow_units.specs.declared.requests.Phase.{Phase}
use Rattle.bow_units.specs.declared.requests.Phase.TheVariants.{Trim, Arming, Checkpoint, Deciding, Committed}
use Rattle.bow_units.specs.declared.requests.Outcome.{Outcome}
use Rattle.bow_units.specs.declared.requests.Outcome.TheVariants as outcomes
use Rattle.bow_units.specs.declared.statuses.Kind.{Kind}
use Rattle.bow_units.specs.declared.statuses.Kind.TheVariants.{Free, Backup, Saved}
use Rattle.bow_log.specs.Generations.{Generation, room}
use Rattle.bow_copy.specs.declared.jobs.Job.{Job}
use Rattle.bow_copy.specs.declared.jobs.Job.TheVariants.{Rewrite, Link, Move}
use Rattle.bow_queue.specs.Requests.{is_command}
use Rattle.bow_ranges.specs.Kinds.{holds, kind_at, with_kind, is_free, count_of}
use Rattle.bow_ranges.specs.Picks.{picked, IsPicked}
use Rattle.bow_ranges.proofs.PickLaws.{picked_is}
use Rattle.bow_machine.specs.Requests.{Request, request_of, refusal}
use Rattle.bow_machine.specs.Steps.{Answered}
use Rattle.bow_machine.specs.MemoryLaws.{tells_fault}
use Rattle.bow_machine.specs.Memory.{Memory, Batch, Hand, Empty, Batching, Preparing, Committing, ReadsBlock0, WritesFirstLog, FlushesAll, picks, reserved, has_command, is_kind_current, may_be_written}
use Rattle.bow_machine.specs.Tasks.{Task, Answers, Turn, Map, Worker, Command, head, batch_for, with_batch, on_picked, copied_from, copy_onto, spelling, formed, formed_for, serve, worker_task, without_picked, prepare_on, taken, first_of, take_first, command_task, task_of}
use Rattle.bow_machine.specs.MemoryIsSound.{IsTable}
use Rattle.bow_machine.specs.MemoryIsSound.{is_touched}
use Rattle.bow_machine.specs.MemoryIsSound.{LogIsSound, LogIsHeld, JobIsReady, SavesNext, IsForCommand, HandIsSound, MemoryIsSound}
use Rattle.bow_machine.proofs.Tickets.{found_own}
use Rattle.bow_machine.proofs.Mapped.{empty_not_in_hand}
use Rattle.bow_machine.proofs.Tables.{holds_cases}
use Rattle.bow_machine.proofs.BatchStands.{working, holds_none}
use Rattle.bow_machine.proofs.Workers.{memory_is}
use Rattle.bow_machine.proofs.Commands.{picked_free, picked_more}
use Rattle.bow_machine.proofs.FormedHeads.{IsHead, head_is, IsFreeRun, free_run, not_picked, kept_not_free}
use Rattle.bow_machine.proofs.FormedJobs.{one_picked, move_ready, link_ready, next_source, copied_some, copied_most, copy_ready}
use Rattle.bow_machine.proofs.SoundLists.{own_tickets, found_counts}
use Rattle.bow_machine.specs.Ends.{left_in}
use Rattle.bow_machine.proofs.Less.{IsLess}
use Rattle.bow_machine.proofs.SoundTasks.{IsApart, IsFresh, is_busy, ActsOn, TaskIsSound, map_sound}
use Rattle.bow_machine.proofs.SoundLogs.{spelling_length, respared, spare_table, spare_free, spare_log}
use Rattle.bow_machine.proofs.SoundBatches.{worked_sound}

-- something is taken in hand that reserves nothing, and nothing else changes
only_hand : (g : Geometry) (m : Memory) (hand : Hand) → MemoryIsSound g (record m { hand = hand }) → is_busy hand ≡ true → ((x : ℕ) → holds (reserved hand) x ≡ false)
    → IsLess (left_in (record m { hand = hand })) (left_in m) → IsFresh hand → ActsOn g m (record m { hand = hand })
only_hand g m hand sound busy none less fresh = record {
  sound = sound;
  busy = busy;
  requests = refl;
  phase = refl;
  log = refl;
  table = inr refl;
  saved = λ x is. is;
  still_saved = λ x is. is;
  touched = λ x is. is;
  stays = λ x is. refl;
  picked = λ x is. absurd (false≢true (sym (none x) ∙ is));
  less = inr (less, fresh);
}

-- ----------------------------------------------------------------------------------------------------------------
-- A batch is formed.

module _ (g : Geometry) (m : Memory) (log : Generation) (r : Request) (e : Extent) (p : List ℕ) (head : IsHead g m r e p) (s : MemoryIsSound g (working m Empty log)) where
  abbrev n : Memory
  n = working m Empty log

  abbrev pub kept : LogIsSound g m.kinds m.clean m.trimmed 0 log
  kept = s.log

  abbrev pub next : ℕ
  next = e.first + r.done

  next_inside : next < g.blocks
  next_inside = omega (arith, head.inside, head.left)

  waits_apart : IsApart n r
  waits_apart = record { found = head.waits; apart = empty_not_in_hand Empty r.ticket refl }

  -- a batch at its first act
  forms : (table : List Kind) (job : Job) (slots : List (List ℕ)) → IsTable g table → LogIsSound g table m.clean m.trimmed (picks job).count log → kind_at table next ≡ kind_at m.kinds next
      → Each (λ v. length v ≡ g.block_size) slots → SavesNext job r e → JobIsReady g table m.clean log job 0 slots
      → MemoryIsSound g (record n { kinds = table; hand = Batching (batch_for r job slots) })
  forms table job slots is_table log_sound same blocks saves ready =
      worked_sound g n table (Batching (batch_for r job slots)) (Some log) m.clean log refl refl is_table log_sound
      (record {
        phase = refl;
        for_write = record {
          waits = record { write = r; waits = head.waits; extent = e; payload = p; op = head.op; passed = subst (λ op. refusal g Checkpoint op ≡ None) (sym head.op) head.passed; left = head.left; not_0 = head.not_0; kept_back = ap may_be_written same ∙ head.kept_back };
          next = saves;
        };
        runs = refl;
        so_far = omega arith;
        blocks = blocks;
        before = λ early. ready;
        after = λ late. absurd (omega arith);
      }) s

  rewrites : m.clean ≡ false → ActsOn g n (with_batch n (batch_for r Rewrite []))
  rewrites unclean = only_hand g n (Batching (batch_for r Rewrite [])) (forms m.kinds Rewrite [] s.table kept refl tt tt unclean) refl holds_none
      (inr (refl, inr (refl, inr (refl, inr (refl, subst (λ clean. 2 < cond clean 0 3) (sym unclean) (omega arith)))))) refl

  -- each block that was picked was free
  free_in : (d : Extent) → IsFreeRun g m.kinds d → (x : ℕ) → holds d x ≡ true → kind_at m.kinds x ≡ Free
  free_in d run x held = elim (holds_cases d x) [
    | inl (low, high, at) ↦ let there : d.first + (x - d.first) ≡ x = omega arith in ap (kind_at m.kinds) (sym there) ∙ run.free (x - d.first) (omega arith)
    | inr (out, not_held) ↦ absurd (false≢true (sym not_held ∙ held))
  ]

  -- a batch for which blocks are picked
  picks_for : (job : Job) (slots : List (List ℕ)) (d : Extent) → IsFreeRun g m.kinds d → picks job ≡ d → Each (λ v. length v ≡ g.block_size) slots → SavesNext job r e
      → JobIsReady g (with_kind m.kinds d Backup) m.clean log job 0 slots → ActsOn g n (record n { kinds = with_kind m.kinds d Backup; hand = Batching (batch_for r job slots) })
  picks_for job slots d run is blocks saves ready = record {
    sound = forms (with_kind m.kinds d Backup) job slots (spare_table g m.kinds d Free Backup s.table run.inside run.free (inl refl) (inr refl))
        (subst (λ n. LogIsSound g (with_kind m.kinds d Backup) m.clean m.trimmed n log) all (spare_log g m.kinds d Free Backup s.table run.inside run.free (inl refl) (inr refl) m.clean m.trimmed 0 log
        (subst (λ n. LogIsSound g m.kinds m.clean m.trimmed n log) none kept)))
        (not_picked g m.kinds d next s.table.size run (kept_not_free _ head.kept_back)) blocks saves ready;
    busy = refl;
    requests = refl;
    phase = refl;
    log = refl;
    table = inl refl;
    saved = λ x is. elim (respared g m.kinds d Free Backup s.table run.inside run.free (inl refl) (inr refl) x) [
      | inl now ↦ absurd (let clash : Backup ≡ Saved = sym now.1 ∙ is in grind arith)
      | inr same ↦ sym same ∙ is
    ];
    still_saved = λ x is. elim (respared g m.kinds d Free Backup s.table run.inside run.free (inl refl) (inr refl) x) [
      | inl now ↦ absurd (let clash : Free ≡ Saved = sym now.0 ∙ is in grind arith)
      | inr same ↦ same ∙ is
    ];
    touched = λ x is. elim (respared g m.kinds d Free Backup s.table run.inside run.free (inl refl) (inr refl) x) [
      | inl now ↦ absurd (false≢true (ap is_touched (sym now.1) ∙ is))
      | inr same ↦ ap is_touched (sym same) ∙ is
    ];
    stays = λ x is. elim (respared g m.kinds d Free Backup s.table run.inside run.free (inl refl) (inr refl) x) [
      | inl now ↦ absurd (false≢true (ap is_touched (sym now.0) ∙ is))
      | inr same ↦ same
    ];
    picked = λ x held. inr (free_in d run x (sym (ap (λ (e : Extent). holds e x) is) ∙ held));
    less = inr (inr (refl, inr (refl, inl (let free = spare_free g m.kinds d Free Backup s.table run.inside run.free (inl refl) (inr refl) in omega (arith, free, run.some)))), refl);
  }
    where
      all : 0 + d.count * 1 ≡ (picks job).count
      all = let same = ap (λ (x : Extent). x.count) is in omega (arith, same)

      none : 0 ≡ 0 + d.count * 0
      none = omega arith

  moves : m.clean ≡ true → is_kind_current (kind_at m.kinds next) ≡ true → (d : Extent) → IsPicked m.kinds 1 d
      → ActsOn g n (record n { kinds = with_kind m.kinds d Backup; hand = Batching (batch_for r (Move next d.first) []) })
  moves clean is d picked =
      let run = free_run g m.kinds 1 d s.table.size picked in
      picks_for (Move next d.first) [] d run (one_picked g m log r e p head s.table kept d picked) tt refl (move_ready g m log r e p head s.table kept is d run, clean)

  links : m.clean ≡ true → length log.entries ≡ room g.block_size → (d : Extent) → IsPicked m.kinds 1 d
      → ActsOn g n (record n { kinds = with_kind m.kinds d Backup; hand = Batching (batch_for r (Link d.first) (spelling g log ∷ [])) })
  links clean full d picked =
      let run = free_run g m.kinds 1 d s.table.size picked in
      picks_for (Link d.first) (spelling g log ∷ []) d run (one_picked g m log r e p head s.table kept d picked) (spelling_length g log s.sizes kept.generation.few, tt) tt (link_ready g m log r e p head s.table kept full d run, clean)

  abbrev pub copied : Extent
  copied = copied_from n r e

  copies : m.clean ≡ true → (length log.entries ≡ room g.block_size → ⊥) → (d : Extent) → IsPicked m.kinds copied.count d
      → ActsOn g n (record n { kinds = with_kind m.kinds d Backup; hand = Batching (batch_for r (copy_onto copied d) []) })
  copies clean not_full d picked =
      picks_for (copy_onto copied d) [] d (free_run g m.kinds copied.count d s.table.size picked) refl tt (refl, omega (arith, picked.most, copied_most g m log r e p head s.table kept, head.left))
      (copy_ready g m log r e p head s.table kept not_full d picked, clean)

  -- the batch, or the answer that there is no space for it
  on_picked_sound : (batch : Extent → Batch) (want : ℕ) → 1 ≤ want → ((d : Extent) → IsPicked m.kinds want d → ActsOn g n (record n { kinds = with_kind m.kinds d Backup; hand = Batching (batch d) }))
      → TaskIsSound g n (on_picked n r batch (picked m.kinds want))
  on_picked_sound batch want some acts = go (picked m.kinds want) (picked_is m.kinds want some)
    where
      go : (o : Option Extent) → MatchOption o (count_of is_free m.kinds ≡ 0) (IsPicked m.kinds want) → TaskIsSound g n (on_picked n r batch o)
      go None none = record { request = waits_apart; no_fault = refl }
      go (Some d) is = acts d is

  formed_sound : TaskIsSound g n (formed g n r e log)
  formed_sound =
      cond_both (not m.clean) _ _ Good (λ dirty. rewrites (not-true m.clean dirty))
      (λ is. let clean : m.clean ≡ true = not-false m.clean is in
      cond_both (is_kind_current (kind_at m.kinds next)) _ _ Good
      (λ current. on_picked_sound (λ to. batch_for r (Move next to.first) []) 1 (omega arith) (moves clean current))
      (λ other. cond_both (length log.entries == room g.block_size) _ _ Good
      (λ full. on_picked_sound (λ dest. batch_for r (Link dest.first) (spelling g log ∷ [])) 1 (omega arith) (links clean (eqb-true _ _ full)))
      (λ not_full. on_picked_sound (λ dest. batch_for r (copy_onto copied dest) []) copied.count (copied_some g m log r e p head s.table kept (next_source g m log r e p head s.table kept clean other)) (copies clean (eqb-false _ _ not_full)))))
    where
      Good : Task → Type 0
      Good task = TaskIsSound g n task

-- in Checkpoint there is a log
pub checkpoint_log : (g : Geometry) (table : List Kind) (clean : Bool) (trimmed picked : ℕ) (log : Option Generation) → LogIsHeld g table clean trimmed picked Checkpoint log → (l : Generation) × (log ≡ Some l)
checkpoint_log g table clean trimmed picked None k = absurd k
checkpoint_log g table clean trimmed picked (Some l) k = (l, refl)

module _ (g : Geometry) where
  serve_sound : (m : Memory) (log : Generation) → MemoryIsSound g (working m Empty log) → TaskIsSound g (working m Empty log) (serve g (working m Empty log) (head g (working m Empty log)))
  serve_sound m log s = go (head g (working m Empty log)) refl
    where
      go : (found : Option Request) → head g (working m Empty log) ≡ found → TaskIsSound g (working m Empty log) (serve g (working m Empty log) found)
      go None none = tt
      go (Some r) found =
          let is = head_is g m log r (own_tickets m.requests s.rising) found in
          subst (λ op. TaskIsSound g (working m Empty log) (formed_for g (working m Empty log) r op (Some log))) (sym (is.2).op) (formed_sound g m log r is.0 is.1 is.2 s)

  -- what is in hand goes on
  goes_on : (m : Memory) → is_busy m.hand ≡ true → MemoryIsSound g m → ActsOn g m m
  goes_on m busy s = record { sound = s; busy = busy; requests = refl; phase = refl; log = refl; table = inr refl; saved = λ x is. is; still_saved = λ x is. is; touched = λ x is. is; stays = λ x is. refl; picked = λ x is. inl refl; less = inl refl }

  -- The task of the worker's turn.
  pub worker_sound : (m : Memory) → MemoryIsSound g m → TaskIsSound g m (task_of g m Worker)
  worker_sound m s = go m.hand m.phase refl refl
    where
      go : (hand : Hand) (phase : Phase) → m.hand ≡ hand → m.phase ≡ phase → TaskIsSound g m (worker_task g m hand phase)
      go (Batching b) phase is at = goes_on m (ap is_busy is) s
      go Empty Checkpoint is at =
          let log = checkpoint_log g m.kinds m.clean m.trimmed (reserved m.hand).count m.log (subst (λ p. LogIsHeld g m.kinds m.clean m.trimmed (reserved m.hand).count p m.log) at s.log) in
          let e : m ≡ working m Empty log.0 = memory_is m Empty log.0 at is log.1 in
          subst (λ n. MemoryIsSound g n → TaskIsSound g n (serve g n (head g n))) (sym e) (serve_sound m log.0) s
      go Empty Trim is at = tt
      go Empty Arming is at = tt
      go Empty Deciding is at = tt
      go Empty Committed is at = tt
      go (Preparing t c b act) phase is at = tt
      go (Committing t again act) phase is at = tt

-- ----------------------------------------------------------------------------------------------------------------
-- A command is taken in hand.

module _ (g : Geometry) (m : Memory) (s : MemoryIsSound g m) (empty : m.hand ≡ Empty) (r : Request) (found : first_of m.requests ≡ Some r) where
  first_waits : request_of r.ticket m.requests ≡ Some r
  first_waits = found_own (λ q. is_command q.op) m.requests r (own_tickets m.requests s.rising) found

  first_apart : IsApart m r
  first_apart = record { found = first_waits; apart = empty_not_in_hand m.hand r.ticket empty }

  asks_for : (op : Op) → r.op ≡ op → IsForCommand m.requests r.ticket op
  asks_for op is = record { command = r; waits = first_waits; asks = is }

  takes : (hand : Hand) → (reserved hand).count ≡ 0 → has_command hand ≡ true → is_busy hand ≡ true → IsFresh hand → HandIsSound g (record m { hand = hand }) hand m.log → ActsOn g m (record m { hand = hand })
  takes hand none command busy fresh held = only_hand g m hand sound busy (none_held hand command) (inr (refl, inl fewer)) fresh
    where
      sound : MemoryIsSound g (record m { hand = hand })
      sound = record {
        sizes = s.sizes;
        table = s.table;
        few = s.few;
        requests = s.requests;
        rising = s.rising;
        log = subst (λ n. LogIsHeld g m.kinds m.clean m.trimmed n m.phase m.log) (ap (λ (h : Hand). (reserved h).count) empty ∙ sym none) s.log;
        in_hand = held;
      }

      none_held : (h : Hand) → has_command h ≡ true → (x : ℕ) → holds (reserved h) x ≡ false
      none_held Empty is x = holds_none x
      none_held (Batching b) is x = absurd (grind arith)
      none_held (Preparing t c b act) is x = holds_none x
      none_held (Committing t again act) is x = holds_none x

      fewer : count_by (λ q. is_command q.op) m.requests - cond (has_command hand) 1 0 < count_by (λ q. is_command q.op) m.requests - cond (has_command m.hand) 1 0
      fewer =
          let one : Bool → ℕ = λ t. cond t 1 0 in
          let mine = ap one command in
          let before = ap (λ (h : Hand). one (has_command h)) empty in
          let some = found_counts (λ q. is_command q.op) m.requests r found in
          omega (arith, mine, before, some)

  no_answer : (outcome : Outcome) → tells_fault (Answered r.ticket r.op outcome) ≡ false → TaskIsSound g m (Answers r outcome)
  no_answer outcome none = record { request = first_apart; no_fault = none }

  prepares : m.phase ≡ Trim → r.op ≡ Prepare → (c b : Option Extent) → picked m.kinds 1 ≡ c → picked (without_picked m.kinds c) 1 ≡ b → TaskIsSound g m (prepare_on m r c b)
  prepares is op None b one other = no_answer (outcomes.NoSpace 0) refl
  prepares is op (Some c) None one other = no_answer (outcomes.NoSpace 0) refl
  prepares is op (Some c) (Some b) one other =
      let first = picked_free g m c s.table one in
      let second = picked_more g m c b s.table first.1 first.2 other in
      takes (Preparing r.ticket c.first b.first ReadsBlock0) refl refl refl tt
      (record { phase = is; apart = second.2; c_inside = first.1; b_inside = second.1; c_free = first.0; b_free = second.0 }, asks_for Prepare op)

  taken_sound : (op : Op) (phase : Phase) → r.op ≡ op → m.phase ≡ phase → TaskIsSound g m (taken m r op phase)
  taken_sound Prepare Trim op is = go (nat_lt (count_of is_free m.kinds) 2)
    where
      go : (few : Bool) → TaskIsSound g m (cond few (Answers r (outcomes.NoSpace 0)) (prepare_on m r (picked m.kinds 1) (picked (without_picked m.kinds (picked m.kinds 1)) 1)))
      go true = no_answer (outcomes.NoSpace 0) refl
      go false = prepares is op (picked m.kinds 1) (picked (without_picked m.kinds (picked m.kinds 1)) 1) refl refl
  taken_sound Prepare Arming op is = takes (Preparing r.ticket 0 0 WritesFirstLog) refl refl refl tt (is, asks_for Prepare op)
  taken_sound Prepare Checkpoint op is = no_answer (outcomes.WrongPhase Checkpoint) refl
  taken_sound Prepare Deciding op is = no_answer (outcomes.WrongPhase Deciding) refl
  taken_sound Prepare Committed op is = no_answer (outcomes.WrongPhase Committed) refl
  taken_sound Commit Trim op is = no_answer (outcomes.WrongPhase Trim) refl
  taken_sound Commit Arming op is = no_answer (outcomes.WrongPhase Arming) refl
  taken_sound Commit Checkpoint op is = takes (Committing r.ticket false FlushesAll) refl refl refl tt (is, asks_for Commit op)
  taken_sound Commit Deciding op is = takes (Committing r.ticket true FlushesAll) refl refl refl tt (is, asks_for Commit op)
  taken_sound Commit Committed op is = no_answer (outcomes.WrongPhase Committed) refl
  taken_sound (Read e p) phase op is = no_answer (outcomes.WrongPhase phase) refl
  taken_sound (Write e p) phase op is = no_answer (outcomes.WrongPhase phase) refl
  taken_sound (Discard e) phase op is = no_answer (outcomes.WrongPhase phase) refl
  taken_sound Flush phase op is = no_answer (outcomes.WrongPhase phase) refl

-- The task of the commands' turn.
pub command_sound : (g : Geometry) (m : Memory) → MemoryIsSound g m → TaskIsSound g m (task_of g m Command)
command_sound g m s = go m.hand refl
  where
    first : m.hand ≡ Empty → (found : Option Request) → first_of m.requests ≡ found → TaskIsSound g m (take_first m found)
    first empty None is = tt
    first empty (Some r) is = taken_sound g m s empty r is r.op m.phase refl refl

    go : (hand : Hand) → m.hand ≡ hand → TaskIsSound g m (command_task m hand)
    go Empty is = first is (first_of m.requests) refl
    go (Batching b) is = tt
    go (Preparing t c b act) is = goes_on g m (ap is_busy is) s
    go (Committing t again act) is = goes_on g m (ap is_busy is) s

-- The task of any turn.
pub turn_sound : (g : Geometry) (m : Memory) (turn : Turn) → MemoryIsSound g m → TaskIsSound g m (task_of g m turn)
turn_sound g m (Map ticket) s = map_sound g m ticket s
turn_sound g m Worker s = worker_sound g m s
turn_sound g m Command s = command_sound g m s
