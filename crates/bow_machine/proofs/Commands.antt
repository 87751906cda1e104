-- A turn of the commands: one is taken in hand, or the one in hand goes on.
use Rattle.std.proofs.Common.{ℕ, ◌<◌, ◌≤◌, ◌≡◌, ◌≢◌, Bool, true, false, cond, List, length, Option, Some, None, arith, refl, sym, ap, ◌∙◌, subst, inl, inr}
use Rattle.std.specs.Prelude.{nat_lt, MatchOption, ◌↔◌}
use Rattle.std.proofs.lemmas.Bool.{cases_lt}
use Rattle.bow_units.specs.declared.sizes.Extent.{Extent}
use Rattle.bow_units.specs.declared.sizes.Geometry.{Geometry}
use Rattle.bow_units.specs.declared.requests.Op.{Op}
use Rattle.bow_units.specs.declared.requests.Op.TheVariants.{Read, Write, Discard, Flush, Prepare, Commit}
use Rattle.bow_units.specs.declared.requests.Outcome.{Outcome}
use Rattle.bow_units.specs.declared.requests.Outcome.TheVariants as outcomes
use Rattle.bow_units.specs.declared.requests.Phase.{Phase}
use Rattle.bow_units.specs.declared.requests.Phase.TheVariants.{Trim, Arming, Checkpoint, Deciding, Committed}
use Rattle.bow_units.specs.declared.statuses.Kind.{Kind}
use Rattle.bow_units.specs.declared.statuses.Kind.TheVariants as kinds
use Rattle.bow_chain.specs.Contents.{Contents}
use Rattle.bow_flat.specs.Flat.{Flat}
use Rattle.bow_guard.specs.Cuts.{Candidates}
use Rattle.bow_queue.specs.Requests.{is_command}
use Rattle.bow_ranges.specs.Kinds.{kind_at, with_kind, is_free, count_of}
use Rattle.bow_ranges.specs.Picks.{picked, IsPicked}
use Rattle.bow_ranges.proofs.PickLaws.{picked_is}
use Rattle.bow_machine.specs.MemoryIsSound.{IsForCommand}
use Rattle.bow_machine.specs.Requests.{Request, request_of}
use Rattle.bow_machine.specs.Memory.{Memory, Hand, Empty, Batching, Preparing, Committing, ReadsBlock0, WritesFirstLog, FlushesAll, has_command, reserved}
use Rattle.bow_machine.specs.Calls.{Reply, DoesIt}
use Rattle.bow_machine.specs.Tasks.{Task, Waits, Answers, WritesBlock, ReadsBlock, FlushesFor, DiscardsFor, Acts, Command, prepare_on, without_picked, taken, first_of, take_first, command_task, task_of}
use Rattle.bow_machine.specs.Steps.{one_block, act_step, call_in_hand, call_of, step_of}
use Rattle.bow_machine.specs.MemoryIsSound.{IsTable}
use Rattle.bow_machine.proofs.Held.{HandHeld, IsHeld}
use Rattle.bow_machine.proofs.Tables.{length_with, kind_one, kind_other, count_one}
use Rattle.bow_machine.proofs.Tickets.{found_own}
use Rattle.bow_machine.proofs.Hands.{rehanded, same_disk, Keeps}
use Rattle.bow_machine.proofs.Mapped.{empty_not_in_hand}
use Rattle.bow_machine.proofs.MappedTurn.{answers_keep}
use Rattle.bow_machine.proofs.PreparedActs.{prepare_keeps}
use Rattle.bow_machine.proofs.CommittedActs.{commit_keeps}

-- a task that acts on what a machine has in hand that stands, which is a command
pub record ActsOn (g : Geometry) (now : Contents) (may : Candidates) (f : Flat) (memory : Memory) : Type 0 where
  pub stands : IsHeld g memory now may f
  pub commands : has_command memory.hand ≡ true

-- the task does nothing, answers a request, or acts on a command in hand
abbrev pub IsCommandTask : Geometry → Contents → Candidates → Flat → Task → Type 0
IsCommandTask g now may f Waits = Unit {0}
IsCommandTask g now may f (Answers r outcome) = Unit {0}
IsCommandTask g now may f (Acts memory) = ActsOn g now may f memory
IsCommandTask g now may f task = ⊥

-- what is picked: one free block of the device
pub picked_free : (g : Geometry) (m : Memory) (e : Extent) → IsTable g m.kinds → picked m.kinds 1 ≡ Some e → (kind_at m.kinds e.first ≡ kinds.Free) × (e.first < g.blocks) × (e.count ≡ 1)
picked_free g m e table is =
    let p = subst (λ o. MatchOption o (count_of is_free m.kinds ≡ 0) (IsPicked m.kinds 1)) is (picked_is m.kinds 1 (omega arith)) in
    (p.free, omega (arith, p.is_run.to, p.is_run.inside, table.size), omega (arith, p.some, p.most))

-- and one more, as if the first were no longer free
pub picked_more : (g : Geometry) (m : Memory) (c b : Extent) → IsTable g m.kinds → c.first < g.blocks → c.count ≡ 1 → picked (with_kind m.kinds c kinds.Backup) 1 ≡ Some b
    → (kind_at m.kinds b.first ≡ kinds.Free) × (b.first < g.blocks) × (c.first ≢ b.first)
picked_more g m c b table inside one is = (sym (kind_other m.kinds c.first kinds.Backup b.first long (λ e. apart (sym e))) ∙ free, omega (arith, p.is_run.to, p.is_run.inside, length_with m.kinds (one_block c.first) kinds.Backup (omega arith), table.size), apart)
  where
    long : c.first < length m.kinds
    long = omega (arith, inside, table.size)

    p : IsPicked (with_kind m.kinds (one_block c.first) kinds.Backup) 1 b
    p = subst (λ o. MatchOption o (count_of is_free (with_kind m.kinds (one_block c.first) kinds.Backup) ≡ 0) (IsPicked (with_kind m.kinds (one_block c.first) kinds.Backup) 1)) (ap (λ n. picked (with_kind m.kinds (record { first = c.first; count = n }) kinds.Backup) 1) (sym one) ∙ is)
        (picked_is (with_kind m.kinds (one_block c.first) kinds.Backup) 1 (omega arith))

    free : kind_at (with_kind m.kinds (one_block c.first) kinds.Backup) b.first ≡ kinds.Free
    free = p.free

    apart : c.first ≢ b.first
    apart e = let clash : kinds.Backup ≡ kinds.Free = sym (kind_one m.kinds c.first kinds.Backup long) ∙ ap (kind_at (with_kind m.kinds (one_block c.first) kinds.Backup)) e ∙ free in absurd (grind arith)

module _ (g : Geometry) (m : Memory) (now : Contents) (may : Candidates) (f : Flat) (k : IsHeld g m now may f) (empty : m.hand ≡ Empty) where
  -- a command is taken in hand
  taken_on : (hand : Hand) → reserved hand ≡ reserved Empty → has_command hand ≡ true → HandHeld g (record m { hand = hand }) hand now may m.log → ActsOn g now may f (record m { hand = hand })
  taken_on hand none command held = record { stands = rehanded g now may f m hand (none ∙ sym (ap reserved empty)) held k; commands = command }

  module _ (r : Request) (waits : request_of r.ticket m.requests ≡ Some r) where
    for_it : (op : Op) → r.op ≡ op → IsForCommand m.requests r.ticket op
    for_it op asks = record { command = r; waits = waits; asks = asks }

    prepares : r.op ≡ Prepare → m.phase ≡ Trim → (c b : Option Extent) → picked m.kinds 1 ≡ c → picked (without_picked m.kinds c) 1 ≡ b → IsCommandTask g now may f (prepare_on m r c b)
    prepares asks is None b one other = tt
    prepares asks is (Some c) None one other = tt
    prepares asks is (Some c) (Some b) one other =
        let first = picked_free g m c k.memory.table one in
        let second = picked_more g m c b k.memory.table first.1 first.2 other in
        taken_on (Preparing r.ticket c.first b.first ReadsBlock0) refl refl (record { phase = is; apart = second.2; c_inside = first.1; b_inside = second.1; c_free = first.0; b_free = second.0 }, for_it Prepare asks)

    takes : (op : Op) (phase : Phase) → r.op ≡ op → m.phase ≡ phase → IsCommandTask g now may f (taken m r op phase)
    takes Prepare Trim asks is = go (nat_lt (count_of is_free m.kinds) 2)
      where
        go : (few : Bool) → IsCommandTask g now may f (cond few (Answers r (outcomes.NoSpace 0)) (prepare_on m r (picked m.kinds 1) (picked (without_picked m.kinds (picked m.kinds 1)) 1)))
        go true = tt
        go false = prepares asks is (picked m.kinds 1) (picked (without_picked m.kinds (picked m.kinds 1)) 1) refl refl
    takes Prepare Arming asks is = taken_on (Preparing r.ticket 0 0 WritesFirstLog) refl refl (is, for_it Prepare asks)
    takes Prepare Checkpoint asks is = tt
    takes Prepare Deciding asks is = tt
    takes Prepare Committed asks is = tt
    takes Commit Trim asks is = tt
    takes Commit Arming asks is = tt
    takes Commit Checkpoint asks is = taken_on (Committing r.ticket false FlushesAll) refl refl (is, for_it Commit asks)
    takes Commit Deciding asks is = taken_on (Committing r.ticket true FlushesAll) refl refl (is, for_it Commit asks)
    takes Commit Committed asks is = tt
    takes (Read e p) phase asks is = tt
    takes (Write e p) phase asks is = tt
    takes (Discard e) phase asks is = tt
    takes Flush phase asks is = tt

  takes_first : (found : Option Request) → first_of m.requests ≡ found → IsCommandTask g now may f (take_first m found)
  takes_first None is = tt
  takes_first (Some r) is = takes r (found_own (λ q. is_command q.op) m.requests r k.memory.tickets is) r.op m.phase refl refl

-- what the turn does
pub command_acts : (g : Geometry) (m : Memory) (now : Contents) (may : Candidates) (f : Flat) → IsHeld g m now may f → IsCommandTask g now may f (task_of g m Command)
command_acts g m now may f k = go m.hand refl
  where
    go : (hand : Hand) → m.hand ≡ hand → IsCommandTask g now may f (command_task m hand)
    go Empty is = takes_first g m now may f k is (first_of m.requests) refl
    go (Batching b) is = tt
    go (Preparing t c b act) is = record { stands = k; commands = ap has_command is }
    go (Committing t again act) is = record { stands = k; commands = ap has_command is }

-- an act of the command in hand
pub hand_keeps : (g : Geometry) (m : Memory) (now new_now : Contents) (may new_may : Candidates) (f : Flat) (hand : Hand) (reply : Reply) → m.hand ≡ hand → has_command hand ≡ true → IsHeld g m now may f
    → DoesIt g (call_in_hand g m hand) reply now may new_now new_may → Keeps g new_now new_may f (act_step g now m hand reply)
hand_keeps g m now new_now may new_may f Empty reply is command k does = absurd (grind arith)
hand_keeps g m now new_now may new_may f (Batching b) reply is command k does = absurd (grind arith)
hand_keeps g m now new_now may new_may f (Preparing t c b act) reply is command k does = prepare_keeps g m now new_now may new_may f t c b act reply is k does
hand_keeps g m now new_now may new_may f (Committing t again act) reply is command k does = commit_keeps g m now new_now may new_may f t again act reply is k does

-- the task is no answer
abbrev pub IsNoAnswer : Task → Type 0
IsNoAnswer (Answers r outcome) = ⊥
IsNoAnswer task = Unit {0}

-- Each task of the commands' turn but an answer, whatever the disk replies, keeps what the machine stands for.
pub command_keeps : (g : Geometry) (m : Memory) (now new_now : Contents) (may new_may : Candidates) (f : Flat) (reply : Reply) → IsHeld g m now may f → IsNoAnswer (task_of g m Command)
    → DoesIt g (call_of g m (task_of g m Command)) reply now may new_now new_may → Keeps g new_now new_may f (step_of g now m (task_of g m Command) reply)
command_keeps g m now new_now may new_may f reply k other does = go (task_of g m Command) (command_acts g m now may f k) other does
  where
    go : (task : Task) → IsCommandTask g now may f task → IsNoAnswer task → DoesIt g (call_of g m task) reply now may new_now new_may → Keeps g new_now new_may f (step_of g now m task reply)
    go Waits is other does = (tt, same_disk g m f now new_now may new_may does.0 does.1 k)
    go (Answers r outcome) is other does = absurd other
    go (Acts memory) is other does = hand_keeps g memory now new_now may new_may f memory.hand reply refl is.commands is.stands does
    go (WritesBlock r b) is other does = absurd is
    go (ReadsBlock r b) is other does = absurd is
    go (FlushesFor r) is other does = absurd is
    go (DiscardsFor r) is other does = absurd is

-- what the turn answers: the first command that waits, with nothing in hand
pub command_answers : (g : Geometry) (m : Memory) (r : Request) (outcome : Outcome) → task_of g m Command ≡ Answers r outcome → (m.hand ≡ Empty) × (first_of m.requests ≡ Some r)
command_answers g m r outcome is = from_hand m.hand refl is
  where
    from_taken : (q : Request) (op : Op) (phase : Phase) → taken m q op phase ≡ Answers r outcome → q ≡ r
    from_taken q Prepare Trim e = go (nat_lt (count_of is_free m.kinds) 2) (picked m.kinds 1) (picked (without_picked m.kinds (picked m.kinds 1)) 1) e
      where
        go : (few : Bool) (c b : Option Extent) → cond few (Answers q (outcomes.NoSpace 0)) (prepare_on m q c b) ≡ Answers r outcome → q ≡ r
        go true c b e = cc e
        go false None b e = cc e
        go false (Some c) None e = cc e
        go false (Some c) (Some b) e = absurd (grind arith)
    from_taken q Prepare Arming e = absurd (grind arith)
    from_taken q Prepare Checkpoint e = cc e
    from_taken q Prepare Deciding e = cc e
    from_taken q Prepare Committed e = cc e
    from_taken q Commit Trim e = cc e
    from_taken q Commit Arming e = cc e
    from_taken q Commit Checkpoint e = absurd (grind arith)
    from_taken q Commit Deciding e = absurd (grind arith)
    from_taken q Commit Committed e = cc e
    from_taken q (Read x p) phase e = cc e
    from_taken q (Write x p) phase e = cc e
    from_taken q (Discard x) phase e = cc e
    from_taken q Flush phase e = cc e

    from_first : (found : Option Request) → take_first m found ≡ Answers r outcome → found ≡ Some r
    from_first None e = absurd (grind arith)
    from_first (Some q) e = ap Some (from_taken q q.op m.phase e)

    from_hand : (hand : Hand) → m.hand ≡ hand → command_task m hand ≡ Answers r outcome → (m.hand ≡ Empty) × (first_of m.requests ≡ Some r)
    from_hand Empty same e = (same, from_first (first_of m.requests) e)
    from_hand (Batching b) same e = absurd (grind arith)
    from_hand (Preparing t c b act) same e = absurd (grind arith)
    from_hand (Committing t again act) same e = absurd (grind arith)

-- where a block is free, one is picked
some_picked : (table : List Kind) → 1 ≤ count_of is_free table → (e : Extent) × (picked table 1 ≡ Some e)
some_picked table some = go (picked table 1) refl (picked_is table 1 (omega arith))
  where
    go : (o : Option Extent) → picked table 1 ≡ o → MatchOption o (count_of is_free table ≡ 0) (IsPicked table 1) → (e : Extent) × (picked table 1 ≡ Some e)
    go None is none = absurd (omega (arith, none, some))
    go (Some e) is picks = (e, is)

-- A prepare in Trim finds no space exactly where fewer than two blocks are free.
pub prepare_space : (g : Geometry) (m : Memory) (r : Request) → IsTable g m.kinds → (taken m r Prepare Trim ≡ Answers r (outcomes.NoSpace 0)) ↔ (count_of is_free m.kinds < 2)
prepare_space g m r table = (only, always)
  where
    always : count_of is_free m.kinds < 2 → taken m r Prepare Trim ≡ Answers r (outcomes.NoSpace 0)
    always few = let is : nat_lt (count_of is_free m.kinds) 2 ≡ true = grind arith in rw is refl

    picks_both : 2 ≤ count_of is_free m.kinds → (c : Extent) × (b : Extent) × (picked m.kinds 1 ≡ Some c) × (picked (with_kind m.kinds c kinds.Backup) 1 ≡ Some b)
    picks_both enough =
        let c = some_picked m.kinds (omega arith) in
        let p = picked_free g m c.0 table c.1 in
        let left = count_one m.kinds c.0.first kinds.Backup is_free (omega (arith, p.1, table.size)) in
        let same : with_kind m.kinds c.0 kinds.Backup ≡ with_kind m.kinds (one_block c.0.first) kinds.Backup = ap (λ n. with_kind m.kinds (record { first = c.0.first; count = n }) kinds.Backup) p.2 in
        let one : Kind → ℕ = λ k. cond (is_free k) 1 0 in
        let free = ap one p.0 in
        let total = ap (count_of is_free) same in
        let b = some_picked (with_kind m.kinds c.0 kinds.Backup) (omega (arith, left, free, total, enough)) in
        (c.0, b.0, c.1, b.1)

    only : taken m r Prepare Trim ≡ Answers r (outcomes.NoSpace 0) → count_of is_free m.kinds < 2
    only is = elim (cases_lt (count_of is_free m.kinds) 2) [
      | inl few ↦ few
      | inr enough ↦
          let both = picks_both enough in
          let more : nat_lt (count_of is_free m.kinds) 2 ≡ false = grind arith in
          let acts : prepare_on m r (picked m.kinds 1) (picked (without_picked m.kinds (picked m.kinds 1)) 1) ≡ Acts (record m { hand = Preparing r.ticket both.0.first both.1.first ReadsBlock0 }) = rw both.2 (rw both.3 refl) in
          let clash : Acts (record m { hand = Preparing r.ticket both.0.first both.1.first ReadsBlock0 }) ≡ Answers r (outcomes.NoSpace 0) = sym acts ∙ rw more at is in
          absurd (grind arith)
    ]

-- Each task of the commands' turn, whatever the disk replies, keeps what the machine stands for.
pub command_turn_keeps : (g : Geometry) (m : Memory) (now new_now : Contents) (may new_may : Candidates) (f : Flat) (reply : Reply) → IsHeld g m now may f
    → DoesIt g (call_of g m (task_of g m Command)) reply now may new_now new_may → Keeps g new_now new_may f (step_of g now m (task_of g m Command) reply)
command_turn_keeps g m now new_now may new_may f reply k does = go (task_of g m Command) refl does
  where
    other : (task : Task) → task_of g m Command ≡ task → IsNoAnswer task → DoesIt g (call_of g m task) reply now may new_now new_may → Keeps g new_now new_may f (step_of g now m task reply)
    other task is no_answer does = subst (λ t. Keeps g new_now new_may f (step_of g now m t reply)) is
        (command_keeps g m now new_now may new_may f reply k (subst IsNoAnswer (sym is) no_answer) (subst (λ t. DoesIt g (call_of g m t) reply now may new_now new_may) (sym is) does))

    go : (task : Task) → task_of g m Command ≡ task → DoesIt g (call_of g m task) reply now may new_now new_may → Keeps g new_now new_may f (step_of g now m task reply)
    go (Answers r outcome) is does = answers_keep g m now may f r outcome (empty_not_in_hand m.hand r.ticket (command_answers g m r outcome is).0) k reply new_now new_may does
    go Waits is does = other Waits is tt does
    go (Acts memory) is does = other (Acts memory) is tt does
    go (WritesBlock r b) is does = other (WritesBlock r b) is tt does
    go (ReadsBlock r b) is does = other (ReadsBlock r b) is tt does
    go (FlushesFor r) is does = other (FlushesFor r) is tt does
    go (DiscardsFor r) is does = other (DiscardsFor r) is tt does
