-- A step refuses a request exactly where its turn does.
use Rattle.std.proofs.Common.{ℕ, ◌+◌, ◌==◌, ◌<◌, ◌≤◌, ◌≡◌, ◌⊎◌, Bool, true, false, cond, List, [], ◌∷◌, length, Option, Some, None, arith, refl, sym, ap, ◌∙◌, subst, inl, inr}
use Rattle.std.specs.Prelude.{◌↔◌, not, nat_lt}
use Rattle.std.proofs.lemmas.Bool.{cond_both, cases_lt, false≢true, and_parts, eqb-true, eq-eqb}
use Rattle.bow_units.specs.declared.sizes.Geometry.{Geometry}
use Rattle.bow_units.specs.declared.sizes.Extent.{Extent}
use Rattle.bow_units.specs.declared.requests.Op.{Op}
use Rattle.bow_units.specs.declared.requests.Op.TheVariants.{Read, Write, Discard, Flush, Prepare, Commit}
use Rattle.bow_units.specs.declared.requests.Outcome.{Outcome}
use Rattle.bow_units.specs.declared.requests.Outcome.TheVariants as outcomes
use Rattle.bow_units.specs.declared.requests.Phase.{Phase}
use Rattle.bow_units.specs.declared.requests.Phase.TheVariants.{Trim, Arming, Checkpoint, Deciding, Committed}
use Rattle.bow_log.specs.Generations.{Generation, room}
use Rattle.bow_queue.specs.declared.tickets.Ticket.{Ticket}
use Rattle.bow_queue.specs.Extents.{is_on_device}
use Rattle.bow_queue.specs.Requests.{is_command}
use Rattle.bow_units.specs.declared.statuses.Kind.TheVariants as kinds
use Rattle.bow_copy.specs.declared.jobs.Job.TheVariants as jobs
use Rattle.bow_ranges.specs.Kinds.{kind_at, with_kind, is_free, count_of}
use Rattle.bow_ranges.specs.Picks.{picked}
use Rattle.bow_machine.specs.Calls.{Reply}
use Rattle.bow_machine.specs.Memory.{Memory, Hand, Empty, Batching, Preparing, Committing, ReadsBlock0, WritesFirstLog, FlushesAll, Batch, has_command, is_direct, is_kind_current}
use Rattle.bow_machine.specs.MemoryIsSound.{MemoryIsSound}
use Rattle.bow_machine.specs.Requests.{Request, request_of, is_reserved, unsettled, refusal, first_of}
use Rattle.bow_machine.specs.Steps.{Told, Answered}
use Rattle.bow_machine.specs.Tasks.{Task, Waits, Answers, WritesBlock, ReadsBlock, FlushesFor, DiscardsFor, Acts, unless_refused, unless_command, is_waiting, task_for, map_task, head, spelling, batch_for, with_batch, copied_from, copy_onto, on_picked, formed, formed_for, serve, worker_task, prepare_on, without_picked, taken, take_first, command_task, task_of}
use Rattle.bow_machine.specs.declared.turns.Turn.{Turn}
use Rattle.bow_machine.specs.declared.turns.Turn.TheVariants.{Map, Worker, Command}
use Rattle.bow_machine.proofs.MappedTests.{magic_is, is_magic}
use Rattle.bow_machine.proofs.RequestLists.{found_ticket, find_passes}
use Rattle.bow_machine.proofs.SoundLists.{own_tickets}
use Rattle.bow_machine.proofs.Tickets.{found_own}
use Rattle.bow_core.specs.Refusals.{ReachesBeyond, WritesMagic, Changes, IsRead, FailsTest, HasNoPlace, IsRefused, IsRefusal}
use Rattle.bow_core.specs.Steps.{done_by}
use Rattle.bow_core.proofs.Telling.{may_call, calls_tell}

-- ----------------------------------------------------------------------------------------------------------------
-- The tests, in the code's words and in the reader's.

inside : (g : Geometry) (e : Extent) → is_on_device g.blocks e ≡ true → g.blocks < e.first + e.count → ⊥
inside g e is beyond = let fits : e.first + e.count ≤ g.blocks = grind arith in omega (arith, fits, beyond)

beyond : (g : Geometry) (e : Extent) → is_on_device g.blocks e ≡ false → g.blocks < e.first + e.count
beyond g e is = elim (cases_lt g.blocks (e.first + e.count)) [ inl far ↦ far | inr fits ↦ absurd (let on : is_on_device g.blocks e ≡ true = grind arith in false≢true (sym is ∙ on)) ]

reserved : (e : Extent) (p : List ℕ) → is_reserved e p ≡ true → WritesMagic (Write e p)
reserved e p h = let parts = and_parts _ _ h in (eqb-true e.first 0 parts.0, magic_is p parts.1)

unreserved : (e : Extent) (p : List ℕ) → is_reserved e p ≡ false → WritesMagic (Write e p) → ⊥
unreserved e p none is = let first : (e.first == 0) ≡ true = eq-eqb e.first 0 is.0 in false≢true (sym none ∙ rw (first, is_magic p is.1) refl)

some_outcome : (x y : Outcome) → Some x ≡ Some y → x ≡ y
some_outcome x y e = cc e

module _ (g : Geometry) (phase : Phase) where
  -- the phase is the one that a change finds unsettled
  between : (op : Op) (outcome : Outcome) → Changes op → (ReachesBeyond g op → ⊥) → (WritesMagic op → ⊥) → unsettled phase ≡ Some outcome → FailsTest g phase op outcome
  between op outcome changes on plain = go phase refl
    where
      go : (p : Phase) → phase ≡ p → unsettled p ≡ Some outcome → FailsTest g phase op outcome
      go Trim at is = absurd (grind arith)
      go Arming at is = subst (FailsTest g phase op) (some_outcome (outcomes.Unsettled Arming) outcome is) (on, plain, changes, inl at, sym at)
      go Checkpoint at is = absurd (grind arith)
      go Deciding at is = subst (FailsTest g phase op) (some_outcome (outcomes.Unsettled Deciding) outcome is) (on, plain, changes, inr at, sym at)
      go Committed at is = absurd (grind arith)

  fails : (op : Op) (outcome : Outcome) → refusal g phase op ≡ Some outcome → FailsTest g phase op outcome
  fails (Read e p) outcome = go (is_on_device g.blocks e) refl
    where
      go : (t : Bool) → is_on_device g.blocks e ≡ t → cond t None (Some outcomes.OutOfRange) ≡ Some outcome → FailsTest g phase (Read e p) outcome
      go true is h = absurd (grind arith)
      go false is h = subst (FailsTest g phase (Read e p)) (some_outcome outcomes.OutOfRange outcome h) (beyond g e is)
  fails (Write e p) outcome = go (is_on_device g.blocks e) refl
    where
      magic : (t : Bool) → is_reserved e p ≡ t → is_on_device g.blocks e ≡ true → cond t (Some outcomes.ReservedMagic) (unsettled phase) ≡ Some outcome → FailsTest g phase (Write e p) outcome
      magic true is on h = subst (FailsTest g phase (Write e p)) (some_outcome outcomes.ReservedMagic outcome h) (inside g e on, reserved e p is)
      magic false is on h = between (Write e p) outcome tt (inside g e on) (unreserved e p is) h

      go : (t : Bool) → is_on_device g.blocks e ≡ t → cond t (cond (is_reserved e p) (Some outcomes.ReservedMagic) (unsettled phase)) (Some outcomes.OutOfRange) ≡ Some outcome → FailsTest g phase (Write e p) outcome
      go true is h = magic (is_reserved e p) refl is h
      go false is h = subst (FailsTest g phase (Write e p)) (some_outcome outcomes.OutOfRange outcome h) (beyond g e is)
  fails (Discard e) outcome = go (is_on_device g.blocks e) refl
    where
      go : (t : Bool) → is_on_device g.blocks e ≡ t → cond t (unsettled phase) (Some outcomes.OutOfRange) ≡ Some outcome → FailsTest g phase (Discard e) outcome
      go true is h = between (Discard e) outcome tt (inside g e is) (λ none. none) h
      go false is h = subst (FailsTest g phase (Discard e)) (some_outcome outcomes.OutOfRange outcome h) (beyond g e is)
  fails Flush outcome = between Flush outcome tt (λ none. none) (λ none. none)
  fails Prepare outcome = λ is. absurd (grind arith)
  fails Commit outcome = λ is. absurd (grind arith)

  unsettled_is : (p : Phase) → ((phase ≡ Arming) ⊎ (phase ≡ Deciding)) → p ≡ phase → unsettled phase ≡ Some (outcomes.Unsettled p)
  unsettled_is p (inl at) same = subst (λ q. unsettled q ≡ Some (outcomes.Unsettled p)) (sym at) (ap (λ q. Some (outcomes.Unsettled q)) (sym (same ∙ at)))
  unsettled_is p (inr at) same = subst (λ q. unsettled q ≡ Some (outcomes.Unsettled p)) (sym at) (ap (λ q. Some (outcomes.Unsettled q)) (sym (same ∙ at)))

  refused : (op : Op) (outcome : Outcome) → FailsTest g phase op outcome → refusal g phase op ≡ Some outcome
  refused op outcomes.OutOfRange = far op
    where
      far : (op : Op) → ReachesBeyond g op → refusal g phase op ≡ Some outcomes.OutOfRange
      far (Read e p) h = cond_is (is_on_device g.blocks e) refl h
        where
          cond_is : (t : Bool) → is_on_device g.blocks e ≡ t → g.blocks < e.first + e.count → cond t None (Some outcomes.OutOfRange) ≡ Some outcomes.OutOfRange
          cond_is true is h = absurd (inside g e is h)
          cond_is false is h = refl
      far (Write e p) h = cond_is (is_on_device g.blocks e) refl h
        where
          cond_is : (t : Bool) → is_on_device g.blocks e ≡ t → g.blocks < e.first + e.count → cond t (cond (is_reserved e p) (Some outcomes.ReservedMagic) (unsettled phase)) (Some outcomes.OutOfRange) ≡ Some outcomes.OutOfRange
          cond_is true is h = absurd (inside g e is h)
          cond_is false is h = refl
      far (Discard e) h = cond_is (is_on_device g.blocks e) refl h
        where
          cond_is : (t : Bool) → is_on_device g.blocks e ≡ t → g.blocks < e.first + e.count → cond t (unsettled phase) (Some outcomes.OutOfRange) ≡ Some outcomes.OutOfRange
          cond_is true is h = absurd (inside g e is h)
          cond_is false is h = refl
      far Flush h = absurd h
      far Prepare h = absurd h
      far Commit h = absurd h
  refused op outcomes.ReservedMagic = magic op
    where
      magic : (op : Op) → (ReachesBeyond g op → ⊥) × WritesMagic op → refusal g phase op ≡ Some outcomes.ReservedMagic
      magic (Write e p) h = on (is_on_device g.blocks e) refl (is_reserved e p) refl
        where
          on : (t : Bool) → is_on_device g.blocks e ≡ t → (s : Bool) → is_reserved e p ≡ s → cond t (cond s (Some outcomes.ReservedMagic) (unsettled phase)) (Some outcomes.OutOfRange) ≡ Some outcomes.ReservedMagic
          on true is true r = refl
          on true is false r = absurd (unreserved e p r h.1)
          on false is s r = absurd (h.0 (beyond g e is))
      magic (Read e p) h = absurd h.1
      magic (Discard e) h = absurd h.1
      magic Flush h = absurd h.1
      magic Prepare h = absurd h.1
      magic Commit h = absurd h.1
  refused op (outcomes.Unsettled q) = between_is op
    where
      between_is : (op : Op) → FailsTest g phase op (outcomes.Unsettled q) → refusal g phase op ≡ Some (outcomes.Unsettled q)
      between_is (Write e p) h = on (is_on_device g.blocks e) refl (is_reserved e p) refl
        where
          on : (t : Bool) → is_on_device g.blocks e ≡ t → (s : Bool) → is_reserved e p ≡ s → cond t (cond s (Some outcomes.ReservedMagic) (unsettled phase)) (Some outcomes.OutOfRange) ≡ Some (outcomes.Unsettled q)
          on true is true r = absurd (h.1 (reserved e p r))
          on true is false r = unsettled_is q h.3 h.4
          on false is s r = absurd (h.0 (beyond g e is))
      between_is (Discard e) h = on (is_on_device g.blocks e) refl
        where
          on : (t : Bool) → is_on_device g.blocks e ≡ t → cond t (unsettled phase) (Some outcomes.OutOfRange) ≡ Some (outcomes.Unsettled q)
          on true is = unsettled_is q h.3 h.4
          on false is = absurd (h.0 (beyond g e is))
      between_is Flush h = unsettled_is q h.3 h.4
      between_is (Read e p) h = absurd h.2
      between_is Prepare h = absurd h.2
      between_is Commit h = absurd h.2
  refused op outcomes.Done = λ h. absurd h
  refused op outcomes.Data = λ h. absurd h
  refused op (outcomes.NoSpace n) = λ h. absurd h
  refused op (outcomes.DiskFault n) = λ h. absurd h
  refused op (outcomes.WrongPhase p) = λ h. absurd h

-- ----------------------------------------------------------------------------------------------------------------
-- What is told.

abbrev is_refusal : Outcome → Bool
is_refusal outcomes.OutOfRange = true
is_refusal outcomes.ReservedMagic = true
is_refusal (outcomes.Unsettled phase) = true
is_refusal (outcomes.WrongPhase phase) = true
is_refusal outcome = false

refusal_is : (o : Outcome) → IsRefusal o → is_refusal o ≡ true
refusal_is outcomes.OutOfRange h = refl
refusal_is outcomes.ReservedMagic h = refl
refusal_is (outcomes.Unsettled phase) h = refl
refusal_is (outcomes.WrongPhase phase) h = refl
refusal_is outcomes.Done h = absurd h
refusal_is outcomes.Data h = absurd h
refusal_is (outcomes.NoSpace n) h = absurd h
refusal_is (outcomes.DiskFault n) h = absurd h

abbrev tells_refusal : Told → Bool
tells_refusal (Answered t op outcome) = is_refusal outcome
tells_refusal told = false

answered_parts : (t u : Ticket) (op other : Op) (o p : Outcome) → Answered t op o ≡ Answered u other p → (t ≡ u) × (o ≡ p)
answered_parts t u op other o p is = (cc is, cc is)

module _ (g : Geometry) (m : Memory) (reply : Reply) where
  -- the task refuses nothing
  abbrev Serves : Task → Type 0
  Serves task = tells_refusal (done_by g m task reply).told ≡ false

  calls_serve : (task : Task) → may_call task ≡ true → Serves task
  calls_serve task calls = calls_tell (λ told. tells_refusal told ≡ false) refl (λ r n. refl) (λ r. refl) (λ t i. refl) (λ t i. refl) g m task reply calls

  acts_serve : (acting : Memory) → Serves (Acts acting)
  acts_serve acting = calls_serve (Acts acting) refl

  -- what tells a refusal so
  abbrev Tells : Task → Ticket → Op → Outcome → Type 0
  Tells task t op outcome = (done_by g m task reply).told ≡ Answered t op outcome

  never : {A : Type 0} (task : Task) (t : Ticket) (op : Op) (outcome : Outcome) → Serves task → is_refusal outcome ≡ true → Tells task t op outcome → A
  never task t op outcome serves is tells = absurd (false≢true (sym serves ∙ ap tells_refusal tells ∙ is))

  module _ (t : Ticket) (asked : Op) (outcome : Outcome) (is : is_refusal outcome ≡ true) where
    -- a request that is refused is so by its tests
    unless : (r : Request) (o : Option Outcome) (task : Task) → Serves task → Tells (unless_refused r o task) t asked outcome → (r.ticket ≡ t) × (o ≡ Some outcome)
    unless r None task serves tells = never task t asked outcome serves is tells
    unless r (Some other) task serves tells = let parts = answered_parts r.ticket t r.op asked other outcome tells in (parts.0, ap Some parts.1)

    free : (task : Task) → Tells (unless_command m task) t asked outcome → (has_command m.hand ≡ false) × Tells task t asked outcome
    free task = go (has_command m.hand) refl
      where
        go : (busy : Bool) → has_command m.hand ≡ busy → Tells (cond busy Waits task) t asked outcome → (has_command m.hand ≡ false) × Tells task t asked outcome
        go true same tells = never Waits t asked outcome refl is tells
        go false same tells = (same, tells)

    abbrev Refuses : Request → Op → Type 0
    Refuses r op = (r.ticket ≡ t) × (IsRead op ⊎ (has_command m.hand ≡ false)) × (refusal g m.phase op ≡ Some outcome)

    request_refuses : (r : Request) (op : Op) → Tells (task_for g m r op) t asked outcome → Refuses r op
    request_refuses r (Read e p) tells =
        let task : Task = cond (r.done == e.count) (Answers r outcomes.Data) (ReadsBlock r (e.first + r.done)) in
        let own = unless r (refusal g m.phase (Read e p)) task (cond_both (r.done == e.count) (Answers r outcomes.Data) (ReadsBlock r (e.first + r.done)) Serves (λ full. refl) (λ more. calls_serve (ReadsBlock r (e.first + r.done)) refl)) tells in
        (own.0, inl tt, own.1)
    request_refuses r (Write e p) tells =
        let b = e.first + r.done in
        let direct : Task = cond (is_direct m m.phase b) (WritesBlock r b) Waits in
        let left : Task = cond (r.done == e.count) (Answers r outcomes.Done) direct in
        let task : Task = cond (is_waiting m r) Waits left in
        let serves = cond_both (is_waiting m r) Waits left Serves (λ waits. refl) (λ first. cond_both (r.done == e.count) (Answers r outcomes.Done) direct Serves (λ full. refl)
        (λ more. cond_both (is_direct m m.phase b) (WritesBlock r b) Waits Serves (λ now. calls_serve (WritesBlock r b) refl) (λ held. refl))) in
        let ready = free (unless_refused r (refusal g m.phase (Write e p)) task) tells in
        let own = unless r (refusal g m.phase (Write e p)) task serves ready.1 in
        (own.0, inr ready.0, own.1)
    request_refuses r (Discard e) tells =
        let ready = free (unless_refused r (refusal g m.phase (Discard e)) (DiscardsFor r)) tells in
        let own = unless r (refusal g m.phase (Discard e)) (DiscardsFor r) refl ready.1 in
        (own.0, inr ready.0, own.1)
    request_refuses r Flush tells =
        let ready = free (unless_refused r (refusal g m.phase Flush) (FlushesFor r)) tells in
        let own = unless r (refusal g m.phase Flush) (FlushesFor r) (calls_serve (FlushesFor r) refl) ready.1 in
        (own.0, inr ready.0, own.1)
    request_refuses r Prepare tells = never Waits t asked outcome refl is tells
    request_refuses r Commit tells = never Waits t asked outcome refl is tells

    -- the commands' turn refuses the first one for the phase
    abbrev NoPlace : Request → Op → Type 0
    NoPlace r op = (r.ticket ≡ t) × HasNoPlace m.phase op × (outcome ≡ outcomes.WrongPhase m.phase)

    no_space : (r : Request) → Serves (Answers r (outcomes.NoSpace 0))
    no_space r = refl

    prepare_serves : (r : Request) (c b : Option Extent) → Serves (prepare_on m r c b)
    prepare_serves r None b = refl
    prepare_serves r (Some c) None = refl
    prepare_serves r (Some c) (Some b) = acts_serve (record m { hand = Preparing r.ticket c.first b.first ReadsBlock0 })

    wrong : (r : Request) (op : Op) → HasNoPlace m.phase op → Tells (Answers r (outcomes.WrongPhase m.phase)) t asked outcome → NoPlace r op
    wrong r op none tells = let parts = answered_parts r.ticket t r.op asked (outcomes.WrongPhase m.phase) outcome tells in (parts.0, none, sym parts.1)

    taken_refuses : (r : Request) (op : Op) → is_command op ≡ true → Tells (taken m r op m.phase) t asked outcome → NoPlace r op
    taken_refuses r op command = go op command m.phase refl
      where
        at : (p : Phase) → m.phase ≡ p → (op : Op) → HasNoPlace p op → Tells (Answers r (outcomes.WrongPhase p)) t asked outcome → NoPlace r op
        at p same op none tells = wrong r op (subst (λ q. HasNoPlace q op) (sym same) none) (subst (λ q. Tells (Answers r (outcomes.WrongPhase q)) t asked outcome) (sym same) tells)

        go : (op : Op) → is_command op ≡ true → (p : Phase) → m.phase ≡ p → Tells (taken m r op p) t asked outcome → NoPlace r op
        go Prepare c Trim same = never (taken m r Prepare Trim) t asked outcome (cond_both (nat_lt (count_of is_free m.kinds) 2) (Answers r (outcomes.NoSpace 0)) (prepare_on m r (picked m.kinds 1) (picked (without_picked m.kinds (picked m.kinds 1)) 1)) Serves (λ few. refl) (λ enough. prepare_serves r (picked m.kinds 1) (picked (without_picked m.kinds (picked m.kinds 1)) 1))) is
        go Prepare c Arming same = never (Acts (record m { hand = Preparing r.ticket 0 0 WritesFirstLog })) t asked outcome (acts_serve (record m { hand = Preparing r.ticket 0 0 WritesFirstLog })) is
        go Prepare c Checkpoint same = at Checkpoint same Prepare (λ e. grind arith, λ e. grind arith)
        go Prepare c Deciding same = at Deciding same Prepare (λ e. grind arith, λ e. grind arith)
        go Prepare c Committed same = at Committed same Prepare (λ e. grind arith, λ e. grind arith)
        go Commit c Trim same = at Trim same Commit (λ e. grind arith, λ e. grind arith)
        go Commit c Arming same = at Arming same Commit (λ e. grind arith, λ e. grind arith)
        go Commit c Checkpoint same = never (Acts (record m { hand = Committing r.ticket false FlushesAll })) t asked outcome (acts_serve (record m { hand = Committing r.ticket false FlushesAll })) is
        go Commit c Deciding same = never (Acts (record m { hand = Committing r.ticket true FlushesAll })) t asked outcome (acts_serve (record m { hand = Committing r.ticket true FlushesAll })) is
        go Commit c Committed same = at Committed same Commit (λ e. grind arith, λ e. grind arith)
        go (Read e p) c phase same = absurd (false≢true c)
        go (Write e p) c phase same = absurd (false≢true c)
        go (Discard e) c phase same = absurd (false≢true c)
        go Flush c phase same = absurd (false≢true c)

  -- the worker refuses nothing
  picked_serves : (r : Request) (batch : Extent → Batch) (o : Option Extent) → Serves (on_picked m r batch o)
  picked_serves r batch None = refl
  picked_serves r batch (Some e) = acts_serve (record m { kinds = with_kind m.kinds e kinds.Backup; hand = Batching (batch e) })

  formed_serves : (r : Request) (e : Extent) (log : Generation) → Serves (formed g m r e log)
  formed_serves r e log =
      let move : Task = on_picked m r (λ to. batch_for r (jobs.Move (e.first + r.done) to.first) []) (picked m.kinds 1) in
      let link : Task = on_picked m r (λ dest. batch_for r (jobs.Link dest.first) (spelling g log ∷ [])) (picked m.kinds 1) in
      let copy : Task = on_picked m r (λ dest. batch_for r (copy_onto (copied_from m r e) dest) []) (picked m.kinds (copied_from m r e).count) in
      let full : Task = cond (length log.entries == room g.block_size) link copy in
      let current : Task = cond (is_kind_current (kind_at m.kinds (e.first + r.done))) move full in
      let again : Memory = with_batch m (batch_for r jobs.Rewrite []) in
      cond_both (not m.clean) (Acts again) current Serves (λ dirty. acts_serve again) (λ clean.
      cond_both (is_kind_current (kind_at m.kinds (e.first + r.done))) move full Serves (λ moves. picked_serves r (λ to. batch_for r (jobs.Move (e.first + r.done) to.first) []) (picked m.kinds 1)) (λ stays.
      cond_both (length log.entries == room g.block_size) link copy Serves (λ is. picked_serves r (λ dest. batch_for r (jobs.Link dest.first) (spelling g log ∷ [])) (picked m.kinds 1))
      (λ more. picked_serves r (λ dest. batch_for r (copy_onto (copied_from m r e) dest) []) (picked m.kinds (copied_from m r e).count))))

  worker_serves : (hand : Hand) (phase : Phase) → Serves (worker_task g m hand phase)
  worker_serves (Batching b) phase = acts_serve m
  worker_serves Empty Trim = refl
  worker_serves Empty Arming = refl
  worker_serves Empty Checkpoint = served (head g m)
    where
      served_for : (r : Request) (op : Op) (log : Option Generation) → Serves (formed_for g m r op log)
      served_for r (Write e p) (Some log) = formed_serves r e log
      served_for r (Write e p) None = refl
      served_for r (Read e p) log = refl
      served_for r (Discard e) log = refl
      served_for r Flush log = refl
      served_for r Prepare log = refl
      served_for r Commit log = refl

      served : (o : Option Request) → Serves (serve g m o)
      served None = refl
      served (Some r) = served_for r r.op m.log
  worker_serves Empty Deciding = refl
  worker_serves Empty Committed = refl
  worker_serves (Preparing t c b act) phase = refl
  worker_serves (Committing t again act) phase = refl

-- ----------------------------------------------------------------------------------------------------------------

same_one : (o : Option Request) (x y : Request) → o ≡ Some x → o ≡ Some y → x ≡ y
same_one o x y here there = let e : Some x ≡ Some y = sym here ∙ there in cc e

module _ (g : Geometry) (m : Memory) (reply : Reply) (s : MemoryIsSound g m) (r : Request) (outcome : Outcome) (waits : request_of r.ticket m.requests ≡ Some r) (is : IsRefusal outcome) where
  refuses : is_refusal outcome ≡ true
  refuses = refusal_is outcome is

  -- a request's own turn
  own_refuses : (ticket : Ticket) → (done_by g m (task_of g m (Map ticket)) reply).told ≡ Answered r.ticket r.op outcome → IsRefused g m (Map ticket) r outcome
  own_refuses ticket = go (request_of ticket m.requests) refl
    where
      go : (found : Option Request) → request_of ticket m.requests ≡ found → (done_by g m (map_task g m found) reply).told ≡ Answered r.ticket r.op outcome → IsRefused g m (Map ticket) r outcome
      go None there tells = never g m reply Waits r.ticket r.op outcome refl refuses tells
      go (Some q) there tells =
          let own = request_refuses g m reply r.ticket r.op outcome refuses q q.op tells in
          let at : ticket ≡ r.ticket = sym (found_ticket ticket m.requests q there) ∙ own.0 in
          let same : q ≡ r = same_one (request_of ticket m.requests) q r there (ap (λ t. request_of t m.requests) at ∙ waits) in
          (at, subst (λ (x : Request). IsRead x.op ⊎ (has_command m.hand ≡ false)) same own.1, fails g m.phase r.op outcome (ap (λ (x : Request). refusal g m.phase x.op) (sym same) ∙ own.2))

  -- its task is that answer
  answers_so : (op : Op) → (IsRead op ⊎ (has_command m.hand ≡ false)) → refusal g m.phase op ≡ Some outcome → task_for g m r op ≡ Answers r outcome
  answers_so (Read e p) ready fault = ap (λ o. unless_refused r o (cond (r.done == e.count) (Answers r outcomes.Data) (ReadsBlock r (e.first + r.done)))) fault
  answers_so (Write e p) (inl read) fault = absurd read
  answers_so (Write e p) (inr idle) fault = rw (idle, fault) refl
  answers_so (Discard e) (inl read) fault = absurd read
  answers_so (Discard e) (inr idle) fault = rw (idle, fault) refl
  answers_so Flush (inl read) fault = absurd read
  answers_so Flush (inr idle) fault = rw (idle, fault) refl
  answers_so Prepare ready fault = absurd (let clash : None ≡ Some outcome = fault in grind arith)
  answers_so Commit ready fault = absurd (let clash : None ≡ Some outcome = fault in grind arith)

  own_told : (ticket : Ticket) → IsRefused g m (Map ticket) r outcome → (done_by g m (task_of g m (Map ticket)) reply).told ≡ Answered r.ticket r.op outcome
  own_told ticket h =
      let task : task_of g m (Map ticket) ≡ Answers r outcome = ap (λ t. map_task g m (request_of t m.requests)) h.0 ∙ ap (map_task g m) waits ∙ answers_so r.op h.1 (refused g m.phase r.op outcome h.2) in
      ap (λ t. (done_by g m t reply).told) task

  -- the commands' turn
  commands_refuse : (hand : Hand) → m.hand ≡ hand → (done_by g m (command_task m hand) reply).told ≡ Answered r.ticket r.op outcome → IsRefused g m Command r outcome
  commands_refuse (Batching b) at tells = never g m reply Waits r.ticket r.op outcome refl refuses tells
  commands_refuse (Preparing t c b act) at tells = never g m reply (Acts m) r.ticket r.op outcome (acts_serve g m reply m) refuses tells
  commands_refuse (Committing t again act) at tells = never g m reply (Acts m) r.ticket r.op outcome (acts_serve g m reply m) refuses tells
  commands_refuse Empty at tells = first (first_of m.requests) refl tells
    where
      first : (found : Option Request) → first_of m.requests ≡ found → (done_by g m (take_first m found) reply).told ≡ Answered r.ticket r.op outcome → IsRefused g m Command r outcome
      first None there tells = never g m reply Waits r.ticket r.op outcome refl refuses tells
      first (Some q) there tells =
          let command : is_command q.op ≡ true = find_passes (λ (x : Request). is_command x.op) m.requests q there in
          let own = taken_refuses g m reply r.ticket r.op outcome refuses q q.op command tells in
          let found = found_own (λ (x : Request). is_command x.op) m.requests q (own_tickets m.requests s.rising) there in
          let same : q ≡ r = same_one (request_of r.ticket m.requests) q r (ap (λ t. request_of t m.requests) (sym own.0) ∙ found) waits in
          subst (IsRefused g m Command r) (sym own.2) (at, there ∙ ap Some same, subst (λ (x : Request). HasNoPlace m.phase x.op) same own.1, refl)

  -- a command without a place is answered so
  no_place : (op : Op) (phase : Phase) → HasNoPlace phase op → taken m r op phase ≡ Answers r (outcomes.WrongPhase phase)
  no_place Prepare Trim h = absurd (h.0 refl)
  no_place Prepare Arming h = absurd (h.1 refl)
  no_place Prepare Checkpoint h = refl
  no_place Prepare Deciding h = refl
  no_place Prepare Committed h = refl
  no_place Commit Trim h = refl
  no_place Commit Arming h = refl
  no_place Commit Checkpoint h = absurd (h.0 refl)
  no_place Commit Deciding h = absurd (h.1 refl)
  no_place Commit Committed h = refl
  no_place (Read e p) phase h = absurd h
  no_place (Write e p) phase h = absurd h
  no_place (Discard e) phase h = absurd h
  no_place Flush phase h = absurd h

  commands_told : (o : Outcome) → IsRefused g m Command r o → (done_by g m (task_of g m Command) reply).told ≡ Answered r.ticket r.op o
  commands_told (outcomes.WrongPhase p) h =
      let task : task_of g m Command ≡ Answers r (outcomes.WrongPhase m.phase) = ap (command_task m) h.0 ∙ ap (take_first m) h.1 ∙ no_place r.op m.phase h.2 in
      ap (λ t. (done_by g m t reply).told) task ∙ ap (λ q. Answered r.ticket r.op (outcomes.WrongPhase q)) (sym h.3)
  commands_told outcomes.Done h = absurd h
  commands_told outcomes.Data h = absurd h
  commands_told (outcomes.NoSpace n) h = absurd h
  commands_told (outcomes.DiskFault n) h = absurd h
  commands_told outcomes.OutOfRange h = absurd h
  commands_told outcomes.ReservedMagic h = absurd h
  commands_told (outcomes.Unsettled p) h = absurd h

  pub refused_exactly : (turn : Turn) → ((done_by g m (task_of g m turn) reply).told ≡ Answered r.ticket r.op outcome) ↔ IsRefused g m turn r outcome
  refused_exactly (Map ticket) = (own_refuses ticket, own_told ticket)
  refused_exactly Worker = (λ tells. never g m reply (task_of g m Worker) r.ticket r.op outcome (worker_serves g m reply m.hand m.phase) refuses tells, λ none. absurd none)
  refused_exactly Command = (commands_refuse m.hand refl, commands_told outcome)
