-- From a flush that is done to the end of a commit whatever a cut leaves can be given up forward.
use Rattle.std.proofs.Common.{ℕ, zero, suc, ◌+◌, ◌==◌, ◌<◌, ◌≡◌, ◌≢◌, ◌⊎◌, Bool, true, false, cond, List, [], ◌∷◌, Option, Some, None, arith, refl, sym, ap, ◌∙◌, subst, inl, inr, Contains}
use Rattle.std.proofs.lemmas.Bool.{cases_eq}
use Rattle.bow_units.specs.Magics.{IsPlain}
use Rattle.bow_units.specs.declared.sizes.Geometry.{Geometry}
use Rattle.bow_units.specs.declared.requests.Op.{Op}
use Rattle.bow_units.specs.declared.requests.Op.TheVariants.{Read, Write, Discard, Flush, Prepare, Commit}
use Rattle.bow_units.specs.declared.requests.Outcome.{Outcome}
use Rattle.bow_units.specs.declared.requests.Outcome.TheVariants as outcomes
use Rattle.bow_units.specs.declared.requests.Phase.{Phase}
use Rattle.bow_units.specs.declared.requests.Phase.TheVariants.{Trim, Arming, Checkpoint, Deciding, Committed}
use Rattle.bow_chain.specs.Contents.{Contents}
use Rattle.bow_chain.specs.Kept.{Keeps}
use Rattle.bow_flat.specs.Flat.{Flat, May, after}
use Rattle.bow_flat.specs.Flat.Event.{Flushes}
use Rattle.bow_guard.specs.Cuts.{Candidates, IsCut, IsFlushed}
use Rattle.bow_guard.specs.Standing.{Shows, StandsInPhase, Ahead, IsSoundImage, Forwardable, forwarded}
use Rattle.bow_guard.proofs.Device.{one_of, given_cases}
use Rattle.bow_guard.proofs.Phases.{may_plain}
use Rattle.bow_queue.specs.declared.tickets.Ticket.{Ticket}
use Rattle.bow_machine.specs.MemoryIsSound.{FoundIn, IsForCommand}
use Rattle.bow_machine.specs.Requests.{Request, request_of, refusal}
use Rattle.bow_machine.specs.Memory.{Memory, is_direct, Hand, Empty, Batching, Preparing, Committing, PrepareAct, ReadsBlock0, WritesCurrent, WritesBackup, FlushesCopies, WritesFirstLog, FlushesFirstLog, CommitAct, FlushesAll, ReadsCurrent, WritesBlock0, FlushesDecision, place_of, has_command}
use Rattle.bow_machine.specs.Calls.{Call, Reply, Failed, Succeeded, Gave, WriteTried, Does, DoesIt}
use Rattle.bow_machine.specs.Tasks.{Task, Waits, Answers, WritesBlock, ReadsBlock, FlushesFor, DiscardsFor, Acts, Map, Command, unless_refused, unless_command, is_waiting, task_for, map_task, task_of}
use Rattle.bow_machine.specs.Steps.{Step, Answered, answered_for, call_of_commit, commit_step, committing_events, released, without_waiting, act_step, call_in_hand, call_of, step_of}
use Rattle.bow_machine.specs.Laws.{after_all}
use Rattle.bow_machine.specs.Ahead.{IsBytes}
use Rattle.bow_machine.specs.Forward.{HasFlushed, GoesForward, FlushGoesForward, AdmitGoesForward, CommandGoesForward, ForwardIsForwardable, CommandIsForwardable, SoundAreLed}
use Rattle.bow_machine.proofs.Held.{PrepareHeld, CommitHeld, HandHeld, IsHeld}
use Rattle.bow_machine.proofs.Joined.{held}
use Rattle.bow_machine.proofs.Whole.{step_keeps}
use Rattle.bow_machine.proofs.Cuts.{machine_cut}
use Rattle.bow_machine.proofs.Ahead.{led_keeps, log_has_magic, ahead_so}
use Rattle.bow_machine.proofs.Forward.{flushed_is_ahead}
use Rattle.bow_machine.proofs.Prepared.{place_above}
use Rattle.bow_machine.proofs.Commands.{IsCommandTask, command_acts}

-- all was flushed, or the commit is done
abbrev IsSettled : Geometry → Memory → Contents → Candidates → Type 0
IsSettled g m now may = HasFlushed g m now may ⊎ (m.phase ≡ Committed)

-- the step changes no current content, and where these are pending they stay so; all is flushed after it
record Goes (g : Geometry) (now : Contents) (may : Candidates) (f : Flat) (step : Step) : Type 0 where
  current : (after_all g.blocks step.events f).current ≡ f.current
  pending : (after_all g.blocks step.events f).pending ≡ f.current
  flushed : IsSettled g step.memory now may

-- what a cut leaves after the step's call it might have left before, or it shows the current contents
abbrev CutsBefore : Geometry → Candidates → Candidates → Flat → Type 0
CutsBefore g may new_may f = (image : Contents) → IsCut g new_may image → IsCut g may image ⊎ Shows g f.current image

-- the task goes forward
abbrev TaskGoes : Geometry → Memory → Contents → Candidates → Contents → Candidates → Flat → Reply → Task → Type 0
TaskGoes g m now may new_now new_may f reply task = DoesIt g (call_of g m task) reply now may new_now new_may
    → ((reply ≡ Failed → call_of g m task ≡ None) → Goes g new_now new_may f (step_of g now m task reply))
    × CutsBefore g may new_may f

-- a call that failed is one
refuted : {A : Type 0} (call : Call) → (Failed ≡ Failed → Some call ≡ None) → A
refuted call none = absurd (let clash : Some call ≡ None = none refl in grind arith)

module _ (g : Geometry) (now new_now : Contents) (may new_may : Candidates) (f : Flat) (m : Memory) (s : IsHeld g m now may f) (known : f.pending ≡ f.current) where
  -- nothing else may be left
  same_cuts : new_may ≡ may → CutsBefore g may new_may f
  same_cuts same image cut = inl (subst (λ c. IsCut g c image) same cut)

  flushed_cuts : IsFlushed g now new_may → CutsBefore g may new_may f
  flushed_cuts flushed image cut = inl (λ b on. subst (Contains (may b)) (sym (one_of (now b) (image b) (subst (λ vs. Contains vs (image b)) (flushed b on) (cut b on)))) (s.held b on))

  some : 0 < g.blocks
  some = omega (arith, s.memory.sizes.enough)

  -- the deciding write, where all was flushed before
  decided_cuts : (content : List ℕ) → IsFlushed g now may → content ≡ now (place_of m 0) → WriteTried 0 content now new_now may new_may → CutsBefore g may new_may f
  decided_cuts content flushed read tried image cut = elim (given_cases 0 content now new_now may new_may (image 0) tried.given (cut 0 some)) [
    | inl old ↦ inl (before old)
    | inr is ↦ inr (record { plain = subst IsPlain (sym is) plain; each = shows is })
  ]
    where
      others : (b : ℕ) → b < g.blocks → b ≢ 0 → Contains (may b) (image b)
      others b on ne = subst (λ vs. Contains vs (image b)) (tried.given.others_may b ne) (cut b on)

      before : Contains (may 0) (image 0) → IsCut g may image
      before old b on = elim (cases_eq b 0) [ inl is ↦ subst (λ x. Contains (may x) (image x)) (sym is) old | inr ne ↦ others b on ne ]

      current : May (f.current 0) content
      current = subst (May (f.current 0)) (sym read) (s.shown 0 some)

      plain : IsPlain content
      plain = may_plain (f.current 0) content s.state.current_0 current

      shows : image 0 ≡ content → (b : ℕ) → b < g.blocks → May (f.current b) (image b)
      shows is zero on = subst (May (f.current 0)) (sym is) current
      shows is (suc b) on = subst (May (f.current (suc b)))
          (ap now (place_above m.log (suc b) (omega arith)) ∙ sym (one_of (now (suc b)) (image (suc b)) (subst (λ vs. Contains vs (image (suc b))) (flushed (suc b) on) (others (suc b) on (λ z. omega (arith, z))))))
          (s.shown (suc b) on)

  -- where a commit was found, all is flushed
  found : (again : Bool) → FoundIn m again → IsFlushed g now new_may → (hand : Hand) → IsSettled g (record m { hand = hand }) now new_may
  found false is flushed hand = inl (inr (is, flushed))
  found true is flushed hand = inl (inl is)

  module _ (t : Ticket) (waits : IsForCommand m.requests t Commit) where
    abbrev CommitGoes : Bool → CommitAct → Reply → Type 0
    CommitGoes again act reply = (reply ≡ Failed → Some (call_of_commit m act) ≡ None) → Goes g new_now new_may f (commit_step m t again act reply)

    end_goes : (again : Bool) → CommitGoes again FlushesDecision Succeeded
    end_goes again ok = subst (λ o. Goes g new_now new_may f (answered_for (released m) o (λ r. outcomes.Done) (λ r. committing_events again))) (sym waits.waits) (ends again)
      where
        ends : (again : Bool) → Goes g new_now new_may f (answered_for (released m) (Some waits.command) (λ r. outcomes.Done) (λ r. committing_events again))
        ends false = record { current = refl; pending = known; flushed = inr refl }
        ends true = record { current = refl; pending = refl; flushed = inr refl }

    commit_goes : (again : Bool) (act : CommitAct) (reply : Reply) → CommitHeld g m again act now may → Does g (call_of_commit m act) reply now may new_now new_may → CommitGoes again act reply × CutsBefore g may new_may f
    commit_goes again FlushesAll Failed p does = (refuted _, same_cuts does.1)
    commit_goes false FlushesAll Succeeded p does =
        (λ ok. record { current = refl; pending = known; flushed = subst (λ i. IsSettled g (record m { hand = Committing t false ReadsCurrent }) i new_may) (sym does.0) (found false p does.1 (Committing t false ReadsCurrent)) }, flushed_cuts does.1)
    commit_goes true FlushesAll Succeeded p does =
        (λ ok. record { current = refl; pending = known; flushed = subst (λ i. IsSettled g (record m { hand = Committing t true ReadsCurrent }) i new_may) (sym does.0) (found true p does.1 (Committing t true ReadsCurrent)) }, flushed_cuts does.1)
    commit_goes again FlushesAll (Gave v) p does = absurd does
    commit_goes again ReadsCurrent Failed p does = (refuted _, same_cuts does.1)
    commit_goes again ReadsCurrent Succeeded p does = absurd does
    commit_goes false ReadsCurrent (Gave v) p does =
        (λ ok. record { current = refl; pending = known; flushed = inl (inr (p.0, subst (λ i. IsFlushed g i new_may) (sym does.1) (subst (IsFlushed g now) (sym does.2) p.1))) }, same_cuts does.2)
    commit_goes true ReadsCurrent (Gave v) p does = (λ ok. record { current = refl; pending = known; flushed = inl (inl p.0) }, same_cuts does.2)
    commit_goes again (WritesBlock0 content) Failed p does = (refuted _, decided_cuts content p.1 p.2 does)
    commit_goes false (WritesBlock0 content) Succeeded p does = (λ ok. record { current = refl; pending = refl; flushed = inl (inl refl) }, decided_cuts content p.1 p.2 does.0)
    commit_goes true (WritesBlock0 content) Succeeded p does = (λ ok. record { current = refl; pending = known; flushed = inl (inl refl) }, decided_cuts content p.1 p.2 does.0)
    commit_goes again (WritesBlock0 content) (Gave v) p does = absurd does
    commit_goes again FlushesDecision Failed p does = (refuted _, same_cuts does.1)
    commit_goes again FlushesDecision Succeeded p does = (end_goes again, flushed_cuts does.1)
    commit_goes again FlushesDecision (Gave v) p does = absurd does

-- ----------------------------------------------------------------------------------------------------------------
-- A turn of the commands.

-- in these phases no prepare is in hand
no_prepare : {A : Type 0} (g : Geometry) (m : Memory) (now : Contents) (may : Candidates) (c b : ℕ) (act : PrepareAct) → IsSettled g m now may → PrepareHeld g m c b act now → A
no_prepare g m now may c b act settled p = absurd (elim phases [ inl is ↦ trim is | inr is ↦ arming is ])
  where
    phase_of : (act : PrepareAct) → PrepareHeld g m c b act now → (m.phase ≡ Trim) ⊎ (m.phase ≡ Arming)
    phase_of ReadsBlock0 p = inl p.phase
    phase_of (WritesCurrent v) p = inl p.0.phase
    phase_of (WritesBackup v) p = inl p.0.phase
    phase_of (FlushesCopies v) p = inl p.0.phase
    phase_of WritesFirstLog p = inr p
    phase_of FlushesFirstLog p = inr p.0

    phases : (m.phase ≡ Trim) ⊎ (m.phase ≡ Arming)
    phases = phase_of act p

    trim : m.phase ≡ Trim → ⊥
    trim is = elim settled [
      | inl flushed ↦ elim flushed [
        | inl at ↦ let clash : Trim ≡ Deciding = sym is ∙ at in grind arith
        | inr at ↦ let clash : Trim ≡ Checkpoint = sym is ∙ at.0 in grind arith
      ]
      | inr at ↦ let clash : Trim ≡ Committed = sym is ∙ at in grind arith
    ]

    arming : m.phase ≡ Arming → ⊥
    arming is = elim settled [
      | inl flushed ↦ elim flushed [
        | inl at ↦ let clash : Arming ≡ Deciding = sym is ∙ at in grind arith
        | inr at ↦ let clash : Arming ≡ Checkpoint = sym is ∙ at.0 in grind arith
      ]
      | inr at ↦ let clash : Arming ≡ Committed = sym is ∙ at in grind arith
    ]

-- whether all is settled depends on the phase
settled_in : (g : Geometry) (m n : Memory) (now : Contents) (may : Candidates) → n.phase ≡ m.phase → IsSettled g m now may → IsSettled g n now may
settled_in g m n now may same settled = elim settled [
  | inl flushed ↦ inl (elim flushed [ inl at ↦ inl (same ∙ at) | inr at ↦ inr (same ∙ at.0, at.1) ])
  | inr at ↦ inr (same ∙ at)
]

-- and on what the disk holds
settled_on : (g : Geometry) (m : Memory) (now new_now : Contents) (may new_may : Candidates) → new_now ≡ now → new_may ≡ may → IsSettled g m now may → IsSettled g m new_now new_may
settled_on g m now new_now may new_may same_now same_may settled = subst (λ i. IsSettled g m i new_may) (sym same_now) (subst (IsSettled g m now) (sym same_may) settled)

hand_goes : (g : Geometry) (m : Memory) (now new_now : Contents) (may new_may : Candidates) (f : Flat) (hand : Hand) (reply : Reply) → m.hand ≡ hand → has_command hand ≡ true → IsHeld g m now may f → f.pending ≡ f.current
    → IsSettled g m now may → DoesIt g (call_in_hand g m hand) reply now may new_now new_may
    → ((reply ≡ Failed → call_in_hand g m hand ≡ None) → Goes g new_now new_may f (act_step g now m hand reply)) × CutsBefore g may new_may f
hand_goes g m now new_now may new_may f Empty reply is command s known settled does = absurd (grind arith)
hand_goes g m now new_now may new_may f (Batching b) reply is command s known settled does = absurd (grind arith)
hand_goes g m now new_now may new_may f (Preparing t c b act) reply is command s known settled does =
    let h = subst (λ h. HandHeld g m h now may m.log) is s.in_hand in
    no_prepare g m now may c b act settled h.0
hand_goes g m now new_now may new_may f (Committing t again act) reply is command s known settled does =
    let h = subst (λ h. HandHeld g m h now may m.log) is s.in_hand in
    commit_goes g now new_now may new_may f m s known t h.1 again act reply h.0 does

command_goes : (g : Geometry) (m : Memory) (now new_now : Contents) (may new_may : Candidates) (f : Flat) (reply : Reply) → IsHeld g m now may f → f.pending ≡ f.current → IsSettled g m now may
    → TaskGoes g m now may new_now new_may f reply (task_of g m Command)
command_goes g m now new_now may new_may f reply s known settled = go (task_of g m Command) (command_acts g m now may f s)
  where
    go : (task : Task) → IsCommandTask g now may f task → TaskGoes g m now may new_now new_may f reply task
    go Waits is does = (λ ok. record { current = refl; pending = known; flushed = settled_on g m now new_now may new_may does.0 does.1 settled }, same_cuts g now new_now may new_may f m s known does.1)
    go (Answers r outcome) is does = (λ ok. record { current = refl; pending = known; flushed = settled_on g (without_waiting m r.ticket) now new_now may new_may does.0 does.1 (settled_in g m (without_waiting m r.ticket) now may refl settled) }, same_cuts g now new_now may new_may f m s known does.1)
    go (Acts memory) is does = hand_goes g memory now new_now may new_may f memory.hand reply refl is.commands is.stands known (settled_in g m memory now may (sym is.stands.phases ∙ s.phases) settled) does
    go (WritesBlock r b) is does = absurd is
    go (ReadsBlock r b) is does = absurd is
    go (FlushesFor r) is does = absurd is
    go (DiscardsFor r) is does = absurd is

-- ----------------------------------------------------------------------------------------------------------------

pub command_goes_forward : CommandGoesForward
command_goes_forward g m reply now new_now may new_may f k ok does =
    let goes = (command_goes g m now new_now may new_may k.state reply (held g m now may k.state k.stands) (k.pending ∙ sym k.current) k.flushed does).0 ok in
    let task = task_of g m Command in
    record {
      state = after_all g.blocks (step_of g now m task reply).events k.state;
      stands = (step_keeps g m Command reply now new_now may new_may k.state k.stands does).1;
      led = led_keeps g m Command reply now new_now may new_may k.state k.stands k.led ok does;
      current = goes.current ∙ k.current;
      pending = goes.pending ∙ k.current;
      known = k.known;
      flushed = goes.flushed;
    }

-- an image that keeps the checkpoint is sound
keeps_sound : (g : Geometry) (used : ℕ → Bool) (saved image : Contents) → Keeps g used saved image → IsSoundImage g image
keeps_sound g used saved image k = (k.log, k.older, k.sound)

module _ (g : Geometry) (m : Memory) (now : Contents) (may : Candidates) (f : Flat) (k : GoesForward g m now may f) (image : Contents) (bytes : IsBytes (image 0)) (cut : IsCut g may image) where
  abbrev state : Flat
  state = k.state

  -- what is ahead of the state flushed is ahead of this one
  ahead_of : Ahead g (after g.blocks Flushes state) image → Ahead g f image
  ahead_of ahead log spells = subst (λ c. Shows g c (forwarded image log)) (k.current ∙ sym k.known) (ahead log spells)

  from_flushed : HasFlushed g m now may → Forwardable g f image
  from_flushed flushed =
      let both = flushed_is_ahead g m now may state image k.stands k.led flushed cut in
      elim flushed [
        | inl at ↦ elim (subst (λ p. StandsInPhase g p (after g.blocks Flushes state) image) (k.stands.phases ∙ at) both.0) [
          | inl keeps ↦ inr (keeps_sound g state.used state.saved image keeps, ahead_of (λ log spells. both.1 (inr (log_has_magic g (image 0) log bytes spells)) log spells))
          | inr shows ↦ inl (subst (λ c. Shows g c image) k.current shows)
        ]
        | inr at ↦ inr (keeps_sound g state.used state.saved image (subst (λ p. StandsInPhase g p (after g.blocks Flushes state) image) (k.stands.phases ∙ at.0) both.0), ahead_of (both.1 (inl at.0)))
      ]

  forwardable : Forwardable g f image
  forwardable = elim k.flushed [
    | inl flushed ↦ from_flushed flushed
    | inr at ↦ inl (subst (λ c. Shows g c image) k.pending (subst (λ p. StandsInPhase g p state image) (k.stands.phases ∙ at) (machine_cut g m now may state image k.stands cut)))
  ]

pub forward_is_forwardable : ForwardIsForwardable
forward_is_forwardable g m now may f image k cut bytes = forwardable g m now may f k image bytes cut

pub command_is_forwardable : CommandIsForwardable
command_is_forwardable g m reply now new_now may new_may f image k does cut bytes =
    elim ((command_goes g m now new_now may new_may k.state reply (held g m now may k.state k.stands) (k.pending ∙ sym k.current) k.flushed does).1 image cut) [
      | inl old ↦ forwardable g m now may f k image bytes old
      | inr shows ↦ inl (subst (λ c. Shows g c image) k.current shows)
    ]

pub admit_goes_forward : AdmitGoesForward
admit_goes_forward g m now may f r stands k = record {
  state = k.state;
  stands = stands k.state k.stands;
  led = k.led;
  current = k.current;
  pending = k.pending;
  known = k.known;
  flushed = elim k.flushed [ inl flushed ↦ inl (elim flushed [ inl at ↦ inl at | inr at ↦ inr at ]) | inr at ↦ inr at ];
}

-- ----------------------------------------------------------------------------------------------------------------
-- A flush that is done.

-- the tasks that are for a request tell of it
abbrev IsOf : Request → Task → Type 0
IsOf r Waits = Unit {0}
IsOf r (Answers q outcome) = q ≡ r
IsOf r (WritesBlock q b) = q ≡ r
IsOf r (ReadsBlock q b) = q ≡ r
IsOf r (FlushesFor q) = q ≡ r
IsOf r (DiscardsFor q) = q ≡ r
IsOf r (Acts memory) = ⊥

refused_of : (r : Request) (refused : Option Outcome) (task : Task) → IsOf r task → IsOf r (unless_refused r refused task)
refused_of r None task is = is
refused_of r (Some outcome) task is = refl

command_of : (r : Request) (m : Memory) (task : Task) → IsOf r task → IsOf r (unless_command m task)
command_of r m task is = go (has_command m.hand)
  where
    go : (busy : Bool) → IsOf r (cond busy Waits task)
    go true = tt
    go false = is

either_of : (r : Request) (test : Bool) (a b : Task) → IsOf r a → IsOf r b → IsOf r (cond test a b)
either_of r true a b one other = one
either_of r false a b one other = other

task_is_of : (g : Geometry) (m : Memory) (r : Request) (op : Op) → IsOf r (task_for g m r op)
task_is_of g m r (Read e p) =
    refused_of r (refusal g m.phase (Read e p)) (cond (r.done == e.count) (Answers r outcomes.Data) (ReadsBlock r (e.first + r.done))) (either_of r (r.done == e.count) (Answers r outcomes.Data) (ReadsBlock r (e.first + r.done)) refl refl)
task_is_of g m r (Write e p) =
    let b = e.first + r.done in
    let direct : Task = cond (is_direct m m.phase b) (WritesBlock r b) Waits in
    let left : Task = cond (r.done == e.count) (Answers r outcomes.Done) direct in
    let task : Task = cond (is_waiting m r) Waits left in
    command_of r m (unless_refused r (refusal g m.phase (Write e p)) task) (refused_of r (refusal g m.phase (Write e p)) task
    (either_of r (is_waiting m r) Waits left tt (either_of r (r.done == e.count) (Answers r outcomes.Done) direct refl (either_of r (is_direct m m.phase b) (WritesBlock r b) Waits refl tt))))
task_is_of g m r (Discard e) = command_of r m (unless_refused r (refusal g m.phase (Discard e)) (DiscardsFor r)) (refused_of r (refusal g m.phase (Discard e)) (DiscardsFor r) refl)
task_is_of g m r Flush = command_of r m (unless_refused r (refusal g m.phase Flush) (FlushesFor r)) (refused_of r (refusal g m.phase Flush) (FlushesFor r) refl)
task_is_of g m r Prepare = tt
task_is_of g m r Commit = tt

answered_inj : (t u : Ticket) (op other : Op) (o p : Outcome) → Answered t op o ≡ Answered u other p → (op ≡ other) × (o ≡ p)
answered_inj t u op other o p is = (cc is, cc is)

module _ (g : Geometry) (m : Memory) (now : Contents) (reply : Reply) (t : Ticket) where
  -- what is told of a request names what it asks
  asks : (r : Request) (op : Op) (outcome : Outcome) (task : Task) → IsOf r task → (step_of g now m task reply).told ≡ Answered t op outcome → r.op ≡ op
  asks r op outcome Waits is told = absurd (grind arith)
  asks r op outcome (Answers q o) is told = ap (λ (x : Request). x.op) (sym is) ∙ (answered_inj q.ticket t q.op op o outcome told).0
  asks r op outcome (WritesBlock q b) is told = go reply told
    where
      go : (reply : Reply) → (step_of g now m (WritesBlock q b) reply).told ≡ Answered t op outcome → r.op ≡ op
      go Failed told = ap (λ (x : Request). x.op) (sym is) ∙ (answered_inj q.ticket t q.op op _ outcome told).0
      go Succeeded told = absurd (grind arith)
      go (Gave v) told = absurd (grind arith)
  asks r op outcome (ReadsBlock q b) is told = go reply told
    where
      go : (reply : Reply) → (step_of g now m (ReadsBlock q b) reply).told ≡ Answered t op outcome → r.op ≡ op
      go Failed told = ap (λ (x : Request). x.op) (sym is) ∙ (answered_inj q.ticket t q.op op _ outcome told).0
      go Succeeded told = ap (λ (x : Request). x.op) (sym is) ∙ (answered_inj q.ticket t q.op op _ outcome told).0
      go (Gave v) told = absurd (grind arith)
  asks r op outcome (FlushesFor q) is told = go reply told
    where
      go : (reply : Reply) → (step_of g now m (FlushesFor q) reply).told ≡ Answered t op outcome → r.op ≡ op
      go Failed told = ap (λ (x : Request). x.op) (sym is) ∙ (answered_inj q.ticket t q.op op _ outcome told).0
      go Succeeded told = ap (λ (x : Request). x.op) (sym is) ∙ (answered_inj q.ticket t q.op op _ outcome told).0
      go (Gave v) told = ap (λ (x : Request). x.op) (sym is) ∙ (answered_inj q.ticket t q.op op _ outcome told).0
  asks r op outcome (DiscardsFor q) is told = ap (λ (x : Request). x.op) (sym is) ∙ (answered_inj q.ticket t q.op op _ outcome told).0
  asks r op outcome (Acts memory) is told = absurd is

module _ (g : Geometry) (m : Memory) (t : Ticket) (now new_now : Contents) (may new_may : Candidates) (f : Flat) (is : m.phase ≡ Checkpoint) where
  abbrev Flushed : Reply → Task → Type 0
  Flushed reply task = DoesIt g (call_of g m task) reply now may new_now new_may → (step_of g now m task reply).told ≡ Answered t Flush outcomes.Done
      → (reply ≡ Failed → call_of g m task ≡ None) × ((step_of g now m task reply).events ≡ Flushes ∷ []) × HasFlushed g (step_of g now m task reply).memory new_now new_may

  done_for : (r : Request) → (reply : Reply) → Flushed reply (FlushesFor r)
  done_for r Failed does told = absurd (let clash : outcomes.DiskFault 0 ≡ outcomes.Done = (answered_inj r.ticket t r.op Flush (outcomes.DiskFault 0) outcomes.Done told).1 in grind arith)
  done_for r Succeeded does told = (λ failed. absurd (grind arith), refl, inr (is, subst (λ i. IsFlushed g i new_may) (sym does.0) does.1))
  done_for r (Gave v) does told = absurd does

  flush_task : (r : Request) → (reply : Reply) → Flushed reply (task_for g m r Flush)
  flush_task r reply = go (has_command m.hand) m.phase is
    where
      go : (busy : Bool) (phase : Phase) → phase ≡ Checkpoint → Flushed reply (cond busy Waits (unless_refused r (refusal g phase Flush) (FlushesFor r)))
      go true phase at = λ does told. absurd (grind arith)
      go false Trim at = absurd (grind arith)
      go false Arming at = absurd (grind arith)
      go false Checkpoint at = done_for r reply
      go false Deciding at = absurd (grind arith)
      go false Committed at = absurd (grind arith)

  flush_turn : (found : Option Request) (reply : Reply) → Flushed reply (map_task g m found)
  flush_turn None reply = λ does told. absurd (grind arith)
  flush_turn (Some r) reply = λ does told.
      let flushes : r.op ≡ Flush = asks g m now reply t r Flush outcomes.Done (task_for g m r r.op) (task_is_of g m r r.op) told in
      subst (λ op. Flushed reply (task_for g m r op)) (sym flushes) (flush_task r reply) does told

pub flush_goes_forward : FlushGoesForward
flush_goes_forward g m ticket t reply now new_now may new_may f s led is does told =
    let done = flush_turn g m t now new_now may new_may f is (request_of ticket m.requests) reply does told in
    let step = step_of g now m (task_of g m (Map ticket)) reply in
    let after_step : after_all g.blocks step.events f ≡ after g.blocks Flushes f = ap (λ es. after_all g.blocks es f) done.1 in
    record {
      state = after_all g.blocks step.events f;
      stands = (step_keeps g m (Map ticket) reply now new_now may new_may f s does).1;
      led = led_keeps g m (Map ticket) reply now new_now may new_may f s led done.0 does;
      current = ap (λ (x : Flat). x.current) after_step;
      pending = ap (λ (x : Flat). x.pending) after_step;
      known = refl;
      flushed = inl done.2;
    }

-- ----------------------------------------------------------------------------------------------------------------

pub sound_are_led : SoundAreLed
sound_are_led g m now may one f l s all =
    ahead_so g m now may one f l s (λ is image cut same. all image cut same
    (keeps_sound g f.used f.saved image (subst (λ p. StandsInPhase g p f image) (s.phases ∙ is) (machine_cut g m now may f image s cut))))
