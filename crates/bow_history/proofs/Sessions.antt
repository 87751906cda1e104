-- A session whose steps keep their contract is a run of the machine.
use Rattle.std.proofs.Common.{ℕ, ◌+◌, ◌-◌, ◌^◌, ◌≤◌, ◌≡◌, ◌++◌, min, max, Bool, true, false, List, [], ◌∷◌, map, Option, Some, None, arith, refl, sym, ap, ◌∙◌, subst, inl, inr, ◌⊎◌, cond}
use Rattle.std.proofs.lemmas.Bool.{false≢true}
use Rattle.std.specs.List.{sum_by}
use Rattle.std.proofs.lemmas.List.Sums.{sum_by-append}
use Rattle.bow_queue.specs.declared.tickets.Ticket.{Ticket}
use Rattle.bow_machine.specs.Calls.{Call, Reply, Failed, Succeeded, Gave}
use Rattle.bow_machine.specs.Tasks.{task_of}
use Rattle.bow_machine.specs.declared.turns.Turn.{Turn}
use Rattle.bow_machine.specs.Steps.{Told, Idle, Moved, Wrote, Got, Answered, call_of}
use Rattle.bow_history.specs.declared.items.Item.{Item}
use Rattle.bow_history.specs.Journal.{Plan, beginning, Legal}
use Rattle.bow_history.specs.Sessions.{Session, begun, Turned, Admits, Steps, turn_of, device_step, reply_in, item_of, item_of_turn, item_in, call_of_turn, call_in, after_turn, IsTurn}
use Rattle.bow_machine.specs.Steps.{unknown}
use Rattle.bow_history.specs.Histories.{Disk, session_after, journal_of, with_item, with_items, calls_in, calls_after, moments_of, DoesTurn, Runs}
use Rattle.bow_history.specs.Promises.{Core, Did, held, View, start_of, state_of, more, items, TurnGoes, RunsOver, IsSession, LoadedIsSession, TurnsKeepSession, IsPlayed, SessionsAreLegal, faults_in, is_fault}
use Rattle.bow_units.specs.declared.requests.Outcome.{Outcome}
use Rattle.bow_units.specs.declared.requests.Outcome.TheVariants as outcomes
use Rattle.bow_machine.specs.Requests.{Request}
use Rattle.bow_machine.specs.MemoryLaws.{CanHaveIt, tells_fault, served_by, FaultIsTold}
use Rattle.bow_machine.proofs.SoundCalls.{faults_are_told}
use Rattle.bow_history.specs.SoundSessions.{IsSoundSession, MayRun}
use Rattle.bow_history.specs.Sections.{SectionsRise}
use Rattle.bow_history.proofs.SoundTurns.{beginning_is_sound, turns_keep_sound}
use Rattle.bow_history.proofs.Runs.{beginning_is_at, runs_are_legal}

-- ----------------------------------------------------------------------------------------------------------------
-- One turn more.

session_push : (plan : Plan) (s : Session) (turns : List Turned) (turn : Turned) → session_after plan s (turns ++ turn ∷ []) ≡ after_turn plan (session_after plan s turns) turn
session_push plan s [] turn = refl
session_push plan s (t ∷ turns) turn = session_push plan (after_turn plan s t) turns turn

with_then : (item : Option Item) (xs ys : List Item) → with_items item (xs ++ ys) ≡ with_items item xs ++ ys
with_then None xs ys = refl
with_then (Some item) xs ys = refl

alone_is : (item : Option Item) → with_items item [] ≡ items item
alone_is None = refl
alone_is (Some item) = refl

journal_push : (plan : Plan) (s : Session) (turns : List Turned) (turn : Turned) → journal_of plan s (turns ++ turn ∷ []) ≡ journal_of plan s turns ++ items (item_in plan (session_after plan s turns) turn)
journal_push plan s [] turn = alone_is (item_in plan s turn)
journal_push plan s (t ∷ turns) turn =
    ap (with_items (item_in plan s t)) (journal_push plan (after_turn plan s t) turns turn)
    ∙ with_then (item_in plan s t) (journal_of plan (after_turn plan s t) turns) (items (item_in plan (session_after plan (after_turn plan s t) turns) turn))

pub calls_push : (plan : Plan) (s : Session) (calls : ℕ) (turns : List Turned) (turn : Turned) → calls_after plan s calls (turns ++ turn ∷ []) ≡ calls_after plan s calls turns + calls_in (call_in plan (session_after plan s turns) turn)
calls_push plan s calls [] turn = refl
calls_push plan s calls (t ∷ turns) turn = calls_push plan (after_turn plan s t) (calls + calls_in (call_in plan s t)) turns turn

moment_then : (item : Option Item) (x : ℕ) (xs ys : List ℕ) → with_item item x (xs ++ ys) ≡ with_item item x xs ++ ys
moment_then None x xs ys = refl
moment_then (Some item) x xs ys = refl

moment_is : (item : Option Item) (x : ℕ) → with_item item x [] ≡ more item x
moment_is None x = refl
moment_is (Some item) x = refl

moments_push : (plan : Plan) (s : Session) (calls : ℕ) (turns : List Turned) (turn : Turned)
    → moments_of plan s calls (turns ++ turn ∷ []) ≡ moments_of plan s calls turns ++ more (item_in plan (session_after plan s turns) turn) (calls_after plan s calls turns + calls_in (call_in plan (session_after plan s turns) turn))
moments_push plan s calls [] turn = moment_is (item_in plan s turn) (calls + calls_in (call_in plan s turn))
moments_push plan s calls (t ∷ turns) turn =
    ap (with_item (item_in plan s t) (calls + calls_in (call_in plan s t))) (moments_push plan (after_turn plan s t) (calls + calls_in (call_in plan s t)) turns turn)
    ∙ moment_then (item_in plan s t) (calls + calls_in (call_in plan s t)) (moments_of plan (after_turn plan s t) (calls + calls_in (call_in plan s t)) turns) _

pub runs_push : (plan : Plan) (s : Session) (d e x : Disk) (turns : List Turned) (turn : Turned) → Runs plan s d turns e → IsTurn plan (session_after plan s turns) turn → DoesTurn plan (session_after plan s turns) turn e x
    → Runs plan s d (turns ++ turn ∷ []) x
runs_push plan s d e x [] turn run is does = (is, x, subst (λ y. DoesTurn plan s turn y x) run does, refl)
runs_push plan s d e x (t ∷ turns) turn run is does = (run.0, run.1, run.2, runs_push plan (after_turn plan s t) run.1 e x turns turn run.3 is does)

over_push : (plan : Plan) (s : Session) (turns : List Turned) (turn : Turned) (first old new : Option Disk) → RunsOver plan s turns first old → IsTurn plan (session_after plan s turns) turn
    → Did plan.sizes (call_in plan (session_after plan s turns) turn) (reply_in turn) old new → RunsOver plan s (turns ++ turn ∷ []) first new
over_push plan s turns turn None None None run is did = tt
over_push plan s turns turn None None (Some x) run is did = absurd did
over_push plan s turns turn None (Some e) new run is did = absurd run
over_push plan s turns turn (Some d) None new run is did = absurd run
over_push plan s turns turn (Some d) (Some e) None run is did = absurd did
over_push plan s turns turn (Some d) (Some e) (Some x) run is did = runs_push plan s d e x turns turn run is did

-- ----------------------------------------------------------------------------------------------------------------
-- Counts that stay at their last value.

held_on : (c k last : ℕ) → max (min c last) (min (min c last + k) last) ≡ min (c + k) last
held_on c k last = omega arith

map_then : (f : ℕ → ℕ) (xs ys : List ℕ) → map f (xs ++ ys) ≡ map f xs ++ map f ys
map_then f [] ys = refl
map_then f (x ∷ xs) ys = ap (λ zs. f x ∷ zs) (map_then f xs ys)

map_more : (item : Option Item) (f : ℕ → ℕ) (x : ℕ) → map f (more item x) ≡ more item (f x)
map_more None f x = refl
map_more (Some item) f x = refl

nothing_more : (xs : List Item) → xs ++ [] ≡ xs
nothing_more [] = refl
nothing_more (x ∷ xs) = ap (λ ys. x ∷ ys) (nothing_more xs)

no_more : (xs : List ℕ) → xs ++ [] ≡ xs
no_more [] = refl
no_more (x ∷ xs) = ap (λ ys. x ∷ ys) (no_more xs)

abbrev one : Bool → ℕ
one t = cond t 1 0

-- an item tells a fault where the step told one
pub item_faults : (plan : Plan) (s : Session) (told : Told) → sum_by faults_in (items (item_of plan s told)) ≡ one (tells_fault told)
item_faults plan s Idle = refl
item_faults plan s Moved = refl
item_faults plan s (Wrote t i) = refl
item_faults plan s (Got t i) = refl
item_faults plan s (Answered t op outcome) = go outcome
  where
    go : (outcome : Outcome) → 0 + one (is_fault outcome) ≡ one (tells_fault (Answered t op outcome))
    go outcomes.Done = refl
    go outcomes.Data = refl
    go (outcomes.NoSpace n) = refl
    go (outcomes.DiskFault n) = refl
    go outcomes.OutOfRange = refl
    go outcomes.ReservedMagic = refl
    go (outcomes.WrongPhase phase) = refl
    go (outcomes.Unsettled phase) = refl

-- a fault is told only where the call failed
fault_failed : (requests : List Request) (served : Option Ticket) (call : Option Call) (reply : Reply) (told : Told)
    → FaultIsTold requests served call reply told → tells_fault told ≡ true → (reply ≡ Failed) × (c : Call) × (call ≡ Some c)
fault_failed requests served None reply told is tells = absurd (false≢true (sym is ∙ tells))
fault_failed requests served (Some c) Failed told is tells = (refl, c, refl)
fault_failed requests served (Some c) Succeeded told is tells = absurd (false≢true (sym is ∙ tells))
fault_failed requests served (Some c) (Gave v) told is tells = absurd (false≢true (sym is ∙ tells))

may_push : (plan : Plan) (s : Session) (turns : List Turned) (turn : Turned) → MayRun plan s turns
    → IsTurn plan (session_after plan s turns) turn → MayRun plan s (turns ++ turn ∷ [])
may_push plan s [] turn may is = (is, tt)
may_push plan s (t ∷ turns) turn may is = (may.0, may_push plan (after_turn plan s t) turns turn may.1 is)

-- ----------------------------------------------------------------------------------------------------------------
-- A step keeps the session.

pub loaded_is_session : LoadedIsSession
loaded_is_session plan core sizes few rise sound none = record {
  sizes = sizes;
  rise = rise;
  sound = beginning_is_sound plan core.memory core.admitted sound none;
  may = tt;
  memory = refl;
  admitted = refl;
  journal = refl;
  calls = small core.calls (2 ^ 64 - 1) few;
  moments = refl;
  faults = omega arith;
  runs = over core.content;
}
  where
    small : (c last : ℕ) → c ≤ last → c ≡ min c last
    small c last few = omega arith

    over : (content : Option Disk) → RunsOver plan (begun core.memory core.admitted) [] content content
    over None = tt
    over (Some d) = refl

module _ (old new : View) (k : IsSession old) (plan : new.plan ≡ old.plan) (first : new.first ≡ old.first) where
  abbrev s : Session
  s = state_of old

  -- what the new session's history is, after one turn more
  module _ (turn : Turned) (turns : new.turns ≡ old.turns ++ turn ∷ []) where
    start_same : start_of new ≡ start_of old
    start_same = ap (λ (c : Core). begun c.memory c.admitted) first

    state_is : state_of new ≡ after_turn old.plan s turn
    state_is =
        ap (λ (x : Plan). session_after x (start_of new) new.turns) plan ∙ ap (λ (x : Session). session_after old.plan x new.turns) start_same
        ∙ ap (session_after old.plan (start_of old)) turns ∙ session_push old.plan (start_of old) old.turns turn

    journal_is : journal_of new.plan (start_of new) new.turns ≡ journal_of old.plan (start_of old) old.turns ++ items (item_in old.plan s turn)
    journal_is =
        ap (λ (x : Plan). journal_of x (start_of new) new.turns) plan ∙ ap (λ (x : Session). journal_of old.plan x new.turns) start_same
        ∙ ap (journal_of old.plan (start_of old)) turns ∙ journal_push old.plan (start_of old) old.turns turn

    first_calls : new.first.calls ≡ old.first.calls
    first_calls = ap (λ (c : Core). c.calls) first

    calls_is : calls_after new.plan (start_of new) (new.first).calls new.turns ≡ calls_after old.plan (start_of old) (old.first).calls old.turns + calls_in (call_in old.plan s turn)
    calls_is =
        ap (λ (x : Plan). calls_after x (start_of new) (new.first).calls new.turns) plan ∙ ap (λ (x : Session). calls_after old.plan x (new.first).calls new.turns) start_same
        ∙ ap (λ c. calls_after old.plan (start_of old) c new.turns) first_calls ∙ ap (calls_after old.plan (start_of old) (old.first).calls) turns ∙ calls_push old.plan (start_of old) (old.first).calls old.turns turn

    moments_is : moments_of new.plan (start_of new) (new.first).calls new.turns ≡ moments_of old.plan (start_of old) (old.first).calls old.turns
        ++ more (item_in old.plan s turn) (calls_after old.plan (start_of old) (old.first).calls old.turns + calls_in (call_in old.plan s turn))
    moments_is =
        ap (λ (x : Plan). moments_of x (start_of new) (new.first).calls new.turns) plan ∙ ap (λ (x : Session). moments_of old.plan x (new.first).calls new.turns) start_same
        ∙ ap (λ c. moments_of old.plan (start_of old) c new.turns) first_calls ∙ ap (moments_of old.plan (start_of old) (old.first).calls) turns ∙ moments_push old.plan (start_of old) (old.first).calls old.turns turn

    runs_is : IsTurn old.plan s turn → Did (old.plan).sizes (call_in old.plan s turn) (reply_in turn) (old.core).content (new.core).content → RunsOver new.plan (start_of new) new.turns (new.first).content (new.core).content
    runs_is is did =
        subst (λ (x : Plan). RunsOver x (start_of new) new.turns (new.first).content (new.core).content) (sym plan)
        (subst (λ (x : Session). RunsOver old.plan x new.turns (new.first).content (new.core).content) (sym start_same)
        (subst (λ ts. RunsOver old.plan (start_of old) ts (new.first).content (new.core).content) (sym turns)
        (subst (λ (c : Core). RunsOver old.plan (start_of old) (old.turns ++ turn ∷ []) c.content (new.core).content) (sym first)
        (over_push old.plan (start_of old) old.turns turn (old.first).content (old.core).content (new.core).content k.runs is did))))

  rises : SectionsRise new.plan
  rises = subst SectionsRise (sym plan) k.rise

  -- it stays sound, and its turns may be made
  sound_is : (turn : Turned) → new.turns ≡ old.turns ++ turn ∷ [] → IsTurn old.plan s turn → IsSoundSession new.plan (state_of new)
  sound_is turn turns is =
      subst (λ (x : Session). IsSoundSession new.plan x) (sym (state_is turn turns))
      (subst (λ (x : Plan). IsSoundSession x (after_turn old.plan s turn)) (sym plan) (turns_keep_sound old.plan s turn k.rise k.sound is))

  may_is : (turn : Turned) → new.turns ≡ old.turns ++ turn ∷ [] → IsTurn old.plan s turn → MayRun new.plan (start_of new) new.turns
  may_is turn turns is =
      subst (λ (x : Plan). MayRun x (start_of new) new.turns) (sym plan)
      (subst (λ (x : Session). MayRun old.plan x new.turns) (sym (start_same turn turns))
      (subst (λ ts. MayRun old.plan (start_of old) ts) (sym turns) (may_push old.plan (start_of old) old.turns turn k.may is)))

  first_faults : (new.first).faults ≡ (old.first).faults
  first_faults = ap (λ (c : Core). c.faults) first

  -- so many faults more, told and counted
  faults_on : (before told more last old_count new_count : ℕ) → min (before + told) last ≤ old_count → old_count ≤ new_count → (more ≡ 0) ⊎ ((more ≡ 1) × (min (old_count + 1) last ≤ new_count))
      → min (before + (told + more)) last ≤ new_count
  faults_on before told more last old_count new_count was later (inl none) = omega (arith, was, later, none)
  faults_on before told more last old_count new_count was later (inr one) = omega (arith, was, later, one.0, one.1)

  -- a fault that a turn tells came with a call that failed
  turn_fault : (turn : Turned) → IsTurn old.plan s turn → (sum_by faults_in (items (item_in old.plan s turn)) ≡ 0)
      ⊎ ((sum_by faults_in (items (item_in old.plan s turn)) ≡ 1) × (reply_in turn ≡ Failed) × (c : Call) × (call_in old.plan s turn ≡ Some c))
  turn_fault (Admits lane ticket op) is = inl refl
  turn_fault (Steps actor reply) is = go (turn_of s actor) is.1
    where
      go : (o : Option Turn) → CanHaveIt (old.plan).sizes (call_of_turn old.plan s o) reply
          → (sum_by faults_in (items (item_of_turn old.plan s o reply)) ≡ 0)
          ⊎ ((sum_by faults_in (items (item_of_turn old.plan s o reply)) ≡ 1) × (reply ≡ Failed) × (c : Call) × (call_of_turn old.plan s o ≡ Some c))
      go None can = inl refl
      go (Some turn) can = by_told (tells_fault (device_step (old.plan).sizes s.memory turn reply).told) refl
        where
          by_told : (t : Bool) → tells_fault (device_step (old.plan).sizes s.memory turn reply).told ≡ t
              → (sum_by faults_in (items (item_of old.plan s (device_step (old.plan).sizes s.memory turn reply).told)) ≡ 0)
              ⊎ ((sum_by faults_in (items (item_of old.plan s (device_step (old.plan).sizes s.memory turn reply).told)) ≡ 1) × (reply ≡ Failed) × (c : Call)
              × (call_of (old.plan).sizes s.memory (task_of (old.plan).sizes s.memory turn) ≡ Some c))
          by_told false is = inl (item_faults old.plan s (device_step (old.plan).sizes s.memory turn reply).told ∙ ap one is)
          by_told true is =
              let failed = fault_failed s.memory.requests (served_by (task_of (old.plan).sizes s.memory turn)) (call_of (old.plan).sizes s.memory (task_of (old.plan).sizes s.memory turn)) reply (device_step (old.plan).sizes s.memory turn reply).told
              (faults_are_told (old.plan).sizes s.memory turn reply unknown k.sound.memory can) is in
              inr (item_faults old.plan s (device_step (old.plan).sizes s.memory turn reply).told ∙ ap one is, failed.0, failed.1, failed.2)

  turn_keeps : (turn : Turned) → TurnGoes old turn new → IsSession new
  turn_keeps turn t = record {
    sizes = t.sizes ∙ k.sizes ∙ ap (λ (x : Plan). x.sizes) (sym plan);
    rise = rises;
    sound = sound_is turn t.turns t.may;
    may = may_is turn t.turns t.may;
    memory = ap (λ (x : Session). x.memory) (state_is turn t.turns) ∙ sym t.memory;
    admitted = ap (λ (x : Session). x.admitted) (state_is turn t.turns) ∙ sym t.admitted;
    journal = t.journal ∙ ap (λ js. js ++ items (item_in old.plan s turn)) k.journal ∙ sym (journal_is turn t.turns);
    calls = counted ∙ ap held (sym (calls_is turn t.turns));
    moments =
        t.moments ∙ ap (λ ms. ms ++ more (item_in old.plan s turn) (new.core).calls) k.moments
        ∙ ap (λ x. map held before ++ more (item_in old.plan s turn) x) counted
        ∙ ap (λ ms. map held before ++ ms) (sym (map_more (item_in old.plan s turn) held after))
        ∙ sym (map_then held before (more (item_in old.plan s turn) after)) ∙ ap (map held) (sym (moments_is turn t.turns));
    faults = subst (λ x. held (x + sum_by faults_in new.journal) ≤ (new.core).faults) (sym first_faults)
        (subst (λ x. held ((old.first).faults + x) ≤ (new.core).faults) (sym told_count)
        (faults_on (old.first).faults (sum_by faults_in old.journal) (sum_by faults_in (items (item_in old.plan s turn))) (2 ^ 64 - 1) (old.core).faults (new.core).faults k.faults t.later
        (elim (turn_fault turn t.may) [ inl none ↦ inl none | inr some ↦ inr (some.0, t.fault some.1 some.2 some.3) ])));
    runs = runs_is turn t.turns t.may t.did;
  }
    where
      before : List ℕ
      before = moments_of old.plan (start_of old) (old.first).calls old.turns

      after : ℕ
      after = calls_after old.plan (start_of old) (old.first).calls old.turns + calls_in (call_in old.plan s turn)

      counted : (new.core).calls ≡ held (calls_after old.plan (start_of old) (old.first).calls old.turns + calls_in (call_in old.plan s turn))
      counted = t.counted ∙ ap (λ c. max c (held (c + calls_in (call_in old.plan s turn)))) k.calls ∙ held_on (calls_after old.plan (start_of old) (old.first).calls old.turns) (calls_in (call_in old.plan s turn)) (2 ^ 64 - 1)

      told_count : sum_by faults_in new.journal ≡ sum_by faults_in old.journal + sum_by faults_in (items (item_in old.plan s turn))
      told_count = ap (sum_by faults_in) t.journal ∙ sum_by-append faults_in old.journal (items (item_in old.plan s turn))

pub turns_keep_session : TurnsKeepSession
turns_keep_session old turn new k t = turn_keeps old new k t.plan t.first turn t

-- ----------------------------------------------------------------------------------------------------------------
-- The journal of a session is legal.

pub sessions_are_legal : SessionsAreLegal
sessions_are_legal v f d k tells ready = go (v.first).content (v.core).content refl tells k.runs
  where
    go : (first now : Option Disk) → (v.core).content ≡ now → first ≡ Some d → RunsOver v.plan (start_of v) v.turns first now → IsPlayed v f
    go None now is e run = absurd (let clash : None ≡ Some d = e in grind arith)
    go (Some x) None is e run = absurd run
    go (Some x) (Some y) is e run =
        let same : x ≡ d = cc e in
        let arrives = runs_are_legal v.plan (start_of v) d y v.turns (beginning f) (beginning_is_at v.plan (v.first).memory (v.first).admitted d f ready).0 (subst (λ z. Runs v.plan (start_of v) z v.turns y) same run) in
        record {
          disk = y;
          tells = is;
          place = arrives.place;
          legal = λ buffer agrees. subst (λ js. Legal v.plan buffer js (beginning f) arrives.place) (sym k.journal) (arrives.legal buffer agrees);
          at = arrives.at;
        }
