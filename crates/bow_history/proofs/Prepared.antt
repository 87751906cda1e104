-- After a prepare's Done, with no write answered since, nothing is touched once no request waits.
use Rattle.std.proofs.Common.{ℕ, zero, suc, ◌+◌, ◌<◌, ◌≡◌, ◌≢◌, ◌⊎◌, Bool, true, false, List, [], ◌∷◌, Option, Some, None, arith, refl, sym, ap, ◌∙◌, subst, inl, inr}
use Rattle.std.specs.List.{AllByRecursion as Each}
use Rattle.std.proofs.lemmas.Bool.{false≢true, cases_Bool, cases_eq}
use Rattle.bow_units.specs.declared.sizes.Geometry.{Geometry}
use Rattle.bow_units.specs.declared.sizes.Extent.{Extent}
use Rattle.bow_units.specs.declared.requests.Op.{Op}
use Rattle.bow_units.specs.declared.requests.Op.TheVariants as ops
use Rattle.bow_units.specs.declared.requests.Outcome.{Outcome}
use Rattle.bow_units.specs.declared.requests.Outcome.TheVariants as outcomes
use Rattle.bow_units.specs.declared.requests.Phase.{Phase}
use Rattle.bow_units.specs.declared.requests.Phase.TheVariants.{Trim, Arming, Checkpoint, Deciding, Committed}
use Rattle.bow_units.specs.declared.statuses.Kind.{Kind}
use Rattle.bow_units.specs.declared.statuses.Kind.TheVariants as kinds
use Rattle.bow_flat.specs.Flat.{Event}
use Rattle.bow_log.specs.Generations.{Generation}
use Rattle.bow_queue.specs.declared.tickets.Ticket.{Ticket}
use Rattle.bow_ranges.specs.Kinds.{kind_at}
use Rattle.bow_machine.specs.Calls.{Reply}
use Rattle.bow_machine.specs.Memory.{Memory, reserved}
use Rattle.bow_machine.specs.MemoryIsSound.{MemoryIsSound, LogIsHeld, is_touched}
use Rattle.bow_machine.specs.MemoryLaws.{CanHaveIt}
use Rattle.bow_machine.specs.Requests.{Request, request_of}
use Rattle.bow_machine.specs.Steps.{Told, Idle, Moved, Wrote, Got, Answered, Step, call_of}
use Rattle.bow_machine.specs.Tasks.{task_of}
use Rattle.bow_machine.specs.declared.turns.Turn.{Turn}
use Rattle.bow_machine.specs.Ties.{WriteWaits}
use Rattle.bow_machine.specs.Told.{ToldRow, AnswerRow}
use Rattle.bow_machine.proofs.LogStays.{log_stays}
use Rattle.bow_machine.proofs.RequestLists.{found_ticket, ticket_cases, of_without, of_with, of_with_other, of_push_found}
use Rattle.bow_machine.proofs.SoundTies.{touched_is_left, arming_is_untouched, checkpoint_follows}
use Rattle.bow_machine.proofs.SoundTold.{steps_tell_so}
use Rattle.bow_history.specs.declared.items.Item.{Item}
use Rattle.bow_history.specs.declared.items.Item.TheVariants as items
use Rattle.bow_history.specs.Journal.{Plan}
use Rattle.bow_history.specs.Sessions.{Session, Turned, Admits, Steps, turn_of, device_step, lane_of, item_of, item_of_turn, item_in, told_to, after_turn_of, after_turn, IsFor, IsTurn, call_of_turn}
use Rattle.bow_machine.specs.Steps.{unknown}
use Rattle.bow_history.specs.Histories.{session_after, journal_of, with_items}
use Rattle.bow_history.specs.Legality.{IsUntouched, StartsUntouched}
use Rattle.bow_history.specs.Prepared.{AnswersWrite, AnswersPrepare, IsPrepared, PreparedIsUntouched}
use Rattle.bow_history.specs.Sections.{SectionsRise}
use Rattle.bow_history.specs.SoundSessions.{IsSoundSession, MayRun}
use Rattle.bow_history.proofs.Lists.{none_some, one_of}
use Rattle.bow_history.proofs.Seats.{lane_is}
use Rattle.bow_history.proofs.SoundTurns.{turns_keep_sound}

-- nothing is touched, and the log, if there is one, is the first
abbrev Untouched : Geometry → Memory → Type 0
Untouched g m = (log : Generation) → m.log ≡ Some log → IsUntouched g m.kinds log

-- in Checkpoint a write waits, or nothing is touched
abbrev Rests : Geometry → Memory → Type 0
Rests g m = m.phase ≡ Checkpoint → WriteWaits m ⊎ Untouched g m

-- the request writes
abbrev IsWrite : Op → Type 0
IsWrite (ops.Write e p) = Unit {0}
IsWrite op = ⊥

-- what is told answers no write
abbrev NoWriteTold : Told → Type 0
NoWriteTold (Answered t op outcome) = IsWrite op → ⊥
NoWriteTold told = Unit {0}

write_is : (r : Request) (e : Extent) (p : List ℕ) → r.op ≡ ops.Write e p → IsWrite r.op
write_is r e p is = subst IsWrite (sym is) tt

-- a block below n passes the test, or none does
some_below : (n : ℕ) (test : ℕ → Bool) → ((b : ℕ) × (b < n) × (test b ≡ true)) ⊎ ((b : ℕ) → b < n → test b ≡ false)
some_below zero test = inr (λ b below. absurd (omega (arith, below)))
some_below (suc n) test = elim (cases_Bool (test n)) [
  | inl is ↦ inl (n, omega arith, is)
  | inr not ↦ elim (some_below n test) [
    | inl some ↦ inl (some.0, omega (arith, some.1), some.2)
    | inr none ↦ inr (λ b below. elim (cases_eq b n) [ inl same ↦ ap test same ∙ not | inr ne ↦ none b (omega (arith, below, ne)) ])
  ]
]

untouched_kind : (k : Kind) → k ≢ kinds.Changed → k ≢ kinds.Saved → is_touched k ≡ false
untouched_kind kinds.Sector0 a b = refl
untouched_kind kinds.Current a b = refl
untouched_kind kinds.Unchanged a b = refl
untouched_kind kinds.Free a b = refl
untouched_kind kinds.Changed a b = absurd (a refl)
untouched_kind kinds.Backup a b = refl
untouched_kind kinds.Saved a b = absurd (b refl)

log_there : (g : Geometry) (m : Memory) (phase : Phase) → MemoryIsSound g m → m.phase ≡ phase → (phase ≡ Checkpoint) ⊎ (phase ≡ Arming) → (l : Generation) × (m.log ≡ Some l)
log_there g m phase s at either = go phase m.log refl either (subst (λ p. LogIsHeld g m.kinds m.clean m.trimmed (reserved m.hand).count p m.log) at s.log)
  where
    go : (p : Phase) (log : Option Generation) → m.log ≡ log → (p ≡ Checkpoint) ⊎ (p ≡ Arming) → LogIsHeld g m.kinds m.clean m.trimmed (reserved m.hand).count p log → (l : Generation) × (m.log ≡ Some l)
    go Trim log is (inl e) h = absurd (grind arith)
    go Trim log is (inr e) h = absurd (grind arith)
    go Arming None is e h = absurd h
    go Arming (Some l) is e h = (l, is)
    go Checkpoint None is e h = absurd h
    go Checkpoint (Some l) is e h = (l, is)
    go Deciding log is (inl e) h = absurd (grind arith)
    go Deciding log is (inr e) h = absurd (grind arith)
    go Committed log is (inl e) h = absurd (grind arith)
    go Committed log is (inr e) h = absurd (grind arith)

-- ----------------------------------------------------------------------------------------------------------------
-- A step.

module _ (g : Geometry) (m : Memory) (s : MemoryIsSound g m) (turn : Turn) (reply : Reply) (can : CanHaveIt g (call_of g m (task_of g m turn)) reply) where
  abbrev step : Step
  step = device_step g m turn reply

  -- a write that waits goes on waiting
  waits_on : (told : Told) (events : List Event) (after : Memory) → ToldRow g unknown m told events after.requests → NoWriteTold told → WriteWaits m → WriteWaits after
  waits_on Idle events after row none w = record { write = w.write; waits = ap (request_of w.write.ticket) row.1 ∙ w.waits; extent = w.extent; payload = w.payload; op = w.op }
  waits_on Moved events after row none w = record { write = w.write; waits = ap (request_of w.write.ticket) row.1 ∙ w.waits; extent = w.extent; payload = w.payload; op = w.op }
  waits_on (Wrote t i) events after (r, waits, k) none w = elim (ticket_cases w.write.ticket r.ticket) [
    | inl is ↦
        let same : w.write ≡ r = one_of (request_of r.ticket m.requests) w.write r (ap (λ u. request_of u m.requests) (sym is) ∙ w.waits) (ap (λ u. request_of u m.requests) (found_ticket t m.requests r waits) ∙ waits) in
        record {
          write = record r { done = r.done + 1 };
          waits = ap (request_of r.ticket) k.goes_on ∙ of_with (record r { done = r.done + 1 }) m.requests r (ap (λ u. request_of u m.requests) (found_ticket t m.requests r waits) ∙ waits);
          extent = w.extent;
          payload = w.payload;
          op = ap (λ (x : Request). x.op) (sym same) ∙ w.op;
        }
    | inr ne ↦ record { write = w.write; waits = ap (request_of w.write.ticket) k.goes_on ∙ of_with_other (record r { done = r.done + 1 }) w.write.ticket m.requests ne ∙ w.waits; extent = w.extent; payload = w.payload; op = w.op }
  ]
  waits_on (Got t i) events after (r, waits, k) none w = elim (ticket_cases w.write.ticket r.ticket) [
    | inl is ↦
        let same : w.write ≡ r = one_of (request_of r.ticket m.requests) w.write r (ap (λ u. request_of u m.requests) (sym is) ∙ w.waits) (ap (λ u. request_of u m.requests) (found_ticket t m.requests r waits) ∙ waits) in
        absurd (let clash : ops.Write w.extent w.payload ≡ ops.Read k.extent k.payload = sym w.op ∙ ap (λ (x : Request). x.op) same ∙ k.op in grind arith)
    | inr ne ↦ record { write = w.write; waits = ap (request_of w.write.ticket) k.goes_on ∙ of_with_other _ w.write.ticket m.requests ne ∙ w.waits; extent = w.extent; payload = w.payload; op = w.op }
  ]
  waits_on (Answered t op outcome) events after (r, waits, (asks, row, gone)) none w = elim (ticket_cases w.write.ticket t) [
    | inl is ↦
        let same : w.write ≡ r = one_of (request_of t m.requests) w.write r (ap (λ u. request_of u m.requests) (sym is) ∙ w.waits) waits in
        absurd (none (subst IsWrite asks (write_is r w.extent w.payload (ap (λ (x : Request). x.op) (sym same) ∙ w.op))))
    | inr ne ↦ record { write = w.write; waits = ap (request_of w.write.ticket) gone ∙ of_without t w.write.ticket m.requests ne ∙ w.waits; extent = w.extent; payload = w.payload; op = w.op }
  ]

  row : ToldRow g unknown m step.told step.events step.memory.requests
  row = steps_tell_so g m turn reply unknown s can

  on : NoWriteTold step.told → WriteWaits m → WriteWaits step.memory
  on none w = waits_on step.told step.events step.memory row none w

  from_untouched : NoWriteTold step.told → m.phase ≡ Checkpoint → step.memory.phase ≡ Checkpoint → Untouched g m → WriteWaits step.memory ⊎ Untouched g step.memory
  from_untouched none was at untouched = elim (log_stays g m turn reply unknown s can was at) [
    | inr waits ↦ inl (on none waits)
    | inl same ↦ elim (some_below g.blocks (λ b. is_touched (kind_at step.memory.kinds b))) [
      | inl (b, below, touched) ↦ elim (touched_is_left g m turn reply unknown b s can below touched) [
        | inl old ↦ let log = log_there g m Checkpoint s was (inl refl) in absurd (false≢true (sym ((untouched log.0 log.1).none b below) ∙ old))
        | inr left ↦ inl (on none (record { write = left.write; waits = left.waits; extent = left.extent; payload = left.payload; op = left.op }))
      ]
      | inr none_touched ↦ inr (λ log some. record { first = (untouched log (sym same ∙ some)).first; none = none_touched })
    ]
  ]

  from_arming : m.phase ≡ Arming → Untouched g step.memory
  from_arming was log some =
      let before = log_there g m Arming s was (inr refl) in
      let k = arming_is_untouched g m turn reply unknown before.0 s can was before.1 in
      let same : before.0 ≡ log = one_of m.log before.0 log before.1 (sym k.1 ∙ some) in
      record {
        first = ap (λ (l : Generation). l.sequence) (sym same) ∙ k.0;
        none = λ b below. ap (λ (t : List Kind). is_touched (kind_at t b)) k.2 ∙ untouched_kind (kind_at m.kinds b) (k.3 b below).0 (k.3 b below).1;
      }

  pub step_rests : NoWriteTold step.told → Rests g m → Rests g step.memory
  step_rests none rests at = elim (checkpoint_follows g m turn reply unknown s can at) [
    | inl was ↦ elim (rests was) [ inl waits ↦ inl (on none waits) | inr untouched ↦ from_untouched none was at untouched ]
    | inr was ↦ inr (from_arming was)
  ]

-- ----------------------------------------------------------------------------------------------------------------
-- A turn.

told_memory : (plan : Plan) (s : Session) (m : Memory) (told : Told) → (told_to plan (record s { memory = m }) told).memory ≡ m
told_memory plan s m Idle = refl
told_memory plan s m Moved = refl
told_memory plan s m (Wrote t i) = refl
told_memory plan s m (Got t i) = refl
told_memory plan s m (Answered t op outcome) = refl

-- what was asked for, where a write is what waits
for_write : (g : Geometry) (asked op : Op) → IsFor g asked op → IsWrite op → asked ≡ op
for_write g (ops.Read e p) (ops.Write x q) is write = absurd is
for_write g (ops.Read e p) (ops.Read x q) is write = absurd write
for_write g (ops.Read e p) (ops.Discard x) is write = absurd write
for_write g (ops.Read e p) ops.Flush is write = absurd write
for_write g (ops.Read e p) ops.Prepare is write = absurd write
for_write g (ops.Read e p) ops.Commit is write = absurd write
for_write g (ops.Write e p) op is write = sym is
for_write g (ops.Discard e) op is write = sym is
for_write g ops.Flush op is write = sym is
for_write g ops.Prepare op is write = sym is
for_write g ops.Commit op is write = sym is

-- no item answers a write
abbrev NoWriteIn : Plan → Option Item → Type 0
NoWriteIn plan None = Unit {0}
NoWriteIn plan (Some item) = AnswersWrite plan item → ⊥

module _ (plan : Plan) (s : Session) (k : IsSoundSession plan s) where
  -- the lane of a request that waits
  lane_holds : (t : Ticket) (r : Request) → request_of t s.memory.requests ≡ Some r → s.hand (lane_of s.hand t plan.lanes) ≡ Some t
  lane_holds t r waits =
      let l = k.seated.lanes t r waits in
      ap s.hand (lane_is s.hand t l.0 plan.lanes (k.seated.each l.0 t l.1).inside l.1 (λ other has. k.seated.own l.0 other t l.1 has)) ∙ l.1

  -- what is told of a request that waits is told of its lane's next one
  asked_for : (t : Ticket) (r : Request) → request_of t s.memory.requests ≡ Some r
      → let lane = lane_of s.hand t plan.lanes in (asked : Op) × (plan.request lane (s.number lane) ≡ Some asked) × IsFor plan.sizes asked r.op
  asked_for t r waits =
      let lane = lane_of s.hand t plan.lanes in
      let seat = k.seated.each lane t (lane_holds t r waits) in
      (seat.asked, seat.next, subst (λ (x : Request). IsFor plan.sizes seat.asked x.op) (one_of (request_of t s.memory.requests) seat.request r seat.waits waits) seat.is)

  answers : (op : Op) (lane n : ℕ) (asked : Op) (outcome : Outcome) → IsWrite op → plan.request lane n ≡ Some asked → asked ≡ op → AnswersWrite plan (items.Answered lane n outcome)
  answers (ops.Write e p) lane n asked outcome write next same = (e, p, next ∙ ap Some same)
  answers (ops.Read e p) lane n asked outcome write next same = absurd write
  answers (ops.Discard e) lane n asked outcome write next same = absurd write
  answers ops.Flush lane n asked outcome write next same = absurd write
  answers ops.Prepare lane n asked outcome write next same = absurd write
  answers ops.Commit lane n asked outcome write next same = absurd write

  no_write : (told : Told) (events : List Event) (after : List Request) → ToldRow plan.sizes unknown s.memory told events after → NoWriteIn plan (item_of plan s told) → NoWriteTold told
  no_write Idle events after row none = tt
  no_write Moved events after row none = tt
  no_write (Wrote t i) events after row none = tt
  no_write (Got t i) events after row none = tt
  no_write (Answered t op outcome) events after (r, waits, (asks, row, gone)) none = λ write.
      let lane = lane_of s.hand t plan.lanes in
      let a = asked_for t r waits in
      none (answers op lane (s.number lane) a.0 outcome write a.1 (for_write plan.sizes a.0 op (subst (IsFor plan.sizes a.0) asks a.2) write))

  step_turn_rests : (o : Option Turn) (reply : Reply) → CanHaveIt plan.sizes (call_of_turn plan s o) reply → NoWriteIn plan (item_of_turn plan s o reply) → Rests plan.sizes s.memory → Rests plan.sizes (after_turn_of plan s o reply).memory
  step_turn_rests None reply can none rests = rests
  step_turn_rests (Some turn) reply can none rests =
      let step = device_step plan.sizes s.memory turn reply in
      let told = steps_tell_so plan.sizes s.memory turn reply unknown k.memory can in
      subst (Rests plan.sizes) (sym (told_memory plan s step.memory step.told))
      (step_rests plan.sizes s.memory k.memory turn reply can (no_write step.told step.events step.memory.requests told none) rests)

  turn_rests : (turn : Turned) → IsTurn plan s turn → NoWriteIn plan (item_in plan s turn) → Rests plan.sizes s.memory → Rests plan.sizes (after_turn plan s turn).memory
  turn_rests (Admits lane ticket op) is none rests = λ at. elim (rests at) [
    | inl w ↦ inl (record { write = w.write; waits = of_push_found (record { ticket = ticket; op = op; done = 0 }) w.write.ticket s.memory.requests w.write w.waits; extent = w.extent; payload = w.payload; op = w.op })
    | inr untouched ↦ inr untouched
  ]
  turn_rests (Steps actor reply) is none rests = step_turn_rests (turn_of s actor) reply is.1 none rests

  -- a prepare is answered done in Arming
  prepared_told : (told : Told) (events : List Event) (after : List Request) (item : Item) → ToldRow plan.sizes unknown s.memory told events after → item_of plan s told ≡ Some item → AnswersPrepare plan item
      → (s.memory.phase ≡ Arming) × NoWriteTold told
  prepared_told Idle events after item row is prepares = absurd (grind arith)
  prepared_told Moved events after item row is prepares = absurd (grind arith)
  prepared_told (Wrote t i) events after item row is prepares = absurd (subst (AnswersPrepare plan) (some_item (sym is)) prepares)
    where
      some_item : {x y : Item} → Some x ≡ Some y → x ≡ y
      some_item e = cc e
  prepared_told (Got t i) events after item row is prepares = absurd (subst (AnswersPrepare plan) (some_item (sym is)) prepares)
    where
      some_item : {x y : Item} → Some x ≡ Some y → x ≡ y
      some_item e = cc e
  prepared_told (Answered t op outcome) events after item (r, waits, (asks, row, gone)) is prepares =
      by outcome row (subst (AnswersPrepare plan) (some_item (sym is)) prepares)
    where
      some_item : {x y : Item} → Some x ≡ Some y → x ≡ y
      some_item e = cc e

      some_op : {x y : Op} → Some x ≡ Some y → x ≡ y
      some_op e = cc e

      in_arming : AnswerRow plan.sizes s.memory r ops.Prepare outcomes.Done events → s.memory.phase ≡ Arming
      in_arming (inl refused) = absurd (let clash : None ≡ Some outcomes.Done = refused.0 in grind arith)
      in_arming (inr (passed, served)) = elim served [
        | inl done ↦ done.1
        | inr others ↦ elim others [
          | inl fault ↦ absurd (let clash : outcomes.Done ≡ outcomes.DiskFault 0 = fault.0 in grind arith)
          | inr more ↦ elim more [
            | inl space ↦ absurd (let clash : outcomes.Done ≡ outcomes.NoSpace 0 = space.0 in grind arith)
            | inr wrong ↦ absurd (let clash : outcomes.Done ≡ outcomes.WrongPhase s.memory.phase = wrong.0 in grind arith)
          ]
        ]
      ]

      with_op : (op : Op) → AnswerRow plan.sizes s.memory r op outcomes.Done events → op ≡ ops.Prepare → (s.memory.phase ≡ Arming) × (IsWrite op → ⊥)
      with_op op row is = (in_arming (subst (λ o. AnswerRow plan.sizes s.memory r o outcomes.Done events) is row), λ write. subst IsWrite is write)

      prepare_op : plan.request (lane_of s.hand t plan.lanes) (s.number (lane_of s.hand t plan.lanes)) ≡ Some ops.Prepare → r.op ≡ ops.Prepare
      prepare_op next =
          let a = asked_for t r waits in
          let same : a.0 ≡ ops.Prepare = some_op (sym a.1 ∙ next) in
          subst (λ x. IsFor plan.sizes x r.op) same a.2

      by : (outcome : Outcome) → AnswerRow plan.sizes s.memory r op outcome events → AnswersPrepare plan (items.Answered (lane_of s.hand t plan.lanes) (s.number (lane_of s.hand t plan.lanes)) outcome)
          → (s.memory.phase ≡ Arming) × (IsWrite op → ⊥)
      by outcomes.Done row next = with_op op row (sym asks ∙ prepare_op next)
      by outcomes.Data row next = absurd next
      by (outcomes.NoSpace n) row next = absurd next
      by (outcomes.DiskFault n) row next = absurd next
      by outcomes.OutOfRange row next = absurd next
      by outcomes.ReservedMagic row next = absurd next
      by (outcomes.WrongPhase phase) row next = absurd next
      by (outcomes.Unsettled phase) row next = absurd next

  turn_prepared : (turn : Turned) (item : Item) → IsTurn plan s turn → item_in plan s turn ≡ Some item → AnswersPrepare plan item → Rests plan.sizes (after_turn plan s turn).memory
  turn_prepared (Admits lane ticket op) item is made prepares = absurd (grind arith)
  turn_prepared (Steps actor reply) item is made prepares = go (turn_of s actor) is.1 made
    where
      go : (o : Option Turn) → CanHaveIt plan.sizes (call_of_turn plan s o) reply → item_of_turn plan s o reply ≡ Some item → Rests plan.sizes (after_turn_of plan s o reply).memory
      go None can made = absurd (grind arith)
      go (Some turn) can made =
          let step = device_step plan.sizes s.memory turn reply in
          let told = steps_tell_so plan.sizes s.memory turn reply unknown k.memory can in
          let both = prepared_told step.told step.events step.memory.requests item told made prepares in
          subst (Rests plan.sizes) (sym (told_memory plan s step.memory step.told))
          (step_rests plan.sizes s.memory k.memory turn reply can both.1 (λ at. absurd (let clash : Arming ≡ Checkpoint = sym both.0 ∙ at in grind arith)))

-- ----------------------------------------------------------------------------------------------------------------
-- A run.

-- with no write answered it goes on so
rests_run : (plan : Plan) (s : Session) (turns : List Turned) → SectionsRise plan → IsSoundSession plan s → MayRun plan s turns → Each (λ item. AnswersWrite plan item → ⊥) (journal_of plan s turns)
    → Rests plan.sizes s.memory → Rests plan.sizes (session_after plan s turns).memory
rests_run plan s [] rise k may none rests = rests
rests_run plan s (turn ∷ turns) rise k may none rests =
    go (item_in plan s turn) refl none (λ none rests. rests_run plan (after_turn plan s turn) turns rise (turns_keep_sound plan s turn rise k may.0) may.1 none rests)
  where
    go : (item : Option Item) → item_in plan s turn ≡ item → Each (λ item. AnswersWrite plan item → ⊥) (with_items item (journal_of plan (after_turn plan s turn) turns))
        → (Each (λ item. AnswersWrite plan item → ⊥) (journal_of plan (after_turn plan s turn) turns) → Rests plan.sizes (after_turn plan s turn).memory → Rests plan.sizes (session_after plan (after_turn plan s turn) turns).memory)
        → Rests plan.sizes (session_after plan (after_turn plan s turn) turns).memory
    go None is none rest = rest none (turn_rests plan s k turn may.0 (subst (NoWriteIn plan) (sym is) tt) rests)
    go (Some item) is none rest = rest none.1 (turn_rests plan s k turn may.0 (subst (NoWriteIn plan) (sym is) none.0) rests)

prepared_run : (plan : Plan) (s : Session) (turns : List Turned) → SectionsRise plan → IsSoundSession plan s → MayRun plan s turns → IsPrepared plan (journal_of plan s turns) → Rests plan.sizes (session_after plan s turns).memory
prepared_run plan s [] rise k may prepared = absurd prepared
prepared_run plan s (turn ∷ turns) rise k may prepared =
    let next = turns_keep_sound plan s turn rise k may.0 in
    go (item_in plan s turn) refl prepared (λ later. prepared_run plan (after_turn plan s turn) turns rise next may.1 later)
    (λ none rests. rests_run plan (after_turn plan s turn) turns rise next may.1 none rests)
  where
    go : (item : Option Item) → item_in plan s turn ≡ item → IsPrepared plan (with_items item (journal_of plan (after_turn plan s turn) turns))
        → (IsPrepared plan (journal_of plan (after_turn plan s turn) turns) → Rests plan.sizes (session_after plan (after_turn plan s turn) turns).memory)
        → (Each (λ item. AnswersWrite plan item → ⊥) (journal_of plan (after_turn plan s turn) turns) → Rests plan.sizes (after_turn plan s turn).memory → Rests plan.sizes (session_after plan (after_turn plan s turn) turns).memory)
        → Rests plan.sizes (session_after plan (after_turn plan s turn) turns).memory
    go None is prepared later rests = later prepared
    go (Some item) is (inl (prepares, none)) later rests = rests none (turn_prepared plan s k turn item may.0 is prepares)
    go (Some item) is (inr after) later rests = later after

-- where none waits, nothing is touched
starts_untouched : (plan : Plan) (m : Memory) → m.requests ≡ [] → Rests plan.sizes m → StartsUntouched plan m m.phase m.log
starts_untouched plan m idle rests = go m.phase m.log refl refl
  where
    go : (phase : Phase) (log : Option Generation) → m.phase ≡ phase → m.log ≡ log → StartsUntouched plan m phase log
    go Checkpoint (Some log) at some = elim (rests at) [
      | inl w ↦ absurd (none_some (request_of w.write.ticket m.requests) w.write (ap (request_of w.write.ticket) idle) w.waits)
      | inr untouched ↦ untouched log some
    ]
    go Checkpoint None at some = tt
    go Trim log at some = tt
    go Arming log at some = tt
    go Deciding log at some = tt
    go Committed log at some = tt

pub prepared_is_untouched : PreparedIsUntouched
prepared_is_untouched plan s turns rise k may prepared idle = starts_untouched plan (session_after plan s turns).memory idle (prepared_run plan s turns rise k may prepared)
