-- A device that is in the checkpoint stays there while no commit waits, and it is there once a prepare was done.
use Rattle.std.proofs.Common.{◌≡◌, inl, inr, ℕ, zero, suc, Bool, true, false, cond, List, [], ◌∷◌, Option, Some, None, refl, sym, ap, ◌∙◌, subst, arith}
use Rattle.std.specs.Prelude.{slice_get, slice_index_or}
use Rattle.std.specs.List.{All}
use Rattle.std.specs.Option.{option_map}
use Rattle.std.proofs.lemmas.List.Elements.{All-append, All-cons, All-get_or, All-nil, All-weaker}
use Rattle.std.proofs.lemmas.Option.{get_or_from_slice_get, slice_get_within}
use Rattle.bow_units.specs.declared.sizes.Geometry.{Geometry}
use Rattle.bow_units.specs.declared.requests.Op.{Op}
use Rattle.bow_units.specs.declared.requests.Op.TheVariants as ops
use Rattle.bow_units.specs.declared.requests.Outcome.{Outcome}
use Rattle.bow_units.specs.declared.requests.Outcome.TheVariants as outcomes
use Rattle.bow_units.specs.declared.requests.Phase.TheVariants.{Trim, Arming, Checkpoint}
use Rattle.bow_chain.specs.Contents.{Contents}
use Rattle.bow_copy.specs.Acts.{next_act, after_act}
use Rattle.bow_copy.specs.declared.jobs.After.{After}
use Rattle.bow_copy.specs.declared.jobs.After.TheVariants as afters
use Rattle.bow_flat.specs.Flat.{Event}
use Rattle.bow_flat.specs.Flat.Event.{Commits, Flushes, Prepares}
use Rattle.bow_queue.specs.declared.tickets.Ticket.{Ticket}
use Rattle.bow_machine.specs.Calls.{Reply, Failed, Succeeded, Gave}
use Rattle.bow_machine.specs.Memory.{Memory, Batch, Hand, Empty, Batching, Preparing, Committing, PrepareAct, ReadsBlock0, WritesCurrent, WritesBackup, FlushesCopies, WritesFirstLog, FlushesFirstLog, CommitAct, FlushesAll, ReadsCurrent, WritesBlock0, FlushesDecision}
use Rattle.bow_machine.specs.MemoryIsSound.{HandIsSound, MemoryIsSound, PrepareIsSound}
use Rattle.bow_machine.specs.MemoryLaws.{CanHaveIt}
use Rattle.bow_machine.specs.Requests.{Request, request_of}
use Rattle.bow_machine.specs.Steps.{Told, Idle, Moved, Wrote, Got, Answered, Step, act_step, answered_for, batch_after, call_of, changed, committing_events, fault_after, fault_events, is_log_write, step_of, unknown}
use Rattle.bow_machine.specs.Tasks.{Task, Waits, Answers, WritesBlock, ReadsBlock, FlushesFor, DiscardsFor, Acts, task_of}
use Rattle.bow_machine.specs.Told.{AnswerRow, ToldRow}
use Rattle.bow_machine.specs.declared.turns.Turn.{Turn}
use Rattle.bow_machine.proofs.SoundTasks.{task_by}
use Rattle.bow_machine.proofs.SoundTold.{steps_tell_so}
use Rattle.bow_machine.proofs.SoundTurns.{turn_sound}
use Rattle.bow_script.specs.declared.scripts.Line.{Line}
use Rattle.bow_script.specs.declared.scripts.Line.TheVariants as lines
use Rattle.bow_script.specs.Scripts.{concat, requests_of}
use Rattle.bow_script.proofs.Lasts.{all_parts}
use Rattle.bow_deal.specs.Dealing.{every}
use Rattle.bow_deal.proofs.Dealt.{all_lanes, all_sections}
use Rattle.bow_history.specs.declared.items.Item.{Item}
use Rattle.bow_history.specs.Histories.{journal_of, session_after, with_items}
use Rattle.bow_history.specs.Journal.{Plan}
use Rattle.bow_history.specs.Prepared.{AnswersPrepare, IsPrepared}
use Rattle.bow_history.specs.Sections.{SectionsRise}
use Rattle.bow_history.specs.Sessions.{Session, Turned, Admits, Steps, IsFor, IsTurn, after_turn, after_turn_of, call_of_turn, device_step, item_in, item_of, item_of_turn, lane_of, told_to, turn_of}
use Rattle.bow_history.specs.SoundSessions.{IsSoundSession, MayRun}
use Rattle.bow_history.proofs.Lists.{one_of}
use Rattle.bow_history.proofs.Seats.{lane_is}
use Rattle.bow_history.proofs.SoundTurns.{turns_keep_sound}
use Rattle.bow_session.specs.Requests.{lane_lines, plan_of, request_of as request_of_line, section_lines}
use Rattle.bow_pair.specs.Pairs.{IsPlayed, MayBeDealt}
use Rattle.bow_pair.specs.Playing.{part_for}
use Rattle.bow_pair.specs.declared.playing.Round.{Round}
use Rattle.bow_pair.specs.declared.playing.Round.TheVariants.{Opening, Later}

-- ----------------------------------------------------------------------------------------------------------------
-- A step.

-- none of these requests commits
abbrev NoneCommits : List Request → Type 0
NoneCommits requests = (t : Ticket) (r : Request) → request_of t requests ≡ Some r → r.op ≡ ops.Commit → ⊥

-- an answer, and an act of a batch, leave the phase
answer_stays : (left : Memory) (o : Option Request) (outcome : Request → Outcome) (happens : Request → List Event) → (answered_for left o outcome happens).memory.phase ≡ left.phase
answer_stays left None outcome happens = refl
answer_stays left (Some r) outcome happens = refl

batch_stays : (m : Memory) (b : Batch) (reply : Reply) (leads : After) → (batch_after m b reply leads).phase ≡ m.phase
batch_stays m b reply afters.Going = refl
batch_stays m b reply afters.LogGiven = refl
batch_stays m b reply afters.Clean = refl
batch_stays m b reply (afters.Failed false) = refl
batch_stays m b reply (afters.Failed true) = by (is_log_write (next_act b.progress))
  where
    by : (writes : Bool) → (cond writes (changed m b) m).phase ≡ m.phase
    by true = refl
    by false = refl

module _ (g : Geometry) (m : Memory) (now : Contents) (s : MemoryIsSound g m) (none : NoneCommits m.requests) (at : m.phase ≡ Checkpoint) where
  none_prepares : (c b : ℕ) (act : PrepareAct) → PrepareIsSound g m c b act → ⊥
  none_prepares c b ReadsBlock0 h = let clash : Trim ≡ Checkpoint = sym h.phase ∙ at in grind arith
  none_prepares c b (WritesCurrent v) h = let clash : Trim ≡ Checkpoint = sym h.0.phase ∙ at in grind arith
  none_prepares c b (WritesBackup v) h = let clash : Trim ≡ Checkpoint = sym h.0.phase ∙ at in grind arith
  none_prepares c b (FlushesCopies v) h = let clash : Trim ≡ Checkpoint = sym h.0.phase ∙ at in grind arith
  none_prepares c b WritesFirstLog h = let clash : Arming ≡ Checkpoint = sym h ∙ at in grind arith
  none_prepares c b FlushesFirstLog h = let clash : Arming ≡ Checkpoint = sym h ∙ at in grind arith

  act_stays : (hand : Hand) → m.hand ≡ hand → (reply : Reply) → (act_step g now m hand reply).memory.phase ≡ Checkpoint
  act_stays Empty is reply = at
  act_stays (Batching b) is Failed =
      answer_stays (batch_after m b Failed (after_act b.progress false)) (request_of b.ticket m.requests) fault_after (fault_events g) ∙ batch_stays m b Failed (after_act b.progress false) ∙ at
  act_stays (Batching b) is Succeeded = batch_stays m b Succeeded (after_act b.progress true) ∙ at
  act_stays (Batching b) is (Gave v) = batch_stays m b (Gave v) (after_act b.progress true) ∙ at
  act_stays (Preparing t c b act) is reply = absurd (none_prepares c b act (subst (λ h. HandIsSound g m h m.log) is s.in_hand).0)
  act_stays (Committing t again act) is reply = let k = (subst (λ h. HandIsSound g m h m.log) is s.in_hand).1 in absurd (none t k.command k.waits k.asks)

step_stays : (g : Geometry) (m : Memory) (turn : Turn) (reply : Reply) → MemoryIsSound g m → CanHaveIt g (call_of g m (task_of g m turn)) reply → NoneCommits m.requests → m.phase ≡ Checkpoint
    → (device_step g m turn reply).memory.phase ≡ Checkpoint
step_stays g m turn reply s can none at =
    task_by g unknown m (λ phase table log. phase ≡ Checkpoint) at (λ r b w. at) (λ r w. at)
    (λ taken reply a can. act_stays g taken unknown a.sound (subst NoneCommits (sym a.requests) none) (a.phase ∙ at) taken.hand refl reply)
    (task_of g m turn) reply (turn_sound g m turn s) can

-- ----------------------------------------------------------------------------------------------------------------
-- A step that ends a prepare.

-- what is told ends it, and this alone happens
abbrev EndsPrepare : Step → Type 0
EndsPrepare step = (t : Ticket) × (op : Op) × (step.told ≡ Answered t op outcomes.Done) × (step.events ≡ Prepares ∷ [])

no_fault : (left : Memory) (o : Option Request) (outcome : Request → Outcome) (happens : Request → List Event) → ((r : Request) → outcome r ≡ outcomes.Done → ⊥) → EndsPrepare (answered_for left o outcome happens) → ⊥
no_fault left None outcome happens other (t, op, told, events) = grind (arith, told)
no_fault left (Some r) outcome happens other (t, op, told, events) = other r (cc told)

no_end : (left : Memory) (o : Option Request) (again : Bool) → EndsPrepare (answered_for left o (λ r. outcomes.Done) (λ r. committing_events again)) → ⊥
no_end left None again (t, op, told, events) = grind (arith, told)
no_end left (Some r) true (t, op, told, events) = let clash : Flushes ∷ Commits ∷ [] ≡ Prepares ∷ [] = events in grind (arith, clash)
no_end left (Some r) false (t, op, told, events) = let clash : Commits ∷ [] ≡ Prepares ∷ [] = events in grind (arith, clash)

module _ (g : Geometry) (now : Contents) (m : Memory) where
  act_prepares : (hand : Hand) (reply : Reply) → EndsPrepare (act_step g now m hand reply) → (act_step g now m hand reply).memory.phase ≡ Checkpoint
  act_prepares Empty reply (t, op, told, events) = absurd (grind (arith, told))
  act_prepares (Batching b) Failed ends = absurd (no_fault _ (request_of b.ticket m.requests) fault_after (fault_events g) (λ r is. grind (arith, is)) ends)
  act_prepares (Batching b) Succeeded (t, op, told, events) = absurd (grind (arith, told))
  act_prepares (Batching b) (Gave v) (t, op, told, events) = absurd (grind (arith, told))
  act_prepares (Preparing t c b act) reply ends = prepare act reply ends
    where
      prepare : (act : PrepareAct) (reply : Reply) → EndsPrepare (act_step g now m (Preparing t c b act) reply) → (act_step g now m (Preparing t c b act) reply).memory.phase ≡ Checkpoint
      prepare act Failed ends = absurd (no_fault (record m { hand = Empty }) (request_of t m.requests) (λ r. outcomes.DiskFault 0) (λ r. []) (λ r is. grind (arith, is)) ends)
      prepare ReadsBlock0 Succeeded (u, op, told, events) = absurd (grind (arith, told))
      prepare ReadsBlock0 (Gave v) (u, op, told, events) = absurd (grind (arith, told))
      prepare (WritesCurrent v) Succeeded (u, op, told, events) = absurd (grind (arith, told))
      prepare (WritesCurrent v) (Gave w) (u, op, told, events) = absurd (grind (arith, told))
      prepare (WritesBackup v) Succeeded (u, op, told, events) = absurd (grind (arith, told))
      prepare (WritesBackup v) (Gave w) (u, op, told, events) = absurd (grind (arith, told))
      prepare (FlushesCopies v) Succeeded (u, op, told, events) = absurd (grind (arith, told))
      prepare (FlushesCopies v) (Gave w) (u, op, told, events) = absurd (grind (arith, told))
      prepare WritesFirstLog Succeeded (u, op, told, events) = absurd (grind (arith, told))
      prepare WritesFirstLog (Gave v) (u, op, told, events) = absurd (grind (arith, told))
      prepare FlushesFirstLog Succeeded ends = answer_stays (record m { phase = Checkpoint; hand = Empty; clean = true }) (request_of t m.requests) _ _
      prepare FlushesFirstLog (Gave v) ends = answer_stays (record m { phase = Checkpoint; hand = Empty; clean = true }) (request_of t m.requests) _ _
  act_prepares (Committing t again act) reply ends = absurd (commit act reply ends)
    where
      commit : (act : CommitAct) (reply : Reply) → EndsPrepare (act_step g now m (Committing t again act) reply) → ⊥
      commit act Failed ends = no_fault _ (request_of t m.requests) (λ r. outcomes.DiskFault 0) _ (λ r is. grind (arith, is)) ends
      commit FlushesAll Succeeded (u, op, told, events) = grind (arith, told)
      commit FlushesAll (Gave v) (u, op, told, events) = grind (arith, told)
      commit ReadsCurrent Succeeded (u, op, told, events) = grind (arith, told)
      commit ReadsCurrent (Gave v) (u, op, told, events) = grind (arith, told)
      commit (WritesBlock0 w) Succeeded (u, op, told, events) = grind (arith, told)
      commit (WritesBlock0 w) (Gave v) (u, op, told, events) = grind (arith, told)
      commit FlushesDecision Succeeded ends = no_end _ (request_of t m.requests) again ends
      commit FlushesDecision (Gave v) ends = no_end _ (request_of t m.requests) again ends

-- then the checkpoint begins
step_prepares : (g : Geometry) (now : Contents) (m : Memory) (task : Task) (reply : Reply) → EndsPrepare (step_of g now m task reply) → (step_of g now m task reply).memory.phase ≡ Checkpoint
step_prepares g now m Waits reply (t, op, told, events) = absurd (grind (arith, events))
step_prepares g now m (Answers r outcome) reply (t, op, told, events) = absurd (grind (arith, events))
step_prepares g now m (WritesBlock r b) Failed (t, op, told, events) = absurd (grind (arith, events))
step_prepares g now m (WritesBlock r b) Succeeded (t, op, told, events) = absurd (grind (arith, events))
step_prepares g now m (WritesBlock r b) (Gave v) (t, op, told, events) = absurd (grind (arith, events))
step_prepares g now m (ReadsBlock r b) Failed (t, op, told, events) = absurd (grind (arith, events))
step_prepares g now m (ReadsBlock r b) Succeeded (t, op, told, events) = absurd (grind (arith, events))
step_prepares g now m (ReadsBlock r b) (Gave v) (t, op, told, events) = absurd (grind (arith, events))
step_prepares g now m (FlushesFor r) Failed (t, op, told, events) = absurd (grind (arith, events))
step_prepares g now m (FlushesFor r) Succeeded (t, op, told, events) = absurd (grind (arith, events))
step_prepares g now m (FlushesFor r) (Gave v) (t, op, told, events) = absurd (grind (arith, events))
step_prepares g now m (DiscardsFor r) reply (t, op, told, events) = absurd (grind (arith, events))
step_prepares g now m (Acts taken) reply ends = act_prepares g now taken taken.hand reply ends

-- ----------------------------------------------------------------------------------------------------------------
-- A turn.

-- the plan asks for no commit
abbrev pub NoneAsks : Plan → Type 0
NoneAsks plan = (lane n : ℕ) → plan.request lane n ≡ Some ops.Commit → ⊥

-- a commit is what was asked for
for_commit : (g : Geometry) (asked op : Op) → IsFor g asked op → op ≡ ops.Commit → asked ≡ ops.Commit
for_commit g (ops.Read e p) op is commit = absurd (subst (IsFor g (ops.Read e p)) commit is)
for_commit g (ops.Write e p) op is commit = sym is ∙ commit
for_commit g (ops.Discard e) op is commit = sym is ∙ commit
for_commit g ops.Flush op is commit = sym is ∙ commit
for_commit g ops.Prepare op is commit = sym is ∙ commit
for_commit g ops.Commit op is commit = refl

told_stays : (plan : Plan) (s : Session) (told : Told) → (told_to plan s told).memory ≡ s.memory
told_stays plan s Idle = refl
told_stays plan s Moved = refl
told_stays plan s (Wrote t i) = refl
told_stays plan s (Got t i) = refl
told_stays plan s (Answered t op outcome) = refl

-- the item, if there is one, answers a prepare done
abbrev AnswersIn : Plan → Option Item → Type 0
AnswersIn plan None = ⊥
AnswersIn plan (Some item) = AnswersPrepare plan item

module _ (plan : Plan) (s : Session) (k : IsSoundSession plan s) where
  none_waits : NoneAsks plan → NoneCommits s.memory.requests
  none_waits none t r waits is =
      let lane = k.seated.lanes t r waits in
      let seat = k.seated.each lane.0 t lane.1 in
      let same : seat.request ≡ r = one_of (request_of t s.memory.requests) seat.request r seat.waits waits in
      none lane.0 (s.number lane.0) (seat.next ∙ ap (λ (op : Op). Some op) (for_commit plan.sizes seat.asked (seat.request).op seat.is (ap (λ (x : Request). x.op) same ∙ is)))

  turn_stays : NoneAsks plan → (turn : Turned) → IsTurn plan s turn → s.memory.phase ≡ Checkpoint → (after_turn plan s turn).memory.phase ≡ Checkpoint
  turn_stays none (Admits lane ticket op) is at = at
  turn_stays none (Steps actor reply) is at = by (turn_of s actor) is.1
    where
      by : (o : Option Turn) → CanHaveIt plan.sizes (call_of_turn plan s o) reply → (after_turn_of plan s o reply).memory.phase ≡ Checkpoint
      by None can = at
      by (Some turn) can =
          let step = device_step plan.sizes s.memory turn reply in
          ap (λ (m : Memory). m.phase) (told_stays plan (record s { memory = step.memory }) step.told) ∙ step_stays plan.sizes s.memory turn reply k.memory can (none_waits none) at

  -- what is told of a prepare that was done
  told_done : (told : Told) (events : List Event) (after : List Request) → ToldRow plan.sizes unknown s.memory told events after → AnswersIn plan (item_of plan s told)
      → (t : Ticket) × (op : Op) × (told ≡ Answered t op outcomes.Done) × (events ≡ Prepares ∷ [])
  told_done Idle events after row done = absurd done
  told_done Moved events after row done = absurd done
  told_done (Wrote t i) events after row done = absurd done
  told_done (Got t i) events after row done = absurd done
  told_done (Answered t op outcomes.Data) events after row done = absurd done
  told_done (Answered t op (outcomes.NoSpace n)) events after row done = absurd done
  told_done (Answered t op (outcomes.DiskFault n)) events after row done = absurd done
  told_done (Answered t op outcomes.OutOfRange) events after row done = absurd done
  told_done (Answered t op outcomes.ReservedMagic) events after row done = absurd done
  told_done (Answered t op (outcomes.WrongPhase phase)) events after row done = absurd done
  told_done (Answered t op (outcomes.Unsettled phase)) events after row done = absurd done
  told_done (Answered t op outcomes.Done) events after (r, waits, (asks, row, gone)) done = (t, op, refl, by row)
    where
      lane : (lane : ℕ) × (s.hand lane ≡ Some t)
      lane = k.seated.lanes t r waits

      of_lane : lane_of s.hand t plan.lanes ≡ lane.0
      of_lane = lane_is s.hand t lane.0 plan.lanes (k.seated.each lane.0 t lane.1).inside lane.1 (λ other has. k.seated.own lane.0 other t lane.1 has)

      prepares : op ≡ ops.Prepare
      prepares =
          let seat = k.seated.each lane.0 t lane.1 in
          let asked : seat.asked ≡ ops.Prepare = one_of (plan.request lane.0 (s.number lane.0)) seat.asked ops.Prepare seat.next (ap (λ (l : ℕ). plan.request l (s.number l)) (sym of_lane) ∙ done) in
          let same : seat.request ≡ r = one_of (request_of t s.memory.requests) seat.request r seat.waits waits in
          sym asks ∙ ap (λ (x : Request). x.op) (sym same) ∙ subst (λ (x : Op). IsFor plan.sizes x (seat.request).op) asked seat.is

      of_prepare : AnswerRow plan.sizes s.memory r ops.Prepare outcomes.Done events → events ≡ Prepares ∷ []
      of_prepare (inl refused) = absurd (let clash : None ≡ Some outcomes.Done = refused.0 in grind (arith, clash))
      of_prepare (inr (passed, inl ends)) = ends.2
      of_prepare (inr (passed, inr (inl fault))) = absurd (let clash : outcomes.Done ≡ outcomes.DiskFault 0 = fault.0 in grind (arith, clash))
      of_prepare (inr (passed, inr (inr (inl space)))) = absurd (let clash : outcomes.Done ≡ outcomes.NoSpace 0 = space.0 in grind (arith, clash))
      of_prepare (inr (passed, inr (inr (inr wrong)))) = absurd (let clash : outcomes.Done ≡ outcomes.WrongPhase s.memory.phase = wrong.0 in grind (arith, clash))

      by : AnswerRow plan.sizes s.memory r op outcomes.Done events → events ≡ Prepares ∷ []
      by row = of_prepare (subst (λ (x : Op). AnswerRow plan.sizes s.memory r x outcomes.Done events) prepares row)

  turn_prepares : (turn : Turned) → IsTurn plan s turn → AnswersIn plan (item_in plan s turn) → (after_turn plan s turn).memory.phase ≡ Checkpoint
  turn_prepares (Admits lane ticket op) is done = absurd done
  turn_prepares (Steps actor reply) is done = by (turn_of s actor) is.1 done
    where
      by : (o : Option Turn) → CanHaveIt plan.sizes (call_of_turn plan s o) reply → AnswersIn plan (item_of_turn plan s o reply) → (after_turn_of plan s o reply).memory.phase ≡ Checkpoint
      by None can done = absurd done
      by (Some turn) can done =
          let step = device_step plan.sizes s.memory turn reply in
          let row = steps_tell_so plan.sizes s.memory turn reply unknown k.memory can in
          ap (λ (m : Memory). m.phase) (told_stays plan (record s { memory = step.memory }) step.told)
          ∙ step_prepares plan.sizes unknown s.memory (task_of plan.sizes s.memory turn) reply (told_done step.told step.events step.memory.requests row done)

-- ----------------------------------------------------------------------------------------------------------------
-- A run.

-- from the checkpoint it goes on in the checkpoint
pub run_stays : (plan : Plan) (s : Session) (turns : List Turned) → SectionsRise plan → NoneAsks plan → IsSoundSession plan s → MayRun plan s turns → s.memory.phase ≡ Checkpoint
    → (session_after plan s turns).memory.phase ≡ Checkpoint
run_stays plan s [] rise none k may at = at
run_stays plan s (turn ∷ turns) rise none k may at =
    run_stays plan (after_turn plan s turn) turns rise none (turns_keep_sound plan s turn rise k may.0) may.1 (turn_stays plan s k none turn may.0 at)

-- and once a prepare was done it is there
pub run_prepares : (plan : Plan) (s : Session) (turns : List Turned) → SectionsRise plan → NoneAsks plan → IsSoundSession plan s → MayRun plan s turns → IsPrepared plan (journal_of plan s turns)
    → (session_after plan s turns).memory.phase ≡ Checkpoint
run_prepares plan s [] rise none k may prepared = absurd prepared
run_prepares plan s (turn ∷ turns) rise none k may prepared =
    let next = turns_keep_sound plan s turn rise k may.0 in
    by (item_in plan s turn) refl prepared (λ later. run_prepares plan (after_turn plan s turn) turns rise none next may.1 later)
  where
    by : (item : Option Item) → item_in plan s turn ≡ item → IsPrepared plan (with_items item (journal_of plan (after_turn plan s turn) turns))
        → (IsPrepared plan (journal_of plan (after_turn plan s turn) turns) → (session_after plan (after_turn plan s turn) turns).memory.phase ≡ Checkpoint)
        → (session_after plan (after_turn plan s turn) turns).memory.phase ≡ Checkpoint
    by None is prepared later = later prepared
    by (Some item) is (inr after) later = later after
    by (Some item) is (inl (done, none_written)) later =
        run_stays plan (after_turn plan s turn) turns rise none (turns_keep_sound plan s turn rise k may.0) may.1 (turn_prepares plan s k turn may.0 (subst (AnswersIn plan) (sym is) done))

-- ----------------------------------------------------------------------------------------------------------------
-- A script that does not commit.

-- the line does not commit
abbrev NotCommit : Line → Type 0
NotCommit lines.Commit = ⊥
NotCommit line = Unit {0}

played_not : (line : Line) → IsPlayed line → NotCommit line
played_not (lines.Write first count seed) played = tt
played_not (lines.WriteHex first bytes) played = tt
played_not (lines.Read first count) played = tt
played_not (lines.Discard first count) played = tt
played_not lines.Flush played = tt
played_not lines.Prepare played = tt
played_not lines.Commit played = played

not_asked : (size : ℕ) (line : Line) → NotCommit line → request_of_line size line ≡ ops.Commit → ⊥
not_asked size (lines.Write first count seed) not is = grind (arith, is)
not_asked size (lines.WriteHex first bytes) not is = grind (arith, is)
not_asked size (lines.Read first count) not is = grind (arith, is)
not_asked size (lines.Discard first count) not is = grind (arith, is)
not_asked size lines.Flush not is = grind (arith, is)
not_asked size lines.Prepare not is = grind (arith, is)
not_asked size lines.Commit not is = not

-- what holds of all lines holds of each
pub line_holds : (P : Line → Type 0) (lines : List Line) (n : ℕ) (line : Line) → All P lines → slice_get lines n ≡ Some line → P line
line_holds P lines n line all at = subst P (get_or_from_slice_get lines n line line at) (All-get_or P lines n line (slice_get_within lines n line at) all)

-- what holds of all requests holds of a lane's
pub in_section : (P : Line → Type 0) (section : List (List Line)) (lane : ℕ) → All P (concat section) → All P (section_lines section lane)
in_section P [] lane all = All-nil P
in_section P (one ∷ rest) zero all = (all_parts P one (concat rest) all).0
in_section P (one ∷ rest) (suc lane) all = in_section P rest lane (all_parts P one (concat rest) all).1

in_lane : (P : Line → Type 0) (script : List (List (List Line))) (lane : ℕ) → All P (requests_of script) → All P (lane_lines script lane)
in_lane P [] lane all = All-nil P
in_lane P (section ∷ sections) lane all =
    let parts = all_parts P (concat section) (requests_of sections) all in
    All-append P (section_lines section lane) (lane_lines sections lane) (in_section P section lane parts.0) (in_lane P sections lane parts.1)

none_asks : (g : Geometry) (script : List (List (List Line))) → All NotCommit (requests_of script) → NoneAsks (plan_of g script)
none_asks g script all lane n is = by (slice_get (lane_lines script lane) n) refl is
  where
    by : (o : Option Line) → slice_get (lane_lines script lane) n ≡ o → option_map (request_of_line g.block_size) o ≡ Some ops.Commit → ⊥
    by None at is = grind (arith, is)
    by (Some line) at is =
        let not : NotCommit line = line_holds NotCommit (lane_lines script lane) n line (in_lane NotCommit script lane all) at in not_asked g.block_size line not (cc is)

-- what holds of all requests of a script holds of a device's lanes of the first section
pub first_lanes : (P : Line → Type 0) (device count : ℕ) (script : List (List (List Line))) → All P (requests_of script) → All P (concat (every count device (slice_index_or script 0 [])))
first_lanes P device count [] all = all
first_lanes P device count (section ∷ sections) all = all_lanes P count device section (all_parts P (concat section) (requests_of sections) all).0

-- nor does a device's part of one that may be dealt
part_not : (round : Round) (device count : ℕ) (script : List (List (List Line))) → All NotCommit (requests_of script) → All NotCommit (requests_of (part_for round device count script))
part_not Opening device count script all =
    All-append NotCommit (concat (every count device (slice_index_or script 0 []))) (lines.Prepare ∷ []) (first_lanes NotCommit device count script all) (All-cons NotCommit lines.Prepare [] tt (All-nil NotCommit))
part_not Later device count [] all = all
part_not Later device count (section ∷ sections) all = all_sections NotCommit device count sections (all_parts NotCommit (concat section) (requests_of sections) all).1

pub part_asks_none : (g : Geometry) (round : Round) (device count : ℕ) (script : List (List (List Line))) → MayBeDealt script → NoneAsks (plan_of g (part_for round device count script))
part_asks_none g round device count script may =
    none_asks g (part_for round device count script) (part_not round device count script (All-weaker IsPlayed NotCommit played_not (requests_of script) may.played))
