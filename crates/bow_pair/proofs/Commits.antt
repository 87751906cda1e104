-- The machine's steps of a flush and of a commit that wait alone.
use Rattle.std.proofs.Common.{◌≡◌, ◌⊎◌, inl, inr, ℕ, ◌+◌, ◌≤◌, Bool, true, false, List, [], ◌∷◌, Option, Some, None, refl, sym, ap, ◌∙◌, subst, arith}
use Rattle.std.specs.Prelude.{if◌then◌else◌, find, not}
use Rattle.bow_units.specs.declared.sizes.Geometry.{Geometry}
use Rattle.bow_units.specs.declared.requests.Op.{Op}
use Rattle.bow_units.specs.declared.requests.Op.TheVariants.{Commit, Flush}
use Rattle.bow_units.specs.declared.requests.Outcome.TheVariants as outcomes
use Rattle.bow_units.specs.declared.requests.Phase.{Phase}
use Rattle.bow_units.specs.declared.requests.Phase.TheVariants.{Checkpoint, Committed}
use Rattle.bow_chain.specs.Contents.{Contents}
use Rattle.bow_log.specs.Generations.{Generation}
use Rattle.bow_queue.specs.declared.tickets.Ticket.{Ticket}
use Rattle.bow_queue.specs.Requests.{is_command, same_ticket}
use Rattle.bow_machine.specs.Calls.{Call, Reply, Failed, Succeeded, Gave}
use Rattle.bow_machine.specs.Memory.{CommitAct, Committing, Empty, Batching, Preparing, FlushesAll, FlushesDecision, Hand, Memory, ReadsCurrent, WritesBlock0, has_command}
use Rattle.bow_machine.specs.MemoryIsSound.{HandIsSound, MemoryIsSound}
use Rattle.bow_machine.specs.MemoryLaws.{CanHaveIt}
use Rattle.bow_machine.specs.Requests.{Request, request_of, unsettled, without_request}
use Rattle.bow_machine.specs.Steps.{Answered, Step, Told, act_step, call_of, commit_step, flushed, step_of}
use Rattle.bow_machine.specs.Tasks.{Acts, FlushesFor, Task, Waits, command_task, first_of, map_task, take_first, taken, task_for, task_of, unless_refused}
use Rattle.bow_pair.specs.Committing.{CommitsIn, HandAt, answer_in}
use Rattle.std.specs.Prelude.{◌++◌, unwrap_or}
use Rattle.bow_disk.specs.Disk.{Content}
use Rattle.bow_flat.specs.Flat.{Event, Flat, after}
use Rattle.bow_flat.specs.Flat.Event.{Flushes}
use Rattle.bow_machine.specs.Laws.{after_all}
use Rattle.bow_machine.specs.MemoryLaws.{tells_fault}
use Rattle.bow_core.specs.Standing.{Leads, StandsIn, seen}
use Rattle.bow_core.specs.Steps.{IsStep}
use Rattle.bow_machine.specs.Steps.{unknown}
use Rattle.bow_core.specs.Turns.{told_of}
use Rattle.bow_core.specs.Views.{IsOpened, View}
use Rattle.bow_core.specs.declared.turns.Step.{Step as OwnStep}
use Rattle.bow_machine.specs.declared.turns.Turn.TheVariants.{Command, Map}
use Rattle.bow_machine.specs.declared.turns.Turn.TheVariants as turns
use Rattle.bow_disk.specs.Disk.{IsCrash, IsShaped}
use Rattle.bow_disk.specs.Shapes.{crash_image}
use Rattle.bow_chain.specs.Contents.{contents_of}
use Rattle.bow_guard.specs.Cuts.{candidates_of}
use Rattle.bow_guard.specs.Standing.{IsSoundImage}
use Rattle.bow_guard.specs.Standing.{StandsInPhase}
use Rattle.bow_guard.proofs.Joined.{crashes_are_cuts}
use Rattle.bow_machine.specs.Ends.{commit_left}
use Rattle.bow_machine.specs.MemoryLaws.{CanHave}
use Rattle.bow_machine.specs.Standing.{IsStanding}
use Rattle.bow_machine.specs.Steps.{answered_for, call_in_hand, call_of_commit, commit_failed, committing_events, deciding_events, released}
use Rattle.bow_machine.proofs.Cuts.{machine_cut}
use Rattle.bow_restore.proofs.Backs.{plain_unsound}
use Rattle.bow_core.specs.Calls.{RepliesTo}
use Rattle.bow_core.specs.Forward.{AreForwardable, IsForward, StaysForward}
use Rattle.bow_core.specs.Standing.{StandsOver, state_after}
use Rattle.bow_core.specs.Steps.{call_in, step_in}
use Rattle.bow_pair.specs.Committing.{AreCurrent, IsAtRest, IsFlushedFor}
use borrow.Author.Tests.{eq-eqb}

same_itself : (ticket : Ticket) → same_ticket ticket ticket ≡ true
same_itself ticket = rw (eq-eqb ticket.key ticket.key refl, eq-eqb ticket.serial ticket.serial refl) refl

-- the one request that waits
pub found : (m : Memory) (r : Request) → m.requests ≡ r ∷ [] → request_of r.ticket m.requests ≡ Some r
found m r is =
    ap (λ (rs : List Request). request_of r.ticket rs) is ∙ ap (λ (b : Bool). if b then Some r else find (λ (x : Request). same_ticket x.ticket r.ticket) []) (same_itself r.ticket)

gone : (m : Memory) (r : Request) → m.requests ≡ r ∷ [] → without_request r.ticket m.requests ≡ []
gone m r is = ap (λ (rs : List Request). without_request r.ticket rs) is ∙ ap (λ (b : Bool). if not b then r ∷ [] else []) (same_itself r.ticket)

-- nothing is in hand where no request waits
pub none_in_hand : (g : Geometry) (m : Memory) → MemoryIsSound g m → m.requests ≡ [] → m.hand ≡ Empty
none_in_hand g m s none = by m.hand m.log s.in_hand
  where
    lost : (t : Ticket) (r : Request) → request_of t m.requests ≡ Some r → ⊥
    lost t r at = cc (sym (ap (λ (rs : List Request). request_of t rs) none) ∙ at)

    by : (h : Hand) (l : Option Generation) → HandIsSound g m h l → h ≡ Empty
    by Empty l is = refl
    by (Batching b) (Some log) is = let w = is.for_write.waits in absurd (lost b.ticket w.write w.waits)
    by (Batching b) None is = absurd is
    by (Preparing t c b act) l is = absurd (lost t (is.1).command (is.1).waits)
    by (Committing t again act) l is = absurd (lost t (is.1).command (is.1).waits)

-- ---- a flush

flush_task : (g : Geometry) (m : Memory) (r : Request) → m.requests ≡ r ∷ [] → r.op ≡ Flush → m.hand ≡ Empty → m.phase ≡ Checkpoint → task_of g m (Map r.ticket) ≡ FlushesFor r
flush_task g m r is asks free phase =
    ap (map_task g m) (found m r is) ∙ ap (task_for g m r) asks ∙ ap (λ (h : Hand). if has_command h then Waits else unless_refused r (unsettled m.phase) (FlushesFor r)) free
    ∙ ap (λ (p : Phase). unless_refused r (unsettled p) (FlushesFor r)) phase

pub flush_step : (g : Geometry) (m : Memory) (r : Request) → m.requests ≡ r ∷ [] → r.op ≡ Flush → m.hand ≡ Empty → m.phase ≡ Checkpoint → (now : Contents) (reply : Reply) → step_of g now m (task_of g m (Map r.ticket)) reply ≡ flushed m r reply
flush_step g m r is asks free phase now reply = ap (λ (t : Task). step_of g now m t reply) (flush_task g m r is asks free phase)

-- what it tells
pub flush_failed : (m : Memory) (r : Request) (reply : Reply) (told : Told) → told ≡ (flushed m r reply).told → answer_in told ≡ Some false → reply ≡ Failed
flush_failed m r Failed told is fails = refl
flush_failed m r Succeeded told is fails = absurd (cc (sym (ap answer_in is) ∙ fails))
flush_failed m r (Gave v) told is fails = absurd (cc (sym (ap answer_in is) ∙ fails))

pub flush_answers : (m : Memory) (r : Request) (reply : Reply) (told : Told) → told ≡ (flushed m r reply).told → (answer_in told ≡ Some true) ⊎ (answer_in told ≡ Some false)
flush_answers m r Failed told is = inr (ap answer_in is)
flush_answers m r Succeeded told is = inl (ap answer_in is)
flush_answers m r (Gave v) told is = inl (ap answer_in is)

flush_memory : (m : Memory) (r : Request) → m.requests ≡ r ∷ [] → (reply : Reply) → (((flushed m r reply).memory).phase ≡ m.phase) × (((flushed m r reply).memory).requests ≡ [])
flush_memory m r is Failed = (refl, gone m r is)
flush_memory m r is Succeeded = (refl, gone m r is)
flush_memory m r is (Gave v) = (refl, gone m r is)

flush_events : (m : Memory) (r : Request) (reply : Reply) (told : Told) → told ≡ (flushed m r reply).told → answer_in told ≡ Some true → ((flushed m r reply).events ≡ Flushes ∷ []) × (told ≡ Answered r.ticket r.op outcomes.Done)
flush_events m r Failed told is done = absurd (cc (sym (ap answer_in is) ∙ done))
flush_events m r Succeeded told is done = (refl, is)
flush_events m r (Gave v) told is done = (refl, is)

no_events : (m : Memory) (r : Request) (reply : Reply) (told : Told) → told ≡ (flushed m r reply).told → answer_in told ≡ Some false → ((flushed m r reply).events ≡ []) × (told ≡ Answered r.ticket r.op (outcomes.DiskFault 0))
no_events m r Failed told is fails = (refl, is)
no_events m r Succeeded told is fails = absurd (cc (sym (ap answer_in is) ∙ fails))
no_events m r (Gave v) told is fails = absurd (cc (sym (ap answer_in is) ∙ fails))

-- whether it was done
pub answered_so : (o : Option Bool) (b : Bool) → (o ≡ Some true) ⊎ (o ≡ Some false) → b ≡ unwrap_or o false → o ≡ Some b
answered_so o b (inl yes_) is = yes_ ∙ ap (λ (x : Bool). Some x) (sym (is ∙ ap (λ (x : Option Bool). unwrap_or x false) yes_))
answered_so o b (inr no_) is = no_ ∙ ap (λ (x : Bool). Some x) (sym (is ∙ ap (λ (x : Option Bool). unwrap_or x false) no_))

-- A device at rest takes in a request, which waits alone.
module _ {D : Type 0} (stated : D → Option Geometry) (more : ℕ) (v w : View D) (r : Request) (rest : IsAtRest stated more v)
    (admits : w ≡ record v { memory = record v.memory { requests = v.memory.requests ++ r ∷ [] }; admitted = v.admitted + 1 }) where
  pub alone : w.memory.requests ≡ r ∷ []
  alone = ap (λ (x : View D). x.memory.requests) admits ∙ ap (λ (rs : List Request). rs ++ r ∷ []) rest.idle

  pub free : w.memory.hand ≡ Empty
  free = ap (λ (x : View D). x.memory.hand) admits ∙ none_in_hand v.geometry v.memory (rest.opened).sound rest.idle

  pub in_checkpoint : w.memory.phase ≡ Checkpoint
  in_checkpoint = ap (λ (x : View D). x.memory.phase) admits ∙ rest.checkpoint

  pub same_geometry : w.geometry ≡ v.geometry
  same_geometry = ap (λ (x : View D). x.geometry) admits

-- a flush of it
module _ {D : Type 0} (stated : D → Option Geometry) (content : D → Option Content) (moment : D → ℕ) (left : D → ℕ → List (List ℕ) → Type 0) (faults : D → ℕ) (v w u : View D) (ticket : Ticket) (tells : OwnStep) (rest : IsAtRest stated 2 v)
    (admits : w ≡ record v { memory = record v.memory { requests = v.memory.requests ++ record { ticket = ticket; op = Flush; done = 0 } ∷ [] }; admitted = v.admitted + 1 }) where
  r : Request
  r = record { ticket = ticket; op = Flush; done = 0 }

  by_flush : (now : Contents) (reply : Reply) → step_of w.geometry now w.memory (task_of w.geometry w.memory (Map ticket)) reply ≡ flushed w.memory r reply
  unfolding r
  by_flush now reply = flush_step w.geometry w.memory r (alone stated 2 v w r rest admits) refl (free stated 2 v w r rest admits) (in_checkpoint stated 2 v w r rest admits) now reply

  module _ (s : IsStep stated content moment left faults w (turns.Map ticket) tells u) where
    tells_so : told_of tells ≡ (flushed w.memory r s.reply).told
    tells_so = s.told ∙ ap (λ (x : Step). x.told) (by_flush unknown s.reply)

    pub flush_answered : (answer_in (told_of tells) ≡ Some true) ⊎ (answer_in (told_of tells) ≡ Some false)
    flush_answered = flush_answers w.memory r s.reply (told_of tells) tells_so

    pub flush_rests : IsOpened stated u → IsAtRest stated 1 u
    unfolding r
    flush_rests opened =
        let kept = flush_memory w.memory r (alone stated 2 v w r rest admits) s.reply in
        let memory : u.memory ≡ (flushed w.memory r s.reply).memory = s.memory ∙ ap (λ (x : Step). x.memory) (by_flush unknown s.reply) in
        let admitted : u.admitted ≡ v.admitted + 1 = s.admitted ∙ ap (λ (x : View D). x.admitted) admits in
        let places : u.places ≡ v.places = s.places ∙ ap (λ (x : View D). x.places) admits in
        let serials = rest.serials in
        let some = rest.places in
        record {
          opened = opened;
          checkpoint = ap (λ (x : Memory). x.phase) memory ∙ kept.0 ∙ in_checkpoint stated 2 v w r rest admits;
          idle = ap (λ (x : Memory). x.requests) memory ∙ kept.1;
          places = omega (arith, places, some);
          serials = omega (arith, admitted, serials);
        }

    pub flush_fault : answer_in (told_of tells) ≡ Some false → tells_fault (told_of tells) ≡ true
    flush_fault fails = ap tells_fault (no_events w.memory r s.reply (told_of tells) tells_so fails).1

    pub flush_done : answer_in (told_of tells) ≡ Some true → told_of tells ≡ Answered ticket Flush outcomes.Done
    unfolding r
    flush_done done = (flush_events w.memory r s.reply (told_of tells) tells_so done).1

  -- the state for which it stands then
  module _ (f : Flat) (l : Leads content moment left w (turns.Map ticket) tells u f) where
    seen_so : told_of tells ≡ (flushed w.memory r l.reply).told
    seen_so = l.told ∙ ap (λ (x : Step). x.told) (by_flush (seen (content w.disk)) l.reply)

    pub flush_stands : answer_in (told_of tells) ≡ Some true → StandsIn content u (after v.geometry.blocks Flushes f)
    flush_stands done =
        let events = ap (λ (x : Step). x.events) (by_flush (seen (content w.disk)) l.reply) ∙ (flush_events w.memory r l.reply (told_of tells) seen_so done).0 in
        subst (StandsIn content u) (ap (λ (es : List Event). after_all w.geometry.blocks es f) events) l.stands

    pub flush_still : answer_in (told_of tells) ≡ Some false → StandsIn content u f
    flush_still fails =
        let events = ap (λ (x : Step). x.events) (by_flush (seen (content w.disk)) l.reply) ∙ (no_events w.memory r l.reply (told_of tells) seen_so fails).0 in
        subst (StandsIn content u) (ap (λ (es : List Event). after_all w.geometry.blocks es f) events) l.stands

-- ---- a commit

-- where a step of a commit leads, of which so many acts were left: it goes on; or it failed; or it is done
abbrev pub After : ℕ → Step → Type 0
After left st = ((answer_in st.told ≡ None) × (tells_fault st.told ≡ false) × ((rest : ℕ) × (left ≡ rest + 1) × CommitsIn rest st.memory))
    ⊎ (((answer_in st.told ≡ Some false) × (tells_fault st.told ≡ true)) ⊎ ((answer_in st.told ≡ Some true) × (tells_fault st.told ≡ false) × ((st.memory).phase ≡ Committed)))

module _ (g : Geometry) (m : Memory) (r : Request) (waits : m.requests ≡ r ∷ []) (asks : r.op ≡ Commit) (t : Ticket) (again : Bool) (own : t ≡ r.ticket) where
  there : request_of t m.requests ≡ Some r
  there = ap (λ (x : Ticket). request_of x m.requests) own ∙ found m r waits

  act_fails : (act : CommitAct) → After (commit_left act) (commit_step m t again act Failed)
  act_fails act = subst (λ (o : Option Request). After (commit_left act) (answered_for (commit_failed m act) o (λ x. outcomes.DiskFault 0) (λ x. deciding_events again act))) (sym there) (inr (inl (refl, refl)))

  pub act_after : (act : CommitAct) (reply : Reply) → CanHave g (call_of_commit m act) reply → After (commit_left act) (commit_step m t again act reply)
  act_after act Failed can = act_fails act
  act_after FlushesAll Succeeded can = inl (refl, refl, (3, refl, record { request = r; waits = waits; asks = asks; hand = (own, refl); checkpoint = λ e. absurd (omega arith) }))
  act_after FlushesAll (Gave v) can = absurd can
  act_after ReadsCurrent Succeeded can = absurd can
  act_after ReadsCurrent (Gave v) can = inl (refl, refl, (2, refl, record { request = r; waits = waits; asks = asks; hand = (own, refl); checkpoint = λ e. absurd (omega arith) }))
  act_after (WritesBlock0 content) Succeeded can = inl (refl, refl, (1, refl, record { request = r; waits = waits; asks = asks; hand = (own, refl); checkpoint = λ e. absurd (omega arith) }))
  act_after (WritesBlock0 content) (Gave v) can = absurd can
  act_after FlushesDecision Succeeded can =
      subst (λ (o : Option Request). After 1 (answered_for (released m) o (λ x. outcomes.Done) (λ x. committing_events again))) (sym there) (inr (inr (refl, refl, refl)))
  act_after FlushesDecision (Gave v) can = absurd can

pub command_after : (g : Geometry) (m : Memory) (left : ℕ) → CommitsIn left m → (now : Contents) (reply : Reply) → CanHaveIt g (call_of g m (task_of g m Command)) reply → After left (step_of g now m (task_of g m Command) reply)
command_after g m left k now reply can = by m.hand refl k.hand
  where
    taking : Memory
    taking = record m { hand = Committing (k.request).ticket false FlushesAll }

    by : (h : Hand) → m.hand ≡ h → HandAt left (k.request).ticket h → After left (step_of g now m (task_of g m Command) reply)
    by Empty is at =
        let task : task_of g m Command ≡ Acts (record m { hand = Committing (k.request).ticket false FlushesAll }) = ap (command_task m) is ∙ ap (λ (rs : List Request). take_first m (first_of rs)) k.waits
        ∙ ap (λ (op : Op). take_first m (if is_command op then Some k.request else None)) k.asks ∙ ap (λ (op : Op). taken m k.request op m.phase) k.asks ∙ ap (taken m k.request Commit) (k.checkpoint at) in
        subst (λ (n : ℕ). After n (step_of g now m (task_of g m Command) reply)) (sym at)
        (subst (λ (x : Task). After 4 (step_of g now m x reply)) (sym task)
        (act_after g (record m { hand = Committing (k.request).ticket false FlushesAll }) k.request k.waits k.asks (k.request).ticket false refl FlushesAll reply (subst (λ (x : Task). CanHaveIt g (call_of g m x) reply) task can)))
    by (Batching b) is at = absurd at
    by (Preparing t c b act) is at = absurd at
    by (Committing t again act) is at =
        let task : task_of g m Command ≡ Acts m = ap (command_task m) is in
        subst (λ (n : ℕ). After n (step_of g now m (task_of g m Command) reply)) (sym at.1)
        (subst (λ (x : Task). After (commit_left act) (step_of g now m x reply)) (sym task)
        (subst (λ (h : Hand). After (commit_left act) (act_step g now m h reply)) (sym is)
        (act_after g m k.request k.waits k.asks t again at.0 act reply (subst (λ (h : Hand). CanHaveIt g (call_in_hand g m h) reply) is (subst (λ (x : Task). CanHaveIt g (call_of g m x) reply) task can)))))

can_have : (g : Geometry) (call : Option Call) (reply : Reply) → RepliesTo g call reply → CanHaveIt g call reply
can_have g None reply may = tt
can_have g (Some call) reply may = may

-- what a cut leaves of a device that committed has no log in block 0
committed_unsound : (g : Geometry) (m : Memory) (c : Content) (image : List (List ℕ)) (h : Flat) → IsShaped g.block_size g.blocks c → IsCrash c.candidates image → IsStanding g m (contents_of c.now) (candidates_of c.candidates) h → m.phase ≡ Committed → IsSoundImage g (contents_of image) → ⊥
committed_unsound g m c image h shaped crash standing phase sound =
    let cut = ((crashes_are_cuts g g.block_size c image shaped).0 crash).1 in
    let stands = subst (λ (p : Phase). StandsInPhase g p h (contents_of image)) (standing.phases ∙ phase) (machine_cut g m (contents_of c.now) (candidates_of c.candidates) h (contents_of image) standing cut) in
    plain_unsound g (standing.sound).sizes image (crash_image g.block_size g.blocks c image shaped crash) stands.plain sound.0 sound.1 sound.2

-- a commit over a device, since it was flushed
module _ {D : Type 0} (stated : D → Option Geometry) (content : D → Option Content) (moment : D → ℕ) (left : D → ℕ → List (List ℕ) → Type 0) (faults : D → ℕ) (first : View D) where
  pub record Going (v : View D) (acts : ℕ) : Type 0 where
    pub opened : IsOpened stated v
    pub commits : CommitsIn acts v.memory
    pub geometry : v.geometry ≡ first.geometry
    pub later : faults first.disk ≤ faults v.disk
    pub forward : (f : Flat) → IsFlushedFor content first f → IsForward content v f × ((h : Flat) × StandsIn content v h)

  pub going_first : (w : View D) (ticket : Ticket) → IsAtRest stated 1 first
      → w ≡ record first { memory = record first.memory { requests = first.memory.requests ++ record { ticket = ticket; op = Commit; done = 0 } ∷ [] }; admitted = first.admitted + 1 } → IsOpened stated w
      → ((f : Flat) → StandsIn content first f → StandsIn content w f) → ((f : Flat) → IsForward content first f → IsForward content w f) → Going w 4
  going_first w ticket rest admits opened stands forward =
      let r : Request = record { ticket = ticket; op = Commit; done = 0 } in
      record {
        opened = opened;
        commits = record {
          request = r;
          waits = alone stated 1 first w r rest admits;
          asks = refl;
          hand = subst (HandAt 4 ticket) (sym (free stated 1 first w r rest admits)) refl;
          checkpoint = λ e. in_checkpoint stated 1 first w r rest admits;
        };
        geometry = same_geometry stated 1 first w r rest admits;
        later = let same : faults w.disk ≡ faults first.disk = ap (λ (x : View D). faults x.disk) admits in omega (arith, same);
        forward = λ f k. (forward f k.forward, (f, stands f k.stands));
      }

  module _ (v u : View D) (acts : ℕ) (tells : OwnStep) (going : Going v acts) (s : IsStep stated content moment left faults v turns.Command tells u) where
    leads_to : After acts (step_in v turns.Command s.reply)
    leads_to = command_after v.geometry v.memory acts going.commits unknown s.reply (can_have v.geometry (call_in v turns.Command) s.reply (s.made).may)

    pub going_fault : answer_in (told_of tells) ≡ Some false → tells_fault (told_of tells) ≡ true
    going_fault fails = elim leads_to [
      | inl on ↦ absurd (cc (sym (ap answer_in s.told ∙ on.0) ∙ fails))
      | inr (inl failed) ↦ ap tells_fault s.told ∙ failed.1
      | inr (inr done) ↦ absurd (cc (sym (ap answer_in s.told ∙ done.0) ∙ fails))
    ]

    going_no_fault : (b : Option Bool) → answer_in (told_of tells) ≡ b → (b ≡ Some false → ⊥) → tells_fault (told_of tells) ≡ false
    going_no_fault b is not_ = elim leads_to [
      | inl on ↦ ap tells_fault s.told ∙ on.1
      | inr (inl failed) ↦ absurd (not_ (sym is ∙ ap answer_in s.told ∙ failed.0))
      | inr (inr done) ↦ ap tells_fault s.told ∙ done.1
    ]

    going_committed : answer_in (told_of tells) ≡ Some true → u.memory.phase ≡ Committed
    going_committed is = elim leads_to [
      | inl on ↦ absurd (cc (sym (ap answer_in s.told ∙ on.0) ∙ is))
      | inr (inl failed) ↦ absurd (cc (sym (ap answer_in s.told ∙ failed.0) ∙ is))
      | inr (inr done) ↦ ap (λ (x : Memory). x.phase) s.memory ∙ done.2
    ]

    module _ (opened : IsOpened stated u) (later : faults v.disk ≤ faults u.disk) (leads : (f : Flat) → StandsIn content v f → Leads content moment left v turns.Command tells u f)
        (forward : (f : Flat) → IsForward content v f → turns.Command ≡ turns.Command → StaysForward content moment left v tells u f) where
      pub going_on : answer_in (told_of tells) ≡ None → (rest : ℕ) × (acts ≡ rest + 1) × Going u rest
      going_on is = elim leads_to [
        | inr (inl failed) ↦ absurd (cc (sym (ap answer_in s.told ∙ failed.0) ∙ is))
        | inr (inr done) ↦ absurd (cc (sym (ap answer_in s.told ∙ done.0) ∙ is))
        | inl on ↦ (
          (on.2).0,
          (on.2).1,
          record {
            opened = opened;
            commits = subst (CommitsIn (on.2).0) (sym s.memory) (on.2).2;
            geometry = s.geometry ∙ going.geometry;
            later = let before = going.later in omega (arith, before, later);
            forward = λ f k.
                let was = going.forward f k in
                ((forward f was.0 refl).on (going_no_fault None is (λ e. cc e)), (state_after content v turns.Command (leads (was.1).0 (was.1).1).reply (was.1).0, (leads (was.1).0 (was.1).1).stands));
          },
        )
      ]

      pub going_images : (f : Flat) → IsFlushedFor content first f → AreForwardable content u f
      going_images f k = (forward f (going.forward f k).0 refl).images

      pub going_done : ((d : D) (c : Content) → content d ≡ Some c → (g : Geometry) → stated d ≡ Some g → IsShaped g.block_size g.blocks c) → answer_in (told_of tells) ≡ Some true → (f : Flat) → IsFlushedFor content first f → AreCurrent content u f
      going_done shaped is f k c told image crash =
          let was = going.forward f k in
          let after_ = leads (was.1).0 (was.1).1 in
          elim (going_images f k c told image crash) [
            | inl shows ↦ shows
            | inr sound ↦ absurd (committed_unsound u.geometry u.memory c image (state_after content v turns.Command after_.reply (was.1).0) (shaped u.disk c told u.geometry opened.sizes) crash (subst (λ (o : Option Content). StandsOver u.geometry u.memory o (state_after content v turns.Command after_.reply (was.1).0)) told after_.stands) (going_committed is) sound.0)
          ]

left_some : (act : CommitAct) → commit_left act ≡ 0 → ⊥
left_some FlushesAll e = omega arith
left_some ReadsCurrent e = omega arith
left_some (WritesBlock0 v) e = omega arith
left_some FlushesDecision e = omega arith

-- some act is left
pub none_left_over : (left : ℕ) (m : Memory) → left ≡ 0 → CommitsIn left m → ⊥
none_left_over left m none k = by m.hand k.hand
  where
    by : (h : Hand) → HandAt left (k.request).ticket h → ⊥
    by Empty at = omega (arith, at, none)
    by (Batching b) at = at
    by (Preparing t c b act) at = at
    by (Committing t again act) at = left_some act (sym at.1 ∙ none)
