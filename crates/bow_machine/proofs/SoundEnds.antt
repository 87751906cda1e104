-- Each step of a turn that is ready leaves less to do, so every run ends.
use Rattle.std.proofs.Common.{ℕ, zero, suc, ◌+◌, ◌*◌, ◌<◌, ◌≤◌, ◌≡◌, Bool, true, false, not, cond, List, [], ◌∷◌, length, Option, Some, None, arith, refl, sym, ap, ◌∙◌, subst, inl, inr, add-one}
use Rattle.std.proofs.lemmas.Bool.{cases_eq, cases_lt, cases_Bool}
use Rattle.std.proofs.lemmas.List.{length-map}
use Rattle.std.proofs.lemmas.List.Sums.{sum_by-cons, count_by-le-length}
use Rattle.std.specs.List.{AllByRecursion as Each, count_by, sum_by}
use Rattle.bow_units.specs.declared.sizes.Geometry.{Geometry}
use Rattle.bow_units.specs.declared.requests.Op.{Op}
use Rattle.bow_units.specs.declared.requests.Op.TheVariants.{Read, Write, Discard, Flush, Prepare, Commit}
use Rattle.bow_units.specs.declared.requests.Phase.{Phase}
use Rattle.bow_units.specs.declared.requests.Phase.TheVariants.{Trim, Arming, Checkpoint, Deciding, Committed}
use Rattle.bow_units.specs.declared.statuses.Kind.{Kind}
use Rattle.bow_units.specs.declared.statuses.Kind.TheVariants as kinds
use Rattle.bow_log.specs.Generations.{Generation}
use Rattle.bow_chain.specs.Contents.{Contents}
use Rattle.bow_copy.specs.Acts.{acts_before_log}
use Rattle.bow_copy.specs.declared.jobs.Job.{Job}
use Rattle.bow_copy.specs.declared.jobs.Job.TheVariants.{Rewrite, Link, Copy, Move}
use Rattle.bow_copy.proofs.ActsInOrder.{length-acts}
use Rattle.bow_queue.specs.Requests.{same_ticket, is_command}
use Rattle.bow_queue.specs.declared.tickets.Ticket.{Ticket}
use Rattle.bow_ranges.specs.Kinds.{kind_at, is_free, count_of}
use Rattle.bow_machine.specs.Requests.{Request, request_of, without_request, with_request}
use Rattle.bow_machine.specs.Memory.{Memory, Hand, Empty, Batching, Preparing, Committing, ReadsBlock0, WritesCurrent, WritesBackup, FlushesCopies, WritesFirstLog, FlushesFirstLog, FlushesAll, ReadsCurrent, WritesBlock0, FlushesDecision, kind_written, kinds_written}
use Rattle.bow_machine.specs.Calls.{Reply, Failed, Succeeded, Gave}
use Rattle.bow_machine.specs.Tasks.{Task, Waits, Answers, WritesBlock, ReadsBlock, FlushesFor, DiscardsFor, Acts, task_of}
use Rattle.bow_machine.specs.Steps.{Step, with_read, answered_for, act_step, call_in_hand, call_of, step_of}
use Rattle.bow_machine.proofs.Held.{OwnTickets}
use Rattle.bow_machine.specs.Ready.{is_idle}
use Rattle.bow_machine.specs.MemoryIsSound.{IsAdmissible, IsWaiting, JobIsReady, HandIsSound, MemoryIsSound}
use Rattle.bow_machine.specs.MemoryLaws.{CanHaveIt}
use Rattle.bow_machine.specs.Ends.{left_of, acts_left, left_in, steps_left, StepsAreFew, StepsGoDown, EveryRunEnds}
use Rattle.bow_machine.proofs.RequestLists.{same_is, found_ticket}
use Rattle.bow_machine.proofs.Counts.{count_most}
use Rattle.bow_machine.proofs.Tables.{count_one}
use Rattle.bow_machine.proofs.BatchActs.{lead_copy}
use Rattle.bow_machine.proofs.MappedWrites.{kinds_at_0, kinds_above}
use Rattle.bow_machine.proofs.Less.{below_most, IsLess, less_than_less, FitsDigits, less_number}
use Rattle.bow_machine.proofs.SoundLists.{own_tickets, without_no_more}
use Rattle.bow_machine.proofs.SoundTasks.{ActsOn, WritesNext, ReadsNext, TaskIsSound}
use Rattle.bow_machine.proofs.SoundCommands.{ActEnds, ActIsDone}
use Rattle.bow_machine.proofs.SoundActs.{act_fails, act_done}
use Rattle.bow_machine.proofs.SoundTurns.{turn_sound}
use Rattle.bow_machine.proofs.SoundSteps.{reply_ok, step_keeps_sound}
use Rattle.bow_machine.proofs.SoundCalls.{ready_is_table}

-- ----------------------------------------------------------------------------------------------------------------
-- Lists of requests.

-- fewer wait, where one that waited is answered
pub without_fewer : (t : Ticket) (requests : List Request) (r : Request) → request_of t requests ≡ Some r → length (without_request t requests) < length requests
without_fewer t [] r found = absurd (grind arith)
without_fewer t (x ∷ xs) r found = elim (cases_Bool (same_ticket x.ticket t)) [
  | inl is ↦ rw is (let rest = without_no_more t xs in omega (arith, rest))
  | inr other ↦ rw other (let rest = without_fewer t xs r (rw other at found) in omega (arith, rest))
]

-- a request that does not wait replaces none
with_none : (r : Request) (requests : List Request) → request_of r.ticket requests ≡ None → with_request r requests ≡ requests
with_none r [] none = refl
with_none r (x ∷ xs) none = elim (cases_Bool (same_ticket x.ticket r.ticket)) [
  | inl is ↦ let clash : Some x ≡ None = rw is at none in absurd (grind arith)
  | inr other ↦ rw other (ap (λ rest. x ∷ rest) (with_none r xs (rw other at none)))
]

-- a sum over the requests, one of which goes on
pub sum_with : (f : Request → ℕ) (r old : Request) (requests : List Request) → OwnTickets requests → request_of r.ticket requests ≡ Some old → sum_by f (with_request r requests) + f old ≡ sum_by f requests + f r
sum_with f r old [] own found = absurd (grind arith)
sum_with f r old (x ∷ xs) own found = elim (cases_Bool (same_ticket x.ticket r.ticket)) [
  | inl is ↦
      let here : Some x ≡ Some old = rw is at found in
      let same : x ≡ old = cc here in
      let none : request_of r.ticket xs ≡ None = ap (λ t. request_of t xs) (sym (same_is x.ticket r.ticket is)) ∙ own.0 in
      let rest : with_request r xs ≡ xs = with_none r xs none in
      let now : with_request r (x ∷ xs) ≡ r ∷ xs = rw is (ap (λ more. r ∷ more) rest) in
      let total = ap (sum_by f) now in
      let before = sum_by-cons f x xs in
      let after = sum_by-cons f r xs in
      let mine = ap f same in
      omega (arith, total, before, after, mine)
  | inr other ↦
      let rest = sum_with f r old xs own.1 (rw other at found) in
      let now : with_request r (x ∷ xs) ≡ x ∷ with_request r xs = rw other refl in
      let total = ap (sum_by f) now in
      let before = sum_by-cons f x xs in
      let after = sum_by-cons f x (with_request r xs) in
      omega (arith, total, before, after, rest)
]

-- ----------------------------------------------------------------------------------------------------------------
-- A request's turn.

-- a request is answered
fewer_requests : (m left : Memory) (t : Ticket) (r : Request) → request_of t m.requests ≡ Some r → left.requests ≡ without_request t m.requests → IsLess (left_in left) (left_in m)
fewer_requests m left t r found is = let fewer = without_fewer t m.requests r found in let same = ap length is in inl (omega (arith, same, fewer))

-- one block more of a request is done, and no more blocks are free
goes_on : (m : Memory) (table : List Kind) (r new : Request) → OwnTickets m.requests → request_of r.ticket m.requests ≡ Some r → new.ticket ≡ r.ticket → is_command new.op ≡ is_command r.op → left_of new.op new.done < left_of r.op r.done
    → count_of is_free table ≤ count_of is_free m.kinds → IsLess (left_in (record m { kinds = table; requests = with_request new m.requests })) (left_in m)
goes_on m table r new own found ticket command less free =
    let there : request_of new.ticket m.requests ≡ Some r = ap (λ t. request_of t m.requests) ticket ∙ found in
    let one : Request → ℕ = λ q. cond (is_command q.op) 1 0 in
    let of : Bool → ℕ = λ t. cond t 1 0 in
    let counts : count_by (λ q. is_command q.op) (with_request new m.requests) + one r ≡ count_by (λ q. is_command q.op) m.requests + one new = sum_with one new r m.requests own there in
    let same : one new ≡ one r = ap of command in
    let commands : count_by (λ q. is_command q.op) (with_request new m.requests) ≡ count_by (λ q. is_command q.op) m.requests = omega (arith, counts, same) in
    let sums = sum_with (λ (q : Request). left_of q.op q.done) new r m.requests own there in
    inr (
      length-map m.requests (λ other. cond (same_ticket other.ticket new.ticket) new other),
      inr (
        omega (arith, commands),
        elim (cases_lt (count_of is_free table) (count_of is_free m.kinds)) [
          | inl fewer ↦ inl fewer
          | inr no_fewer ↦ inr (omega (arith, free, no_fewer), inl (omega (arith, sums, less)))
        ],
      ),
    )

-- no block becomes free by a write
written_free : (p : Phase) (k : Kind) → cond (is_free (kind_written p k)) 1 0 ≤ cond (is_free k) 1 0
written_free Trim k = omega arith
written_free Checkpoint kinds.Free = omega arith
written_free Checkpoint kinds.Sector0 = omega arith
written_free Checkpoint kinds.Current = omega arith
written_free Checkpoint kinds.Unchanged = omega arith
written_free Checkpoint kinds.Changed = omega arith
written_free Checkpoint kinds.Backup = omega arith
written_free Checkpoint kinds.Saved = omega arith
written_free Arming k = omega arith
written_free Deciding k = omega arith
written_free Committed k = omega arith

no_more_free : (p : Phase) (table : List Kind) (b : ℕ) → b < length table → count_of is_free (kinds_written p table b) ≤ count_of is_free table
no_more_free p table b on = elim (cases_eq b 0) [
  | inl zeroth ↦ let same = ap (count_of is_free) (kinds_at_0 p table b zeroth) in omega (arith, same)
  | inr above ↦
      let same = ap (count_of is_free) (kinds_above p table b above) in
      let one = count_one table b (kind_written p (kind_at table b)) is_free on in
      let no_more = written_free p (kind_at table b) in
      omega (arith, same, one, no_more)
]

module _ (g : Geometry) (m : Memory) (now : Contents) (s : MemoryIsSound g m) where
  own : OwnTickets m.requests
  own = own_tickets m.requests s.rising

  writes_less : (r : Request) (b : ℕ) → WritesNext g m r b → (reply : Reply) → CanHaveIt g (call_of g m (WritesBlock r b)) reply → IsLess (left_in (step_of g now m (WritesBlock r b) reply).memory) (left_in m)
  writes_less r b w Failed can = fewer_requests m (step_of g now m (WritesBlock r b) Failed).memory r.ticket r w.request.found refl
  writes_less r b w Succeeded can = goes_on m (kinds_written m.phase m.kinds b) r (record r { done = r.done + 1 }) own w.request.found refl refl left (no_more_free m.phase m.kinds b (omega (arith, w.inside, s.table.size)))
    where
      left : left_of r.op (r.done + 1) < left_of r.op r.done
      left = subst (λ o. left_of o (r.done + 1) < left_of o r.done) (sym w.op) (omega (arith, w.left))
  writes_less r b w (Gave v) can = absurd can

  reads_less : (r : Request) (b : ℕ) → ReadsNext g m r b → (reply : Reply) → CanHaveIt g (call_of g m (ReadsBlock r b)) reply → IsLess (left_in (step_of g now m (ReadsBlock r b) reply).memory) (left_in m)
  reads_less r b w Failed can = fewer_requests m (step_of g now m (ReadsBlock r b) Failed).memory r.ticket r w.request.found refl
  reads_less r b w Succeeded can = absurd can
  reads_less r b w (Gave v) can = goes_on m m.kinds r (record r { op = with_read g.block_size r.op r.done v; done = r.done + 1 }) own w.request.found refl command left (omega arith)
    where
      command : is_command (with_read g.block_size r.op r.done v) ≡ is_command r.op
      command = subst (λ o. is_command (with_read g.block_size o r.done v) ≡ is_command o) (sym w.op) refl

      left : left_of (with_read g.block_size r.op r.done v) (r.done + 1) < left_of r.op r.done
      left = subst (λ o. left_of (with_read g.block_size o r.done v) (r.done + 1) < left_of o r.done) (sym w.op) (omega (arith, w.left))

-- ----------------------------------------------------------------------------------------------------------------
-- An act.

ends_less : (g : Geometry) (m : Memory) (t : Ticket) (r : Request) (step : Step) → request_of t m.requests ≡ Some r → ActEnds g m t step → IsLess (left_in step.memory) (left_in m)
ends_less g m t r step found e =
    let is : step ≡ answered_for e.left (Some r) e.outcome e.happens = e.is ∙ ap (λ o. answered_for e.left o e.outcome e.happens) found in
    let mine : r.ticket ≡ t = found_ticket t m.requests r found in
    subst (λ (x : Step). IsLess (left_in x.memory) (left_in m)) (sym is)
    (fewer_requests m (answered_for e.left (Some r) e.outcome e.happens).memory t r found (ap (without_request r.ticket) e.requests ∙ ap (λ u. without_request u m.requests) mine))

done_less : (g : Geometry) (m : Memory) (t : Ticket) (r : Request) (step : Step) → request_of t m.requests ≡ Some r → ActIsDone g m t step → IsLess (left_in step.memory) (left_in m)
done_less g m t r step found (inl a) = ends_less g m t r step found a.ends
done_less g m t r step found (inr go) = subst (λ (x : Step). IsLess (left_in x.memory) (left_in m)) (sym go.is) go.less

module _ (g : Geometry) (m : Memory) (now : Contents) (s : MemoryIsSound g m) where
  act_less : (taken : Memory) → ActsOn g m taken → (reply : Reply) → CanHaveIt g (call_in_hand g taken taken.hand) reply → IsLess (left_in (act_step g now taken taken.hand reply).memory) (left_in m)
  act_less taken a reply can = elim a.less [
    | inl same ↦ subst (λ n. IsLess (left_in (act_step g now taken taken.hand reply).memory) (left_in n)) same (from reply can)
    | inr less ↦ less_than_less _ (left_in taken) (left_in m) (from reply can) less.0
  ]
    where
      from : (reply : Reply) → CanHaveIt g (call_in_hand g taken taken.hand) reply → IsLess (left_in (act_step g now taken taken.hand reply).memory) (left_in taken)
      from Failed can = let f = act_fails g taken a.sound now taken.hand refl a.busy in ends_less g taken f.ticket f.request _ f.waits f.ends
      from Succeeded can = let d = act_done g taken a.sound now taken.hand refl a.busy Succeeded can (reply_ok []).1 in done_less g taken d.ticket d.request _ d.waits d.done
      from (Gave v) can = let d = act_done g taken a.sound now taken.hand refl a.busy (Gave v) can (reply_ok v).0 in done_less g taken d.ticket d.request _ d.waits d.done

  task_less : (task : Task) → TaskIsSound g m task → is_idle task ≡ false → (reply : Reply) → CanHaveIt g (call_of g m task) reply → IsLess (left_in (step_of g now m task reply).memory) (left_in m)
  task_less Waits is busy reply can = absurd (grind arith)
  task_less (Answers r outcome) is busy reply can = fewer_requests m (step_of g now m (Answers r outcome) reply).memory r.ticket r is.request.found refl
  task_less (WritesBlock r b) is busy reply can = writes_less g m now s r b is reply can
  task_less (ReadsBlock r b) is busy reply can = reads_less g m now s r b is reply can
  task_less (FlushesFor r) is busy Failed can = fewer_requests m (step_of g now m (FlushesFor r) Failed).memory r.ticket r is.request.found refl
  task_less (FlushesFor r) is busy Succeeded can = fewer_requests m (step_of g now m (FlushesFor r) Succeeded).memory r.ticket r is.request.found refl
  task_less (FlushesFor r) is busy (Gave v) can = absurd can
  task_less (DiscardsFor r) is busy reply can = fewer_requests m (step_of g now m (DiscardsFor r) reply).memory r.ticket r is.request.found refl
  task_less (Acts taken) is busy reply can = act_less taken is reply can

-- ----------------------------------------------------------------------------------------------------------------
-- As a number.

-- no more blocks are left than sixteen for each request
left_few : (g : Geometry) (requests : List Request) → Each (IsWaiting g) requests → sum_by (λ r. left_of r.op r.done) requests ≤ length requests * 16
left_few g [] each = omega arith
left_few g (r ∷ rs) each =
    let rest = left_few g rs each.1 in
    let sum = sum_by-cons (λ r. left_of r.op r.done) r rs in
    let one = few r.op (each.0).op in
    omega (arith, rest, sum, one)
  where
    few : (op : Op) → IsAdmissible g op → left_of op r.done ≤ 16
    few (Read e p) h = omega (arith, h.few)
    few (Write e p) h = omega (arith, h.few)
    few (Discard e) h = omega arith
    few Flush h = omega arith
    few Prepare h = omega arith
    few Commit h = omega arith

-- a batch has no more acts left than a copy of eight blocks
job_few : (g : Geometry) (table : List Kind) (clean : Bool) (log : Generation) (job : Job) (done : ℕ) (slots : List (List ℕ)) → JobIsReady g table clean log job done slots → length (acts_before_log job) ≤ 17
job_few g table clean log Rewrite done slots h = omega arith
job_few g table clean log (Link dest) done slots h = omega arith
job_few g table clean log (Copy source dest count) done slots (h, c) = omega (arith, lead_copy source dest count, h.few)
job_few g table clean log (Move from to) done slots h = omega arith

acts_few : (g : Geometry) (m : Memory) (hand : Hand) (log : Option Generation) → HandIsSound g m hand log → acts_left hand m.clean ≤ 19
acts_few g m Empty log h = go m.clean
  where
    go : (t : Bool) → cond t 0 3 ≤ 19
    go true = omega arith
    go false = omega arith
acts_few g m (Batching b) None h = absurd h
acts_few g m (Batching b) (Some log) h = elim (cases_lt (length (acts_before_log b.progress.job)) b.progress.done) [
  | inl late ↦ omega (arith, late, length-acts b.progress.job)
  | inr early ↦ let few = job_few g m.kinds m.clean log b.progress.job b.progress.done b.slots (h.before early) in omega (arith, few, length-acts b.progress.job)
]
acts_few g m (Preparing t c b ReadsBlock0) log h = omega arith
acts_few g m (Preparing t c b (WritesCurrent v)) log h = omega arith
acts_few g m (Preparing t c b (WritesBackup v)) log h = omega arith
acts_few g m (Preparing t c b (FlushesCopies v)) log h = omega arith
acts_few g m (Preparing t c b WritesFirstLog) log h = omega arith
acts_few g m (Preparing t c b FlushesFirstLog) log h = omega arith
acts_few g m (Committing t again FlushesAll) log h = omega arith
acts_few g m (Committing t again ReadsCurrent) log h = omega arith
acts_few g m (Committing t again (WritesBlock0 v)) log h = omega arith
acts_few g m (Committing t again FlushesDecision) log h = omega arith

fits_digits : (g : Geometry) (m : Memory) → MemoryIsSound g m → FitsDigits g.blocks (left_in m)
fits_digits g m s = record {
  commands = let few = count_by-le-length (λ (r : Request). is_command r.op) m.requests in omega (arith, few, s.few);
  free = let few = count_most is_free m.kinds in omega (arith, few, s.table.size);
  blocks_left = let few = left_few g m.requests s.requests in omega (arith, few, s.few);
  acts = acts_few g m m.hand m.log s.in_hand;
}

pub steps_are_few : StepsAreFew
steps_are_few g m s = below_most g.blocks (left_in m) s.few (fits_digits g m s)

pub steps_go_down : StepsGoDown
steps_go_down g m turn reply now s can ready =
    less_number g.blocks (left_in (step_of g now m (task_of g m turn) reply).memory) (left_in m) (fits_digits g (step_of g now m (task_of g m turn) reply).memory (step_keeps_sound g m turn reply now s can))
    (task_less g m now s (task_of g m turn) (turn_sound g m turn s) (ready_is_table g m turn s ∙ ap not ready) reply can)

-- ----------------------------------------------------------------------------------------------------------------
-- Every run ends.

pub every_run_ends : EveryRunEnds
every_run_ends g count run turn reply now r = let whole = (so_far count (omega arith)).1 in omega (arith, whole)
  where
    so_far : (i : ℕ) → i ≤ count → MemoryIsSound g (run i) × (i + steps_left g (run i) ≤ steps_left g (run 0))
    so_far zero below = (r.begins, omega arith)
    so_far (suc i) below =
        let before = so_far i (omega arith) in
        let can = r.can i (omega arith) in
        let sound = step_keeps_sound g (run i) (turn i) (reply i) (now i) before.0 can in
        let less = steps_go_down g (run i) (turn i) (reply i) (now i) before.0 can (r.ready i (omega arith)) in
        let is : run (suc i) ≡ (step_of g (now i) (run i) (task_of g (run i) (turn i)) (reply i)).memory = ap run (sym (add-one i)) ∙ r.steps i (omega arith) in
        let steps = ap (steps_left g) is in
        (subst (MemoryIsSound g) (sym is) sound, omega (arith, before.1, less, steps))
