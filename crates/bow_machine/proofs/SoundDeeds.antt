-- What the command in hand has done, and not told, from step to step.
use Rattle.std.proofs.Common.{ℕ, ◌+◌, ◌≡◌, ◌⊎◌, ◌==◌, Bool, true, false, List, [], Option, Some, None, arith, refl, sym, ap, ◌∙◌, subst, inl, inr}
use Rattle.std.proofs.lemmas.Bool.{cond_both}
use Rattle.bow_units.specs.declared.sizes.Geometry.{Geometry}
use Rattle.bow_units.specs.declared.sizes.Extent.{Extent}
use Rattle.bow_units.specs.declared.requests.Op.{Op}
use Rattle.bow_units.specs.declared.requests.Op.TheVariants.{Read, Write, Discard, Flush, Prepare, Commit}
use Rattle.bow_units.specs.declared.requests.Outcome.{Outcome}
use Rattle.bow_units.specs.declared.requests.Outcome.TheVariants.{Done, Data, DiskFault}
use Rattle.bow_chain.specs.Contents.{Contents}
use Rattle.bow_copy.specs.Acts.{after_act}
use Rattle.bow_copy.specs.declared.jobs.After.{After}
use Rattle.bow_copy.specs.declared.jobs.After.TheVariants as afters
use Rattle.bow_flat.specs.Flat.{Event}
use Rattle.bow_queue.specs.declared.tickets.Ticket.{Ticket}
use Rattle.bow_machine.specs.Requests.{Request, request_of, refusal}
use Rattle.bow_machine.specs.Memory.{Memory, Batch, Hand, Empty, Batching, Preparing, Committing, PrepareAct, ReadsBlock0, WritesCurrent, WritesBackup, FlushesCopies, WritesFirstLog, FlushesFirstLog, CommitAct, FlushesAll, ReadsCurrent, WritesBlock0, FlushesDecision, has_command}
use Rattle.bow_machine.specs.Calls.{Reply, Failed, Succeeded, Gave}
use Rattle.bow_machine.specs.Tasks.{Turn, Map, Worker, Command, Task, Waits, Answers, WritesBlock, ReadsBlock, FlushesFor, DiscardsFor, Acts, unless_refused, unless_command, task_for, map_task, worker_task, command_task, task_of}
use Rattle.bow_machine.specs.Steps.{Step, answered_for, fault_after, fault_events, batch_after, commit_failed, prepare_after, commit_after, deciding_events, committing_events, batch_step, prepare_step, commit_step, act_step, step_of}
use Rattle.bow_machine.specs.MemoryIsSound.{IsForCommand, HandIsSound, MemoryIsSound}
use Rattle.bow_machine.specs.Deeds.{Deed, NoDeed, deed_of, AnsweredDeed, DeedRow, DeedsGoOn}
use Rattle.bow_machine.proofs.SoundTasks.{TaskIsSound}
use Rattle.bow_machine.proofs.SoundBatches.{in_hand_of}
use Rattle.bow_machine.proofs.SoundTurns.{turn_sound}

-- where nothing is untold, before and after, any answer may come
none_answered : (op : Op) (old new : Deed) → old ≡ NoDeed → new ≡ NoDeed → AnsweredDeed op old new
none_answered (Read e p) old new o n = n ∙ sym o
none_answered (Write e p) old new o n = (o, n)
none_answered (Discard e) old new o n = (o, n)
none_answered Flush old new o n = (o, n)
none_answered Prepare old new o n = n
none_answered Commit old new o n = n

none_in : (hand : Hand) → has_command hand ≡ false → deed_of hand ≡ NoDeed
none_in Empty free = refl
none_in (Batching b) free = refl
none_in (Preparing t c b act) free = absurd (grind arith)
none_in (Committing t again act) free = absurd (grind arith)

-- a batch leaves no command in hand
batch_leaves : (m : Memory) (b : Batch) (reply : Reply) (a : After) → deed_of (batch_after m b reply a).hand ≡ NoDeed
batch_leaves m b reply afters.Going = refl
batch_leaves m b reply afters.LogGiven = refl
batch_leaves m b reply afters.Clean = refl
batch_leaves m b reply (afters.Failed true) = refl
batch_leaves m b reply (afters.Failed false) = refl

failed_leaves : (m : Memory) (act : CommitAct) → deed_of (commit_failed m act).hand ≡ NoDeed
failed_leaves m FlushesAll = refl
failed_leaves m ReadsCurrent = refl
failed_leaves m (WritesBlock0 v) = refl
failed_leaves m FlushesDecision = refl

module _ (g : Geometry) (now : Contents) (old : Deed) where
  -- so it goes on with this step
  abbrev Goes : Step → Type 0
  Goes step = DeedRow step.told step.events old (deed_of step.memory.hand)

  -- the request of this ticket is answered
  answer_goes : (t : Ticket) (requests : List Request) (left : Memory) (outcome : Request → Outcome) (happens : Request → List Event) (r : Request) → request_of t requests ≡ Some r
      → AnsweredDeed r.op old (deed_of left.hand) → Goes (answered_for left (request_of t requests) outcome happens)
  answer_goes t requests left outcome happens r waits row = subst (λ o. Goes (answered_for left o outcome happens)) (sym waits) row

  -- `n` is what the turn acts on: what is in hand in it was there before, or nothing was untold
  module _ (n : Memory) (begun : (old ≡ deed_of n.hand) ⊎ (old ≡ NoDeed)) (s : MemoryIsSound g n) where
    none_before : deed_of n.hand ≡ NoDeed → old ≡ NoDeed
    none_before none = elim begun [ inl same ↦ same ∙ none | inr none ↦ none ]

    batch_act : (b : Batch) → n.hand ≡ Batching b → (reply : Reply) → Goes (batch_step g n b reply)
    batch_act b is Failed =
        let w = ((in_hand_of g n b is s).held.for_write).waits in
        answer_goes b.ticket n.requests (batch_after n b Failed (after_act b.progress false)) fault_after (fault_events g) w.write w.waits
        (none_answered (w.write).op old _ (none_before (ap deed_of is)) (batch_leaves n b Failed (after_act b.progress false)))
    batch_act b is Succeeded = inl (batch_leaves n b Succeeded (after_act b.progress true) ∙ sym (none_before (ap deed_of is)))
    batch_act b is (Gave v) = inl (batch_leaves n b (Gave v) (after_act b.progress true) ∙ sym (none_before (ap deed_of is)))

    prepare_act : (t : Ticket) (c b : ℕ) (act : PrepareAct) → n.hand ≡ Preparing t c b act → IsForCommand n.requests t Prepare → (reply : Reply) → Goes (prepare_step now n t c b act reply)
    prepare_act t c b act is w Failed = answer_goes t n.requests (record n { hand = Empty }) (λ r. DiskFault 0) (λ r. []) w.command w.waits (subst (λ o. AnsweredDeed o old NoDeed) (sym w.asks) refl)
    prepare_act t c b ReadsBlock0 is w Succeeded = inl (ap deed_of is ∙ sym (none_before (ap deed_of is)))
    prepare_act t c b ReadsBlock0 is w (Gave v) = inl (sym (none_before (ap deed_of is)))
    prepare_act t c b (WritesCurrent x) is w Succeeded = inl (sym (none_before (ap deed_of is)))
    prepare_act t c b (WritesCurrent x) is w (Gave v) = inl (sym (none_before (ap deed_of is)))
    prepare_act t c b (WritesBackup x) is w Succeeded = inl (sym (none_before (ap deed_of is)))
    prepare_act t c b (WritesBackup x) is w (Gave v) = inl (sym (none_before (ap deed_of is)))
    prepare_act t c b (FlushesCopies x) is w Succeeded = (none_before (ap deed_of is), refl)
    prepare_act t c b (FlushesCopies x) is w (Gave v) = (none_before (ap deed_of is), refl)
    prepare_act t c b WritesFirstLog is w Succeeded = elim begun [ inl same ↦ inl (sym (same ∙ ap deed_of is)) | inr none ↦ inr (none, refl) ]
    prepare_act t c b WritesFirstLog is w (Gave v) = elim begun [ inl same ↦ inl (sym (same ∙ ap deed_of is)) | inr none ↦ inr (none, refl) ]
    prepare_act t c b FlushesFirstLog is w Succeeded = answer_goes t n.requests (prepare_after n t c b FlushesFirstLog Succeeded) (λ r. Done) _ w.command w.waits (subst (λ o. AnsweredDeed o old NoDeed) (sym w.asks) refl)
    prepare_act t c b FlushesFirstLog is w (Gave v) = answer_goes t n.requests (prepare_after n t c b FlushesFirstLog (Gave v)) (λ r. Done) _ w.command w.waits (subst (λ o. AnsweredDeed o old NoDeed) (sym w.asks) refl)

    module _ (t : Ticket) (w : IsForCommand n.requests t Commit) where
      -- an act of a commit that goes on
      commit_act : (again : Bool) (act : CommitAct) → n.hand ≡ Committing t again act → (reply : Reply) → Goes (commit_step n t again act reply)
      commit_act again act is Failed = answer_goes t n.requests (commit_failed n act) (λ r. DiskFault 0) (λ r. deciding_events again act) w.command w.waits (subst (λ o. AnsweredDeed o old (deed_of (commit_failed n act).hand)) (sym w.asks) (failed_leaves n act))
      commit_act true FlushesAll is Succeeded = inl (sym (none_before (ap deed_of is)))
      commit_act true FlushesAll is (Gave v) = inl (sym (none_before (ap deed_of is)))
      commit_act false FlushesAll is Succeeded = inl (sym (none_before (ap deed_of is)))
      commit_act false FlushesAll is (Gave v) = inl (sym (none_before (ap deed_of is)))
      commit_act true ReadsCurrent is Succeeded = inl (ap deed_of is ∙ sym (none_before (ap deed_of is)))
      commit_act true ReadsCurrent is (Gave v) = inl (sym (none_before (ap deed_of is)))
      commit_act false ReadsCurrent is Succeeded = inl (ap deed_of is ∙ sym (none_before (ap deed_of is)))
      commit_act false ReadsCurrent is (Gave v) = inl (sym (none_before (ap deed_of is)))
      commit_act true (WritesBlock0 x) is Succeeded = inl (sym (none_before (ap deed_of is)))
      commit_act true (WritesBlock0 x) is (Gave v) = inl (sym (none_before (ap deed_of is)))
      commit_act false (WritesBlock0 x) is Succeeded = (none_before (ap deed_of is), refl)
      commit_act false (WritesBlock0 x) is (Gave v) = (none_before (ap deed_of is), refl)
      commit_act again FlushesDecision is Succeeded = answer_goes t n.requests (commit_after n t again FlushesDecision Succeeded) (λ r. Done) (λ r. committing_events again) w.command w.waits (subst (λ o. AnsweredDeed o old NoDeed) (sym w.asks) refl)
      commit_act again FlushesDecision is (Gave v) = answer_goes t n.requests (commit_after n t again FlushesDecision (Gave v)) (λ r. Done) (λ r. committing_events again) w.command w.waits (subst (λ o. AnsweredDeed o old NoDeed) (sym w.asks) refl)

    act_goes : (reply : Reply) → Goes (act_step g now n n.hand reply)
    act_goes reply = go n.hand refl s.in_hand
      where
        go : (hand : Hand) → n.hand ≡ hand → HandIsSound g n hand n.log → Goes (act_step g now n hand reply)
        go Empty is h = inl (ap deed_of is ∙ sym (none_before (ap deed_of is)))
        go (Batching b) is h = batch_act b is reply
        go (Preparing t c b act) is h = prepare_act t c b act is h.1 reply
        go (Committing t again act) is h = commit_act t h.1 again act is reply

-- ----------------------------------------------------------------------------------------------------------------

module _ (g : Geometry) (now : Contents) (m : Memory) (s : MemoryIsSound g m) where
  abbrev old : Deed
  old = deed_of m.hand

  abbrev TaskGoes : Task → Type 0
  TaskGoes task = (reply : Reply) → Goes g now old (step_of g now m task reply)

  -- where nothing is untold
  free_goes : old ≡ NoDeed → (task : Task) → TaskIsSound g m task → TaskGoes task
  free_goes none Waits is reply = refl
  free_goes none (Answers r outcome) is reply = none_answered r.op old old none none
  free_goes none (WritesBlock r b) is Failed = none_answered r.op old old none none
  free_goes none (WritesBlock r b) is Succeeded = (none, none)
  free_goes none (WritesBlock r b) is (Gave v) = (none, none)
  free_goes none (ReadsBlock r b) is Failed = none_answered r.op old old none none
  free_goes none (ReadsBlock r b) is Succeeded = none_answered r.op old old none none
  free_goes none (ReadsBlock r b) is (Gave v) = refl
  free_goes none (FlushesFor r) is Failed = none_answered r.op old old none none
  free_goes none (FlushesFor r) is Succeeded = none_answered r.op old old none none
  free_goes none (FlushesFor r) is (Gave v) = none_answered r.op old old none none
  free_goes none (DiscardsFor r) is reply = none_answered r.op old old none none
  free_goes none (Acts n) is reply = act_goes g now old n (inr none) is.sound reply

  -- beside a command in hand: reads alone
  module _ (command : has_command m.hand ≡ true) where
    waits_goes : TaskGoes Waits
    waits_goes reply = refl

    read_answers : (r : Request) (e : Extent) (p : List ℕ) → r.op ≡ Read e p → (outcome : Outcome) → TaskGoes (Answers r outcome)
    read_answers r e p is outcome reply = subst (λ o. AnsweredDeed o old old) (sym is) refl

    reads_goes : (r : Request) (e : Extent) (p : List ℕ) → r.op ≡ Read e p → (b : ℕ) → TaskGoes (ReadsBlock r b)
    reads_goes r e p is b Failed = subst (λ o. AnsweredDeed o old old) (sym is) refl
    reads_goes r e p is b Succeeded = subst (λ o. AnsweredDeed o old old) (sym is) refl
    reads_goes r e p is b (Gave v) = refl

    if_refused : (r : Request) (o : Option Outcome) (task : Task) → ((outcome : Outcome) → TaskGoes (Answers r outcome)) → TaskGoes task → TaskGoes (unless_refused r o task)
    if_refused r None task refused goes = goes
    if_refused r (Some outcome) task refused goes = refused outcome

    held_back : (task : Task) → TaskGoes (unless_command m task)
    held_back task = cond_both (has_command m.hand) Waits task TaskGoes (λ busy. waits_goes) (λ free. absurd (grind (arith, command, free)))

    beside : (r : Request) (op : Op) → r.op ≡ op → TaskGoes (task_for g m r op)
    beside r (Read e p) is = if_refused r (refusal g m.phase (Read e p)) _ (read_answers r e p is)
        (cond_both (r.done == e.count) (Answers r Data) (ReadsBlock r (e.first + r.done)) TaskGoes (λ full. read_answers r e p is Data) (λ more. reads_goes r e p is (e.first + r.done)))
    beside r (Write e p) is = held_back _
    beside r (Discard e) is = held_back _
    beside r Flush is = held_back _
    beside r Prepare is = waits_goes
    beside r Commit is = waits_goes

    map_beside : (found : Option Request) → TaskGoes (map_task g m found)
    map_beside None = waits_goes
    map_beside (Some r) = beside r r.op refl

  command_goes : (hand : Hand) → m.hand ≡ hand → (turn : Turn) → TaskGoes (task_of g m turn)
  command_goes Empty is turn = free_goes (ap deed_of is) (task_of g m turn) (turn_sound g m turn s)
  command_goes (Batching b) is turn = free_goes (ap deed_of is) (task_of g m turn) (turn_sound g m turn s)
  command_goes (Preparing t c b act) is (Map ticket) = map_beside (ap has_command is) (request_of ticket m.requests)
  command_goes (Committing t again act) is (Map ticket) = map_beside (ap has_command is) (request_of ticket m.requests)
  command_goes (Preparing t c b act) is Worker = subst (λ hand. TaskGoes (worker_task g m hand m.phase)) (sym is) (waits_goes (ap has_command is))
  command_goes (Committing t again act) is Worker = subst (λ hand. TaskGoes (worker_task g m hand m.phase)) (sym is) (waits_goes (ap has_command is))
  command_goes (Preparing t c b act) is Command = subst (λ hand. TaskGoes (command_task m hand)) (sym is) (λ reply. act_goes g now old m (inl refl) s reply)
  command_goes (Committing t again act) is Command = subst (λ hand. TaskGoes (command_task m hand)) (sym is) (λ reply. act_goes g now old m (inl refl) s reply)

pub deeds_go_on : DeedsGoOn
deeds_go_on g m turn reply now s = command_goes g now m s m.hand refl turn reply
