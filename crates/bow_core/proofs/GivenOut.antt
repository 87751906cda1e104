-- The requests that wait were admitted, after a step and after an admission.
use Rattle.std.proofs.Common.{ℕ, ◌+◌, ◌≡◌, ◌<◌, Bool, true, false, cond, List, [], ◌∷◌, ◌++◌, ◌≤◌, length, Option, Some, None, sym, ap, ◌∙◌, subst, arith}
use Rattle.std.specs.List.{AllByRecursion as Each}
use Rattle.bow_units.specs.declared.sizes.Geometry.{Geometry}
use Rattle.bow_units.specs.declared.requests.Outcome.{Outcome}
use Rattle.bow_disk.specs.Disk.{Content}
use Rattle.bow_queue.specs.declared.tickets.Ticket.{Ticket}
use Rattle.bow_queue.specs.Requests.{same_ticket}
use Rattle.bow_machine.specs.Requests.{Request, request_of, without_request, with_request}
use Rattle.bow_machine.specs.Memory.{Memory, Batch, Hand, Empty, Batching, Preparing, Committing, ReadsBlock0, WritesCurrent, WritesBackup, FlushesCopies, WritesFirstLog, FlushesFirstLog, FlushesAll, ReadsCurrent, WritesBlock0, FlushesDecision}
use Rattle.bow_machine.specs.MemoryIsSound.{MemoryIsSound, IsAdmissible}
use Rattle.bow_machine.specs.Calls.{Reply, Failed, Succeeded, Gave}
use Rattle.bow_machine.specs.Tasks.{Task, Waits, Answers, WritesBlock, ReadsBlock, FlushesFor, DiscardsFor, Acts, task_of}
use Rattle.bow_machine.specs.Steps.{act_step, answered_for, changed, batch_after, is_log_write, prepare_after, commit_after, commit_failed}
use Rattle.bow_machine.proofs.RequestLists.{each_filter, each_append, find_has}
use Rattle.bow_machine.proofs.SoundTasks.{TaskIsSound}
use Rattle.bow_machine.proofs.SoundTurns.{turn_sound}
use Rattle.bow_flat.specs.Flat.{Event}
use Rattle.bow_copy.specs.Acts.{next_act, after_act}
use Rattle.bow_copy.specs.declared.jobs.After.{After}
use Rattle.bow_copy.specs.declared.jobs.After.TheVariants as afters
use Rattle.bow_machine.proofs.SoundSteps.{step_keeps_sound}
use Rattle.bow_machine.proofs.SoundOpenings.{admit_keeps_sound}
use Rattle.bow_core.specs.Held.{Held}
use Rattle.bow_core.specs.Views.{View, view_of, IsGivenOut, IsOpened}
use Rattle.bow_core.specs.Steps.{IsStep, done_by}
use Rattle.bow_machine.specs.Steps.{unknown}
use Rattle.bow_machine.specs.declared.turns.Turn.{Turn as OwnTurn}
use Rattle.bow_core.specs.declared.turns.Step.{Step as OwnStep}
use Rattle.bow_core.proofs.Replies.{can_have}

each_with : (P : Request → Type 0) (r : Request) (requests : List Request) → P r → Each P requests → Each P (with_request r requests)
each_with P r [] one each = tt
each_with P r (x ∷ xs) one each = (go (same_ticket x.ticket r.ticket), each_with P r xs one each.1)
  where
    go : (t : Bool) → P (cond t r x)
    go true = one
    go false = each.0

each_more : (n : ℕ) (requests : List Request) → Each (IsGivenOut n) requests → Each (IsGivenOut (n + 1)) requests
each_more n [] each = tt
each_more n (x ∷ xs) each = (omega (arith, each.0), each_more n xs each.1)

-- an act of what is in hand, and the requests: they stay, or one is answered
module _ (P : Request → Type 0) (g : Geometry) (m : Memory) (each : Each P m.requests) where
  answered_each : (left : Memory) (found : Option Request) (o : Request → Outcome) (happens : Request → List Event) → Each P left.requests → Each P (answered_for left found o happens).memory.requests
  answered_each left None o happens all = all
  answered_each left (Some r) o happens all = each_filter P _ left.requests all

  at_each : (b : Batch) (log : Bool) → Each P (cond log (changed m b) m).requests
  at_each b true = each
  at_each b false = each

  batch_each : (b : Batch) (reply : Reply) (to : After) → Each P (batch_after m b reply to).requests
  batch_each b reply afters.Going = each
  batch_each b reply afters.LogGiven = each
  batch_each b reply afters.Clean = each
  batch_each b reply (afters.Failed true) = at_each b (is_log_write (next_act b.progress))
  batch_each b reply (afters.Failed false) = each

  acts_each : (hand : Hand) (reply : Reply) → Each P (act_step g unknown m hand reply).memory.requests
  acts_each Empty reply = each
  acts_each (Batching b) Failed = answered_each (batch_after m b Failed (after_act b.progress false)) _ _ _ (batch_each b Failed (after_act b.progress false))
  acts_each (Batching b) Succeeded = batch_each b Succeeded (after_act b.progress true)
  acts_each (Batching b) (Gave v) = batch_each b (Gave v) (after_act b.progress true)
  acts_each (Preparing t c b act) Failed = answered_each (record m { hand = Empty }) (request_of t m.requests) _ _ each
  acts_each (Preparing t c b ReadsBlock0) Succeeded = each
  acts_each (Preparing t c b ReadsBlock0) (Gave v) = each
  acts_each (Preparing t c b (WritesCurrent w)) Succeeded = each
  acts_each (Preparing t c b (WritesCurrent w)) (Gave v) = each
  acts_each (Preparing t c b (WritesBackup w)) Succeeded = each
  acts_each (Preparing t c b (WritesBackup w)) (Gave v) = each
  acts_each (Preparing t c b (FlushesCopies w)) Succeeded = each
  acts_each (Preparing t c b (FlushesCopies w)) (Gave v) = each
  acts_each (Preparing t c b WritesFirstLog) Succeeded = each
  acts_each (Preparing t c b WritesFirstLog) (Gave v) = each
  acts_each (Preparing t c b FlushesFirstLog) Succeeded = answered_each (prepare_after m t c b FlushesFirstLog Succeeded) (request_of t m.requests) _ _ each
  acts_each (Preparing t c b FlushesFirstLog) (Gave v) = answered_each (prepare_after m t c b FlushesFirstLog (Gave v)) (request_of t m.requests) _ _ each
  acts_each (Committing t again FlushesAll) Failed = answered_each (commit_failed m FlushesAll) (request_of t m.requests) _ _ each
  acts_each (Committing t again ReadsCurrent) Failed = answered_each (commit_failed m ReadsCurrent) (request_of t m.requests) _ _ each
  acts_each (Committing t again (WritesBlock0 w)) Failed = answered_each (commit_failed m (WritesBlock0 w)) (request_of t m.requests) _ _ each
  acts_each (Committing t again FlushesDecision) Failed = answered_each (commit_failed m FlushesDecision) (request_of t m.requests) _ _ each
  acts_each (Committing t again FlushesAll) Succeeded = each
  acts_each (Committing t again FlushesAll) (Gave v) = each
  acts_each (Committing t again ReadsCurrent) Succeeded = each
  acts_each (Committing t again ReadsCurrent) (Gave v) = each
  acts_each (Committing t again (WritesBlock0 w)) Succeeded = each
  acts_each (Committing t again (WritesBlock0 w)) (Gave v) = each
  acts_each (Committing t again FlushesDecision) Succeeded = answered_each (commit_after m t again FlushesDecision Succeeded) (request_of t m.requests) _ _ each
  acts_each (Committing t again FlushesDecision) (Gave v) = answered_each (commit_after m t again FlushesDecision (Gave v)) (request_of t m.requests) _ _ each

module _ (g : Geometry) (m : Memory) (n : ℕ) (each : Each (IsGivenOut n) m.requests) where
  without : (t : Ticket) → Each (IsGivenOut n) (without_request t m.requests)
  without t = each_filter (IsGivenOut n) _ m.requests each

  step_given : (task : Task) (reply : Reply) → TaskIsSound g m task → Each (IsGivenOut n) (done_by g m task reply).memory.requests
  step_given Waits reply sound = each
  step_given (Answers r o) reply sound = without r.ticket
  step_given (WritesBlock r b) Failed sound = without r.ticket
  step_given (WritesBlock r b) Succeeded sound = each_with (IsGivenOut n) (record r { done = r.done + 1 }) m.requests (find_has (IsGivenOut n) _ m.requests r each sound.request.found) each
  step_given (WritesBlock r b) (Gave v) sound = each_with (IsGivenOut n) (record r { done = r.done + 1 }) m.requests (find_has (IsGivenOut n) _ m.requests r each sound.request.found) each
  step_given (ReadsBlock r b) Failed sound = without r.ticket
  step_given (ReadsBlock r b) Succeeded sound = without r.ticket
  step_given (ReadsBlock r b) (Gave v) sound = each_with (IsGivenOut n) _ m.requests (find_has (IsGivenOut n) _ m.requests r each sound.request.found) each
  step_given (FlushesFor r) Failed sound = without r.ticket
  step_given (FlushesFor r) Succeeded sound = without r.ticket
  step_given (FlushesFor r) (Gave v) sound = without r.ticket
  step_given (DiscardsFor r) reply sound = without r.ticket
  step_given (Acts taken) reply sound = acts_each (IsGivenOut n) g taken (subst (Each (IsGivenOut n)) (sym sound.requests) each) taken.hand reply

-- after a turn
pub turn_opened : {D : Type 0} (stated : D → Option Geometry) (content : D → Option Content) (moment : D → ℕ) (left : D → ℕ → List (List ℕ) → Type 0) (faults : D → ℕ)
    (old : View D) (turn : OwnTurn) (tells : OwnStep) (new : View D) → IsOpened stated old → IsStep stated content moment left faults old turn tells new → IsOpened stated new
turn_opened stated content moment left faults old turn tells new opened step =
    let sound : MemoryIsSound old.geometry new.memory = subst (MemoryIsSound old.geometry) (sym step.memory) (step_keeps_sound old.geometry old.memory turn step.reply unknown opened.sound (can_have old.geometry _ step.reply step.made.may)) in
    let given : Each (IsGivenOut old.admitted) new.memory.requests = subst (λ (m : Memory). Each (IsGivenOut old.admitted) m.requests) (sym step.memory)
    (step_given old.geometry old.memory old.admitted opened.given_out (task_of old.geometry old.memory turn) step.reply (turn_sound old.geometry old.memory turn opened.sound)) in
    record {
      sizes = step.made.sizes ∙ ap (λ x. Some x) (sym step.geometry);
      sound = subst (λ x. MemoryIsSound x new.memory) (sym step.geometry) sound;
      few = subst (λ n. n ≤ 16) (sym step.places) opened.few;
      given_out = subst (λ n. Each (IsGivenOut n) new.memory.requests) (sym step.admitted) given;
    }

-- what waits was given out before the next serial number
pub all_below : (r : Request) (n : ℕ) (requests : List Request) → r.ticket.serial ≡ n → Each (IsGivenOut n) requests → Each (λ other. other.ticket.serial < r.ticket.serial) requests
all_below r n requests serial each = subst (λ k. Each (λ other. other.ticket.serial < k) requests) (sym serial) each

-- after an admission
pub admitted_opened : {D : Type 0} (stated : D → Option Geometry) (disk : D) (s now : Held) (r : Request) (calls : ℕ) → IsOpened stated (view_of disk s calls) → r.done ≡ 0 → r.ticket.serial ≡ s.admitted → IsAdmissible s.geometry r.op
    → length s.memory.requests < s.places → now ≡ record s { memory = record s.memory { requests = s.memory.requests ++ r ∷ [] }; admitted = s.admitted + 1 } → IsOpened stated (view_of disk now calls)
admitted_opened stated disk s now r calls opened none serial fits place is =
    let n = s.admitted in
    subst (λ h. IsOpened stated (view_of disk h calls)) (sym is) (record {
      sizes = opened.sizes;
      sound = admit_keeps_sound s.geometry s.memory r fits none (all_below r n s.memory.requests serial opened.given_out) (omega (arith, place, opened.few)) opened.sound;
      few = opened.few;
      given_out = each_append (IsGivenOut (n + 1)) s.memory.requests (r ∷ []) (each_more n s.memory.requests opened.given_out) (omega (arith, serial), tt);
    })
