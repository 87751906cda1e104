-- Where a journal tells no fault no call failed; and a device that was led stays so.
use Rattle.std.proofs.Common.{◌+◌, ◌≡◌, Bool, true, false, cond, List, [], ◌∷◌, Option, Some, None, arith, refl, sym, ap, ◌∙◌, subst}
use Rattle.std.specs.List.{sum_by}
use Rattle.std.proofs.lemmas.Bool.{false≢true}
use Rattle.std.proofs.lemmas.List.Sums.{sum_by-append}
use Rattle.bow_queue.specs.declared.tickets.Ticket.{Ticket}
use Rattle.bow_machine.specs.Ahead.{IsLed}
use Rattle.bow_machine.specs.Calls.{Call, Reply, Failed, Succeeded, Gave}
use Rattle.bow_machine.specs.MemoryLaws.{CanHaveIt, FaultIsTold, tells_fault, served_by}
use Rattle.bow_machine.specs.Requests.{Request}
use Rattle.bow_machine.specs.Steps.{Told, call_of}
use Rattle.bow_machine.specs.Tasks.{task_of}
use Rattle.bow_machine.specs.declared.turns.Turn.{Turn}
use Rattle.bow_machine.proofs.SoundCalls.{faults_are_told}
use Rattle.bow_history.specs.declared.items.Item.{Item}
use Rattle.bow_history.specs.Histories.{Disk, journal_of, with_items}
use Rattle.bow_history.specs.Journal.{Plan}
use Rattle.bow_history.specs.Promises.{faults_in, items}
use Rattle.bow_history.specs.Quiet.{QuietRunsSucceed, EndsLed}
use Rattle.bow_history.specs.Sessions.{Session, Turned, Admits, Steps, turn_of, device_step, item_of, item_of_turn, item_in, call_of_turn, call_in, reply_in, after_turn, IsTurn}
use Rattle.bow_machine.specs.Steps.{unknown}
use Rattle.bow_history.specs.SoundSessions.{IsSoundSession}
use Rattle.bow_history.proofs.Runs.{turn_advances}
use Rattle.bow_history.proofs.Sessions.{item_faults}
use Rattle.bow_history.proofs.SoundTurns.{turns_keep_sound}

-- where no fault is told, no call failed
unfailed : (requests : List Request) (served : Option Ticket) (call : Option Call) (reply : Reply) (told : Told) → FaultIsTold requests served call reply told → tells_fault told ≡ false → reply ≡ Failed → call ≡ None
unfailed requests served None reply told row quiet is = refl
unfailed requests served (Some call) Failed told row quiet is = absurd (false≢true (sym quiet ∙ ap tells_fault row.answered))
unfailed requests served (Some call) Succeeded told row quiet is = absurd (grind arith)
unfailed requests served (Some call) (Gave v) told row quiet is = absurd (grind arith)

-- the faults of an item and of those after it
with_faults : (item : Option Item) (rest : List Item) → sum_by faults_in (with_items item rest) ≡ sum_by faults_in (items item) + sum_by faults_in rest
with_faults None rest = omega arith
with_faults (Some item) rest = sum_by-append faults_in (item ∷ []) rest

module _ (plan : Plan) (s : Session) (k : IsSoundSession plan s) where
  no_fault : (told : Told) → sum_by faults_in (items (item_of plan s told)) ≡ 0 → tells_fault told ≡ false
  no_fault told none = go (tells_fault told) refl
    where
      go : (t : Bool) → tells_fault told ≡ t → tells_fault told ≡ false
      go false is = is
      go true is = absurd (let tells : 1 ≡ 0 = sym (ap (λ (b : Bool). cond b 1 0) is) ∙ sym (item_faults plan s told) ∙ none in omega (arith, tells))

  turn_quiet : (turn : Turned) → IsTurn plan s turn → sum_by faults_in (items (item_in plan s turn)) ≡ 0 → reply_in turn ≡ Failed → call_in plan s turn ≡ None
  turn_quiet (Admits lane ticket op) is none = λ failed. refl
  turn_quiet (Steps actor reply) is none = go (turn_of s actor) is.1 none
    where
      go : (o : Option Turn) → CanHaveIt plan.sizes (call_of_turn plan s o) reply → sum_by faults_in (items (item_of_turn plan s o reply)) ≡ 0 → reply ≡ Failed → call_of_turn plan s o ≡ None
      go None can none failed = refl
      go (Some turn) can none failed =
          let task = task_of plan.sizes s.memory turn in
          let told = (device_step plan.sizes s.memory turn reply).told in
          unfailed s.memory.requests (served_by task) (call_of plan.sizes s.memory task) reply told (faults_are_told plan.sizes s.memory turn reply unknown k.memory can) (no_fault told none) failed

pub quiet_runs_succeed : QuietRunsSucceed
quiet_runs_succeed plan s [] rise k may none = tt
quiet_runs_succeed plan s (turn ∷ turns) rise k may none =
    let both = with_faults (item_in plan s turn) (journal_of plan (after_turn plan s turn) turns) in (
      turn_quiet plan s k turn may.0 (omega (arith, both, none)),
      quiet_runs_succeed plan (after_turn plan s turn) turns rise (turns_keep_sound plan s turn rise k may.0) may.1 (omega (arith, both, none)),
    )

pub ends_led : EndsLed
ends_led plan s d e [] p k led run fine = (k.flat, subst (λ (x : Disk). IsLed plan.sizes s.memory x.now x.may k.flat) (sym run) led)
ends_led plan s d e (turn ∷ turns) p k led run fine =
    let step = turn_advances plan s d run.1 p k turn run.0 run.2 in
    ends_led plan (after_turn plan s turn) run.1 e turns step.place step.at (step.led fine.0 led) run.3 fine.1
