-- What a call tells: the answers of the parts, brought together.
use Rattle.std.proofs.Common.{◌≡◌, ◌⊎◌, inl, inr, ℕ, List, Bool, Option, None, Some, Result, Ok, Err, IfOk, IfErr, MatchResult, refl, sym, ap, ◌∙◌, subst, arith, String, Vec, true, false}
use Rattle.std.specs.declared.alloc.Global.{Global}
use Rattle.bow_units.specs.declared.sizes.Geometry.{Geometry}
use Rattle.bow_units.specs.Sizes.{IsValid}
use Rattle.bow_units.specs.Causes.{Rose}
use Rattle.bow_log.specs.declared.faults.LogFault.{LogFault}
use Rattle.bow_log.specs.declared.faults.LogFault.TheVariants.{NoMagic}
use Rattle.bow_log.specs.Faults.{IsOfHeader}
use Rattle.bow_chain.specs.Contents.{contents_of}
use Rattle.bow_chain.specs.Laws.{FaultyIsNotSound}
use Rattle.bow_restore.specs.declared.answers.Restored.{Restored}
use Rattle.bow_restore.specs.declared.answers.Restored.TheVariants as restored
use Rattle.bow_restore.specs.declared.answers.Forwarded.{Forwarded}
use Rattle.bow_restore.specs.declared.answers.Forwarded.TheVariants as forwarded
use Rattle.vold_meta.specs.Attempts.{Tells as TellsAttempts}
use Rattle.vold_meta.specs.Keeper.{Goes}
use Rattle.vold_meta.specs.declared.attempts.AttemptFault.{AttemptFault}
use Rattle.vold_meta.specs.declared.attempts.AttemptFault.TheVariants as fault
use Rattle.vold_commands.specs.Attempts.{Answers, Runs, aborted, marked, needs_checkpoint, needs_rollback}
use Rattle.vold_commands.specs.declared.boots.Booted.{Booted}
use Rattle.vold_commands.specs.declared.boots.BootFault.{BootFault}
use Rattle.vold_commands.specs.declared.boots.BootFault.TheVariants as boots
use Rattle.bow_words.specs.declared.commands.Command.{Command}
use Rattle.bow_words.specs.declared.commands.Command.TheVariants.{Play, Run, Restore, Check, Forward, Start, Mark, NeedsCheckpoint, NeedsRollback, Abort, Boot, Drill, Past, Callers}
use Rattle.bow_tool.specs.declared.refusals.Refusal.{Refusal}
use Rattle.bow_tool.specs.declared.refusals.Refusal.TheVariants.{BadWords, BadScript, SourceFault, DiskFault, KeeperFault, NeedsRestore, BadChain, BadHeader, Reserved, BadAttempts, NoMemory, Stopped, BadGeometry}
use Rattle.bow_tool.specs.Refusals.{refusal_line, status_of}
use Rattle.bow_tool.specs.Outside.{Call, KeeperView}
use Rattle.bow_tool.specs.Sizes.{SizesCause}
use Rattle.bow_tool.specs.Pasts.{WasPlayedBeside, blocks_from}
use Rattle.bow_tool.specs.Callers.{CallersCame, CallersRun, ClearsAfterCalls, IsWhole, WasCalled, called_text}
use Rattle.bow_tool.specs.Play.{Clears, ClearsAfter, PlayInOrder, RunNotCleared, RunRefused, RunText, WasPlayed, WasRun, transcript_of}
use Rattle.bow_tool.specs.Outcomes.{IsCalledTold, IsTranscriptTold}
use Rattle.bow_session.specs.Sessions.{Run as Session}
use Rattle.bow_tool.specs.declared.outcomes.Outcome.{Outcome}
use Rattle.bow_tool.specs.declared.outcomes.Outcome.TheVariants as outcome
use Rattle.bow_tool.proofs.Playing.{callers_clear, callers_refused, past_clears, run_clears, run_refused}
use Rattle.bow_tool.specs.Check.{CheckCause, ImageInOrder, Finds, OfImage, OnlyReads, TellsChain}
use Rattle.bow_tool.specs.Restores.{ForwardCause, IsForwardRefusal, IsForwarded, IsRestoreRefusal, IsRestored, RestoreCause}
use Rattle.bow_tool.specs.Attempts.{AttemptCause, AttemptsInOrder, KeeperHolds, RanStep, StartRefusal, WasAsked}
use Rattle.bow_tool.specs.Boots.{BootCause, IsBooted, IsBootRefusal}
use Rattle.bow_tool.specs.Commands.{AskFor, CommandCause, CommandInOrder, DoneText, ForwardInOrder, IsOutcome, IsOutcomePut, IsPut, IsRefusalPut, IsRefused, IsRefusedWith, MayStop, Meaning, NotClearedText, Tells, TellsAsked, TellsCommand, TellsOf, WordsCause}

-- a refusal that want of memory made, or a limit that may be reached
abbrev pub Ends : Type 0 → Refusal → Type 0
Ends Stops refusal = (status_of refusal ≡ 11) ⊎ ((status_of refusal ≡ 12) × Stops)

-- no refusal ends with the status of what was done, nor with that of a failing sink
pub status_above : (refusal : Refusal) → (status_of refusal ≡ 0 → ⊥) × (status_of refusal ≡ 5 → ⊥)
status_above BadWords = (λ is. omega (arith, is), λ is. omega (arith, is))
status_above (BadScript line) = (λ is. omega (arith, is), λ is. omega (arith, is))
status_above SourceFault = (λ is. omega (arith, is), λ is. omega (arith, is))
status_above DiskFault = (λ is. omega (arith, is), λ is. omega (arith, is))
status_above KeeperFault = (λ is. omega (arith, is), λ is. omega (arith, is))
status_above NeedsRestore = (λ is. omega (arith, is), λ is. omega (arith, is))
status_above (BadChain fault) = (λ is. omega (arith, is), λ is. omega (arith, is))
status_above (BadHeader fault) = (λ is. omega (arith, is), λ is. omega (arith, is))
status_above Reserved = (λ is. omega (arith, is), λ is. omega (arith, is))
status_above BadAttempts = (λ is. omega (arith, is), λ is. omega (arith, is))
status_above NoMemory = (λ is. omega (arith, is), λ is. omega (arith, is))
status_above (Stopped writes) = (λ is. omega (arith, is), λ is. omega (arith, is))
status_above (BadGeometry g) = (λ is. omega (arith, is), λ is. omega (arith, is))

-- a check
check_ends : FaultyIsNotSound → (Stops : Type 0) (c : Call) (refusal : Refusal) → ImageInOrder c → CheckCause c refusal → Ends Stops refusal
check_ends law Stops c BadWords order cause = absurd cause.1
check_ends law Stops c (BadScript line) order cause = absurd cause.1
check_ends law Stops c SourceFault order cause = absurd cause.1
check_ends law Stops c DiskFault order cause = absurd (order.disk cause.1)
check_ends law Stops c KeeperFault order cause = absurd cause.1
check_ends law Stops c NeedsRestore order cause = absurd cause.1
check_ends law Stops c (BadChain fault) order cause =
    let g = cause.1.1.0 in
    let told = cause.1.1.3 order.content order.told in
    elim (order.fine g cause.1.1.1) [
      | inl s ↦ absurd (law g (contents_of order.content.now) fault s.0 s.1 told.first s.2)
      | inr none ↦ absurd (none told.begins)
    ]
check_ends law Stops c (BadHeader fault) order cause = absurd cause.1
check_ends law Stops c Reserved order cause = absurd cause.1
check_ends law Stops c BadAttempts order cause = absurd cause.1
check_ends law Stops c NoMemory order cause = inl refl
check_ends law Stops c (Stopped writes) order cause = absurd cause.1
check_ends law Stops c (BadGeometry g) order cause = absurd (cause.1.1 (order.sizes g cause.1.0))

-- sizes that are valid and told are no cause
pub no_sizes_cause : (stated : Option Geometry) (faults now : ℕ) (refusal : Refusal) → ((g : Geometry) → stated ≡ Some g → IsValid g) → (Rose faults now → ⊥) → SizesCause stated faults now refusal → ⊥
no_sizes_cause stated faults now BadWords sizes disk cause = cause
no_sizes_cause stated faults now (BadScript line) sizes disk cause = cause
no_sizes_cause stated faults now SourceFault sizes disk cause = cause
no_sizes_cause stated faults now DiskFault sizes disk cause = disk cause
no_sizes_cause stated faults now KeeperFault sizes disk cause = cause
no_sizes_cause stated faults now NeedsRestore sizes disk cause = cause
no_sizes_cause stated faults now (BadChain fault) sizes disk cause = cause
no_sizes_cause stated faults now (BadHeader fault) sizes disk cause = cause
no_sizes_cause stated faults now Reserved sizes disk cause = cause
no_sizes_cause stated faults now BadAttempts sizes disk cause = cause
no_sizes_cause stated faults now NoMemory sizes disk cause = cause
no_sizes_cause stated faults now (Stopped writes) sizes disk cause = cause
no_sizes_cause stated faults now (BadGeometry g) sizes disk cause = cause.1 (sizes g cause.0)

memory_ends : (Stops : Type 0) (refusal : Refusal) → refusal ≡ NoMemory → Ends Stops refusal
memory_ends Stops refusal is = inl (ap status_of is)

stops_at : (limit : Option ℕ) (writes : ℕ) → limit ≡ Some writes → MayStop (Restore limit)
stops_at None writes is = absurd (no_some is)
  where
    no_some : {n : ℕ} → None ≡ Some n → ⊥
    no_some is = cc
stops_at (Some limit) writes is = tt

-- a restoration
restore_ends : (limit : Option ℕ) (c : Call) (refusal : Refusal) → ImageInOrder c → RestoreCause limit c refusal → Ends (MayStop (Restore limit)) refusal
restore_ends limit c refusal order cause = elim cause.1 [
  | inl none ↦ absurd (no_sizes_cause (c.disks.stated c.disk_after) (c.disks.faults c.disk) (c.disks.faults c.disk_after) refusal order.sizes order.disk none.0)
  | inr made ↦ by_answer made.0 made.1.0 made.2.0 made.2.1 made.2.2
]
  where
    by_answer : (g : Geometry) → c.disks.stated c.disk_after ≡ Some g → (answer : Restored) → IsRestored c.disks g limit c.disk c.disk_after answer → IsRestoreRefusal answer refusal → Ends (MayStop (Restore limit)) refusal
    by_answer g is restored.Nothing did told = memory_ends (MayStop (Restore limit)) refusal told
    by_answer g is (restored.Done entries marks) did told = memory_ends (MayStop (Restore limit)) refusal told
    by_answer g is (restored.Stopped writes) did told = inr (ap status_of told, stops_at limit writes did.cause)
    by_answer g is (restored.BadChain fault) did told = elim (order.fine g is) [
      | inl s ↦ absurd (did.each_sound order.content order.told s.0 s.1 s.2)
      | inr none ↦ absurd (none (did.head order.content order.told))
    ]
    by_answer g is restored.DiskFault did told = absurd (order.disk did.cause)
    by_answer g is restored.NoMemory did told = memory_ends (MayStop (Restore limit)) refusal told

pub no_header : (fault : LogFault) → IsOfHeader fault → Some NoMagic ≡ Some fault → ⊥
no_header fault of is = subst IsOfHeader (sym (same is)) of
  where
    same : Some NoMagic ≡ Some fault → NoMagic ≡ fault
    same is = cc

pub none_some : {A : Type 0} {x : Option A} {y : A} → x ≡ None → x ≡ Some y → ⊥
none_some a b = cc

-- giving the checkpoint up
forward_ends : (Stops : Type 0) (c : Call) (refusal : Refusal) → ForwardInOrder c → ForwardCause c refusal → Ends Stops refusal
forward_ends Stops c refusal order cause = elim cause.1 [
  | inl none ↦ absurd (no_sizes_cause (c.disks.stated c.disk_after) (c.disks.faults c.disk) (c.disks.faults c.disk_after) refusal order.sizes order.disk none.0)
  | inr made ↦ by_answer made.0 made.1.0 made.2.0 made.2.1 made.2.2
]
  where
    by_answer : (g : Geometry) → c.disks.stated c.disk_after ≡ Some g → (answer : Forwarded) → IsForwarded c.disks g c.disk c.disk_after answer → IsForwardRefusal answer refusal → Ends Stops refusal
    by_answer g is forwarded.Nothing did told = memory_ends Stops refusal told
    by_answer g is forwarded.Done did told = memory_ends Stops refusal told
    by_answer g is (forwarded.BadHeader fault) did told = elim (order.fine g is) [
      | inl none ↦ absurd (no_header fault did.reason (sym none ∙ (did.tells order.content order.told).1))
      | inr good ↦ absurd (none_some good.0 (did.tells order.content order.told).1)
    ]
    by_answer g is forwarded.Reserved did told = elim (order.fine g is) [
      | inl none ↦ absurd (none_some (did.tells order.content order.told).0 none)
      | inr good ↦ absurd (good.1 (did.tells order.content order.told).1)
    ]
    by_answer g is forwarded.DiskFault did told = absurd (order.disk did.reason)
    by_answer g is forwarded.NoMemory did told = memory_ends Stops refusal told

some_same : {A : Type 0} {x y : A} → Some x ≡ Some y → x ≡ y
some_same is = cc

-- a step of the attempts is told them
step_reads : (c : Call) (step : Option ℕ → Option ℕ) → AttemptsInOrder c → RanStep c.keepers step c.keeper c.keeper_after (Err fault.BadAttempts) → ⊥
step_reads c step order ran = reads (c.keepers.kept c.keeper) (c.keepers.kept c.keeper_after) order.told ran.runs
  where
    reads : (old new : Option (Option (List ℕ))) → old ≡ Some order.kept → Goes (Runs step (Err fault.BadAttempts) (c.keepers.moment c.keeper) (c.keepers.moment c.keeper_after) (c.keepers.left_since c.keeper) (c.keepers.left_since c.keeper_after)) old new → ⊥
    reads None new told runs = none_some refl told
    reads (Some kept) None told runs = runs
    reads (Some kept) (Some now) told runs = runs.took.0 order.attempts (subst (λ k. TellsAttempts k order.attempts) (sym (some_same told)) order.tells)

question_reads : (c : Call) (question : Option ℕ → Bool) → AttemptsInOrder c → WasAsked c.keepers question c.keeper c.keeper_after (Err fault.BadAttempts) → ⊥
question_reads c question order asked = reads (c.keepers.kept c.keeper) (c.keepers.kept c.keeper_after) order.told asked.answers
  where
    reads : (old new : Option (Option (List ℕ))) → old ≡ Some order.kept → Goes (λ kept now. (now ≡ kept) × Answers question kept (Err fault.BadAttempts)) old new → ⊥
    reads None new told answers = none_some refl told
    reads (Some kept) None told answers = answers
    reads (Some kept) (Some now) told answers = answers.1 order.attempts (subst (λ k. TellsAttempts k order.attempts) (sym (some_same told)) order.tells)

attempts_end : {A : Type 0} (Stops : Type 0) (Did : Result A AttemptFault → Type 0) (faults now : ℕ) (refusal : Refusal) → (Did (Err fault.BadAttempts) → ⊥) → (Rose faults now → ⊥) → AttemptCause Did faults now refusal → Ends Stops refusal
attempts_end Stops Did faults now BadWords reads holds cause = absurd cause
attempts_end Stops Did faults now (BadScript line) reads holds cause = absurd cause
attempts_end Stops Did faults now SourceFault reads holds cause = absurd cause
attempts_end Stops Did faults now DiskFault reads holds cause = absurd cause
attempts_end Stops Did faults now KeeperFault reads holds cause = absurd (holds cause.1)
attempts_end Stops Did faults now NeedsRestore reads holds cause = absurd cause
attempts_end Stops Did faults now (BadChain fault) reads holds cause = absurd cause
attempts_end Stops Did faults now (BadHeader fault) reads holds cause = absurd cause
attempts_end Stops Did faults now Reserved reads holds cause = absurd cause
attempts_end Stops Did faults now BadAttempts reads holds cause = absurd (reads cause)
attempts_end Stops Did faults now NoMemory reads holds cause = inl refl
attempts_end Stops Did faults now (Stopped writes) reads holds cause = absurd cause
attempts_end Stops Did faults now (BadGeometry g) reads holds cause = absurd cause

start_ends : (Stops : Type 0) (retries : ℕ) (c : Call) (refusal : Refusal) → KeeperHolds c → StartRefusal retries c refusal → Ends Stops refusal
start_ends Stops retries c BadWords order cause = absurd cause.1
start_ends Stops retries c (BadScript line) order cause = absurd cause.1
start_ends Stops retries c SourceFault order cause = absurd cause.1
start_ends Stops retries c DiskFault order cause = absurd cause.1
start_ends Stops retries c KeeperFault order cause = absurd (order cause.1.1)
start_ends Stops retries c NeedsRestore order cause = absurd cause.1
start_ends Stops retries c (BadChain fault) order cause = absurd cause.1
start_ends Stops retries c (BadHeader fault) order cause = absurd cause.1
start_ends Stops retries c Reserved order cause = absurd cause.1
start_ends Stops retries c BadAttempts order cause = absurd cause.1
start_ends Stops retries c NoMemory order cause = inl refl
start_ends Stops retries c (Stopped writes) order cause = absurd cause.1
start_ends Stops retries c (BadGeometry g) order cause = absurd cause.1

-- a boot
boot_ends : FaultyIsNotSound → (Stops : Type 0) (c : Call) (refusal : Refusal) → ImageInOrder c → AttemptsInOrder c → BootCause c refusal → Ends Stops refusal
boot_ends law Stops c refusal order kept cause = elim cause.1 [
  | inl none ↦ absurd (no_sizes_cause (c.disks.stated c.disk_after) (c.disks.faults c.disk) (c.disks.faults c.disk_after) refusal order.sizes order.disk none.0)
  | inr made ↦ by_answer made.0 made.1.0 made.2.0 made.2.1 made.2.2
]
  where
    by_answer : (g : Geometry) → c.disks.stated c.disk_after ≡ Some g → (r : Result Booted BootFault) → IsBooted c.disks c.keepers g c.disk c.disk_after c.keeper c.keeper_after r → IsBootRefusal r refusal → Ends Stops refusal
    by_answer g is (Ok booted) did told = memory_ends Stops refusal told
    by_answer g is (Err boots.KeeperFault) did told = absurd (kept.holds did.cause)
    by_answer g is (Err boots.BadAttempts) did told = absurd ((did.leaves order.content order.told kept.kept kept.told).0 kept.attempts kept.tells)
    by_answer g is (Err (boots.BadChain fault)) did told =
        let found = did.leaves order.content order.told kept.kept kept.told in
        elim (order.fine g is) [
          | inl s ↦ absurd (law g (contents_of order.content.now) fault s.0 s.1 found.1 s.2)
          | inr none ↦ absurd (none found.0)
        ]
    by_answer g is (Err boots.DiskFault) did told = absurd (order.disk did.cause)
    by_answer g is (Err boots.NoMemory) did told = memory_ends Stops refusal told

-- a script's run
run_ends : (Stops : Type 0) (c : Call) (Was : Session c.Disk → Type 0) (refusal : Refusal) → PlayInOrder c → RunRefused c Was refusal → Ends Stops refusal
run_ends Stops c Was refusal order cause = inl (run_refused c Was refusal order cause)

-- where nothing outside stands in the way of a command, the keeper does not fail after it
no_fault : (command : Command) (c : Call) (text : List ℕ) → CommandInOrder command c → NotClearedText command c text → ⊥
no_fault (Play number) c text order failed = run_clears c (WasPlayed number c) text order failed
no_fault (Run servers) c text order failed = run_clears c (WasRun c) text order failed
no_fault (Restore limit) c text order failed = failed
no_fault Check c text order failed = failed
no_fault Forward c text order failed = failed
no_fault (Start retries) c text order failed = failed
no_fault Mark c text order failed = failed
no_fault NeedsCheckpoint c text order failed = failed
no_fault NeedsRollback c text order failed = failed
no_fault (Abort retry) c text order failed = failed
no_fault Boot c text order failed = failed
no_fault (Drill number) c text order failed = failed
no_fault (Past number first count) c text order failed = past_clears number (blocks_from first count) c text order failed
no_fault Callers c text order failed = callers_clear c text order failed

-- where nothing outside stands in the way of a command, only want of memory refuses it, or its limit
pub command_ends : FaultyIsNotSound → (command : Command) (c : Call) (refusal : Refusal) → CommandInOrder command c → CommandCause command c refusal → Ends (MayStop command) refusal
command_ends law (Play number) c refusal order cause = run_ends (MayStop (Play number)) c (WasPlayed number c) refusal order cause
command_ends law (Run servers) c refusal order cause = run_ends (MayStop (Run servers)) c (WasRun c) refusal order cause
command_ends law (Restore limit) c refusal order cause = restore_ends limit c refusal order cause
command_ends law Check c refusal order cause = check_ends law (MayStop Check) c refusal order cause
command_ends law Forward c refusal order cause = forward_ends (MayStop Forward) c refusal order cause
command_ends law (Start retries) c refusal order cause = start_ends (MayStop (Start retries)) retries c refusal order cause
command_ends law Mark c refusal order cause = attempts_end (MayStop Mark) (RanStep c.keepers marked c.keeper c.keeper_after) (c.keepers.faults c.keeper) (c.keepers.faults c.keeper_after) refusal (step_reads c marked order) order.holds cause.1
command_ends law NeedsCheckpoint c refusal order cause = attempts_end (MayStop NeedsCheckpoint) (WasAsked c.keepers needs_checkpoint c.keeper c.keeper_after) (c.keepers.faults c.keeper) (c.keepers.faults c.keeper_after) refusal (question_reads c needs_checkpoint order) order.holds cause.1
command_ends law NeedsRollback c refusal order cause = attempts_end (MayStop NeedsRollback) (WasAsked c.keepers needs_rollback c.keeper c.keeper_after) (c.keepers.faults c.keeper) (c.keepers.faults c.keeper_after) refusal (question_reads c needs_rollback order) order.holds cause.1
command_ends law (Abort retry) c refusal order cause = attempts_end (MayStop (Abort retry)) (RanStep c.keepers (aborted retry) c.keeper c.keeper_after) (c.keepers.faults c.keeper) (c.keepers.faults c.keeper_after) refusal (step_reads c (aborted retry) order) order.holds cause.1
command_ends law Boot c refusal order cause = boot_ends law (MayStop Boot) c refusal order.0 order.1 cause
command_ends law (Drill number) c refusal order cause = inl (ap status_of cause.1)
command_ends law (Past number first count) c refusal order cause = run_ends (MayStop (Past number first count)) c (WasPlayedBeside number (blocks_from first count) c) refusal order cause
command_ends law Callers c refusal order cause = inl (callers_refused c refusal order cause)

none_five : (status : ℕ) → status ≡ 0 → status ≡ 5 → ⊥
none_five status zero five = omega (arith, zero, five)

-- a text that was put
pub text_told : (Done : List ℕ → Type 0) (Cause : Refusal → Type 0) (Behind : Refusal → List ℕ → Type 0) (InOrder Stops : Type 0) (text : List ℕ) (had has : Option (List ℕ)) (faults now status : ℕ) → Done text → IsPut 0 text had has faults now status → Tells Done Cause Behind InOrder Stops had has faults now status
text_told Done Cause Behind InOrder Stops text had has faults now status did put = elim put [
  | inl whole ↦ record {
    done = λ is. (text, did, whole.1);
    refused = λ not_0 not_5. absurd (not_0 whole.0);
    stuck = λ is. absurd (none_five status whole.0 is);
    front = λ is. absurd (none_five status whole.0 is);
    complete = λ order sound. inl whole.0;
  }
  | inr stuck ↦ record {
    done = λ is. absurd (none_five status is stuck.0);
    refused = λ not_0 not_5. absurd (not_5 stuck.0);
    stuck = λ is. stuck.1;
    front = λ is. (text, stuck.2.0, stuck.2.1, inl did);
    complete = λ order sound. absurd (sound stuck.1);
  }
]

is_refused : (Cause : Refusal → Type 0) (refusal told : Refusal) → Cause refusal → (told ≡ refusal) ⊎ (told ≡ NoMemory) → IsRefused Cause told
is_refused Cause refusal told cause (inl same) = inl (subst Cause (sym same) cause)
is_refused Cause refusal told cause (inr none) = inr (none, (refusal, cause))

told_ends : (Stops : Type 0) (refusal told : Refusal) (status : ℕ) → status ≡ status_of told → (told ≡ refusal) ⊎ (told ≡ NoMemory) → Ends Stops refusal → (status ≡ 0) ⊎ ((status ≡ 11) ⊎ ((status ≡ 12) × Stops))
told_ends Stops refusal told status is (inl same) (inl memory) = inr (inl (is ∙ ap status_of same ∙ memory))
told_ends Stops refusal told status is (inl same) (inr stopped) = inr (inr (is ∙ ap status_of same ∙ stopped.0, stopped.1))
told_ends Stops refusal told status is (inr none) ends = inr (inl (is ∙ ap status_of none))

-- a refusal that was put with its text
pub put_told : (Done : List ℕ → Type 0) (Cause : Refusal → Type 0) (Behind : Refusal → List ℕ → Type 0) (InOrder Stops : Type 0) (told : Refusal) (text : List ℕ) (had has : Option (List ℕ)) (faults now status : ℕ) → IsRefusedWith Cause Behind told text
    → (InOrder → status ≡ status_of told → (status ≡ 0) ⊎ ((status ≡ 11) ⊎ ((status ≡ 12) × Stops))) → IsPut (status_of told) text had has faults now status → Tells Done Cause Behind InOrder Stops had has faults now status
put_told Done Cause Behind InOrder Stops told text had has faults now status meant ends put = elim put [
  | inl whole ↦ record {
    done = λ is. absurd ((status_above told).0 (sym whole.0 ∙ is));
    refused = λ not_0 not_5. (told, text, whole.0, meant, whole.1);
    stuck = λ is. absurd ((status_above told).1 (sym whole.0 ∙ is));
    front = λ is. absurd ((status_above told).1 (sym whole.0 ∙ is));
    complete = λ order sound. ends order whole.0;
  }
  | inr stuck ↦ record {
    done = λ is. absurd (none_five status is stuck.0);
    refused = λ not_0 not_5. absurd (not_5 stuck.0);
    stuck = λ is. stuck.1;
    front = λ is. (text, stuck.2.0, stuck.2.1, inr (told, meant));
    complete = λ order sound. absurd (sound stuck.1);
  }
]

-- a refusal that was told
pub refusal_told : (Done : List ℕ → Type 0) (Cause : Refusal → Type 0) (Behind : Refusal → List ℕ → Type 0) (InOrder Stops : Type 0) (refusal : Refusal) (had has : Option (List ℕ)) (faults now status : ℕ) → Cause refusal → (InOrder → Ends Stops refusal) → IsRefusalPut refusal had has faults now status → Tells Done Cause Behind InOrder Stops had has faults now status
refusal_told Done Cause Behind InOrder Stops refusal had has faults now status cause ends put =
    put_told Done Cause Behind InOrder Stops put.0 (refusal_line put.0) had has faults now status (inl (is_refused Cause refusal put.0 cause put.1, refl)) (λ order is. told_ends Stops refusal put.0 status is put.1 (ends order)) put.2

-- what a call tells, by the outcome that it put
pub outcome_told : (law : FaultyIsNotSound) (command : Command) (c : Call) (o : Outcome) (had has : Option (List ℕ)) (faults now status : ℕ) → IsOutcome command c o → IsOutcomePut o had has faults now status → TellsCommand command c had has faults now status
outcome_told law command c (outcome.Done text) had has faults now status did put = text_told _ _ _ _ _ text.items had has faults now status did put
outcome_told law command c (outcome.Refused refusal) had has faults now status cause put = refusal_told _ _ _ _ _ refusal had has faults now status cause (λ order. command_ends law command c refusal order cause) put
outcome_told law command c (outcome.Behind refusal text) had has faults now status failed put = put_told _ _ _ _ _ refusal text.items had has faults now status (inr failed) (λ order is. absurd (no_fault command c text.items order failed.1)) put

-- what a check came to
pub check_came : (c : Call) (r : Result (Vec ℕ Global) Refusal) (o : Outcome) → OnlyReads c → IfOk r (λ text. OfImage (c.disks.stated c.disk_after) (c.disks.content c.disk) (λ g image. TellsChain g image text.items))
    → IfErr r (Finds (c.disks.stated c.disk_after) (c.disks.content c.disk) (c.disks.faults c.disk) (c.disks.faults c.disk_after)) → MatchResult r (λ text. o ≡ outcome.Done text) (λ refusal. o ≡ outcome.Refused refusal) → IsOutcome Check c o
check_came c (Ok text) o reads told cause is = subst (IsOutcome Check c) (sym is) (reads, told)
check_came c (Err refusal) o reads told cause is = subst (IsOutcome Check c) (sym is) (reads, cause)

-- what a script's run came to
abbrev pub RunCame : (c : Call) → (Session c.Disk → Type 0) → Outcome → Type 0
RunCame c Was (outcome.Done text) = RunText c Was text.items
RunCame c Was (outcome.Refused refusal) = RunRefused c Was refusal
RunCame c Was (outcome.Behind refusal text) = (refusal ≡ KeeperFault) × RunNotCleared c Was text.items

pub run_came : (c : Call) (Was : Session c.Disk → Type 0) (s : Session c.Disk) (cleared : Bool) (o : Outcome) → Was s → ClearsAfter c s cleared → IsTranscriptTold (transcript_of s) cleared o → RunCame c Was o
run_came c Was s true (outcome.Done told) was clears is = (s, was, clears, is)
run_came c Was s false (outcome.Done told) was clears is = absurd is
run_came c Was s true (outcome.Behind refusal told) was clears is = absurd is
run_came c Was s false (outcome.Behind refusal told) was clears is = (is.0, (s, was, clears, is.1))
run_came c Was s cleared (outcome.Refused refusal) was clears is = inr (is, (s, was, (cleared, clears)))

pub play_outcome : (number : ℕ) (c : Call) (o : Outcome) → RunCame c (WasPlayed number c) o → IsOutcome (Play number) c o
play_outcome number c (outcome.Done text) came = came
play_outcome number c (outcome.Refused refusal) came = came
play_outcome number c (outcome.Behind refusal text) came = came

pub run_outcome : (servers : ℕ) (c : Call) (o : Outcome) → RunCame c (WasRun c) o → IsOutcome (Run servers) c o
run_outcome servers c (outcome.Done text) came = came
run_outcome servers c (outcome.Refused refusal) came = came
run_outcome servers c (outcome.Behind refusal text) came = came

-- whether it has committed, said otherwise
pub clears_for : {K : Type 0} (v : KeeperView K) (P Q : Type 0) (old new : K) (cleared : Bool) → (P → Q) → (Q → P) → Clears v P old new cleared → Clears v Q old new cleared
clears_for v P Q old new true to from (inl done) = inl (to done.0, done.1)
clears_for v P Q old new true to from (inr left) = inr (λ is. left.0 (from is), left.1)
clears_for v P Q old new false to from failed = (to failed.0, failed.1)

-- what a script came to that callers ran
pub called_came : (c : Call) (r : CallersRun c.Disk) (whole cleared : Bool) (o : Outcome) → WasCalled c r → (whole ≡ true → IsWhole r) → ClearsAfterCalls c r cleared → IsCalledTold whole (called_text r) cleared o → CallersCame c o
called_came c r true true (outcome.Done told) was all clears is = (r, was, all refl, clears, is)
called_came c r true false (outcome.Done told) was all clears is = absurd is
called_came c r true true (outcome.Behind refusal told) was all clears is = absurd is
called_came c r true false (outcome.Behind refusal told) was all clears is = (is.0, (r, was, all refl, clears, is.1))
called_came c r true cleared (outcome.Refused refusal) was all clears is = inr (is, (r, was, (cleared, clears)))
called_came c r false cleared o was all clears is = subst (CallersCame c) (sym is) (inr (refl, (r, was, (cleared, clears))))

pub callers_outcome : (c : Call) (o : Outcome) → CallersCame c o → IsOutcome Callers c o
callers_outcome c (outcome.Done text) came = came
callers_outcome c (outcome.Refused refusal) came = came
callers_outcome c (outcome.Behind refusal text) came = came

-- the transcript was told, or found no memory
pub told_of : {E : Type 0} (spelled : List ℕ) (text : Result (Vec ℕ Global) E) (cleared : Bool) (o : Outcome) → IfOk text (λ t. t.items ≡ spelled) → MatchResult text (λ t. IsTranscriptTold t.items cleared o) (λ _. o ≡ outcome.Refused NoMemory) → IsTranscriptTold spelled cleared o
told_of spelled (Ok t) cleared o is told = subst (λ x. IsTranscriptTold x cleared o) is told
told_of spelled (Err e) true o is told = subst (IsTranscriptTold spelled true) (sym told) refl
told_of spelled (Err e) false o is told = subst (IsTranscriptTold spelled false) (sym told) refl

-- it was told where all was called, or found no memory
pub called_told : {E : Type 0} (spelled : List ℕ) (text : Result (Vec ℕ Global) E) (whole cleared : Bool) (o : Outcome) → IfOk text (λ _. whole ≡ true) → IfOk text (λ t. t.items ≡ spelled)
    → MatchResult text (λ t. IsTranscriptTold t.items cleared o) (λ _. o ≡ outcome.Refused NoMemory) → IsCalledTold whole spelled cleared o
called_told spelled (Ok t) whole cleared o all is told = subst (λ w. IsCalledTold w spelled cleared o) (sym all) (subst (λ x. IsTranscriptTold x cleared o) is told)
called_told spelled (Err e) true cleared o all is told = told_of spelled (Err e) cleared o is told
called_told spelled (Err e) false cleared o all is told = told

module _ {C : Type 0} (Asked : C → Type 0) (Untouched : Type 0) (m : Meaning C) where
  -- why a call refuses whose words ask for such a command
  abbrev CauseOf : Refusal → Type 0
  CauseOf refusal = (WordsCause Asked refusal × Untouched) ⊎ AskFor Asked (λ x. m.cause x refusal)

  abbrev BehindOf : Refusal → List ℕ → Type 0
  BehindOf refusal text = AskFor Asked (λ x. m.behind x refusal text)

  refused_of : (command : C) (refusal : Refusal) (text : List ℕ) → Asked command → IsRefusedWith (m.cause command) (m.behind command) refusal text → IsRefusedWith CauseOf BehindOf refusal text
  refused_of command refusal text asks (inl told) = inl (caused told.0, told.1)
    where
      caused : IsRefused (m.cause command) refusal → IsRefused CauseOf refusal
      caused (inl cause) = inl (inr (command, asks, cause))
      caused (inr none) = inr (none.0, (none.1.0, inr (command, asks, none.1.1)))
  refused_of command refusal text asks (inr behind) = inr (command, asks, behind)

  stops_of : (command : C) (status : ℕ) → Asked command → (status ≡ 0) ⊎ ((status ≡ 11) ⊎ ((status ≡ 12) × m.may_stop command)) → (status ≡ 0) ⊎ ((status ≡ 11) ⊎ ((status ≡ 12) × AskFor Asked m.may_stop))
  stops_of command status asks (inl zero) = inl zero
  stops_of command status asks (inr (inl memory)) = inr (inl memory)
  stops_of command status asks (inr (inr stopped)) = inr (inr (stopped.0, (command, asks, stopped.1)))

  -- the words asked for the command, and for no other
  pub words_told : ((a b : C) → Asked a → Asked b → a ≡ b) → (command : C) (had has : Option (List ℕ)) (faults now status : ℕ) → Asked command → TellsOf m command had has faults now status → TellsAsked Asked Untouched m had has faults now status
  words_told one command had has faults now status asks tells = record {
    done = λ is. (let did = tells.done is in (did.0, (command, asks, did.1), did.2));
    refused = λ not_0 not_5. (let told = tells.refused not_0 not_5 in (told.0, told.1, told.2, refused_of command told.0 told.1 asks told.3, told.4));
    stuck = tells.stuck;
    front = λ is. (let put = tells.front is in (put.0, put.1, put.2, front_of put.0 put.3));
    complete = λ order sound. stops_of command status asks (tells.complete (subst m.in_order (one order.0 command order.1 asks) order.2) sound);
  }
    where
      front_of : (text : List ℕ) → m.done command text ⊎ ((refusal : Refusal) × IsRefusedWith (m.cause command) (m.behind command) refusal text) → AskFor Asked (λ x. m.done x text) ⊎ ((refusal : Refusal) × IsRefusedWith CauseOf BehindOf refusal text)
      front_of text (inl did) = inl (command, asks, did)
      front_of text (inr told) = inr (told.0, refused_of command told.0 text asks told.1)

  -- the words come to no command
  no_words_end : (refusal : Refusal) → AskFor Asked m.in_order → WordsCause Asked refusal → status_of refusal ≡ 11
  no_words_end BadWords order cause = absurd (cause order.0 order.1)
  no_words_end (BadScript line) order cause = absurd cause
  no_words_end SourceFault order cause = absurd cause
  no_words_end DiskFault order cause = absurd cause
  no_words_end KeeperFault order cause = absurd cause
  no_words_end NeedsRestore order cause = absurd cause
  no_words_end (BadChain fault) order cause = absurd cause
  no_words_end (BadHeader fault) order cause = absurd cause
  no_words_end Reserved order cause = absurd cause
  no_words_end BadAttempts order cause = absurd cause
  no_words_end NoMemory order cause = refl
  no_words_end (Stopped writes) order cause = absurd cause
  no_words_end (BadGeometry g) order cause = absurd cause

  pub no_words_told : (refusal : Refusal) (had has : Option (List ℕ)) (faults now status : ℕ) → WordsCause Asked refusal → Untouched → IsRefusalPut refusal had has faults now status → TellsAsked Asked Untouched m had has faults now status
  no_words_told refusal had has faults now status cause untouched put = refusal_told _ CauseOf BehindOf _ _ refusal had has faults now status (inl (cause, untouched)) (λ order. inl (no_words_end refusal order cause)) put
