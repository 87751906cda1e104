-- What a call of the program did, by what its words asked for.
use Rattle.std.specs.Prelude.{◌≡◌, ◌⊎◌, ℕ, ◌≤◌, List, Option, None, Some, String, take}
use Rattle.std.specs.declared.alloc.Global.{Global}
use Rattle.std.specs.Io.KnownBytes.{Appends}
use Rattle.bow_units.specs.declared.sizes.Geometry.{Geometry}
use Rattle.bow_units.specs.Sizes.{IsValid}
use Rattle.bow_units.specs.Causes.{Rose}
use Rattle.bow_disk.specs.Disk.{Content}
use Rattle.bow_log.specs.Faults.{header_fault}
use Rattle.bow_log.specs.declared.faults.LogFault.TheVariants.{NoMagic}
use Rattle.bow_chain.specs.Contents.{Contents, contents_of}
use Rattle.bow_chain.specs.Kept.{IsPlain}
use Rattle.bow_restore.specs.Forwarding.{named_by}
use Rattle.vold_commands.specs.Attempts.{marked, aborted, needs_checkpoint, needs_rollback, most_retries}
use Rattle.bow_restore.specs.Limits.{IsLimit}
use Rattle.bow_words.specs.declared.commands.Command.{Command}
use Rattle.bow_words.specs.declared.commands.Command.TheVariants.{Play, Run, Restore, Check, Forward, Start, Mark, NeedsCheckpoint, NeedsRollback, Abort, Boot, Drill, Past, Callers}
use Rattle.bow_words.specs.Words.{Asks}
use Rattle.bow_tool.specs.declared.outcomes.Outcome.{Outcome}
use Rattle.bow_tool.specs.declared.outcomes.Outcome.TheVariants as outcome
use Rattle.bow_tool.specs.declared.refusals.Refusal.{Refusal}
use Rattle.bow_tool.specs.declared.refusals.Refusal.TheVariants.{BadWords, KeeperFault, NoMemory}
use Rattle.bow_tool.specs.Refusals.{refusal_line, status_of}
use Rattle.bow_tool.specs.Outside.{Call, AllLeft}
use Rattle.bow_tool.specs.Pasts.{PastNotCleared, PastRefused, PastText, blocks_from}
use Rattle.bow_tool.specs.Play.{PlayInOrder, RunNotCleared, RunRefused, RunText, WasPlayed, WasRun}
use Rattle.bow_tool.specs.Callers.{CalledNotCleared, CalledText, CallersRefused}
use Rattle.bow_tool.specs.Check.{CheckText, CheckCause, ImageInOrder}
use Rattle.bow_tool.specs.Restores.{RestoreText, RestoreCause, ForwardText, ForwardCause}
use Rattle.bow_tool.specs.Attempts.{AttemptsInOrder, KeeperHolds, QuestionCause, QuestionText, StartRefusal, StartText, StepCause, StepText}
use Rattle.bow_tool.specs.Boots.{BootCause, BootText}
use Rattle.bow_tool.specs.Drills.{TellsDrill}

-- the numbers of the command are in their ranges: 1 to 8 servers, a limit of at least 1, at most 2147483646 retries,
-- 1 to 4096 blocks that are read
abbrev pub IsInRange : Command → Type 0
IsInRange (Run servers) = (1 ≤ servers) × (servers ≤ 8)
IsInRange (Restore limit) = IsLimit limit
IsInRange (Start retries) = retries ≤ most_retries
IsInRange (Past number first count) = (1 ≤ count) × (count ≤ 4096)
IsInRange command = Unit {0}

-- the command needs no threads
abbrev pub IsManaged : Command → Type 0
IsManaged (Run servers) = ⊥
IsManaged Callers = ⊥
IsManaged command = Unit {0}

-- the command was done, with this text
abbrev pub DoneText : Command → Call → List ℕ → Type 0
DoneText (Play number) c text = RunText c (WasPlayed number c) text
DoneText (Run servers) c text = RunText c (WasRun c) text
DoneText (Restore limit) c text = RestoreText limit c text
DoneText Check c text = CheckText c text
DoneText Forward c text = ForwardText c text
DoneText (Start retries) c text = StartText retries c text
DoneText Mark c text = StepText marked c text
DoneText NeedsCheckpoint c text = QuestionText needs_checkpoint c text
DoneText NeedsRollback c text = QuestionText needs_rollback c text
DoneText (Abort retry) c text = StepText (aborted retry) c text
DoneText Boot c text = BootText c text
DoneText (Drill number) c text = AllLeft c × TellsDrill number text
DoneText (Past number first count) c text = PastText number (blocks_from first count) c text
DoneText Callers c text = CalledText c text

-- why the command is refused
abbrev pub CommandCause : Command → Call → Refusal → Type 0
CommandCause (Play number) c refusal = RunRefused c (WasPlayed number c) refusal
CommandCause (Run servers) c refusal = RunRefused c (WasRun c) refusal
CommandCause (Restore limit) c refusal = RestoreCause limit c refusal
CommandCause Check c refusal = CheckCause c refusal
CommandCause Forward c refusal = ForwardCause c refusal
CommandCause (Start retries) c refusal = StartRefusal retries c refusal
CommandCause Mark c refusal = StepCause marked c refusal
CommandCause NeedsCheckpoint c refusal = QuestionCause needs_checkpoint c refusal
CommandCause NeedsRollback c refusal = QuestionCause needs_rollback c refusal
CommandCause (Abort retry) c refusal = StepCause (aborted retry) c refusal
CommandCause Boot c refusal = BootCause c refusal
CommandCause (Drill number) c refusal = AllLeft c × (refusal ≡ NoMemory)
CommandCause (Past number first count) c refusal = PastRefused number (blocks_from first count) c refusal
CommandCause Callers c refusal = CallersRefused c refusal

-- the command was done, but the keeper failed to remove the attempts after it: so a script's run may end
abbrev pub NotClearedText : Command → Call → List ℕ → Type 0
NotClearedText (Play number) c text = RunNotCleared c (WasPlayed number c) text
NotClearedText (Run servers) c text = RunNotCleared c (WasRun c) text
NotClearedText (Past number first count) c text = PastNotCleared number (blocks_from first count) c text
NotClearedText Callers c text = CalledNotCleared c text
NotClearedText command c text = ⊥

-- so it may end: this refusal is told behind what was done
abbrev pub BehindText : Command → Call → Refusal → List ℕ → Type 0
BehindText command c refusal text = (refusal ≡ KeeperFault) × NotClearedText command c text

-- the command came to this
abbrev pub IsOutcome : Command → Call → Outcome → Type 0
IsOutcome command c (outcome.Done text) = DoneText command c text.items
IsOutcome command c (outcome.Refused refusal) = CommandCause command c refusal
IsOutcome command c (outcome.Behind refusal text) = BehindText command c refusal text.items

-- block 0 has no magic, or its header is good and the block that it names begins with none
abbrev pub CanForward : Geometry → Contents → Type 0
CanForward g image = (header_fault g (image 0) ≡ Some NoMagic)
    ⊎ ((header_fault g (image 0) ≡ None) × IsPlain (named_by g image))

-- nothing stands in the way of giving the checkpoint up: the disk tells its content, states valid sizes, and no call of
-- it fails; and there is nothing to give up, or it can be
pub record ForwardInOrder (c : Call) : Type 0 where
  pub content : Content
  pub told : c.disks.content c.disk ≡ Some content
  pub sizes : (g : Geometry) → c.disks.stated c.disk_after ≡ Some g → IsValid g
  pub fine : (g : Geometry) → c.disks.stated c.disk_after ≡ Some g → CanForward g (contents_of content.now)
  pub disk : Rose (c.disks.faults c.disk) (c.disks.faults c.disk_after) → ⊥

-- nothing outside stands in the way of the command
abbrev pub CommandInOrder : Command → Call → Type 0
CommandInOrder (Play number) c = PlayInOrder c
CommandInOrder (Run servers) c = PlayInOrder c
CommandInOrder (Restore limit) c = ImageInOrder c
CommandInOrder Check c = ImageInOrder c
CommandInOrder Forward c = ForwardInOrder c
CommandInOrder (Start retries) c = KeeperHolds c
CommandInOrder Mark c = AttemptsInOrder c
CommandInOrder NeedsCheckpoint c = AttemptsInOrder c
CommandInOrder NeedsRollback c = AttemptsInOrder c
CommandInOrder (Abort retry) c = AttemptsInOrder c
CommandInOrder Boot c = ImageInOrder c × AttemptsInOrder c
CommandInOrder (Drill number) c = Unit {0}
CommandInOrder (Past number first count) c = PlayInOrder c
CommandInOrder Callers c = PlayInOrder c

-- it may stop at a limit
abbrev pub MayStop : Command → Type 0
MayStop (Restore (Some limit)) = Unit {0}
MayStop command = ⊥

-- a command is asked for of which this holds
abbrev pub AskFor : {C : Type 0} → (C → Type 0) → (C → Type 0) → Type 0
AskFor {C} Asked P = (command : C) × Asked command × P command

-- why the words come to no command: they ask for none, or there was no memory to read them
abbrev pub WordsCause : {C : Type 0} → (C → Type 0) → Refusal → Type 0
WordsCause {C} Asked BadWords = (command : C) → Asked command → ⊥
WordsCause Asked NoMemory = Unit {0}
WordsCause Asked refusal = ⊥

-- a refusal has its cause; or there is no memory for the line of one that has
abbrev pub IsRefused : (Refusal → Type 0) → Refusal → Type 0
IsRefused Cause refusal = Cause refusal ⊎ ((refusal ≡ NoMemory) × ((meant : Refusal) × Cause meant))

-- a refusal that was told with this text: its line alone, or what was done with the line behind it
abbrev pub IsRefusedWith : (Refusal → Type 0) → (Refusal → List ℕ → Type 0) → Refusal → List ℕ → Type 0
IsRefusedWith Cause Behind refusal text = (IsRefused Cause refusal × (text ≡ refusal_line refusal))
    ⊎ Behind refusal text

-- What a call tells, where its sink had and has these bytes, and failed so often, and its status: at 0 the text of what
-- was done; at 5 a front of a text, as the sink failed; else a refusal, with its text and its cause. Where nothing
-- outside stands in the way, only want of memory keeps it from being done, or the limit that was asked for.
pub record Tells (Done : List ℕ → Type 0) (Cause : Refusal → Type 0) (Behind : Refusal → List ℕ → Type 0)
    (InOrder MayStop : Type 0) (had has : Option (List ℕ)) (faults now status : ℕ) : Type 0 where
  pub done : status ≡ 0 → (text : List ℕ) × Done text × Appends had has text
  pub refused : (status ≡ 0 → ⊥) → (status ≡ 5 → ⊥) → (refusal : Refusal) × (text : List ℕ)
      × (status ≡ status_of refusal) × IsRefusedWith Cause Behind refusal text × Appends had has text
  pub stuck : status ≡ 5 → Rose faults now
  pub front : status ≡ 5 → (text : List ℕ) × (n : ℕ) × Appends had has (take n text)
      × (Done text ⊎ ((refusal : Refusal) × IsRefusedWith Cause Behind refusal text))
  pub complete : InOrder → (Rose faults now → ⊥)
      → (status ≡ 0) ⊎ ((status ≡ 11) ⊎ ((status ≡ 12) × MayStop))

-- What commands come to in a call: the text of one that was done; why one is refused; what is told of one that was
-- done but for its end; when nothing outside stands in its way; and whether it may stop at a limit.
pub record Meaning (C : Type 0) : Type 1 where
  pub done : C → List ℕ → Type 0
  pub cause : C → Refusal → Type 0
  pub behind : C → Refusal → List ℕ → Type 0
  pub in_order : C → Type 0
  pub may_stop : C → Type 0

-- what a call tells that was asked for a command of this meaning
abbrev pub TellsOf : {C : Type 0} → Meaning C → C → Option (List ℕ) → Option (List ℕ) → ℕ → ℕ → ℕ → Type 0
TellsOf m command had has faults now status =
    Tells (m.done command) (m.cause command) (m.behind command) (m.in_order command) (m.may_stop command) had has faults
    now status

-- What a call tells whose words ask for these commands: it does what is asked for; or it refuses, as the words come to
-- no command and nothing outside was touched, or as what they ask for is refused.
abbrev pub TellsAsked : {C : Type 0} → (C → Type 0) → Type 0 → Meaning C → Option (List ℕ) → Option (List ℕ) → ℕ → ℕ
    → ℕ → Type 0
TellsAsked Asked Untouched m had has faults now status =
    Tells (λ text. AskFor Asked (λ command. m.done command text))
    (λ refusal. (WordsCause Asked refusal × Untouched) ⊎ AskFor Asked (λ command. m.cause command refusal))
    (λ refusal text. AskFor Asked (λ command. m.behind command refusal text)) (AskFor Asked m.in_order)
    (AskFor Asked m.may_stop) had has faults now status

-- what the commands come to in this call
abbrev pub meaning_in : Call → Meaning Command
meaning_in c = record {
  done = λ command text. DoneText command c text;
  cause = λ command refusal. CommandCause command c refusal;
  behind = λ command refusal text. BehindText command c refusal text;
  in_order = λ command. CommandInOrder command c;
  may_stop = MayStop;
}

-- what a call tells that was asked for a command
abbrev pub TellsCommand : Command → Call → Option (List ℕ) → Option (List ℕ) → ℕ → ℕ → ℕ → Type 0
TellsCommand command c had has faults now status = TellsOf (meaning_in c) command had has faults now status

-- what a call tells that was given these words
abbrev pub TellsWords : List (String Global) → Call → Option (List ℕ) → Option (List ℕ) → ℕ → ℕ → ℕ → Type 0
TellsWords words c had has faults now status =
    TellsAsked (Asks words) (AllLeft c) (meaning_in c) had has faults now status

-- a line was put whole, with the status that was wanted; or a front of it, as the sink failed
abbrev pub IsPut : ℕ → List ℕ → Option (List ℕ) → Option (List ℕ) → ℕ → ℕ → ℕ → Type 0
IsPut wanted line had has faults now status = ((status ≡ wanted) × Appends had has line)
    ⊎ ((status ≡ 5) × Rose faults now × ((n : ℕ) × Appends had has (take n line)))

-- the line of a refusal was put, or that of want of memory in its place
abbrev pub IsRefusalPut : Refusal → Option (List ℕ) → Option (List ℕ) → ℕ → ℕ → ℕ → Type 0
IsRefusalPut refusal had has faults now status = (told : Refusal) × ((told ≡ refusal) ⊎ (told ≡ NoMemory))
    × IsPut (status_of told) (refusal_line told) had has faults now status

-- an outcome was put: a text with status 0, a refusal, or a text with the status of the refusal behind it
abbrev pub IsOutcomePut : Outcome → Option (List ℕ) → Option (List ℕ) → ℕ → ℕ → ℕ → Type 0
IsOutcomePut (outcome.Done text) had has faults now status = IsPut 0 text.items had has faults now status
IsOutcomePut (outcome.Refused refusal) had has faults now status = IsRefusalPut refusal had has faults now status
IsOutcomePut (outcome.Behind refusal text) had has faults now status =
    IsPut (status_of refusal) text.items had has faults now status
