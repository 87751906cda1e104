-- What running a script by callers did: what it says, and why it was refused.
use Rattle.std.specs.Prelude.{◌≡◌, ◌⊎◌, ℕ, suc, ◌+◌, ◌<◌, ◌≤◌, Bool, true, false}
use Rattle.std.specs.Prelude.{List, [], ◌++◌, length, slice_index_or, Option, Some, Contains}
use Rattle.std.specs.List.{sum_by}
use Rattle.bow_units.specs.declared.requests.Op.{Op}
use Rattle.bow_units.specs.declared.requests.Op.TheVariants as ops
use Rattle.bow_units.specs.declared.requests.Outcome.TheVariants.{Done}
use Rattle.bow_units.specs.Causes.{Rose}
use Rattle.bow_units.specs.Magics.{IsPlain}
use Rattle.bow_disk.specs.Disk.{Content, IsSettledOn}
use Rattle.bow_chain.specs.Contents.{Contents, contents_of}
use Rattle.bow_flat.specs.Flat.{Flat, opening}
use Rattle.bow_guard.specs.Standing.{StandsFor}
use Rattle.bow_core.specs.Standing.{StandsIn}
use Rattle.bow_core.specs.Views.{View}
use Rattle.bow_script.specs.declared.scripts.Line.{Line}
use Rattle.bow_history.specs.declared.items.Item.{Item}
use Rattle.bow_history.specs.Complete.{IsComplete}
use Rattle.bow_history.specs.Cuts.{IsOnTheWayBy}
use Rattle.bow_history.specs.DiskCuts.{StandsAheadToo}
use Rattle.bow_history.specs.Journal.{Plan, Place, beginning, Legal}
use Rattle.bow_history.specs.Promises.{faults_in, held}
use Rattle.bow_history.specs.Sessions.{Turned}
use Rattle.bow_session.specs.Requests.{lanes_of, plan_of}
use Rattle.bow_session.specs.Runs.{begun_over}
use Rattle.bow_play.specs.Beginning.{HasOpened}
use Rattle.bow_play.specs.Leading.{CanLeave}
use Rattle.bow_play.specs.Reading.{GaveScript}
use Rattle.bow_play.specs.declared.faults.PlayFault.{PlayFault}
use Rattle.bow_report.specs.Texts.{transcript_text}
use Rattle.bow_promise.specs.Cutting.{Play}
use Rattle.bow_promise.specs.Promises.{IsPromised}
use Rattle.bow_promise.specs.Space.{NoSpaceIsTrue}
use Rattle.bow_tags.specs.declared.view.Entry.{Entry}
use Rattle.bow_receipts.specs.declared.asks.Answer.{Answer}
use Rattle.bow_receipts.specs.Called.{IsCalled}
use Rattle.bow_receipts.specs.Closing.{HoldsReads, moments_in, plan_by}
use Rattle.bow_tool.specs.declared.refusals.Refusal.{Refusal}
use Rattle.bow_tool.specs.declared.refusals.Refusal.TheVariants.{KeeperFault, NoMemory}
use Rattle.bow_tool.specs.declared.outcomes.Outcome.{Outcome}
use Rattle.bow_tool.specs.declared.outcomes.Outcome.TheVariants as outcome
use Rattle.bow_tool.specs.Refusals.{refusal_line}
use Rattle.bow_tool.specs.CallLines.{bytes_by, receipts_text}
use Rattle.bow_tool.specs.Outside.{Call, from_source}
use Rattle.bow_tool.specs.Play.{Clears, WasNotPlayed, refusal_for}
use Rattle.bow_tool.specs.Sizes.{HasSizes}

-- What callers of a script leave: the script, the device, the journal of all that was done, and the calls, in the order
-- of their answers.
pub record CallersRun (D : Type 0) : Type 0 where
  pub script : List (List (List Line))
  pub core : View D
  pub journal : List Item
  pub calls : List (Entry Op Answer)

-- what was asked: of each lane the ops of its calls
abbrev pub plan_called : {D : Type 0} → CallersRun D → Plan
plan_called r = plan_by r.core.geometry (lanes_of r.script) r.calls

-- ----------------------------------------------------------------------------------------------------------------
-- What is told.

-- the transcript of the journal, with what the calls were given, and the receipts
abbrev pub called_text : {D : Type 0} → CallersRun D → List ℕ
called_text r = transcript_text (plan_called r) (bytes_by r.calls) r.journal
    ++ receipts_text (lanes_of r.script) r.calls

-- ----------------------------------------------------------------------------------------------------------------
-- What was done.

-- this is said of the image and a state midway of a place on the way of the journal, from the opening state of that
-- image on: after a front of it that has its first n items
abbrev pub IsOnCalledWay : {D : Type 0} → (Flat → Contents → Type 0) → List (List ℕ) → CallersRun D → Place → ℕ
    → List (List ℕ) → Type 0
IsOnCalledWay says image r end n cut = IsOnTheWayBy says (plan_called r) (bytes_by r.calls) r.journal
    (beginning (opening image)) end n (contents_of cut)

-- Where the calls lead on a disk that told this content before them, where the device was opened so and made these
-- turns. The journal is legal from the opening state of the image, with the ops of the calls as its requests and their
-- bytes as what was read, to a place for whose state the device stands. Whatever a cut since an earlier moment might
-- have left was left then too, or is on the journal's way; since the moment of an item it is on the way of one that has
-- the item; and now it is said of the last state. Where the disk was settled on its image, all is on the journal's way.
pub record CallersLead {D : Type 0} (content : D → Option Content) (moment : D → ℕ) (left : D → ℕ → List (List ℕ)
    → Type 0) (says : Flat → Contents → Type 0) (old : D) (c : Content) (first : View D) (turns : List Turned)
    (r : CallersRun D) : Type 0 where
  pub end : Place
  pub legal : Legal (plan_called r) (bytes_by r.calls) r.journal (beginning (opening c.now)) end
  pub stands : StandsIn content r.core end.flat
  pub phase : end.flat.phase ≡ r.core.memory.phase
  pub ever : (since : ℕ) (cut : List (List ℕ)) → since ≤ moment old → left r.core.disk since cut
      → left old since cut ⊎ IsOnCalledWay says c.now r end 0 cut
  pub item : (i : ℕ) (cut : List (List ℕ)) → i < length r.journal
      → left r.core.disk (slice_index_or (moments_in moment (plan_called r) first turns) i 0) cut
      → IsOnCalledWay says c.now r end (suc i) cut
  pub now : (cut : List (List ℕ)) → CanLeave (content r.core.disk) cut → says end.flat (contents_of cut)
  pub settled : IsSettledOn c.now c → (cut : List (List ℕ)) → left r.core.disk (moment old) cut
      → IsOnCalledWay says c.now r end 0 cut

-- the calls as the promises have a play
abbrev pub play_called : {D : Type 0} → List (List ℕ) → CallersRun D → Place → Play
play_called image r end = record {
  plan = plan_called r;
  read = bytes_by r.calls;
  image = image;
  journal = r.journal;
  end = end;
}

-- Each cut of the calls is promised: whatever it leaves since they began, of a disk that was settled before; since the
-- moment of an item what it leaves of the play that has the item; and at their end of the play that has all.
pub record CallersArePromised {D : Type 0} (content : D → Option Content) (moment : D → ℕ) (left : D → ℕ
    → List (List ℕ) → Type 0) (old : D) (c : Content) (first : View D) (turns : List Turned) (r : CallersRun D)
    (p : Play) : Type 0 where
  pub ever : IsSettledOn c.now c → (cut : List (List ℕ)) → left r.core.disk (moment old) cut → IsPromised p 0 cut
  pub item : (i : ℕ) → i < length r.journal → (cut : List (List ℕ))
      → left r.core.disk (slice_index_or (moments_in moment (plan_called r) first turns) i 0) cut
      → IsPromised p (suc i) cut
  pub now : (cut : List (List ℕ)) → CanLeave (content r.core.disk) cut → IsPromised p (length r.journal) cut

-- The script that the source gave was run by callers, over a device that was opened on the disk: each lane's calls are
-- of its requests, in order, with the answers that it was given, each at its place of the one journal. The disk's
-- faults rose by at least as many as the journal tells. Over a disk that tells its content the journal is legal from
-- the opening state of the image, cuts leave states on its way, and the device stands for the last one; where no call
-- of the disk failed, they are ahead for these too. No space is found only where there is none. Whatever a cut leaves
-- is promised: over any number of restorations and boots after it, each cut anywhere, the first that ends well has the
-- checkpoint back, or what was flushed, by where the cut came.
pub record WasCalled (c : Call) (r : CallersRun c.Disk) : Type 0 where
  pub given : GaveScript (from_source c) r.script
  pub disk : c.disk_after ≡ r.core.disk
  pub sizes : HasSizes c.disks r.core.disk r.core.geometry
  pub first : View c.Disk
  pub opened : HasOpened c.disks.stated c.disks.content c.disks.moment c.disks.left_since c.disks.faults c.disk first
  pub called : IsCalled c.disks.content c.disks.moment c.disks.left_since c.disks.faults r.core.geometry
      (lanes_of r.script) (λ v. v ≡ first) r.script r.core r.journal r.calls
  pub reads : HoldsReads r.calls (bytes_by r.calls)
  pub faults : held (c.disks.faults c.disk + sum_by faults_in r.journal) ≤ c.disks.faults r.core.disk
  pub plain : (k : Content) → c.disks.content c.disk ≡ Some k → IsPlain (slice_index_or k.now 0 [])
  pub leads : (k : Content) → c.disks.content c.disk ≡ Some k
      → CallersLead c.disks.content c.disks.moment c.disks.left_since (StandsFor r.core.geometry) c.disk k
      first called.closed.turns r
  pub ahead : (k : Content) → c.disks.content c.disk ≡ Some k
      → (Rose (c.disks.faults c.disk) (c.disks.faults r.core.disk) → ⊥)
      → CallersLead c.disks.content c.disks.moment c.disks.left_since (StandsAheadToo r.core.geometry) c.disk k
      first called.closed.turns r
  pub space : NoSpaceIsTrue (plan_called r) (begun_over first) called.closed.turns
  pub promised : (k : Content) → (told : c.disks.content c.disk ≡ Some k)
      → CallersArePromised c.disks.content c.disks.moment c.disks.left_since c.disk k first called.closed.turns r
      (play_called k.now r (leads k told).end)

-- all requests of the script were called, and answered
abbrev pub IsWhole : {D : Type 0} → CallersRun D → Type 0
IsWhole r = IsComplete (plan_of r.core.geometry r.script) r.journal

-- the call is a commit that was answered Done
abbrev pub IsCommitCall : Entry Op Answer → Type 0
IsCommitCall x = (x.ask ≡ ops.Commit) × (x.answer.outcome ≡ Done)

-- one of the calls is
abbrev pub HasCommitted : List (Entry Op Answer) → Type 0
HasCommitted calls = (x : Entry Op Answer) × Contains calls x × IsCommitCall x

-- the attempts are removed after these calls, where a commit was answered Done, and else the keeper is not asked
abbrev pub ClearsAfterCalls : (c : Call) → CallersRun c.Disk → Bool → Type 0
ClearsAfterCalls c r cleared = Clears c.keepers (HasCommitted r.calls) c.keeper c.keeper_after cleared

-- the script was run whole by callers, and this is told
abbrev pub CalledText : (c : Call) → List ℕ → Type 0
CalledText c text = (r : CallersRun c.Disk) × WasCalled c r × IsWhole r × ClearsAfterCalls c r true
    × (text ≡ called_text r)

-- so it was, but after a commit the keeper failed: the line of that is told behind it
abbrev pub CalledNotCleared : (c : Call) → List ℕ → Type 0
CalledNotCleared c text = (r : CallersRun c.Disk) × WasCalled c r × IsWhole r × ClearsAfterCalls c r false
    × (text ≡ called_text r ++ refusal_line KeeperFault)

-- why a script is not run so: no request was begun; or callers ran it, and there was no memory for a call or for what
-- is told
abbrev pub CallersRefused : (c : Call) → Refusal → Type 0
CallersRefused c refusal = ((fault : PlayFault) × (refusal ≡ refusal_for fault) × WasNotPlayed c fault)
    ⊎ ((refusal ≡ NoMemory) × ((r : CallersRun c.Disk) × WasCalled c r
    × ((cleared : Bool) × ClearsAfterCalls c r cleared)))

-- what a script came to that callers ran
abbrev pub CallersCame : Call → Outcome → Type 0
CallersCame c (outcome.Done text) = CalledText c text.items
CallersCame c (outcome.Refused refusal) = CallersRefused c refusal
CallersCame c (outcome.Behind refusal text) = (refusal ≡ KeeperFault) × CalledNotCleared c text.items
