-- What playing a script over several devices did: what it says, and why it was refused.
use Rattle.std.specs.Prelude.{◌≡◌, ◌⊎◌, ℕ, List, [], length, slice_get, slice_index_or, Option, None, Some}
use Rattle.bow_units.specs.declared.sizes.Geometry.{Geometry}
use Rattle.bow_units.specs.Causes.{Rose}
use Rattle.bow_units.specs.Magics.{IsPlain}
use Rattle.bow_units.specs.Sizes.{IsValid}
use Rattle.bow_disk.specs.Disk.{Content}
use Rattle.bow_core.specs.Views.{View}
use Rattle.bow_deal.specs.Dealing.{later_part, opening_part}
use Rattle.bow_script.specs.declared.scripts.Line.{Line}
use Rattle.bow_script.specs.Scripts.{IsScriptText}
use Rattle.bow_session.specs.Parts.{Account}
use Rattle.bow_pair.specs.Deciding.{IsDecidedCaused, NoneFell, disks_of}
use Rattle.bow_pair.specs.Joining.{AreOpenedOver, JoinsNot}
use Rattle.bow_pair.specs.PairLaws.{LeavesAgreed}
use Rattle.bow_pair.specs.Pairs.{Joined, MayBeDealt}
use Rattle.bow_pair.specs.Playing.{HavePlayed}
use Rattle.bow_pair.specs.Preparing.{AnswersPrepared, AnswersRan}
use Rattle.bow_pair.specs.declared.deciding.Decided.{Decided}
use Rattle.bow_pair.specs.declared.deciding.Decided.TheVariants as decided
use Rattle.bow_pair.specs.declared.joining.PairFault.{PairFault}
use Rattle.bow_pair.specs.declared.joining.PairFault.TheVariants as faults
use Rattle.bow_pair.specs.declared.pairs.Prepared.{Prepared}
use Rattle.bow_pair.specs.declared.pairs.Prepared.TheVariants.{All, NotAll}
use Rattle.bow_pair.specs.declared.pairs.Ran.{Ran}
use Rattle.bow_pair.specs.declared.pairs.Ran.TheVariants.{Clean, Faulty}
use Rattle.bow_play.specs.Reading.{GaveScript, ScriptCause, Taken}
use Rattle.bow_play.specs.declared.faults.PlayFault.{PlayFault}
use Rattle.bow_tool.specs.declared.outcomes.Outcome.{Outcome}
use Rattle.bow_tool.specs.declared.outcomes.Outcome.TheVariants as outcome
use Rattle.bow_tool.specs.declared.refusals.Refusal.{Refusal}
use Rattle.bow_tool.specs.declared.refusals.Refusal.TheVariants.{BadScript, DiskFault, KeeperFault, NeedsRestore, NoMemory, BadGeometry}
use Rattle.bow_tool.specs.declared.verdicts.Verdict.{Verdict}
use Rattle.bow_tool.specs.declared.verdicts.Verdict.TheVariants as verdict
use Rattle.bow_tool.specs.Outside.{DiskView, KeeperView}
use Rattle.bow_tool.specs.PairCalls.{DisksLeft, NoneFails, OnlyRead, PairCall, pair_source}
use Rattle.bow_tool.specs.PairLines.{PairRun, pair_text, verdict_of}
use Rattle.bow_tool.specs.PairPromises.{PairKeeps}
use Rattle.bow_tool.specs.Play.{refusal_for}

-- the keeper keeps no text, where it tells what it keeps
abbrev pub KeepsNothing : {K : Type 0} → KeeperView K → K → Type 0
KeepsNothing w keeper = (kept : Option (List ℕ)) → w.kept keeper ≡ Some kept → kept ≡ None

-- it keeps some text, where it tells what it keeps
abbrev pub KeepsText : {K : Type 0} → KeeperView K → K → Type 0
KeepsText w keeper = (kept : Option (List ℕ)) → w.kept keeper ≡ Some kept → kept ≡ None → ⊥

-- the devices and the keeper failed in nothing once the decision was kept
abbrev pub EndsWell : Verdict → Type 0
EndsWell (verdict.Failed refusal) = ⊥
EndsWell other = Unit {0}

-- sessions over these devices, each with its part, as the meanings of a disk have it
abbrev pub Played : {D : Type 0} → DiskView D → (ℕ → List (List (List Line))) → List (View D) → List (View D)
    → List Account → Type 0
Played v part old new accounts = HavePlayed v.stated v.content v.moment v.left_since v.faults part old new accounts

module _ {D K : Type 0} (v : DiskView D) (w : KeeperView K) (script : List (List (List Line))) (opened : List (View D))
    (from to : K) (after : List D) where
  -- A decision was made over the devices, and this was answered: what it comes to, its cause, that no count of faults
  -- fell, and what each joint cut agrees on with the text that is left.
  pub record WasDecided (r : PairRun D) : Type 0 where
    pub answer : Decided
    pub verdict : r.verdict ≡ verdict_of answer
    pub cause : IsDecidedCaused (w.faults from) (w.faults to) v.faults r.ran r.now answer
    pub untouched : (device : ℕ) → answer ≡ decided.NotCommitted device → to ≡ from
    pub counts : NoneFell v.faults r.ran r.now
    pub agreed : (left : Option (List ℕ)) → w.kept from ≡ Some None → w.kept to ≡ Some left
        → LeavesAgreed v.content r.ran r.now left answer

  -- how it went on after the second sessions: a device failed, and nothing was decided; or none did, and it was
  abbrev pub EndsRan : PairRun D → Ran → Type 0
  EndsRan r (Faulty device) = (r.verdict ≡ verdict.NotCommitted device) × (r.now ≡ r.ran) × (to ≡ from)
  EndsRan r Clean = WasDecided r

  -- how it went on after the first sessions: a device was not prepared, and nothing more was played; or all were, and
  -- each played its part of the other sections
  abbrev pub EndsPrepared : PairRun D → Prepared → Type 0
  EndsPrepared r (NotAll device) = (r.verdict ≡ verdict.NotPrepared device) × (r.second ≡ []) × (r.now ≡ r.ready)
      × (to ≡ from)
  EndsPrepared r All = Played v (λ device. later_part device (length r.ready) script) r.ready r.ran r.second
      × ((answer : Ran) × AnswersRan r.ran r.second answer × EndsRan r answer)

  -- The devices went this way, from where they were opened to the end: each first played its part of the script's first
  -- section, and then a prepare.
  pub record WentOn (r : PairRun D) : Type 0 where
    pub first : Played v (λ device. opening_part device (length opened) script) opened r.ready r.first
    pub prepared : AnswersPrepared r.ready r.first r.prepared
    pub ended : EndsPrepared r r.prepared
    pub disks : after ≡ disks_of r.now

  -- the devices in this pair went so, and this is how they ended
  abbrev pub WentTo : PairRun D → Verdict → Joined D → Type 0
  WentTo r verdict p = WentOn r × (r.verdict ≡ verdict) × (r.first ≡ p.openings) × (r.second ≡ p.laters)

  -- There was no memory for the first sessions, before a step; or for the second ones, once all were prepared.
  abbrev pub StopsShort : Type 0
  StopsShort = (to ≡ from) × ((after ≡ disks_of opened) ⊎ ((ready : List (View D)) × (first : List Account)
      × Played v (λ device. opening_part device (length opened) script) opened ready first
      × AnswersPrepared ready first All × (after ≡ disks_of ready)))

  -- what so many opened devices came to
  abbrev pub JoinedCame : ℕ → Outcome → Type 0
  JoinedCame count (outcome.Done text) =
      (r : PairRun D) × WentOn r × EndsWell r.verdict × (text.items ≡ pair_text count r)
  JoinedCame count (outcome.Behind refusal text) =
      (r : PairRun D) × WentOn r × (r.verdict ≡ verdict.Failed refusal) × (text.items ≡ pair_text count r)
  JoinedCame count (outcome.Refused refusal) = (refusal ≡ NoMemory) × (StopsShort ⊎ ((r : PairRun D) × WentOn r))

-- the text of devices that ended so is told; where a device or the keeper failed with the decision, by its refusal
abbrev pub IsPairTold : List ℕ → Verdict → Outcome → Type 0
IsPairTold text (verdict.Failed why) (outcome.Behind refusal told) = (refusal ≡ why) × (told.items ≡ text)
IsPairTold text (verdict.Failed why) told = ⊥
IsPairTold text ended (outcome.Done told) = told.items ≡ text
IsPairTold text ended told = ⊥

-- The source gave a script that may be dealt out, the keeper was found to keep nothing, and devices were opened on all
-- disks.
pub record WereJoined (c : PairCall) : Type 0 where
  pub script : List (List (List Line))
  pub given : GaveScript (pair_source c) script
  pub dealt : MayBeDealt script
  pub read : c.Keeper
  pub only_read : OnlyRead c.keepers c.keeper read
  pub nothing : KeepsNothing c.keepers c.keeper
  pub opened : List (View c.Disk)
  pub over : AreOpenedOver c.views.stated c.views.content c.views.moment c.views.left_since c.views.faults c.disks []
      opened

-- a script was played over several devices as is promised, and this is told of them
abbrev pub PairText : PairCall → List ℕ → Type 0
PairText c text = (j : WereJoined c) × (r : PairRun c.Disk)
    × WentOn c.views c.keepers j.script j.opened j.read c.keeper_after c.disks_after r
    × PairKeeps c j.script j.opened r × EndsWell r.verdict × (text ≡ pair_text (length c.disks) r)

-- so it was, but with the decision a device or the keeper failed: the line of that is told behind the transcripts
abbrev pub PairBehind : PairCall → Refusal → List ℕ → Type 0
PairBehind c refusal text = (j : WereJoined c) × (r : PairRun c.Disk)
    × WentOn c.views c.keepers j.script j.opened j.read c.keeper_after c.disks_after r
    × PairKeeps c j.script j.opened r × (r.verdict ≡ verdict.Failed refusal) × (text ≡ pair_text (length c.disks) r)

-- why there is no script for several devices: as for one; or it prepares or commits, or has no room for one more
-- request
abbrev pub PairScriptCause : Taken → ℕ → ℕ → Refusal → Type 0
PairScriptCause t before now refusal = ((fault : PlayFault) × (refusal ≡ refusal_for fault)
    × ScriptCause t before now fault)
    ⊎ ((refusal ≡ BadScript 0) × ((script : List (List (List Line))) × GaveScript t script × (MayBeDealt script → ⊥)))

-- why the keeper stands in the way: its call failed, or it keeps a text, so that the devices have to be settled first
abbrev pub KeeperCause : {K : Type 0} → KeeperView K → K → K → Refusal → Type 0
KeeperCause w old new KeeperFault = Rose (w.faults old) (w.faults new)
KeeperCause w old new NeedsRestore = KeepsText w old
KeeperCause w old new refusal = ⊥

-- each fault of joining as a refusal
abbrev pub refusal_of_pair : PairFault → Refusal
refusal_of_pair (faults.BadGeometry device g) = BadGeometry g
refusal_of_pair (faults.NeedsRestore device) = NeedsRestore
refusal_of_pair faults.DiskFault = DiskFault
refusal_of_pair faults.NoMemory = NoMemory

-- the source gave a script that may be dealt out
abbrev pub GavePairScript : PairCall → Type 0
GavePairScript c = (script : List (List (List Line))) × GaveScript (pair_source c) script × MayBeDealt script

-- there is no script for several devices, and neither a disk nor the keeper was asked
abbrev pub HasNoScript : PairCall → Refusal → Type 0
HasNoScript c refusal = DisksLeft c × (c.keeper_after ≡ c.keeper)
    × PairScriptCause (pair_source c) (c.sources.faults c.source) (c.sources.faults c.source_after) refusal

-- the keeper stands in the way, and no disk was asked
abbrev pub IsKept : PairCall → Refusal → Type 0
IsKept c refusal = GavePairScript c × DisksLeft c × OnlyRead c.keepers c.keeper c.keeper_after
    × KeeperCause c.keepers c.keeper c.keeper_after refusal

-- devices can't be joined on the disks
abbrev pub IsNotJoined : PairCall → Refusal → Type 0
IsNotJoined c refusal = GavePairScript c × KeepsNothing c.keepers c.keeper
    × OnlyRead c.keepers c.keeper c.keeper_after × ((fault : PairFault) × (refusal ≡ refusal_of_pair fault)
    × JoinsNot c.views.stated c.views.content c.views.moment c.views.left_since c.views.faults c.disks c.disks_after
    fault)

-- there was no memory for sessions over the devices, or for what is told of them
abbrev pub FindsNoMemory : PairCall → Refusal → Type 0
FindsNoMemory c refusal = (refusal ≡ NoMemory) × ((j : WereJoined c)
    × (StopsShort c.views c.keepers j.script j.opened j.read c.keeper_after c.disks_after
    ⊎ ((r : PairRun c.Disk) × WentOn c.views c.keepers j.script j.opened j.read c.keeper_after c.disks_after r)))

-- Why a script is not played over several devices, or not told, and what is then left; by the order of the tests.
abbrev pub PairCause : PairCall → Refusal → Type 0
PairCause c refusal =
    HasNoScript c refusal ⊎ (IsKept c refusal ⊎ (IsNotJoined c refusal ⊎ FindsNoMemory c refusal))

-- a script that may be dealt out is told
abbrev pub TellsPairScript : Option (List ℕ) → Type 0
TellsPairScript None = ⊥
TellsPairScript (Some text) = (script : List (List (List Line))) × IsScriptText text script × MayBeDealt script

-- Nothing outside stands in the way: the source tells a script that may be dealt out; each disk tells its content,
-- which has no magic in block 0, and states valid sizes; the keeper tells that it keeps nothing; and no call of the
-- source, a disk or the keeper fails.
pub record PairInOrder (c : PairCall) : Type 0 where
  pub script : TellsPairScript (c.sources.left c.source)
  pub plain : (k : ℕ) (d : c.Disk) → slice_get c.disks k ≡ Some d → (content : Content)
      × (c.views.content d ≡ Some content) × IsPlain (slice_index_or content.now 0 [])
  pub sizes : (k : ℕ) (d : c.Disk) → slice_get c.disks_after k ≡ Some d → (g : Geometry) → c.views.stated d ≡ Some g
      → IsValid g
  pub nothing : c.keepers.kept c.keeper ≡ Some None
  pub source : Rose (c.sources.faults c.source) (c.sources.faults c.source_after) → ⊥
  pub calls : NoneFails c

-- what it came to
abbrev pub PairCame : PairCall → Outcome → Type 0
PairCame c (outcome.Done text) = PairText c text.items
PairCame c (outcome.Refused refusal) = PairCause c refusal
PairCame c (outcome.Behind refusal text) = PairBehind c refusal text.items
