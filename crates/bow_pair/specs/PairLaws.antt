-- Several devices in a user's words, from the disks that they were opened on to what boots leave in the end.
use Rattle.std.specs.Prelude.{◌≡◌, ℕ, false, List, [], map, length, slice_get, Option, None, Some}
use Rattle.bow_units.specs.declared.sizes.Geometry.{Geometry}
use Rattle.bow_disk.specs.Disk.{Content}
use Rattle.bow_flat.specs.Flat.{Flat, after, opening}
use Rattle.bow_flat.specs.Flat.Event.{Flushes}
use Rattle.bow_core.specs.Views.{View}
use Rattle.bow_script.specs.declared.scripts.Line.{Line}
use Rattle.bow_deal.specs.Dealing.{later_part, opening_part}
use Rattle.bow_history.specs.Journal.{Place, beginning, Legal}
use Rattle.bow_session.specs.Parts.{Account, buffers_in, plan_at}
use Rattle.bow_pair.specs.Boot.{AreTold}
use Rattle.bow_pair.specs.Boots.{CutBoots, EndedBoot}
use Rattle.bow_pair.specs.Deciding.{AgreesBy, TakePart, disks_of}
use Rattle.bow_pair.specs.Joining.{AreOpenedOver}
use Rattle.bow_pair.specs.Joint.{AreMembers, Each, IsJointCut, Member, Settled}
use Rattle.bow_pair.specs.Laws.{SettlesBy}
use Rattle.bow_pair.specs.Pairs.{MayBeDealt}
use Rattle.bow_pair.specs.Playing.{HavePlayed}
use Rattle.bow_pair.specs.Preparing.{AnswersPrepared, AnswersRan}
use Rattle.bow_pair.specs.declared.boots.PairBooted.{PairBooted}
use Rattle.bow_pair.specs.declared.deciding.Decided.{Decided}
use Rattle.bow_pair.specs.declared.pairs.Prepared.TheVariants.{All}
use Rattle.bow_pair.specs.declared.pairs.Ran.TheVariants.{Clean}

-- Devices that were opened on disks which told these contents, and played their first sessions, each its opening part
-- of the script: all ended prepared.
pub record HavePrepared {D : Type 0} (stated : D → Option Geometry) (content : D → Option Content) (moment : D → ℕ)
    (left : D → ℕ → List (List ℕ) → Type 0) (faults : D → ℕ) (disks : List D) (told : ℕ → Content)
    (script : List (List (List Line))) (ready : List (View D)) (first : List Account) : Type 0 where
  pub tells : AreTold content disks told
  pub opened : List (View D)
  pub over : AreOpenedOver stated content moment left faults disks [] opened
  pub dealt : MayBeDealt script
  pub played : HavePlayed stated content moment left faults (λ device. opening_part device (length opened) script)
      opened ready first
  pub prepared : AnswersPrepared ready first All

-- Such devices that played their second sessions, too, each its later part of the script, however these ended.
pub record HaveRun {D : Type 0} (stated : D → Option Geometry) (content : D → Option Content) (moment : D → ℕ)
    (left : D → ℕ → List (List ℕ) → Type 0) (faults : D → ℕ) (disks : List D) (told : ℕ → Content)
    (ran : List (View D)) (first second : List Account) : Type 0 where
  pub script : List (List (List Line))
  pub ready : List (View D)
  pub began : HavePrepared stated content moment left faults disks told script ready first
  pub played : HavePlayed stated content moment left faults (λ device. later_part device (length ready) script) ready
      ran second

-- a journal leads from this state: it is legal from there to a place
pub record JournalLeads (f : Flat) (a : Account) : Type 0 where
  pub place : Place
  pub legal : Legal (plan_at a) (buffers_in a) a.journal (beginning f) place

-- Where the first journal of a device leads from the state in which a disk is opened that told this: the member is that
-- state, flushed.
pub record FirstLeads (told : Content) (first : Account) (m : Member) : Type 0 where
  pub way : JournalLeads (opening told.now) first
  pub state : m.state ≡ after m.sizes.blocks Flushes way.place.flat

-- Where the second journal leads from where the first one leads: the member is that state, flushed.
pub record JournalsLead (told : Content) (first second : Account) (m : Member) : Type 0 where
  pub way : JournalLeads (opening told.now) first
  pub on : JournalLeads way.place.flat second
  pub state : m.state ≡ after m.sizes.blocks Flushes on.place.flat

-- these are members, one for each device, and take part with them
pub record AreOf {D : Type 0} (content : D → Option Content) (cores : List (View D)) (members : List Member) :
    Type 0 where
  pub many : length members ≡ length cores
  pub are : AreMembers members
  pub take_part : TakePart content cores members

-- these are the members of devices that are prepared, as their first journals have them
pub record ArePreparedTo {D : Type 0} (content : D → Option Content) (told : ℕ → Content) (ready : List (View D))
    (first : List Account) (members : List Member) : Type 0 where
  pub each : AreOf content ready members
  pub lead : (k : ℕ) (m : Member) (a : Account) → slice_get members k ≡ Some m → slice_get first k ≡ Some a
      → FirstLeads (told k) a m

-- these are the members of devices that have run, as both their journals have them
pub record AreLedTo {D : Type 0} (content : D → Option Content) (told : ℕ → Content) (ran : List (View D))
    (first second : List Account) (members : List Member) : Type 0 where
  pub each : AreOf content ran members
  pub lead : (k : ℕ) (m : Member) (a b : Account) → slice_get members k ≡ Some m → slice_get first k ≡ Some a
      → slice_get second k ≡ Some b → JournalsLead (told k) a b m

-- Cut the devices here with this text, and then boots, as often as may be, each anywhere: the first boot that ends well
-- leaves this of the members' images, and no text.
abbrev pub EndsIn : {D : Type 0} → (D → Option Content) → List (View D) → List (View D) → Option (List ℕ)
    → ((ℕ → List (List ℕ)) → Type 0) → Type 0
EndsIn {D} content ran now text In = (boots : List ((ℕ → List (List ℕ)) × Option (List ℕ)))
    → (i j last : ℕ → List (List ℕ)) (left kept : Option (List ℕ)) (booted : PairBooted)
    → IsJointCut content (disks_of now) i → CutBoots (map (λ v. v.geometry) ran) boots i text j left
    → EndedBoot (map (λ v. v.geometry) ran) j left booted last kept → In last × (kept ≡ None)

-- what a decision says of what it left, whatever members take part
abbrev pub LeavesAgreed : {D : Type 0} → (D → Option Content) → List (View D) → List (View D) → Option (List ℕ)
    → Decided → Type 0
LeavesAgreed {D} content ran now text answer = (members : List Member) → TakePart content ran members
    → (images : ℕ → List (List ℕ)) → IsJointCut content (disks_of now) images → AgreesBy answer text members images

-- What devices have in the end that have run: before the decision all their checkpoint, and after it what it answered.
pub record EndTogether {D : Type 0} (content : D → Option Content) (ran : List (View D)) (members : List Member) :
    Type 0 where
  pub before : EndsIn content ran ran None (Each (Settled false) members)
  pub after : (answer : Decided) (now : List (View D)) (text : Option (List ℕ))
      → LeavesAgreed content ran now text answer → EndsIn content ran now text (SettlesBy answer members)

-- Devices that are prepared are led to members by their first journals. Cut before the second sessions, they all have
-- the checkpoint of these in the end.
abbrev pub PreparedRollBack : {D : Type 0} (stated : D → Option Geometry) (content : D → Option Content)
    (moment : D → ℕ) (left : D → ℕ → List (List ℕ) → Type 0) (faults : D → ℕ) → Type 0
PreparedRollBack {D} stated content moment left faults = (disks : List D) (told : ℕ → Content)
    (script : List (List (List Line))) (ready : List (View D)) (first : List Account)
    → HavePrepared stated content moment left faults disks told script ready first
    → (members : List Member) × ArePreparedTo content told ready first members
    × EndsIn content ready ready None (Each (Settled false) members)

-- However the second sessions ended, cut behind them the devices all have the same checkpoint in the end: that of the
-- members to which the first ones led.
abbrev pub RunsRollBack : {D : Type 0} (stated : D → Option Geometry) (content : D → Option Content)
    (moment : D → ℕ) (left : D → ℕ → List (List ℕ) → Type 0) (faults : D → ℕ) → Type 0
RunsRollBack {D} stated content moment left faults = (disks : List D) (told : ℕ → Content) (ran : List (View D))
    (first second : List Account) → (h : HaveRun stated content moment left faults disks told ran first second)
    → (members : List Member) → ArePreparedTo content told h.ready first members
    → EndsIn content ran ran None (Each (Settled false) members)

-- Devices that have run and ended clean are led to members by both their journals, and with those they end together.
abbrev pub PairsEndTogether : {D : Type 0} (stated : D → Option Geometry) (content : D → Option Content)
    (moment : D → ℕ) (left : D → ℕ → List (List ℕ) → Type 0) (faults : D → ℕ) → Type 0
PairsEndTogether {D} stated content moment left faults = (disks : List D) (told : ℕ → Content) (ran : List (View D))
    (first second : List Account) → HaveRun stated content moment left faults disks told ran first second
    → AnswersRan ran second Clean → (members : List Member) × AreLedTo content told ran first second members
    × EndTogether content ran members
