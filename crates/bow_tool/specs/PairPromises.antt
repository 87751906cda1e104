-- What is promised of devices over which a script was played, so that they commit together or roll back.
use Rattle.std.specs.Prelude.{◌≡◌, ◌⊎◌, ℕ, ◌+◌, ◌≤◌, true, false, List, length, slice_get, Option, None, Some}
use Rattle.std.specs.List.{sum_by}
use Rattle.bow_disk.specs.Disk.{Content}
use Rattle.bow_flat.specs.Flat.{Flat, opening}
use Rattle.bow_core.specs.Views.{View}
use Rattle.bow_script.specs.declared.scripts.Line.{Line}
use Rattle.bow_deal.specs.Dealing.{later_part, opening_part}
use Rattle.bow_history.specs.Complete.{IsComplete}
use Rattle.bow_history.specs.Promises.{faults_in, held}
use Rattle.bow_session.specs.Leads.{WasLoaded}
use Rattle.bow_session.specs.Parts.{Account, plan_at}
use Rattle.bow_session.specs.Sessions.{Run}
use Rattle.bow_pair.specs.Boot.{AreTold}
use Rattle.bow_pair.specs.Joint.{Each, Member, Settled}
use Rattle.bow_pair.specs.PairLaws.{AreLedTo, ArePreparedTo, EndsIn}
use Rattle.bow_pair.specs.Playing.{GoesFrom}
use Rattle.bow_pair.specs.SessionLaws.{FindsNoRoom}
use Rattle.bow_pair.specs.declared.pairs.Prepared.TheVariants.{All}
use Rattle.bow_tool.specs.declared.refusals.Refusal.TheVariants.{DiskFault, KeeperFault}
use Rattle.bow_tool.specs.declared.verdicts.Verdict.{Verdict}
use Rattle.bow_tool.specs.declared.verdicts.Verdict.TheVariants.{Committed, NotPrepared, NotCommitted, Failed}
use Rattle.bow_tool.specs.Outside.{DiskView, KeeperView}
use Rattle.bow_tool.specs.PairCalls.{NoneFails, PairCall}
use Rattle.bow_tool.specs.PairLines.{PairRun}

-- A session over the device played this script: its journal is complete.
pub record IsWhole {D : Type 0} (asked : List (List (List Line))) (device : View D) (a : Account) : Type 0 where
  pub script : a.script ≡ asked
  pub sizes : a.sizes ≡ device.geometry
  pub complete : IsComplete (plan_at a) a.journal

-- so of each device, by its part of a script
abbrev pub AreWhole : {D : Type 0} → (ℕ → List (List (List Line))) → List (View D) → List Account → Type 0
AreWhole {D} part devices accounts = (k : ℕ) (device : View D) (a : Account) → slice_get devices k ≡ Some device
    → slice_get accounts k ≡ Some a → IsWhole (part k) device a

-- how many faults of the disk a session told, if there was one
abbrev pub faults_told : Option Account → ℕ
faults_told None = 0
faults_told (Some a) = sum_by faults_in a.journal

-- A session over the device went legally from this state, whatever failed: in its turns, in its journal, and in what
-- cuts leave of them.
pub record GoesLegally {D : Type 0} (v : DiskView D) (f : Flat) (old new : View D) (a : Account) : Type 0 where
  pub session : Run D
  pub loaded : WasLoaded v.stated v.content v.moment v.left_since v.faults old session
  pub goes : GoesFrom v.content v.moment v.left_since old f session new a

-- A device was opened on a disk that told this. Its first session went legally from its opening state; and its second
-- one, if there was one, from where that led.
pub record DeviceGoes {D : Type 0} (v : DiskView D) (told : Content) (r : PairRun D) (k : ℕ) (opened ready : View D)
    (a : Account) : Type 0 where
  pub first : GoesLegally v (opening told.now) opened ready a
  pub second : (ran : View D) (b : Account) → slice_get r.ran k ≡ Some ran → slice_get r.second k ≡ Some b
      → GoesLegally v (first.goes.leads.place.flat) ready ran b

-- What all devices have in the end that were prepared, ended so, and left this text: their committed data, which both
-- journals of each say; or their checkpoint, which the first journal of each says, and so do both; or all the one or
-- all the other.
abbrev pub HasInTheEnd : {D : Type 0} → DiskView D → (ℕ → Content) → PairRun D → Option (List ℕ) → Verdict → Type 0
HasInTheEnd v told r left Committed = (members : List Member) × AreLedTo v.content told r.ran r.first r.second members
    × EndsIn v.content r.ran r.now left (Each (Settled true) members)
HasInTheEnd v told r left (NotPrepared device) = Unit {0}
HasInTheEnd v told r left (NotCommitted device) = (members : List Member)
    × (ArePreparedTo v.content told r.ready r.first members
    ⊎ AreLedTo v.content told r.ran r.first r.second members)
    × EndsIn v.content r.ran r.now left (Each (Settled false) members)
HasInTheEnd v told r left (Failed DiskFault) = (members : List Member)
    × AreLedTo v.content told r.ran r.first r.second members
    × EndsIn v.content r.ran r.now left (Each (Settled true) members)
HasInTheEnd v told r left (Failed KeeperFault) = (members : List Member)
    × AreLedTo v.content told r.ran r.first r.second members
    × EndsIn v.content r.ran r.now left (λ last. Each (Settled true) members last ⊎ Each (Settled false) members last)
HasInTheEnd v told r left (Failed refusal) = ⊥

-- Devices that were all prepared, on disks that told this. Cut once they are prepared, and once they have run, and then
-- booted, each cut anywhere, until a boot ends well, they all have their checkpoint, which their first journals say. As
-- the call left them they all have what its last line says.
pub record StayTogether {D K : Type 0} (v : DiskView D) (w : KeeperView K) (told : ℕ → Content) (r : PairRun D)
    (from to : K) : Type 0 where
  pub members : List Member
  pub lead : ArePreparedTo v.content told r.ready r.first members
  pub prepared : EndsIn v.content r.ready r.ready None (Each (Settled false) members)
  pub ran : EndsIn v.content r.ran r.ran None (Each (Settled false) members)
  pub left : (text : Option (List ℕ)) → w.kept from ≡ Some None → w.kept to ≡ Some text
      → HasInTheEnd v told r text r.verdict

-- each prepare found two free blocks
abbrev pub EachHasRoom : {D : Type 0} → (ℕ → Content) → PairRun D → Type 0
EachHasRoom told r = (k : ℕ) (a : Account) → slice_get r.first k ≡ Some a → FindsNoRoom (opening (told k).now) a → ⊥

-- What is promised of a script that was played over devices on all disks. Each session is told whole; no fault is left
-- untold by a disk's count; each device goes legally, the second session from where the first one led; devices that
-- were all prepared stay together; and where no call fails and each prepare finds two free blocks, they are committed.
pub record PairKeeps (c : PairCall) (script : List (List (List Line))) (opened : List (View c.Disk))
    (r : PairRun c.Disk) : Type 0 where
  pub first : AreWhole (λ device. opening_part device (length opened) script) opened r.first
  pub second : AreWhole (λ device. later_part device (length r.ready) script) r.ready r.second
  pub faults : (k : ℕ) (d e : c.Disk) → slice_get c.disks k ≡ Some d → slice_get c.disks_after k ≡ Some e
      → held (c.views.faults d + (faults_told (slice_get r.first k) + faults_told (slice_get r.second k)))
      ≤ c.views.faults e
  pub legal : (k : ℕ) (d : c.Disk) (told : Content) (before ready : View c.Disk) (a : Account)
      → slice_get c.disks k ≡ Some d → c.views.content d ≡ Some told → slice_get opened k ≡ Some before
      → slice_get r.ready k ≡ Some ready → slice_get r.first k ≡ Some a → DeviceGoes c.views told r k before ready a
  pub together : (told : ℕ → Content) → AreTold c.views.content c.disks told → r.prepared ≡ All
      → StayTogether c.views c.keepers told r c.keeper c.keeper_after
  pub committed : (told : ℕ → Content) → AreTold c.views.content c.disks told → NoneFails c → EachHasRoom told r
      → r.verdict ≡ Committed
