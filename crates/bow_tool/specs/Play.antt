-- What running a script did: what it says, and why it was refused.
use Rattle.std.specs.Prelude.{◌≡◌, ◌⊎◌, ℕ, ◌+◌, ◌≤◌, Bool, true, false, List, [], ◌++◌, slice_index_or, Option, None, Some}
use Rattle.std.specs.List.{sum_by}
use Rattle.bow_units.specs.declared.sizes.Geometry.{Geometry}
use Rattle.bow_units.specs.Sizes.{IsValid}
use Rattle.bow_units.specs.Causes.{Rose}
use Rattle.bow_units.specs.Magics.{IsPlain}
use Rattle.bow_disk.specs.Disk.{Content}
use Rattle.bow_guard.specs.Standing.{StandsFor}
use Rattle.bow_core.specs.Openings.{KeepsImage}
use Rattle.bow_script.specs.declared.scripts.Line.{Line}
use Rattle.bow_script.specs.Scripts.{IsScriptText}
use Rattle.bow_history.specs.Complete.{IsComplete}
use Rattle.bow_history.specs.DiskCuts.{StandsAheadToo}
use Rattle.bow_history.specs.Promises.{faults_in, held}
use Rattle.bow_session.specs.Runs.{begun_over}
use Rattle.bow_session.specs.Sessions.{Run, IsOver, plan_in, state_in}
use Rattle.bow_play.specs.Committing.{HasCommitted}
use Rattle.bow_play.specs.Leading.{PlayLeads}
use Rattle.bow_play.specs.Playing.{IsPlay, IsRunOn, PlayCause}
use Rattle.bow_play.specs.Reading.{GaveScript}
use Rattle.bow_play.specs.declared.faults.PlayFault.{PlayFault}
use Rattle.bow_play.specs.declared.faults.PlayFault.TheVariants as plays
use Rattle.bow_report.specs.Texts.{transcript_text}
use Rattle.bow_promise.specs.Played.{CutsArePromisedOf, play_of}
use Rattle.bow_promise.specs.Space.{NoSpaceIsTrue}
use Rattle.vold_meta.specs.Keeper.{Goes, TimeGoes}
use Rattle.bow_tool.specs.declared.refusals.Refusal.{Refusal}
use Rattle.bow_tool.specs.declared.refusals.Refusal.TheVariants.{BadScript, SourceFault, DiskFault, KeeperFault, NeedsRestore, NoMemory, BadGeometry}
use Rattle.bow_tool.specs.Refusals.{refusal_line}
use Rattle.bow_tool.specs.Outside.{Call, KeeperView, KeeperLeft, from_source}
use Rattle.bow_tool.specs.Sizes.{HasSizes}

-- The script that the source gave was run to its end in this session, over a device that was opened on the disk. Each
-- request is answered, and the journal is complete; the disk's faults rose by at least as many as it tells. Over a disk
-- that tells its content the journal is legal from the opening state of the image, cuts leave states on its way, and
-- the device stands for the last one; where no call of the disk failed, they are ahead for these too. No space is found
-- only where there is none. Whatever a cut leaves is promised: over any number of restorations and boots after it, each
-- cut anywhere, the first that ends well has the checkpoint back, or what was flushed, by where the cut came.
pub record WasRun (c : Call) (s : Run c.Disk) : Type 0 where
  pub given : GaveScript (from_source c) s.script
  pub disk : c.disk_after ≡ s.core.disk
  pub sizes : HasSizes c.disks s.core.disk s.core.geometry
  pub over : IsOver s
  pub complete : IsComplete (plan_in s) s.journal
  pub ran : IsRunOn c.disks.stated c.disks.content c.disks.moment c.disks.left_since c.disks.faults c.disk s
  pub faults : held (c.disks.faults c.disk + sum_by faults_in s.journal) ≤ c.disks.faults s.core.disk
  pub plain : (k : Content) → c.disks.content c.disk ≡ Some k → IsPlain (slice_index_or k.now 0 [])
  pub leads : (k : Content) → c.disks.content c.disk ≡ Some k
      → PlayLeads c.disks.content c.disks.moment c.disks.left_since (StandsFor s.core.geometry) c.disk k s
  pub ahead : (k : Content) → c.disks.content c.disk ≡ Some k
      → (Rose (c.disks.faults c.disk) (c.disks.faults s.core.disk) → ⊥)
      → PlayLeads c.disks.content c.disks.moment c.disks.left_since (StandsAheadToo s.core.geometry) c.disk k s
  pub space : NoSpaceIsTrue (plan_in s) (begun_over ran.first) ran.turns
  pub promised : (k : Content) → (told : c.disks.content c.disk ≡ Some k)
      → CutsArePromisedOf c.disks.content c.disks.moment c.disks.left_since c.disk k s
      (play_of k.now s (leads k told).end)

-- and by the draws of this number
abbrev pub WasPlayed : ℕ → (c : Call) → Run c.Disk → Type 0
WasPlayed number c s = WasRun c s
    × IsPlay c.disks.stated c.disks.content c.disks.moment c.disks.left_since c.disks.faults number c.disk s

-- the transcript of a session
abbrev pub transcript_of : {D : Type 0} → Run D → List ℕ
transcript_of s = transcript_text (plan_in s) ((state_in s).kept) s.journal

-- the attempts were removed, by one call of the keeper
pub record IsCleared {K : Type 0} (v : KeeperView K) (old new : K) : Type 0 where
  pub step : Goes (λ kept now. now ≡ None) (v.kept old) (v.kept new)
  pub time : TimeGoes (v.kept new) 1 (v.moment old) (v.moment new) (v.left_since old) (v.left_since new) (λ k. k ≡ None)

-- the one call that was to remove them failed
pub record IsNotCleared {K : Type 0} (v : KeeperView K) (old new : K) : Type 0 where
  pub step : Goes (λ kept now. (now ≡ kept) ⊎ (now ≡ None)) (v.kept old) (v.kept new)
  pub time : TimeGoes (v.kept new) 1 (v.moment old) (v.moment new) (v.left_since old) (v.left_since new) (λ k. k ≡ None)
  pub rose : Rose (v.faults old) (v.faults new)

-- Where it has committed, the attempts are removed, and else the keeper is not asked. It is told whether that went
-- well.
abbrev pub Clears : {K : Type 0} → KeeperView K → Type 0 → K → K → Bool → Type 0
Clears v committed old new true = (committed × IsCleared v old new) ⊎ ((committed → ⊥) × (new ≡ old))
Clears v committed old new false = committed × IsNotCleared v old new

-- so after this session, in a call of the program, by whether a commit was answered Done
abbrev pub ClearsAfter : (c : Call) → Run c.Disk → Bool → Type 0
ClearsAfter c s cleared = Clears c.keepers (HasCommitted (plan_in s) s.journal) c.keeper c.keeper_after cleared

-- a script that was run so: the text is the transcript
abbrev pub RunText : (c : Call) → (Run c.Disk → Type 0) → List ℕ → Type 0
RunText c Was text = (s : Run c.Disk) × Was s × ClearsAfter c s true × (text ≡ transcript_of s)

-- a script that was run so, after whose commit the keeper failed: the text is the transcript and the line of that
abbrev pub RunNotCleared : (c : Call) → (Run c.Disk → Type 0) → List ℕ → Type 0
RunNotCleared c Was text = (s : Run c.Disk) × Was s × ClearsAfter c s false
    × (text ≡ transcript_of s ++ refusal_line KeeperFault)

-- why there was no play, as a refusal
abbrev pub refusal_for : PlayFault → Refusal
refusal_for plays.SourceFault = SourceFault
refusal_for (plays.BadScript line) = BadScript line
refusal_for (plays.BadGeometry g) = BadGeometry g
refusal_for plays.DiskFault = DiskFault
refusal_for plays.NeedsRestore = NeedsRestore
refusal_for plays.NoMemory = NoMemory

-- no request was begun, for this cause: the keeper was not asked, the image is unchanged, the disk had two calls at
-- most, and a cut leaves nothing that it might not have left before
pub record WasNotPlayed (c : Call) (fault : PlayFault) : Type 0 where
  pub keeper : KeeperLeft c
  pub cause : PlayCause c.disks.stated c.disks.content c.disks.moment c.disks.faults (from_source c)
      (c.sources.faults c.source) (c.sources.faults c.source_after) c.disk c.disk_after fault
  pub kept : KeepsImage c.disks.stated c.disks.content c.disks.moment c.disks.left_since c.disks.faults c.disk
      c.disk_after
  pub clock : (k : Content) → c.disks.content c.disk ≡ Some k
      → c.disks.moment c.disk_after ≤ c.disks.moment c.disk + 2

-- why a script is not run so: no request was begun; or it was run, and there is no memory for its transcript
abbrev pub RunRefused : (c : Call) → (Run c.Disk → Type 0) → Refusal → Type 0
RunRefused c Was refusal = ((fault : PlayFault) × (refusal ≡ refusal_for fault) × WasNotPlayed c fault)
    ⊎ ((refusal ≡ NoMemory) × ((s : Run c.Disk) × Was s × ((cleared : Bool) × ClearsAfter c s cleared)))

-- the source tells what it has left, and that is a script
abbrev pub TellsScript : Option (List ℕ) → Type 0
TellsScript None = ⊥
TellsScript (Some text) = (script : List (List (List Line))) × IsScriptText text script

-- Nothing outside stands in the way of running a script: the source tells a script, the disk tells its content, which
-- has no magic in block 0, and states valid sizes, and no call of the source, the disk or the keeper fails.
pub record PlayInOrder (c : Call) : Type 0 where
  pub script : TellsScript (c.sources.left c.source)
  pub content : Content
  pub told : c.disks.content c.disk ≡ Some content
  pub plain : IsPlain (slice_index_or content.now 0 [])
  pub sizes : (g : Geometry) → c.disks.stated c.disk_after ≡ Some g → IsValid g
  pub source : Rose (c.sources.faults c.source) (c.sources.faults c.source_after) → ⊥
  pub disk : Rose (c.disks.faults c.disk) (c.disks.faults c.disk_after) → ⊥
  pub keeper : Rose (c.keepers.faults c.keeper) (c.keepers.faults c.keeper_after) → ⊥
