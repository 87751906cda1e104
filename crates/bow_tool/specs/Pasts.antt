-- What running a script beside a reader of the checkpoint did: what it says, and why it was refused.
use Rattle.std.specs.Prelude.{◌≡◌, ◌⊎◌, ℕ, ◌+◌, Bool, true, false, List, [], ◌++◌, codes, slice_index_or, Option, None, Some}
use Rattle.bow_units.specs.declared.sizes.Extent.{Extent}
use Rattle.bow_units.specs.declared.sizes.Geometry.{Geometry}
use Rattle.bow_units.specs.Sizes.{IsInside}
use Rattle.bow_units.specs.Causes.{Rose}
use Rattle.bow_units.specs.Magics.{IsPlain}
use Rattle.bow_disk.specs.Disk.{Content}
use Rattle.bow_guard.specs.Standing.{StandsFor}
use Rattle.bow_history.specs.Complete.{IsComplete}
use Rattle.bow_history.specs.DiskCuts.{StandsAheadToo}
use Rattle.bow_session.specs.Runs.{begun_over}
use Rattle.bow_session.specs.Sessions.{Run, IsOver, plan_in}
use Rattle.bow_play.specs.Beginning.{HasBegun}
use Rattle.bow_play.specs.Leading.{PlayLeads}
use Rattle.bow_play.specs.Reading.{GaveScript}
use Rattle.bow_past.specs.Lines.{reading_text}
use Rattle.bow_past.specs.Readings.{Reading}
use Rattle.bow_past.specs.Running.{FaultsAreCountedBeside, PlaysBeside, RanBeside, ReadsTheCheckpoint, is_reading}
use Rattle.bow_promise.specs.Played.{CutsArePromisedOf, play_of}
use Rattle.bow_promise.specs.Space.{NoSpaceIsTrue}
use Rattle.bow_tool.specs.declared.outcomes.Outcome.{Outcome}
use Rattle.bow_tool.specs.declared.outcomes.Outcome.TheVariants.{Refused}
use Rattle.bow_tool.specs.declared.refusals.Refusal.{Refusal}
use Rattle.bow_tool.specs.declared.refusals.Refusal.TheVariants.{KeeperFault, NoMemory}
use Rattle.bow_tool.specs.Refusals.{refusal_line}
use Rattle.bow_tool.specs.Outcomes.{IsTranscriptTold}
use Rattle.bow_tool.specs.Outside.{Call, DiskView, from_source}
use Rattle.bow_tool.specs.Play.{ClearsAfter, RunRefused, transcript_of}
use Rattle.bow_tool.specs.Sizes.{HasSizes}

-- so many blocks from this one on
abbrev pub blocks_from : ℕ → ℕ → Extent
blocks_from first count = record { first = first; count = count }

-- The reader before the first step, on a device of these sizes: it has read nothing. Where the blocks are not on the
-- device there is none.
abbrev pub IsFirstReader : Geometry → Extent → Option Reading → Type 0
IsFirstReader g e (Some p) = IsInside e g × (p ≡ record { geometry = g; extent = e; kept = []; ended = [] })
IsFirstReader g e None = IsInside e g → ⊥

-- a reader, if there is one, is of these blocks
abbrev pub IsOfBlocks : Extent → Option Reading → Type 0
IsOfBlocks e None = Unit {0}
IsOfBlocks e (Some p) = p.extent ≡ e

-- The steps since the session was loaded are those that this number draws, among the actors of the session and a reader
-- of these blocks. They lead to this session and this reader; there is none where it found no memory.
pub record IsPlayBeside {D : Type 0} (v : DiskView D) (number : ℕ) (e : Extent) (old : D) (r : Option Reading)
    (s : Run D) : Type 0 where
  pub begun : Run D
  pub loaded : HasBegun v.stated v.content v.moment v.left_since v.faults old begun
  pub first : Option Reading
  pub reader : IsFirstReader begun.core.geometry e first
  pub steps : ℕ
  pub drawn : PlaysBeside v.stated v.content v.moment v.left_since v.faults steps number first begun r s

-- The script that the source gave was run to its end in this session, by the draws of this number, beside a reader of
-- these blocks, which has come to this one and makes no step any more.
--
-- Of the session all holds that holds of one that was played: each request is answered, and the journal is complete,
-- and what the turns make of the device that was opened; over a disk that tells its content it is legal from the
-- opening state of the image, cuts leave states on its way, and the device stands for the last one; where no call of
-- the disk failed, they are ahead for these too. No space is found only where there is none. Whatever a cut leaves is
-- promised.
--
-- What the reader got of a block was read at a point on the journal's way, in the checkpoint, and is what was saved of
-- the block, if it was in use. The disk's faults rose by at least as many as the journal and the reader tell.
pub record WasRunBeside (number : ℕ) (e : Extent) (c : Call) (r : Option Reading) (s : Run c.Disk) : Type 0 where
  pub given : GaveScript (from_source c) s.script
  pub disk : c.disk_after ≡ s.core.disk
  pub sizes : HasSizes c.disks s.core.disk s.core.geometry
  pub over : IsOver s
  pub read : is_reading r s.core.memory.phase ≡ false
  pub complete : IsComplete (plan_in s) s.journal
  pub played : IsPlayBeside c.disks number e c.disk r s
  pub ran : RanBeside c.disks.stated c.disks.content c.disks.moment c.disks.left_since c.disks.faults c.disk s
  pub faults : FaultsAreCountedBeside c.disks.faults c.disk r s
  pub plain : (k : Content) → c.disks.content c.disk ≡ Some k → IsPlain (slice_index_or k.now 0 [])
  pub leads : (k : Content) → c.disks.content c.disk ≡ Some k
      → PlayLeads c.disks.content c.disks.moment c.disks.left_since (StandsFor s.core.geometry) c.disk k s
  pub ahead : (k : Content) → c.disks.content c.disk ≡ Some k
      → (Rose (c.disks.faults c.disk) (c.disks.faults s.core.disk) → ⊥)
      → PlayLeads c.disks.content c.disks.moment c.disks.left_since (StandsAheadToo s.core.geometry) c.disk k s
  pub reads : (k : Content) → c.disks.content c.disk ≡ Some k
      → ReadsTheCheckpoint c.disks.content k.now r s
  pub space : NoSpaceIsTrue (plan_in s) (begun_over ran.first) ran.turns
  pub promised : (k : Content) → (told : c.disks.content c.disk ≡ Some k)
      → CutsArePromisedOf c.disks.content c.disks.moment c.disks.left_since c.disk k s
      (play_of k.now s (leads k told).end)

-- the session was run so beside some reader
abbrev pub WasPlayedBeside : ℕ → Extent → (c : Call) → Run c.Disk → Type 0
WasPlayedBeside number e c s = (r : Option Reading) × WasRunBeside number e c r s

-- The lines behind the transcript: those of the reader of these blocks; or where the blocks are not on the device the
-- one that tells so. There are none where the reader found no memory.
abbrev pub ArePastLines : Geometry → Extent → Option Reading → List ℕ → Type 0
ArePastLines g e r lines = (IsInside e g × ((p : Reading) × (r ≡ Some p) × (p.extent ≡ e) × (lines ≡ reading_text p)))
    ⊎ ((IsInside e g → ⊥) × (lines ≡ codes "past out of range\n"))

-- the transcript of a session and then the lines of the reader beside it
abbrev pub IsTextBeside : {D : Type 0} → Extent → Run D → Option Reading → List ℕ → Type 0
IsTextBeside e s r text = (lines : List ℕ) × ArePastLines s.core.geometry e r lines
    × (text ≡ transcript_of s ++ lines)

-- that text is told, with the line of the keeper's fault where the attempts were not cleared; or there is no memory for
-- it, or was none for the reader
abbrev pub IsToldBeside : {D : Type 0} → Extent → Run D → Option Reading → Bool → Outcome → Type 0
IsToldBeside e s r cleared outcome = (outcome ≡ Refused NoMemory)
    ⊎ ((text : List ℕ) × IsTextBeside e s r text × IsTranscriptTold text cleared outcome)

-- a script that was run so: the text is the transcript and the lines of the reader
abbrev pub PastText : ℕ → Extent → (c : Call) → List ℕ → Type 0
PastText number e c text = (s : Run c.Disk) × (r : Option Reading) × WasRunBeside number e c r s
    × ClearsAfter c s true × IsTextBeside e s r text

-- a script that was run so, after whose commit the keeper failed: the text is the same and the line of that
abbrev pub PastNotCleared : ℕ → Extent → (c : Call) → List ℕ → Type 0
PastNotCleared number e c text = (s : Run c.Disk) × (r : Option Reading) × WasRunBeside number e c r s
    × ClearsAfter c s false × ((told : List ℕ) × IsTextBeside e s r told × (text ≡ told ++ refusal_line KeeperFault))

-- why a script is not run so: no request was begun; or it was run, and there is no memory for its text, or was none for
-- the reader
abbrev pub PastRefused : ℕ → Extent → (c : Call) → Refusal → Type 0
PastRefused number e c refusal = RunRefused c (WasPlayedBeside number e c) refusal
