-- One step of a reader.
use Rattle.std.specs.Prelude.{◌≡◌, ℕ, ◌+◌, ◌<◌, true, false, List, ◌∷◌, Option, None, Some, Result, Ok, Err}
use Rattle.bow_units.specs.declared.sizes.Geometry.{Geometry}
use Rattle.bow_units.specs.declared.failures.NoMemory.{NoMemory}
use Rattle.bow_disk.specs.Disk.{Content}
use Rattle.bow_log.specs.Generations.{Generation}
use Rattle.bow_log.specs.Spelling.{Fields}
use Rattle.bow_chain.specs.Contents.{contents_of}
use Rattle.bow_chain.specs.Places.{base}
use Rattle.bow_units.specs.Causes.{Rose}
use Rattle.bow_flat.specs.Flat.{Flat}
use Rattle.bow_core.specs.Further.{BehindIn}
use Rattle.bow_core.specs.Ports.{Makes}
use Rattle.bow_core.specs.Views.{View}
use Rattle.bow_machine.specs.Calls.{ReadCall, Reply, Failed as FailedReply, Gave}
use Rattle.bow_session.specs.Sessions.{Run}
use Rattle.bow_past.specs.Reach.{IsWanted, live}
use Rattle.bow_past.specs.Readings.{Reading, KeepsLog, bytes_of, can_read, kept_of, missing_below, next_block, place_by, with_ended}
use Rattle.bow_past.specs.declared.ended.Ended.TheVariants.{Got, Failed, Strange}
use Rattle.bow_past.specs.declared.ended.PastStep.{PastStep}
use Rattle.bow_past.specs.declared.ended.PastStep.TheVariants as steps

-- From one session to the next by one read of this block beside it, with this reply: the disk and the count of calls
-- change by it, and nothing else.
pub record ReadsBeside {D : Type 0} (stated : D → Option Geometry) (content : D → Option Content) (moment : D → ℕ)
    (left : D → ℕ → List (List ℕ) → Type 0) (faults : D → ℕ) (at : ℕ) (reply : Reply) (old new : Run D) : Type 0 where
  pub made : Makes stated content moment left faults old.core.geometry (Some (ReadCall at)) reply old.core.disk
      new.core.disk old.core.calls new.core.calls
  pub kept : new ≡ record old { core = record old.core { disk = new.core.disk; calls = new.core.calls } }

-- The log of the greatest missing sequence is looked for: at its place by the logs above it a block was read.
pub record LooksForLog {D : Type 0} (stated : D → Option Geometry) (content : D → Option Content) (moment : D → ℕ)
    (left : D → ℕ → List (List ℕ) → Type 0) (faults : D → ℕ) (p : Reading) (old new : Run D) : Type 0 where
  pub log : Generation
  pub memory : old.core.memory.log ≡ Some log
  pub wanted : ℕ
  pub missing : missing_below (kept_of p) log.sequence ≡ Some wanted
  pub block : List ℕ
  pub reads : ReadsBeside stated content moment left faults (place_by p.geometry (kept_of p) log (wanted + 1) 0)
      (Gave block) old new

-- No log is missing, and the next block, which is on the device, was read at its place by all logs.
pub record GetsBlock {D : Type 0} (stated : D → Option Geometry) (content : D → Option Content) (moment : D → ℕ)
    (left : D → ℕ → List (List ℕ) → Type 0) (faults : D → ℕ) (p : Reading) (bytes : List ℕ)
    (old new : Run D) : Type 0 where
  pub log : Generation
  pub memory : old.core.memory.log ≡ Some log
  pub on : next_block p < p.geometry.blocks
  pub whole : missing_below (kept_of p) log.sequence ≡ None
  pub reads : ReadsBeside stated content moment left faults (place_by p.geometry (kept_of p) log 0 (next_block p))
      (Gave bytes) old new

-- The next block ends as failed, by one read that failed.
abbrev pub FailsBlock : {D : Type 0} (stated : D → Option Geometry) (content : D → Option Content) (moment : D → ℕ)
    (left : D → ℕ → List (List ℕ) → Type 0) (faults : D → ℕ) → Reading → ℕ → ℕ → Run D → Reading → Run D → Type 0
FailsBlock stated content moment left faults p at block old q new = (block ≡ next_block p)
    × ReadsBeside stated content moment left faults at FailedReply old new × (q ≡ with_ended p Failed)

-- A step of a reader beside a session, by its result. Where it cannot read it is idle, and nothing changes. A log is
-- kept that was missing, if the block that was read at its place spells the log of that sequence, under no restoration;
-- else the next block ends as strange. The next block is got by one read, once no log is missing. It ends as failed
-- where the one read failed. Want of memory leaves all as it was.
abbrev pub IsPastStep : {D : Type 0} (stated : D → Option Geometry) (content : D → Option Content) (moment : D → ℕ)
    (left : D → ℕ → List (List ℕ) → Type 0) (faults : D → ℕ) → Reading → Run D → Result PastStep NoMemory → Reading
    → Run D → Type 0
IsPastStep stated content moment left faults p old (Ok steps.Idle) q new =
    (can_read p old.core.memory.phase ≡ false) × (q ≡ p) × (new ≡ old)
IsPastStep stated content moment left faults p old (Ok steps.Working) q new =
    (can_read p old.core.memory.phase ≡ true)
    × (looks : LooksForLog stated content moment left faults p old new)
    × (log : Fields) × IsWanted p.geometry looks.block looks.wanted log × KeepsLog p looks.wanted log q
IsPastStep stated content moment left faults p old (Ok (steps.Got block)) q new =
    (can_read p old.core.memory.phase ≡ true) × (block ≡ next_block p)
    × (bytes : List ℕ) × GetsBlock stated content moment left faults p bytes old new × (q ≡ with_ended p (Got bytes))
IsPastStep stated content moment left faults p old (Ok (steps.Failed block)) q new =
    (can_read p old.core.memory.phase ≡ true)
    × (at : ℕ) × FailsBlock stated content moment left faults p at block old q new
IsPastStep stated content moment left faults p old (Ok (steps.Strange block)) q new =
    (can_read p old.core.memory.phase ≡ true) × (block ≡ next_block p)
    × (looks : LooksForLog stated content moment left faults p old new)
    × ((log : Fields) → ¬ IsWanted p.geometry looks.block looks.wanted log) × (q ≡ with_ended p Strange)
IsPastStep stated content moment left faults p old (Err none) q new = (q ≡ p) × (new ≡ old)

-- the live image of a disk that tells its content has this at the block's place by these logs
abbrev pub IsKeptOver : Geometry → Option Content → Generation → List Generation → ℕ → List ℕ → Type 0
IsKeptOver g None log older block bytes = ⊥
IsKeptOver g (Some c) log older block bytes = live g (contents_of c.now) log (base (log ∷ older) block) ≡ bytes

-- What was got of a block, by what the reader then has of it: what the live image keeps of it, with the log in memory
-- and the older ones behind it; and so what was saved of it, where it is used.
abbrev pub GotIsKept : {D : Type 0} → (D → Option Content) → View D → Flat → Reading → PastStep → Type 0
GotIsKept content v f q (steps.Got block) = (bytes : List ℕ) × (bytes_of q block ≡ Some bytes)
    × (f.used block ≡ true → bytes ≡ f.saved block)
    × ((log : Generation) (older : List Generation) → v.memory.log ≡ Some log → BehindIn content v log older
    → IsKeptOver v.geometry (content v.disk) log older block bytes)
GotIsKept content v f q other = Unit {0}

-- it is not strange
abbrev pub IsNotStrange : PastStep → Type 0
IsNotStrange (steps.Strange block) = ⊥
IsNotStrange other = Unit {0}

-- where it failed there was a fault of the disk
abbrev pub HasFailed : PastStep → ℕ → ℕ → Type 0
HasFailed (steps.Failed block) before now = Rose before now
HasFailed other before now = Unit {0}
