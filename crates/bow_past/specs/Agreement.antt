-- When a reader agrees with a session: what it keeps is what stands on the session's disk.
use Rattle.std.specs.Prelude.{◌≡◌, ℕ, ◌==◌, if◌then◌else◌, List, [], ◌∷◌, length, Option, None, Some}
use Rattle.bow_units.specs.declared.sizes.Geometry.{Geometry}
use Rattle.bow_units.specs.declared.requests.Phase.{Phase}
use Rattle.bow_units.specs.declared.requests.Phase.TheVariants.{Trim, Arming, Checkpoint, Deciding, Committed}
use Rattle.bow_disk.specs.Disk.{Content}
use Rattle.bow_log.specs.Generations.{Generation, generation_of}
use Rattle.bow_log.specs.Spelling.{Fields}
use Rattle.bow_core.specs.Further.{BehindOver}
use Rattle.bow_core.specs.Views.{View}
use Rattle.bow_past.specs.Readings.{Reading, kept_of}

-- of these older logs, the newest first, the one of this sequence: the number of those behind it
abbrev pub older_of : List Generation → ℕ → Option Generation
older_of [] n = None
older_of (log ∷ older) n = if n == length older then Some log else older_of older n

-- each log that is kept is the one of its sequence among these older ones
abbrev pub AreAmong : Geometry → (ℕ → Option Fields) → List Generation → Type 0
AreAmong g kept older = (n : ℕ) (log : Fields) → kept n ≡ Some log → older_of older n ≡ Some (generation_of g log)

-- no log is kept
abbrev pub KeepsNone : (ℕ → Option Fields) → Type 0
KeepsNone kept = (n : ℕ) → kept n ≡ None

-- By the phase: before the checkpoint no log is kept; in it each kept log is the one of its sequence behind the log in
-- memory, on a disk that tells its content; and once a commit decides nothing is asked.
abbrev pub AgreesIn : Geometry → Option Content → Option Generation → (ℕ → Option Fields) → Phase → Type 0
AgreesIn g content memory kept Trim = KeepsNone kept
AgreesIn g content memory kept Arming = KeepsNone kept
AgreesIn g content memory kept Checkpoint = (log : Generation) (older : List Generation) → memory ≡ Some log
    → BehindOver g content log older → AreAmong g kept older
AgreesIn g content memory kept Deciding = Unit {0}
AgreesIn g content memory kept Committed = Unit {0}

-- a disk that tells no content has nothing to agree with
abbrev pub AgreesOver : Geometry → Option Content → Option Generation → (ℕ → Option Fields) → Phase → Type 0
AgreesOver g None memory kept phase = Unit {0}
AgreesOver g (Some c) memory kept phase = AgreesIn g (Some c) memory kept phase

-- The reader agrees with the device: it was begun for one of these sizes, and what it keeps stands on the disk.
pub record Agrees {D : Type 0} (content : D → Option Content) (p : Reading) (v : View D) : Type 0 where
  pub sizes : p.geometry ≡ v.geometry
  pub logs : AgreesOver v.geometry (content v.disk) v.memory.log (kept_of p) v.memory.phase
