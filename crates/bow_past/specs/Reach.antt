-- The checkpoint beside running writers.
use Rattle.std.specs.Prelude.{◌≡◌, ◌<◌, ℕ, true, List, ◌∷◌, Some}
use Rattle.bow_units.specs.declared.sizes.Geometry.{Geometry}
use Rattle.bow_units.specs.declared.requests.Phase.TheVariants.{Checkpoint}
use Rattle.bow_log.specs.Faults.{log_of}
use Rattle.bow_log.specs.Generations.{Generation}
use Rattle.bow_log.specs.Spelling.{Fields}
use Rattle.bow_log.specs.declared.logs.Magic.TheVariants.{Log as LogMagic}
use Rattle.bow_chain.specs.Contents.{Contents, with_block}
use Rattle.bow_chain.specs.Places.{base}
use Rattle.bow_chain.specs.Sound.{StandsBehind, IsSound}
use Rattle.bow_flat.specs.Flat.{Flat}
use Rattle.bow_guard.specs.Cuts.{Candidates}
use Rattle.bow_machine.specs.Memory.{Memory}
use Rattle.bow_machine.specs.Standing.{IsStanding}
use Rattle.bow_machine.specs.Tasks.{spelling}

-- the image that the disk would hold if the log in memory were written now
abbrev pub live : Geometry → Contents → Generation → Contents
live g now log = with_block now 0 (spelling g log)

-- A device in the checkpoint stands for a flat state, with this log in memory and these older ones behind it.
pub record IsInCheckpoint (g : Geometry) (m : Memory) (now : Contents) (may : Candidates) (f : Flat)
    (log : Generation) (older : List Generation) : Type 0 where
  pub stands : IsStanding g m now may f
  pub phase : m.phase ≡ Checkpoint
  pub some : m.log ≡ Some log
  pub behind : StandsBehind g now log older

-- the live image is sound, with the log in memory and the older logs
abbrev pub LiveIsSound : Type 0
LiveIsSound = (g : Geometry) (m : Memory) (now : Contents) (may : Candidates) (f : Flat) (log : Generation)
    (older : List Generation) → IsInCheckpoint g m now may f log older → IsSound g (live g now log) log older

-- what each used block held at the checkpoint, the disk holds at the block's place by those logs
abbrev pub ReachesTheCheckpoint : Type 0
ReachesTheCheckpoint = (g : Geometry) (m : Memory) (now : Contents) (may : Candidates) (f : Flat) (log : Generation)
    (older : List Generation) → IsInCheckpoint g m now may f log older
    → (x : ℕ) → x < g.blocks → f.used x ≡ true → now (base (log ∷ older) x) ≡ f.saved x

-- a block spells this log, which has this sequence and is under no restoration
pub record IsWanted (g : Geometry) (block : List ℕ) (wanted : ℕ) (log : Fields) : Type 0 where
  pub spelled : log_of g block ≡ Some log
  pub first : log.magic ≡ LogMagic
  pub sequence : log.sequence ≡ wanted
