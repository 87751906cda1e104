-- What an image stands for, by phase.
use Rattle.std.specs.Prelude.{ℕ, ◌≡◌, ◌<◌, ◌⊎◌, List, Option, Some}
use Rattle.bow_units.specs.declared.sizes.Geometry.{Geometry}
use Rattle.bow_units.specs.declared.requests.Phase.{Phase}
use Rattle.bow_units.specs.declared.requests.Phase.TheVariants.{Trim, Arming, Checkpoint, Deciding, Committed}
use Rattle.bow_flat.specs.Flat.{Flat, May}
use Rattle.bow_log.specs.Generations.{Generation}
use Rattle.bow_chain.specs.Contents.{Contents, with_block}
use Rattle.bow_chain.specs.Sound.{log_in, IsSound}
use Rattle.bow_chain.specs.Kept.{IsPlain, Keeps}

-- block 0 begins with no magic, and each block of the device of which something is known holds one of these contents
pub record Shows (g : Geometry) (known : ℕ → Option (List (List ℕ))) (image : Contents) : Type 0 where
  pub plain : IsPlain (image 0)
  pub each : (b : ℕ) → b < g.blocks → May (known b) (image b)

-- what an image stands for in this phase
abbrev pub StandsInPhase : Geometry → Phase → Flat → Contents → Type 0
StandsInPhase g Trim f image = Shows g f.pending image
StandsInPhase g Arming f image = Shows g f.pending image ⊎ Keeps g f.used f.saved image
StandsInPhase g Checkpoint f image = Keeps g f.used f.saved image
StandsInPhase g Deciding f image = Keeps g f.used f.saved image ⊎ Shows g f.current image
StandsInPhase g Committed f image = Shows g f.pending image

-- the image stands for the flat state
abbrev pub StandsFor : Geometry → Flat → Contents → Type 0
StandsFor g f image = StandsInPhase g f.phase f image

-- the image holds the checkpoint that the flat state has: in arming and in checkpoint each that stands for it, in
-- deciding each that keeps it
abbrev pub HasCheckpointIn : Geometry → Phase → Flat → Contents → Type 0
HasCheckpointIn g Arming f image = StandsInPhase g Arming f image
HasCheckpointIn g Checkpoint f image = StandsInPhase g Checkpoint f image
HasCheckpointIn g Deciding f image = Keeps g f.used f.saved image
HasCheckpointIn g phase f image = ⊥

-- what a log's current block 0 holds, put into block 0
abbrev pub forwarded : Contents → Generation → Contents
forwarded image log = with_block image 0 (image log.current)

-- where block 0 spells a log, the image stands as after a commit once what its current block 0 holds is put there
abbrev pub Ahead : Geometry → Flat → Contents → Type 0
Ahead g f image = (log : Generation) → log_in g (image 0) ≡ Some log → StandsInPhase g Committed f (forwarded image log)

-- the image is sound: block 0 spells a log, and older ones stand behind it
abbrev pub IsSoundImage : Geometry → Contents → Type 0
IsSoundImage g image = (log : Generation) × (older : List Generation) × IsSound g image log older

-- The image may be given up forward: block 0 begins with no magic and each known block holds one of its current
-- contents; or the image is sound and ahead.
abbrev pub Forwardable : Geometry → Flat → Contents → Type 0
Forwardable g f image = Shows g f.current image ⊎ (IsSoundImage g image × Ahead g f image)
