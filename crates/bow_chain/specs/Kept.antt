-- What an image keeps of the checkpoint.
use Rattle.std.specs.Prelude.{ℕ, ◌≡◌, ◌⊎◌, ◌<◌, Bool, List, ◌∷◌}
use Rattle.bow_units.specs.declared.sizes.Geometry.{Geometry}
pub use Rattle.bow_units.specs.Magics.{IsPlain}
use Rattle.bow_log.specs.Generations.{Generation}
use Rattle.bow_chain.specs.Contents.{Contents}
use Rattle.bow_chain.specs.Places.{base}
use Rattle.bow_chain.specs.Sound.{IsSound}
use Rattle.bow_chain.specs.Counting.{InUse}

-- what a chain keeps of a block
abbrev pub kept : Contents → List Generation → Contents
kept image logs x = image (base logs x)

-- the image is sound, and what it keeps of each block in use, block 0 among them, is what was saved
pub record Keeps (g : Geometry) (used : ℕ → Bool) (saved image : Contents) : Type 0 where
  pub log : Generation
  pub older : List Generation
  pub sound : IsSound g image log older
  pub kept : (x : ℕ) → x < g.blocks → InUse used x → image (base (log ∷ older) x) ≡ saved x

-- the checkpoint is held: the image keeps it, or has it in place; only blocks of the device are asked for
abbrev pub Holds : Geometry → (ℕ → Bool) → Contents → Contents → Type 0
Holds g used saved image = Keeps g used saved image ⊎ ((x : ℕ) → x < g.blocks → InUse used x → image x ≡ saved x)
