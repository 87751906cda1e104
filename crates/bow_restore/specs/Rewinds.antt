-- What a restoration that was cut may leave.
use Rattle.std.specs.Prelude.{ℕ, ◌≡◌, Bool, true, List, [], ◌∷◌}
use Rattle.bow_units.specs.declared.sizes.Geometry.{Geometry}
use Rattle.bow_log.specs.Generations.{Generation}
use Rattle.bow_disk.specs.Disk.{IsImage}
use Rattle.bow_chain.specs.Contents.{contents_of}
use Rattle.bow_chain.specs.Sound.{IsSound}
use Rattle.bow_chain.specs.Kept.{kept, Holds}

-- each block of the device is asked for
abbrev pub every : ℕ → Bool
every x = true

-- Of two images: where the first is sound, the second is sound too and keeps the same of every block, or has in place
-- what the first keeps. Where the first is not sound, the second is the first.
pub record PassesOn (g : Geometry) (image other : List (List ℕ)) : Type 0 where
  pub sound : (log : Generation) (older : List Generation) → IsSound g (contents_of image) log older
      → Holds g every (kept (contents_of image) (log ∷ older)) (contents_of other)
  pub unsound : ((log : Generation) (older : List Generation) → IsSound g (contents_of image) log older → ⊥)
      → other ≡ image

-- the last image is reached from the first over these images of the device, each of which the one before it passes on
abbrev pub Reruns : Geometry → List (List ℕ) → List (List (List ℕ)) → List (List ℕ) → Type 0
Reruns g image [] last = last ≡ image
Reruns g image (next ∷ more) last =
    PassesOn g image next × IsImage g.block_size g.blocks next × Reruns g next more last
