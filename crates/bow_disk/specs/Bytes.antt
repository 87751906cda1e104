-- Images as runs of bytes.
use Rattle.std.specs.Prelude.{◌≡◌, ℕ, ◌*◌, zero, suc, List, [], ◌∷◌, length, take, drop}
use Rattle.bow_units.specs.declared.sizes.Geometry.{Geometry}

-- the first n blocks of these bytes
abbrev pub blocks_of : ℕ → ℕ → List ℕ → List (List ℕ)
blocks_of size zero bytes = []
blocks_of size (suc n) bytes = take size bytes ∷ blocks_of size n (drop size bytes)

-- the image that these bytes hold
abbrev pub image_of : Geometry → List ℕ → List (List ℕ)
image_of g bytes = blocks_of g.block_size g.blocks bytes

-- the bytes of an image, block after block, and no more
pub record IsBytesOf (g : Geometry) (image : List (List ℕ)) (bytes : List ℕ) : Type 0 where
  pub whole : length bytes ≡ g.blocks * g.block_size
  pub blocks : image_of g bytes ≡ image
