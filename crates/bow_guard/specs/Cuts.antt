-- What the calls of a disk do to the contents and candidates of the blocks, as functions of a block's number.
use Rattle.std.specs.Prelude.{ℕ, ◌≡◌, ◌≢◌, ◌<◌, ◌⊎◌, List, [], ◌∷◌, ◌++◌, slice_index_or, Contains}
use Rattle.bow_units.specs.declared.sizes.Geometry.{Geometry}
use Rattle.bow_chain.specs.Contents.{Contents}

-- for each block, the contents that a cut may leave of it
abbrev pub Candidates : Type 0
Candidates = ℕ → List (List ℕ)

-- the candidates that a disk tells
abbrev pub candidates_of : List (List (List ℕ)) → Candidates
candidates_of candidates b = slice_index_or candidates b []

-- a cut may leave this image: each block of the device holds one of its candidates
abbrev pub IsCut : Geometry → Candidates → Contents → Type 0
IsCut g may image = (b : ℕ) → b < g.blocks → Contains (may b) (image b)

-- each block of the device has what it holds as its one candidate
abbrev pub IsFlushed : Geometry → Contents → Candidates → Type 0
IsFlushed g now may = (b : ℕ) → b < g.blocks → may b ≡ now b ∷ []

-- a write of this content to this block was given to the disk: it was done, or it failed and may have been done all the
-- same
pub record WriteGiven (block : ℕ) (content : List ℕ) (now new_now : Contents) (may new_may : Candidates) : Type 0 where
  pub others_now : (x : ℕ) → x ≢ block → new_now x ≡ now x
  pub others_may : (x : ℕ) → x ≢ block → new_may x ≡ may x
  pub block_now : (new_now block ≡ now block) ⊎ (new_now block ≡ content)
  pub block_may : (new_may block ≡ may block) ⊎ (new_may block ≡ may block ++ content ∷ [])
