-- What the calls of a disk do to its image, and what a cut may leave.
use Rattle.std.specs.Prelude.{◌≡◌, ◌⊎◌, ℕ, ◌+◌, ◌-◌, ◌^◌, ◌<◌, ◌≤◌, ◌↔◌, min, max, List, [], ◌∷◌, ◌++◌, length, map, slice_set, slice_index_or, Option, None, Some, Result, MatchResult, Contains}
use Rattle.std.specs.List.{All}
use Rattle.bow_units.specs.Blocks.{IsBlock}
use Rattle.bow_units.specs.declared.sizes.Geometry.{Geometry}

-- a block is a list of bytes
abbrev pub Block : Type 0
Block = List ℕ

-- an image is a list of blocks
abbrev pub Image : Type 0
Image = List (List ℕ)

-- what a disk that tells its content says of it: what reads give, and for each block what a cut may leave of it
pub record Content : Type 0 where
  pub now : List (List ℕ)
  pub candidates : List (List (List ℕ))

-- one candidate for each block
pub record IsCrash (candidates : List (List (List ℕ))) (image : List (List ℕ)) : Type 0 where
  pub size : length image ≡ length candidates
  pub each : (b : ℕ) → b < length candidates → Contains (slice_index_or candidates b []) (slice_index_or image b [])

-- the disk is settled on an image: each block has what it holds there as its one candidate, so a cut leaves that image
pub record IsSettledOn (image : List (List ℕ)) (c : Content) : Type 0 where
  pub now : c.now ≡ image
  pub candidates : c.candidates ≡ map (λ x. x ∷ []) image

-- a disk that tells its content goes on telling it, and a step leads from the old one to the new one
abbrev pub Goes : (Content → Content → Type 0) → Option Content → Option Content → Type 0
Goes step None None = Unit {0}
Goes step (Some old) (Some new) = step old new
Goes step None (Some new) = ⊥
Goes step (Some old) None = ⊥

-- nothing changes
abbrev pub Same : Content → Content → Type 0
Same old new = (new.now ≡ old.now) × (new.candidates ≡ old.candidates)

-- the candidates with one more for a block
abbrev pub offered : List (List (List ℕ)) → ℕ → List ℕ → List (List (List ℕ))
offered candidates b v = slice_set candidates b (slice_index_or candidates b [] ++ v ∷ [])

-- the block holds v, which is a candidate
abbrev pub Written : ℕ → List ℕ → Content → Content → Type 0
Written b v old new = (new.now ≡ slice_set old.now b v) × (new.candidates ≡ offered old.candidates b v)

-- the block holds what it held, and v may be a candidate
abbrev pub Offered : ℕ → List ℕ → Content → Content → Type 0
Offered b v old new = (new.now ≡ old.now) × (new.candidates ≡ offered old.candidates b v)

-- a write that was answered so: a failed one may have done anything between nothing and all
abbrev pub WriteStep : {T E : Type 0} → Result T E → ℕ → List ℕ → Content → Content → Type 0
WriteStep r b v old new =
    MatchResult r (λ _. Written b v old new) (λ _. Same old new ⊎ (Offered b v old new ⊎ Written b v old new))

-- each block has what it holds as its one candidate
abbrev pub Flushed : Content → Content → Type 0
Flushed old new = (new.now ≡ old.now) × (new.candidates ≡ map (λ x. x ∷ []) old.now)

-- a flush that was answered so: a failed one changes nothing
abbrev pub FlushStep : {T E : Type 0} → Result T E → Content → Content → Type 0
FlushStep r old new = MatchResult r (λ _. Flushed old new) (λ _. Same old new)

-- the content of a block
abbrev pub ReadsAs : ℕ → List ℕ → Content → Type 0
ReadsAs b v c = slice_index_or c.now b [] ≡ v

-- an image of a device of these sizes: so many blocks, each of so many bytes
pub record IsImage (size count : ℕ) (image : List (List ℕ)) : Type 0 where
  pub blocks : length image ≡ count
  pub each : (b : ℕ) → b < count → IsBlock size (slice_index_or image b [])

-- the candidates of each block are bytes of a block
abbrev pub AreOfBlocks : ℕ → ℕ → List (List (List ℕ)) → Type 0
AreOfBlocks size count candidates = (b : ℕ) → b < count → All (IsBlock size) (slice_index_or candidates b [])

-- it has the sizes that the disk states; what a block holds is one of its candidates, and these are bytes of a block
pub record IsShaped (size count : ℕ) (c : Content) : Type 0 where
  pub blocks : length c.now ≡ count
  pub listed : length c.candidates ≡ count
  pub held : (b : ℕ) → b < count → Contains (slice_index_or c.candidates b []) (slice_index_or c.now b [])
  pub sized : AreOfBlocks size count c.candidates

-- Time goes on by one call: a cut since t might have left what it might have left before, or what it may leave now.
pub record Elapses (before now : ℕ) (past since : ℕ → List (List ℕ) → Type 0)
    (leaves : List (List ℕ) → Type 0) : Type 0 where
  pub count : now ≡ max before (min (before + 1) (2 ^ 64 - 1))
  pub nothing_else : (t : ℕ) (c : List (List ℕ)) → t ≤ before → since t c → past t c ⊎ leaves c
  pub keeps : (t : ℕ) (c : List (List ℕ)) → t ≤ before → past t c → since t c

-- the same, of a disk that tells its content
abbrev pub TimeGoes : Option Content → ℕ → ℕ → (ℕ → List (List ℕ) → Type 0) → (ℕ → List (List ℕ) → Type 0) → Type 0
TimeGoes None before now past since = Unit {0}
TimeGoes (Some c) before now past since = Elapses before now past since (IsCrash c.candidates)

-- sizes that were stated stay so
abbrev pub KeepsSizes : Option Geometry → Option Geometry → Type 0
KeepsSizes None new = Unit {0}
KeepsSizes (Some g) new = new ≡ Some g

-- the sizes are known, and have this block, of this length
abbrev pub HasBlock : Option Geometry → ℕ → ℕ → Type 0
HasBlock None at len = ⊥
HasBlock (Some g) at len = (at < g.blocks) × (len ≡ g.block_size)

-- a cut of a disk that is settled on an image leaves that image and no other
abbrev pub SettledLaw : Type 0
SettledLaw = (image : Image) (c : Content) → IsSettledOn image c → (cut : Image)
    → IsCrash c.candidates cut ↔ (cut ≡ image)

-- what a disk holds is an image of its sizes, and so is whatever a cut leaves of it
abbrev pub ImagesLaw : Type 0
ImagesLaw = (size count : ℕ) (c : Content) → IsShaped size count c
    → IsImage size count c.now × ((image : Image) → IsCrash c.candidates image → IsImage size count image)
