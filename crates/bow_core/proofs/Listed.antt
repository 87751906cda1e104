-- What is said of the images that a disk tells, and of images as functions of a block's number.
use Rattle.std.proofs.Common.{ℕ, zero, suc, ◌<◌, ◌≤◌, ◌≡◌, List, [], ◌∷◌, length, refl, sym, ap, ◌∙◌, subst, arith, inl, inr}
use mathlib.Core.Path.{fun_ext}
use Rattle.std.specs.Prelude.{slice_index_or}
use Rattle.std.proofs.lemmas.Bool.{cases_lt}
use Rattle.bow_units.specs.declared.sizes.Geometry.{Geometry}
use Rattle.bow_units.proofs.Bytes.{byte_at}
use Rattle.bow_disk.specs.Disk.{Content, IsCrash, IsShaped, IsImage}
use Rattle.bow_disk.specs.Shapes.{crash_image}
use Rattle.bow_chain.specs.Contents.{contents_of}
use Rattle.bow_flat.specs.Flat.{Flat}
use Rattle.bow_guard.specs.Cuts.{candidates_of, IsCut}
use Rattle.bow_guard.specs.Standing.{Ahead, IsSoundImage}
use Rattle.bow_guard.proofs.Joined.{crashes_are_cuts}
use Rattle.bow_machine.specs.Memory.{Memory}
use Rattle.bow_machine.specs.Standing.{IsStanding}
use Rattle.bow_machine.specs.Ahead.{IsLed, IsBytes}
use Rattle.bow_machine.specs.Forward.{SoundAreAhead}
use Rattle.bow_machine.proofs.Ahead.{bytes_are_ahead}

-- the list of the first n contents
abbrev list_of : ℕ → (ℕ → List ℕ) → List (List ℕ)
list_of zero f = []
list_of (suc n) f = f 0 ∷ list_of n (λ x. f (suc x))

list_long : (n : ℕ) (f : ℕ → List ℕ) → length (list_of n f) ≡ n
list_long zero f = refl
list_long (suc n) f = ap suc (list_long n (λ x. f (suc x)))

list_at : (n : ℕ) (f : ℕ → List ℕ) (b : ℕ) → b < n → slice_index_or (list_of n f) b [] ≡ f b
list_at zero f b on = absurd (omega arith)
list_at (suc n) f zero on = refl
list_at (suc n) f (suc b) on = list_at n (λ x. f (suc x)) b (omega arith)

nothing_past : (xs : List (List ℕ)) (b : ℕ) → length xs ≤ b → slice_index_or xs b [] ≡ []
nothing_past [] b off = refl
nothing_past (x ∷ xs) zero off = absurd (omega arith)
nothing_past (x ∷ xs) (suc b) off = nothing_past xs b (omega arith)

-- the bytes of a crash image's first block
pub first_bytes : (g : Geometry) (c : Content) (image : List (List ℕ)) → 0 < g.blocks → IsShaped g.block_size g.blocks c → IsCrash c.candidates image → IsBytes (contents_of image 0)
first_bytes g c image some shaped crash i =
    let is : IsImage g.block_size g.blocks image = crash_image g.block_size g.blocks c image shaped crash in
    byte_at (slice_index_or image 0 []) (is.each 0 some).are_bytes i

module _ (g : Geometry) (c : Content) (shaped : IsShaped g.block_size g.blocks c) where
  -- where each sound crash image is ahead, so is each sound image that a cut leaves
  pub sound_listed : (f : Flat) → ((image : List (List ℕ)) → IsCrash c.candidates image → IsSoundImage g (contents_of image) → Ahead g f (contents_of image))
      → SoundAreAhead g (contents_of c.now) (candidates_of c.candidates) f
  sound_listed f all image cut beyond = subst (λ i. IsSoundImage g i → Ahead g f i) same (all listed crash)
    where
      listed : List (List ℕ)
      listed = list_of g.blocks image

      at : (b : ℕ) → contents_of listed b ≡ image b
      at b = elim (cases_lt b g.blocks) [
        | inl on ↦ list_at g.blocks image b on
        | inr off ↦ nothing_past listed b (omega (arith, list_long g.blocks image, off)) ∙ sym (nothing_past c.now b (omega (arith, shaped.blocks, off))) ∙ sym (beyond b off)
      ]

      same : contents_of listed ≡ image
      same = fun_ext at

      crash : IsCrash c.candidates listed
      crash = (crashes_are_cuts g g.block_size c listed shaped).1 (list_long g.blocks image, subst (IsCut g (candidates_of c.candidates)) (sym same) cut)

  -- of a machine that is led each crash image is ahead
  pub listed_ahead : (m : Memory) (f : Flat) → IsStanding g m (contents_of c.now) (candidates_of c.candidates) f → IsLed g m (contents_of c.now) (candidates_of c.candidates) f
      → (image : List (List ℕ)) → IsCrash c.candidates image → Ahead g f (contents_of image)
  listed_ahead m f s l image crash =
      bytes_are_ahead g m (contents_of c.now) (candidates_of c.candidates) f (contents_of image) s l (((crashes_are_cuts g g.block_size c image shaped).0 crash).1)
      (first_bytes g c image (omega (arith, s.sound.sizes.enough)) shaped crash)
