-- What each block holds, as a function of its number.
use Rattle.std.specs.Prelude.{ℕ, zero, suc, ◌≡◌, ◌==◌, if◌then◌else◌, List, [], ◌∷◌, Option, Some, slice_index_or}
use Rattle.bow_disk.specs.Disk.{Content}

-- what each block holds; beyond the device, nothing
abbrev pub Contents : Type 0
Contents = ℕ → List ℕ

-- the blocks of an image
abbrev pub contents_of : List (List ℕ) → Contents
contents_of image b = slice_index_or image b []

-- this holds of the image that a disk tells, if it tells any
abbrev pub OfImage : Option Content → (Contents → Type 0) → Type 0
OfImage told P = (c : Content) → told ≡ Some c → P (contents_of c.now)

-- the same, with this content in this block
unfoldable pub with_block : Contents → ℕ → List ℕ → Contents
with_block image b content x = if x == b then content else image x

-- what so many blocks hold, from this one on
abbrev pub run_of : Contents → ℕ → ℕ → List (List ℕ)
run_of image first zero = []
run_of image first (suc n) = image first ∷ run_of image (suc first) n
