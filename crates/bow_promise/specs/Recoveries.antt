-- Restorations and boots, one after another, each cut or not.
use Rattle.std.specs.Prelude.{◌≡◌, ◌⊎◌, ℕ, List, [], ◌∷◌, Option}
use Rattle.bow_units.specs.declared.sizes.Geometry.{Geometry}
use Rattle.bow_units.specs.Magics.{HasMagic, IsPlain}
use Rattle.bow_chain.specs.Contents.{contents_of}
use Rattle.vold_commands.specs.Boots.{CutBoot, EndedBoot}
use Rattle.vold_commands.specs.Boot.{Whole}
use Rattle.vold_commands.specs.BootLaws.{CutOf}
use Rattle.vold_commands.specs.declared.boots.Booted.{Booted}

-- a boot, with whatever was kept, was cut and left this image of that one
abbrev pub CutsABoot : Geometry → List (List ℕ) → List (List ℕ) → Type 0
CutsABoot g image next = (kept left : Option (List ℕ)) × CutBoot (Whole g) (CutOf g) image kept next left

-- a boot, with whatever was kept, ended well and left this image of that one
abbrev pub EndsABoot : Geometry → List (List ℕ) → List (List ℕ) → Type 0
EndsABoot g image next =
    (kept left : Option (List ℕ)) × (answer : Booted) × EndedBoot (Whole g) image kept answer next left

-- a restoration that was cut left this image of that one; or a boot did, that was cut or ended well
abbrev pub IsRecovery : Geometry → List (List ℕ) → List (List ℕ) → Type 0
IsRecovery g image next = CutOf g image next ⊎ (CutsABoot g image next ⊎ EndsABoot g image next)

-- the last image is left of the first by these, one after another
abbrev pub Recoveries : Geometry → List (List ℕ) → List (List (List ℕ)) → List (List ℕ) → Type 0
Recoveries g image [] last = last ≡ image
Recoveries g image (next ∷ more) last = IsRecovery g image next × Recoveries g next more last

-- A restoration ended well and left this image of that one: where block 0 began with a magic each block is as the chain
-- of logs kept it, and else nothing was to restore.
abbrev pub EndsARestoration : Geometry → List (List ℕ) → List (List ℕ) → Type 0
EndsARestoration g image next = (HasMagic (contents_of image 0) × Whole g image next)
    ⊎ (IsPlain (contents_of image 0) × (next ≡ image))

-- a restoration or a boot ended well
abbrev pub EndsWell : Geometry → List (List ℕ) → List (List ℕ) → Type 0
EndsWell g image next = EndsARestoration g image next ⊎ EndsABoot g image next
