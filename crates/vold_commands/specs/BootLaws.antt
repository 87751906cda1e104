-- What boots over the restorer come to, one after another.
use Rattle.std.specs.Prelude.{◌≡◌, ◌≢◌, ◌⊎◌, ℕ, ◌<◌, Bool, List, Option, None, Some}
use Rattle.bow_units.specs.declared.sizes.Geometry.{Geometry}
use Rattle.bow_units.specs.Sizes.{IsValid}
use Rattle.bow_disk.specs.Disk.{IsImage}
use Rattle.bow_chain.specs.Contents.{Contents, contents_of}
use Rattle.bow_chain.specs.Kept.{IsPlain, Holds}
use Rattle.bow_chain.specs.Counting.{InUse}
use Rattle.bow_restore.specs.Rewinds.{PassesOn}
use Rattle.vold_meta.specs.Attempts.{text_of, Tells}
use Rattle.vold_commands.specs.Attempts.{marked}
use Rattle.vold_commands.specs.Boots.{EndedBoot, CutBoot, CutBoots, Boots, IsNoMore, Ends, IsRolledBack}
use Rattle.vold_commands.specs.Boot.{Whole}
use Rattle.vold_commands.specs.declared.boots.Booted.{Booted}
use Rattle.vold_commands.specs.declared.boots.Booted.TheVariants.{Plain, RolledBack}

-- the image has the checkpoint in place
abbrev pub IsInPlace : Geometry → (ℕ → Bool) → Contents → List (List ℕ) → Type 0
IsInPlace g used saved i = (x : ℕ) → x < g.blocks → InUse used x → contents_of i x ≡ saved x

-- an image of the device that holds the checkpoint: it keeps it behind a log in block 0, or has it in place
abbrev pub HasCheckpoint : Geometry → (ℕ → Bool) → Contents → List (List ℕ) → Type 0
HasCheckpoint g used saved i = IsImage g.block_size g.blocks i × Holds g used saved (contents_of i)

-- what a cut in a restoration may leave of an image
abbrev pub CutOf : Geometry → List (List ℕ) → List (List ℕ) → Type 0
CutOf g i j = PassesOn g i j × IsImage g.block_size g.blocks j

-- a boot of the call that was cut is one of these
abbrev pub CallsAreCut : Type 0
CallsAreCut = (g : Geometry) (i j : List (List ℕ)) (k l : Option (List ℕ)) → IsImage g.block_size g.blocks j
    → CutBoot (Whole g) (PassesOn g) i k j l → CutBoot (Whole g) (CutOf g) i k j l

-- what is asked of the checkpoint, on a device of valid sizes: block 0 was saved without a magic
pub record IsCheckpoint (g : Geometry) (used : ℕ → Bool) (saved : Contents) : Type 0 where
  pub valid : IsValid g
  pub plain : IsPlain (saved 0)

-- a boot that ends well has the checkpoint in place and no log left; it answers and keeps what the marked attempts say
abbrev pub BootsEnd : Type 0
BootsEnd = (g : Geometry) (used : ℕ → Bool) (saved : Contents) → IsCheckpoint g used saved
    → (i j : List (List ℕ)) (k l : Option (List ℕ)) (a : Option ℕ) (answer : Booted) → HasCheckpoint g used saved i
    → Tells k a → EndedBoot (Whole g) i k answer j l
    → IsRolledBack (IsInPlace g used saved) j × Ends (marked a) i answer l

-- however often a boot is cut and begun again, the checkpoint is held; where attempts were kept, none are left only
-- where it is in place and no log is left
abbrev pub BootsKeep : Type 0
BootsKeep = (g : Geometry) (used : ℕ → Bool) (saved : Contents) → IsCheckpoint g used saved
    → (left : List (List (List ℕ) × Option (List ℕ))) (i j : List (List ℕ)) (k l : Option (List ℕ)) (a : Option ℕ)
    → HasCheckpoint g used saved i → Tells k a → CutBoots (Whole g) (CutOf g) left i k j l
    → HasCheckpoint g used saved j × (a ≢ None → l ≡ None → IsRolledBack (IsInPlace g used saved) j)

-- once attempts are 0, the next boot that ends well, however often one was cut before, has the checkpoint in place and
-- keeps no attempts: it rolled back, or was a plain boot where a cut had left no attempts already
abbrev pub BootsRollBack : Type 0
BootsRollBack = (g : Geometry) (used : ℕ → Bool) (saved : Contents) → IsCheckpoint g used saved
    → (left : List (List (List ℕ) × Option (List ℕ))) (i j h : List (List ℕ)) (k l m : Option (List ℕ))
    (answer : Booted) → HasCheckpoint g used saved i → k ≡ text_of (Some 0)
    → CutBoots (Whole g) (CutOf g) left i k j l → EndedBoot (Whole g) j l answer h m
    → IsRolledBack (IsInPlace g used saved) h × (m ≡ None) × (((l ≡ text_of (Some 0)) × (answer ≡ RolledBack))
    ⊎ ((l ≡ None) × (answer ≡ Plain)))

-- however often the system boots, cut or not, attempts never rise
abbrev pub AttemptsNeverRise : Type 0
AttemptsNeverRise = (g : Geometry) (left : List (Option (List ℕ))) (k l : Option (List ℕ)) (a : Option ℕ)
    → Tells k a → Boots (Whole g) (CutOf g) left k l → (b : Option ℕ) × Tells l b × IsNoMore b a

-- whatever a restoration may do, a boot that ends well answers and keeps what the marked attempts say
abbrev pub BootsAnswer : Type 0
BootsAnswer = (g : Geometry) (i j : List (List ℕ)) (k l : Option (List ℕ)) (a : Option ℕ) (answer : Booted)
    → Tells k a → EndedBoot (Whole g) i k answer j l → Ends (marked a) i answer l
