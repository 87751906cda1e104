-- What restoration means for the device.
use Rattle.std.specs.Prelude.{ℕ, ◌≡◌, ◌⊎◌, List, Option, None, Some}
use Rattle.bow_units.specs.declared.sizes.Geometry.{Geometry}
use Rattle.bow_units.specs.declared.requests.Phase.TheVariants.{Arming, Checkpoint}
use Rattle.bow_units.specs.Sizes.{IsValid}
use Rattle.bow_flat.specs.Flat.{Flat}
use Rattle.bow_flat.specs.Valid.{IsState}
use Rattle.bow_disk.specs.Disk.{IsImage}
use Rattle.bow_chain.specs.Contents.{Contents, contents_of}
use Rattle.bow_chain.specs.Kept.{IsPlain, Holds}
use Rattle.bow_guard.specs.Cuts.{Candidates, IsCut}
use Rattle.bow_guard.specs.Standing.{HasCheckpointIn}
use Rattle.bow_machine.specs.Memory.{Memory}
use Rattle.bow_machine.specs.Standing.{IsStanding}
use Rattle.bow_restore.specs.Rewinds.{Reruns}
use Rattle.vold_meta.specs.Attempts.{text_of}
use Rattle.vold_commands.specs.Boots.{CutBoots, EndedBoot, IsRolledBack}
use Rattle.vold_commands.specs.Boot.{Whole}
use Rattle.vold_commands.specs.BootLaws.{CutOf, IsInPlace}
use Rattle.vold_commands.specs.declared.boots.Booted.{Booted}

-- what restoration asks of an image, to bring the checkpoint of this flat state back
pub record ComesBack (g : Geometry) (f : Flat) (image : Contents) : Type 0 where
  pub plain : IsPlain (f.saved 0)
  pub holds : Holds g f.used f.saved image

-- a machine that stands for this flat state was cut before its decision, in Arming or in Checkpoint, and left the image
pub record IsCutBefore (g : Geometry) (f : Flat) (image : List (List ℕ)) : Type 0 where
  pub machine : Memory
  pub now : Contents
  pub may : Candidates
  pub standing : IsStanding g machine now may f
  pub before : (machine.phase ≡ Arming) ⊎ (machine.phase ≡ Checkpoint)
  pub cut : IsCut g may (contents_of image)
  pub whole : IsImage g.block_size g.blocks image

-- so it was cut, and then restorations were, any number of them: this is the image that is left
pub record IsLeft (g : Geometry) (f : Flat) (last : List (List ℕ)) : Type 0 where
  pub first : List (List ℕ)
  pub device : IsCutBefore g f first
  pub between : List (List (List ℕ))
  pub reruns : Reruns g first between last

-- An image that holds the checkpoint of a flat state holds it over any number of restorations, each cut anywhere.
abbrev pub HeldFromTheCheckpoint : Type 0
HeldFromTheCheckpoint = (g : Geometry) (f : Flat) (image last : List (List ℕ)) (between : List (List (List ℕ)))
    → IsValid g → IsImage g.block_size g.blocks image → IsState f
    → HasCheckpointIn g f.phase f (contents_of image) → Reruns g image between last
    → ComesBack g f (contents_of last)

-- And so it is with whatever a cut leaves of a machine in Arming or in Checkpoint.
abbrev pub HeldFromAnyCut : Type 0
HeldFromAnyCut = (g : Geometry) (f : Flat) (last : List (List ℕ)) → IsLeft g f last → ComesBack g f (contents_of last)

-- Once attempts are 0, the next boot that ends well, however often one was cut before, has each block that was in use
-- at the checkpoint as it then was, in its place, and no log in block 0; it keeps no attempts.
abbrev pub BootsBringBack : Type 0
BootsBringBack = (g : Geometry) (f : Flat) (left : List (List (List ℕ) × Option (List ℕ))) (i j h : List (List ℕ))
    (l m : Option (List ℕ)) (answer : Booted)
    → IsLeft g f i → CutBoots (Whole g) (CutOf g) left i (text_of (Some 0)) j l → EndedBoot (Whole g) j l answer h m
    → IsRolledBack (IsInPlace g f.used f.saved) h × (m ≡ None)
