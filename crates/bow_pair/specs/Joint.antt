-- Several devices that commit or roll back together: what a cut leaves of them and of the text that decides, and when
-- these agree.
use Rattle.std.specs.Prelude.{◌≡◌, ℕ, Bool, true, false, List, slice_get, Option, None, Some}
use Rattle.bow_units.specs.declared.sizes.Geometry.{Geometry}
use Rattle.bow_flat.specs.Flat.{Flat}
use Rattle.bow_disk.specs.Disk.{Content, IsCrash, IsImage}
use Rattle.bow_chain.specs.Contents.{contents_of}
use Rattle.bow_guard.specs.Standing.{Forwardable, Shows}
use Rattle.vold_meta.specs.Decisions.{commit_text}
use Rattle.vold_commands.specs.Boots.{IsRolledBack}
use Rattle.vold_commands.specs.BootLaws.{HasCheckpoint, IsCheckpoint, IsInPlace}

-- A device that takes part: its sizes, and the state that a user may believe in, which has what was in use at the
-- checkpoint, what was saved of it, and what each block may read as now.
pub record Member : Type 0 where
  pub sizes : Geometry
  pub state : Flat

-- It has a checkpoint, of which block 0 was saved without a magic; and it was flushed, so that a cut may leave of each
-- block what it may read as.
pub record IsMember (m : Member) : Type 0 where
  pub checkpoint : IsCheckpoint m.sizes m.state.used m.state.saved
  pub flushed : m.state.pending ≡ m.state.current

-- so has each
abbrev pub AreMembers : List Member → Type 0
AreMembers members = (k : ℕ) (m : Member) → slice_get members k ≡ Some m → IsMember m

-- so of each device and its image; the images stand by the devices' numbers
abbrev pub Each : (Member → List (List ℕ) → Type 0) → List Member → (ℕ → List (List ℕ)) → Type 0
Each P members images = (k : ℕ) (m : Member) → slice_get members k ≡ Some m → P m (images k)

-- the image holds the checkpoint: it keeps it behind a log in block 0, or has it in place
abbrev pub HoldsSaved : Member → List (List ℕ) → Type 0
HoldsSaved m image = HasCheckpoint m.sizes m.state.used m.state.saved image

-- the image has the checkpoint in place, and no log
abbrev pub HasSaved : Member → List (List ℕ) → Type 0
HasSaved m image = IsRolledBack (IsInPlace m.sizes m.state.used m.state.saved) image

-- the image has the committed data: no magic is in block 0, and each block of which something is known holds one of its
-- current contents
abbrev pub HasCurrent : Member → List (List ℕ) → Type 0
HasCurrent m image = IsImage m.sizes.block_size m.sizes.blocks image
    × Shows m.sizes m.state.current (contents_of image)

-- the checkpoint can be given up: the image has the committed data, or is sound and has it once what its log's current
-- block 0 holds is put into block 0
abbrev pub IsForwardable : Member → List (List ℕ) → Type 0
IsForwardable m image = IsImage m.sizes.block_size m.sizes.blocks image
    × Forwardable m.sizes m.state (contents_of image)

-- The devices' images and the kept text agree on committing, or on rolling back. Where the text is `commit`, each
-- checkpoint can be given up; where there is no text, each image has the committed data, or each holds its checkpoint.
abbrev pub AgreesOn : Bool → Option (List ℕ) → List Member → (ℕ → List (List ℕ)) → Type 0
AgreesOn true (Some text) members images = (text ≡ commit_text) × Each IsForwardable members images
AgreesOn true None members images = Each HasCurrent members images
AgreesOn false None members images = Each HoldsSaved members images
AgreesOn false (Some text) members images = ⊥

-- the one or the other, of all together
abbrev pub Agreed : Option (List ℕ) → List Member → (ℕ → List (List ℕ)) → Type 0
Agreed text members images = (committed : Bool) × AgreesOn committed text members images

-- what the devices have in the end that agreed so
abbrev pub Settled : Bool → Member → List (List ℕ) → Type 0
Settled true m image = HasCurrent m image
Settled false m image = HasSaved m image

-- an image that a cut may leave of a disk that tells its content
abbrev pub IsCutOf : {D : Type 0} → (D → Option Content) → D → List (List ℕ) → Type 0
IsCutOf content disk image = (c : Content) × (content disk ≡ Some c) × IsCrash c.candidates image

-- A joint cut of disks, at the exit of a call: of each an image that a cut may leave. The text is the one that is kept.
abbrev pub IsJointCut : {D : Type 0} → (D → Option Content) → List D → (ℕ → List (List ℕ)) → Type 0
IsJointCut {D} content disks images = (k : ℕ) (disk : D) → slice_get disks k ≡ Some disk
    → IsCutOf content disk (images k)
