-- What may be given up forward: from a flush that was answered done to the end of a commit.
use Rattle.std.specs.Prelude.{◌≡◌, ◌⊎◌, ℕ, ◌≤◌, List, Option, Some, None, false}
use Rattle.bow_units.specs.declared.sizes.Geometry.{Geometry}
use Rattle.bow_disk.specs.Disk.{Content, IsCrash}
use Rattle.bow_chain.specs.Contents.{contents_of}
use Rattle.bow_flat.specs.Flat.{Flat}
use Rattle.bow_guard.specs.Cuts.{candidates_of}
use Rattle.bow_guard.specs.Standing.{Ahead, IsSoundImage, Forwardable}
use Rattle.bow_machine.specs.Forward.{GoesForward}
use Rattle.bow_machine.specs.Memory.{Memory}
use Rattle.bow_machine.specs.MemoryLaws.{tells_fault}
use Rattle.bow_core.specs.declared.turns.Step.{Step as OwnStep}
use Rattle.bow_core.specs.Turns.{told_of}
use Rattle.bow_core.specs.Views.{View}

-- each image that a crash may leave of what the disk tells is so
abbrev pub CrashesAre : (List (List ℕ) → Type 0) → Option Content → Type 0
CrashesAre P told = (c : Content) → told ≡ Some c → (image : List (List ℕ)) → IsCrash c.candidates image → P image

-- each image that a crash may leave of the device's disk may be given up forward
abbrev pub AreForwardable : {D : Type 0} → (D → Option Content) → View D → Flat → Type 0
AreForwardable content v f = CrashesAre (λ image. Forwardable v.geometry f (contents_of image)) (content v.disk)

-- each one that is sound is ahead
abbrev pub SoundAreAheadIn : {D : Type 0} → (D → Option Content) → View D → Flat → Type 0
SoundAreAheadIn content v f = CrashesAre
    (λ image. IsSoundImage v.geometry (contents_of image) → Ahead v.geometry f (contents_of image)) (content v.disk)

-- memory over a disk that tells its content goes forward to the state's current contents
abbrev pub ForwardOver : Geometry → Memory → Option Content → Flat → Type 0
ForwardOver g m None f = ⊥
ForwardOver g m (Some c) f = GoesForward g m (contents_of c.now) (candidates_of c.candidates) f

-- The device goes forward to the state's current contents, and each crash image may be given up forward to them.
pub record IsForward {D : Type 0} (content : D → Option Content) (v : View D) (f : Flat) : Type 0 where
  pub over : ForwardOver v.geometry v.memory (content v.disk) f
  pub images : AreForwardable content v f

-- After a step of a device that went forward. It still does, if no fault is told. Even after a fault each crash image
-- may be given up forward; and so may each image that a cut left since an earlier moment, or it was left before.
pub record StaysForward {D : Type 0} (content : D → Option Content) (moment : D → ℕ) (left : D → ℕ → List (List ℕ)
    → Type 0) (old : View D) (tells : OwnStep) (new : View D) (f : Flat) : Type 0 where
  pub on : tells_fault (told_of tells) ≡ false → IsForward content new f
  pub images : AreForwardable content new f
  pub cuts : (t : ℕ) (image : List (List ℕ)) → t ≤ moment old.disk → left new.disk t image
      → left old.disk t image ⊎ Forwardable old.geometry f (contents_of image)
