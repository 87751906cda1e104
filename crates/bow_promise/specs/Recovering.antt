-- What restorations and boots leave after a play that was cut.
use Rattle.std.specs.Prelude.{◌≡◌, ◌⊎◌, ℕ, List, Option, Some}
use Rattle.bow_units.specs.declared.requests.Phase.{Phase}
use Rattle.bow_units.specs.declared.requests.Phase.TheVariants.{Trim, Arming, Checkpoint, Deciding, Committed}
use Rattle.bow_units.specs.declared.sizes.Geometry.{Geometry}
use Rattle.bow_disk.specs.Disk.{Content, IsCrash}
use Rattle.bow_disk.specs.Moments.{Tells}
use Rattle.bow_chain.specs.Contents.{contents_of}
use Rattle.bow_flat.specs.Flat.{Flat}
use Rattle.bow_guard.specs.Standing.{Shows}
use Rattle.bow_restore.specs.Answers.{EndsBack}
use Rattle.bow_restore.specs.Replaying.{IsFlushed}
use Rattle.bow_restore.specs.Rewinds.{Reruns}
use Rattle.bow_restore.specs.declared.answers.Restored.{Restored}
use Rattle.bow_restore.specs.declared.answers.Restored.TheVariants.{Nothing, Done}
use Rattle.bow_promise.specs.Cutting.{Play, IsCutOf}
use Rattle.bow_promise.specs.Promises.{IsFulfilled}

-- restorations left this image of the first one, any number of them, each cut anywhere
abbrev pub IsRerun : Geometry → List (List ℕ) → List (List ℕ) → Type 0
IsRerun g first image = (between : List (List (List ℕ))) × Reruns g first between image

-- whatever a cut may leave of the disk now, restorations left of the first image
abbrev pub IsLeftOf : Geometry → List (List ℕ) → Content → Type 0
IsLeftOf g first c = (image : List (List ℕ)) → IsCrash c.candidates image → IsRerun g first image

-- A call that restores was made on a disk that restorations left of the first image, which a cut of a play left. If it
-- ended well, what is promised of that cut is fulfilled, and all is flushed. Whatever a cut of the call leaves, and
-- what it leaves itself, is again left of the first image: so the next one goes on from there.
pub record IsRecovered {D : Type 0} (content : D → Option Content) (moment : D → ℕ) (left : D → ℕ → List (List ℕ)
    → Type 0) (g : Geometry) (p : Play) (n : ℕ) (first : List (List ℕ)) (cut : IsCutOf p n first) (ended_well : Type 0)
    (old new : D) :
    Type 0 where
  pub fulfils : ended_well → Tells content (λ c. IsFlushed c × IsFulfilled p n first cut c.now) new
  pub cuts : (d : Content) → content new ≡ Some d → (image : List (List ℕ)) → left new (moment old) image
      → IsRerun g first image
  pub leaves : (d : Content) → content new ≡ Some d → IsLeftOf g first d

-- a restoration ended well
abbrev pub HasEndedWell : Restored → Type 0
HasEndedWell Nothing = Unit {0}
HasEndedWell (Done entries marks) = Unit {0}
HasEndedWell answer = ⊥

-- A disk on which there was nothing to restore: each block of which something is known has one of these contents, and
-- where the restoration says that there was nothing, all is flushed.
pub record EndsShown {D : Type 0} (g : Geometry) (known : ℕ → Option (List (List ℕ))) (content : D → Option Content)
    (disk : D) (answer : Restored) : Type 0 where
  pub told : Content
  pub tells : content disk ≡ Some told
  pub shows : Shows g known (contents_of told.now)
  pub flushed : answer ≡ Nothing → IsFlushed told

-- What a restoration leaves by the phase of the state that the cut of the play left. Where it ends well, with Done or
-- Nothing, from the checkpoint on each block that was in use is as it was saved, in its place; and once the checkpoint
-- is given up each block has a content that a cut may leave of it.
abbrev pub Recovers : {D : Type 0} → Geometry → Phase → Flat → (D → Option Content) → D → Restored → Type 0
Recovers g Trim f content disk answer = EndsShown g f.pending content disk answer
Recovers g Arming f content disk answer = EndsBack g f.used f.saved content disk answer
Recovers g Checkpoint f content disk answer = EndsBack g f.used f.saved content disk answer
Recovers g Deciding f content disk answer = EndsBack g f.used f.saved content disk answer
    ⊎ EndsShown g f.current content disk answer
Recovers g Committed f content disk answer = EndsShown g f.pending content disk answer
