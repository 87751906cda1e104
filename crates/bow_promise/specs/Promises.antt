-- What is promised of a play that is cut anywhere, and of restorations and boots that are cut anywhere after it.
use Rattle.std.specs.Prelude.{◌≡◌, ◌⊎◌, ℕ, suc, ◌<◌, List, slice_get, Some}
use Rattle.bow_units.specs.declared.requests.Op.{Op}
use Rattle.bow_units.specs.declared.requests.Op.TheVariants.{Flush, Prepare, Commit}
use Rattle.bow_units.specs.declared.requests.Outcome.{Outcome}
use Rattle.bow_units.specs.declared.requests.Phase.TheVariants.{Committed}
use Rattle.bow_units.specs.declared.sizes.Geometry.{Geometry}
use Rattle.bow_units.specs.Magics.{HasMagic, IsPlain}
use Rattle.bow_disk.specs.Disk.{IsImage}
use Rattle.bow_chain.specs.Contents.{contents_of}
use Rattle.bow_history.specs.declared.items.Item.TheVariants.{Answered}
use Rattle.bow_history.specs.Journal.{Place, IsNext}
use Rattle.bow_restore.specs.Rewinds.{Reruns}
use Rattle.bow_promise.specs.Cutting.{Play, IsCutOf, IsDoneAt, IsTakenAt, IsPast, IsShown, EndsAs}
use Rattle.bow_promise.specs.Flushing.{IsAsBefore, IsAsBehind}
use Rattle.bow_promise.specs.Recoveries.{Recoveries, EndsWell}

-- No request of this kind was begun where the journal has this front and leads to this place: no item of the front
-- answers one, and no lane's next request is one.
pub record IsNotBegun (p : Play) (op : Op) (front : ℕ) (place : Place) : Type 0 where
  pub none : (i lane number : ℕ) (outcome : Outcome) → i < front
      → slice_get p.journal i ≡ Some (Answered lane number outcome) → p.plan.request lane number ≡ Some op → ⊥
  pub next : (lane : ℕ) → IsNext p.plan place lane op → ⊥

-- A prepare stands at this index: its item answers one; or it is the end of the front, and some lane's next request is
-- one.
abbrev pub IsPrepareAt : Play → ℕ → Place → ℕ → Type 0
IsPrepareAt p front place i = ((i < front) × ((lane number : ℕ) × (outcome : Outcome)
    × (slice_get p.journal i ≡ Some (Answered lane number outcome)) × (p.plan.request lane number ≡ Some Prepare)))
    ⊎ ((i ≡ front) × ((lane : ℕ) × IsNext p.plan place lane Prepare))

-- What is left in the end of a play of which a cut left the first image, once its journal had its first n items. No
-- magic is in block 0. Where the cut had left a log there, each block is as it might have been read right before a
-- prepare; and where a prepare had been answered Done, right before that answer. Where the cut had left no log, nothing
-- was to restore, and each block that was not changed since a flush or a commit was answered Done is as it might have
-- been read then.
pub record IsFulfilled (p : Play) (n : ℕ) (first : List (List ℕ)) (cut : IsCutOf p n first) (final : List (List ℕ)) :
    Type 0 where
  pub plain : IsPlain (contents_of final 0)
  pub back : HasMagic (contents_of first 0) → (i : ℕ) × IsPrepareAt p cut.way.front cut.way.place i
      × IsAsBefore p i final
  pub checkpoint : (i : ℕ) → i < n → IsDoneAt p i Prepare → HasMagic (contents_of first 0) → IsAsBefore p i final
  pub same : IsPlain (contents_of first 0) → final ≡ first
  pub flushed : (i : ℕ) → i < n → IsDoneAt p i Flush ⊎ IsDoneAt p i Commit → IsPlain (contents_of first 0)
      → IsAsBehind p i cut.way.front final

-- The promise of an image that a cut left of a play, once its journal had its first n items. Until a prepare is begun
-- no log is in block 0; from its Done on there is one until a commit is begun; and from the commit's Done on there is
-- none. Between a commit's begin and its Done the deciding write may have reached the disk, and then no log is there,
-- or it may not. In each case what is promised is fulfilled in the end, over any number of restorations and boots, each
-- cut anywhere, by the first that ends well.
pub record IsPromised (p : Play) (n : ℕ) (first : List (List ℕ)) : Type 0 where
  pub cut : IsCutOf p n first
  pub unprepared : IsNotBegun p Prepare cut.way.front cut.way.place → IsPlain (contents_of first 0)
  pub undecided : (i : ℕ) → i < n → IsDoneAt p i Prepare → IsNotBegun p Commit cut.way.front cut.way.place
      → HasMagic (contents_of first 0)
  pub committed : (i : ℕ) → i < n → IsDoneAt p i Commit → IsPlain (contents_of first 0)
  pub ends : (recoveries : List (List (List ℕ))) (last final : List (List ℕ))
      → Recoveries p.plan.sizes first recoveries last → EndsWell p.plan.sizes last final
      → IsFulfilled p n first cut final

-- The law above all: play, cut anywhere; then restorations and boots, any number of them, each cut anywhere; then one
-- that ends well.
abbrev pub CutsArePromised : Type 0
CutsArePromised = (p : Play) (n : ℕ) (first : List (List ℕ)) → IsCutOf p n first → IsPromised p n first

-- Cut a play anywhere, and then restorations, each anywhere: by the phase of the state that was left, the checkpoint is
-- held, or there is nothing to restore.
abbrev pub CutsEndWell : Type 0
CutsEndWell = (p : Play) (n : ℕ) (first last : List (List ℕ)) (between : List (List (List ℕ)))
    → (k : IsCutOf p n first) → Reruns p.plan.sizes first between last
    → EndsAs p.plan.sizes k.way.flat.phase k.way.flat first last

-- Once a prepare was answered Done, the checkpoint is what the blocks held then, whenever the cut comes.
abbrev pub CheckpointsStay : Type 0
CheckpointsStay = (p : Play) (i : ℕ) (first : List (List ℕ)) → IsDoneAt p i Prepare → (k : IsCutOf p (suc i) first)
    → IsPast k.way.flat.phase × IsTakenAt p i k.way.flat

-- Once a commit was answered Done, no restoration changes anything, and each block has a content that a cut may leave
-- of it.
abbrev pub CommitsStay : Type 0
CommitsStay = (p : Play) (i : ℕ) (first last : List (List ℕ)) (between : List (List (List ℕ)))
    → IsDoneAt p i Commit → (k : IsCutOf p (suc i) first) → Reruns p.plan.sizes first between last
    → (k.way.flat.phase ≡ Committed) × IsShown p.plan.sizes k.way.flat.pending first last

-- Restorations and boots one after another, cut or not, leave what restorations leave that were cut.
abbrev pub BootsAreReruns : Type 0
BootsAreReruns = (g : Geometry) (first last : List (List ℕ)) (recoveries : List (List (List ℕ)))
    → IsImage g.block_size g.blocks first → Recoveries g first recoveries last
    → (between : List (List (List ℕ))) × Reruns g first between last
