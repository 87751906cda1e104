-- A play that was cut, and what is left of it in the end.
use Rattle.std.specs.Prelude.{◌≡◌, ◌⊎◌, ℕ, ◌<◌, true, not, List, [], take, slice_get, slice_index_or, Option, Some}
use Rattle.bow_units.specs.declared.requests.Op.{Op}
use Rattle.bow_units.specs.declared.requests.Outcome.TheVariants.{Done}
use Rattle.bow_units.specs.declared.requests.Phase.{Phase}
use Rattle.bow_units.specs.declared.requests.Phase.TheVariants.{Trim, Arming, Checkpoint, Deciding, Committed}
use Rattle.bow_units.specs.declared.sizes.Geometry.{Geometry}
use Rattle.bow_units.specs.Magics.{IsPlain}
use Rattle.bow_units.specs.Sizes.{IsValid}
use Rattle.bow_disk.specs.Disk.{IsImage}
use Rattle.bow_chain.specs.Contents.{contents_of}
use Rattle.bow_flat.specs.Flat.{Flat, May, is_any, opening}
use Rattle.bow_guard.specs.Standing.{Shows}
use Rattle.bow_history.specs.declared.items.Item.{Item}
use Rattle.bow_history.specs.declared.items.Item.TheVariants.{Answered}
use Rattle.bow_history.specs.Cuts.{IsOnTheWay}
use Rattle.bow_history.specs.Journal.{Plan, Buffers, Place, Legal, beginning}
use Rattle.bow_return.specs.Laws.{ComesBack}

-- A play: what was asked, what its reads read, the image before it, its journal, and the place to which that leads.
pub record Play : Type 0 where
  pub plan : Plan
  pub read : Buffers
  pub image : List (List ℕ)
  pub journal : List Item
  pub end : Place

-- Such a play began on an image whose block 0 begins with no magic. It was cut once its journal had its first n items,
-- and this image was left: it stands for a state on the way of the legal journal, of a place that has these items.
pub record IsCutOf (p : Play) (n : ℕ) (image : List (List ℕ)) : Type 0 where
  pub sizes : IsValid p.plan.sizes
  pub plain : IsPlain (slice_index_or p.image 0 [])
  pub whole : IsImage p.plan.sizes.block_size p.plan.sizes.blocks image
  pub way : IsOnTheWay p.plan p.read p.journal (beginning (opening p.image)) p.end n (contents_of image)

-- the item of this index answers a request of this kind with Done
abbrev pub IsDoneAt : Play → ℕ → Op → Type 0
IsDoneAt p i op = (lane : ℕ) × (number : ℕ) × (slice_get p.journal i ≡ Some (Answered lane number Done))
    × (p.plan.request lane number ≡ Some op)

-- The checkpoint of this state is what the blocks held when the item of this index was yet to come: in use was each
-- block of which something was known, and a content that it then read as was saved.
pub record IsTakenAt (p : Play) (i : ℕ) (f : Flat) : Type 0 where
  pub then : Place
  pub way : Legal p.plan p.read (take i p.journal) (beginning (opening p.image)) then
  pub used : (b : ℕ) → f.used b ≡ not (is_any (then.flat.current b))
  pub saved : (b : ℕ) → b < p.plan.sizes.blocks → f.used b ≡ true → May (then.flat.current b) (f.saved b)

-- There is nothing to restore: the image is left as it is, and each block of which something is known has one of these
-- contents.
pub record IsShown (g : Geometry) (known : ℕ → Option (List (List ℕ))) (first last : List (List ℕ)) : Type 0 where
  pub same : last ≡ first
  pub shows : Shows g known (contents_of first)

-- What is left in the end, over any number of restorations, of an image that a cut left in this phase: from the
-- checkpoint on the checkpoint comes back, and once it is given up each block has a content that a cut may leave of it;
-- while that is being decided it is the one or the other.
abbrev pub EndsAs : Geometry → Phase → Flat → List (List ℕ) → List (List ℕ) → Type 0
EndsAs g Trim f first last = IsShown g f.pending first last
EndsAs g Arming f first last = ComesBack g f (contents_of last)
EndsAs g Checkpoint f first last = ComesBack g f (contents_of last)
EndsAs g Deciding f first last = ComesBack g f (contents_of last) ⊎ IsShown g f.current first last
EndsAs g Committed f first last = IsShown g f.pending first last

-- the checkpoint was taken, and may have been given up since
abbrev pub IsPast : Phase → Type 0
IsPast Trim = ⊥
IsPast Arming = ⊥
IsPast Checkpoint = Unit {0}
IsPast Deciding = Unit {0}
IsPast Committed = Unit {0}
