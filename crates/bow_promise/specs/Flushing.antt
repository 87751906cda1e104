-- What the blocks might have been read as at a moment of a play.
use Rattle.std.specs.Prelude.{◌≡◌, ℕ, suc, ◌+◌, ◌<◌, true, List, take, slice_get, Some}
use Rattle.bow_units.specs.declared.requests.Op.TheVariants as ops
use Rattle.bow_units.specs.declared.requests.Outcome.TheVariants.{Done, DiskFault}
use Rattle.bow_units.specs.declared.sizes.Extent.{Extent}
use Rattle.bow_chain.specs.Contents.{contents_of}
use Rattle.bow_flat.specs.Flat.{May, discards, opening}
use Rattle.bow_history.specs.declared.items.Item.{Item}
use Rattle.bow_history.specs.declared.items.Item.TheVariants.{Wrote, Answered}
use Rattle.bow_history.specs.Journal.{Plan, Place, Legal, beginning}
use Rattle.bow_promise.specs.Cutting.{Play}

-- The item may change the block: it tells that it was written, that a write of it failed, or that it was discarded.
abbrev pub Changes : Plan → ℕ → Item → Type 0
Changes plan b (Wrote lane n other) = b ≡ other
Changes plan b (Answered lane n Done) =
    (e : Extent) × (plan.request lane n ≡ Some (ops.Discard e)) × (discards e b ≡ true)
Changes plan b (Answered lane n (DiskFault k)) =
    (e : Extent) × (payload : List ℕ) × (plan.request lane n ≡ Some (ops.Write e payload)) × (b ≡ e.first + k)
Changes plan b item = ⊥

-- no item behind this index and before that one changes the block
abbrev pub IsUnchanged : Play → ℕ → ℕ → ℕ → Type 0
IsUnchanged p b i front = (j : ℕ) (item : Item) → i < j → j < front → slice_get p.journal j ≡ Some item
    → Changes p.plan b item → ⊥

-- right before the item of this index the blocks might have been read as they are in this image
pub record IsAsBefore (p : Play) (i : ℕ) (image : List (List ℕ)) : Type 0 where
  pub then : Place
  pub way : Legal p.plan p.read (take i p.journal) (beginning (opening p.image)) then
  pub each : (b : ℕ) → b < p.plan.sizes.blocks → May (then.flat.current b) (contents_of image b)

-- right behind the item of this index they might have, but those that items from there to the front changed
pub record IsAsBehind (p : Play) (i front : ℕ) (image : List (List ℕ)) : Type 0 where
  pub then : Place
  pub way : Legal p.plan p.read (take (suc i) p.journal) (beginning (opening p.image)) then
  pub each : (b : ℕ) → b < p.plan.sizes.blocks → IsUnchanged p b i front
      → May (then.flat.current b) (contents_of image b)
