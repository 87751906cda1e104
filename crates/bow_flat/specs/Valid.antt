-- Which flat states there are.
use Rattle.std.specs.Prelude.{ℕ, ◌≡◌, ◌≢◌, true, not, List, Option, None, Some, ◌∷◌, [], Contains}
use Rattle.bow_units.specs.declared.requests.Phase.{Phase}
use Rattle.bow_units.specs.declared.requests.Phase.TheVariants.{Trim, Arming, Checkpoint, Deciding, Committed}
use Rattle.bow_units.specs.Magics.{IsPlain}
use Rattle.bow_flat.specs.Flat.{Flat, Event, is_any}
use Rattle.bow_flat.specs.Flat.Event.{Writes, Fails, Discards}

-- something is known of a block, and none of what it may hold begins with a magic
abbrev pub IsPlainList : Option (List (List ℕ)) → Type 0
IsPlainList None = ⊥
IsPlainList (Some contents) = (v : List ℕ) → Contains contents v → IsPlain v

-- where what a cut may leave is known, so is what is read, and that is among it
abbrev pub IsWithin : Option (List (List ℕ)) → Option (List (List ℕ)) → Type 0
IsWithin current None = Unit {0}
IsWithin None (Some pending) = ⊥
IsWithin (Some current) (Some pending) = (v : List ℕ) → Contains current v → Contains pending v

-- a checkpoint is held in this phase
abbrev pub HasCheckpoint : Phase → Type 0
HasCheckpoint Trim = ⊥
HasCheckpoint Arming = Unit {0}
HasCheckpoint Checkpoint = Unit {0}
HasCheckpoint Deciding = Unit {0}
HasCheckpoint Committed = ⊥

-- Block 0 is known and plain; what is read is among what a cut may leave; what was discarded in Trim may be anything;
-- in Arming each block in use is pending and reads as it was saved; and a checkpoint has a plain block 0.
pub record IsState (f : Flat) : Type 0 where
  pub current_0 : IsPlainList (f.current 0)
  pub pending_0 : IsPlainList (f.pending 0)
  pub within : (b : ℕ) → IsWithin (f.current b) (f.pending b)
  pub discarded : f.phase ≡ Trim → (b : ℕ) → f.trim b ≡ true → (f.current b ≡ None) × (f.pending b ≡ None)
  pub arming_used : f.phase ≡ Arming → (b : ℕ) → f.used b ≡ not (is_any (f.current b))
  pub arming_pending : f.phase ≡ Arming → (b : ℕ) → f.pending b ≡ f.current b
  pub arming_saved : f.phase ≡ Arming → (b : ℕ) → f.used b ≡ true → f.current b ≡ Some (f.saved b ∷ [])
  pub used_0 : HasCheckpoint f.phase → f.used 0 ≡ true
  pub plain_saved : HasCheckpoint f.phase → IsPlain (f.saved 0)

-- a legal step has such an event in such a state: no data in Arming and Deciding, and no magic in block 0
abbrev pub IsOrderly : Event → Flat → Type 0
IsOrderly (Writes b v) f = (f.phase ≢ Arming) × (f.phase ≢ Deciding) × (b ≡ 0 → IsPlain v)
IsOrderly (Fails b v) f = (f.phase ≢ Arming) × (f.phase ≢ Deciding) × (b ≡ 0 → IsPlain v)
IsOrderly (Discards e) f = (f.phase ≢ Arming) × (f.phase ≢ Deciding)
IsOrderly event f = Unit {0}
