-- What ties the blocks and the log after a step to the ones before it.
use Rattle.std.specs.Prelude.{ℕ, ◌<◌, ◌≡◌, ◌≢◌, ◌⊎◌, Some, true}
use Rattle.std.specs.List.{list_any}
use Rattle.bow_units.specs.declared.sizes.Geometry.{Geometry}
use Rattle.bow_units.specs.declared.requests.Phase.TheVariants.{Arming, Checkpoint, Committed}
use Rattle.bow_units.specs.declared.statuses.Kind.TheVariants.{Saved}
use Rattle.bow_log.specs.Generations.{Generation}
use Rattle.bow_queue.specs.Requests.{open_writes}
use Rattle.bow_ranges.specs.Kinds.{kind_at, holds}
use Rattle.bow_machine.specs.Memory.{Memory}
use Rattle.bow_machine.specs.MemoryIsSound.{is_touched}
use Rattle.bow_machine.specs.Ties.{IsNextOf, IsLeftOf, IsTouchedStill, LogGoesOn}

-- From the memory before a step to the one after it. A block becomes saved only as a next block of the write for which
-- the batch in hand was formed, and touched only as one that is left to do of a write that waits. What a waiting write
-- covers stays touched, unless the checkpoint is given up. A log's sequence rises only where it is full, and it gets
-- one entry at most. The checkpoint begins only from Arming, and no step of Arming changes the log or the kinds.
pub record IsTied (g : Geometry) (old new : Memory) : Type 0 where
  pub saved : (b : ℕ) → b < g.blocks → kind_at new.kinds b ≡ Saved → (kind_at old.kinds b ≡ Saved) ⊎ IsNextOf g old b
  pub touched : (b : ℕ) → b < g.blocks → is_touched (kind_at new.kinds b) ≡ true
      → (is_touched (kind_at old.kinds b) ≡ true) ⊎ IsLeftOf g old b
  pub covered : (b : ℕ) → b < g.blocks → list_any (λ write. holds write b) (open_writes g.blocks old.requests) ≡ true
      → is_touched (kind_at old.kinds b) ≡ true → new.phase ≢ Committed
      → IsTouchedStill (kind_at old.kinds b) (kind_at new.kinds b)
  pub logs : (log next : Generation) → old.log ≡ Some log → new.log ≡ Some next
      → LogGoesOn g old.kinds new.kinds log next
  pub begins : new.phase ≡ Checkpoint → (old.phase ≡ Checkpoint) ⊎ (old.phase ≡ Arming)
  pub arming : old.phase ≡ Arming → (new.log ≡ old.log) × (new.kinds ≡ old.kinds)
