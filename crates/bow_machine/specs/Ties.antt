-- What ties a batch to its write, and that nothing is changed or saved before the checkpoint begins.
use Rattle.std.specs.Prelude.{ℕ, ◌+◌, ◌<◌, ◌≤◌, ◌≡◌, ◌≢◌, ◌⊎◌, List, length, Some, None, ◌-◌, ◌*◌, true}
use Rattle.bow_units.specs.declared.sizes.Geometry.{Geometry}
use Rattle.bow_units.specs.declared.sizes.Extent.{Extent}
use Rattle.bow_units.specs.declared.requests.Op.TheVariants.{Write}
use Rattle.bow_units.specs.declared.requests.Phase.TheVariants.{Arming, Checkpoint, Committed}
use Rattle.bow_units.specs.declared.statuses.Kind.{Kind}
use Rattle.bow_units.specs.declared.statuses.Kind.TheVariants as kinds
use Rattle.bow_log.specs.Generations.{Generation, room}
use Rattle.bow_chain.specs.Contents.{Contents}
use Rattle.std.specs.List.{list_any}
use Rattle.bow_queue.specs.Requests.{open_writes}
use Rattle.bow_ranges.specs.Kinds.{kind_at, holds}
use Rattle.bow_machine.specs.Requests.{Request, request_of, refusal}
use Rattle.bow_machine.specs.Memory.{Memory, Batch, Batching}
use Rattle.bow_machine.specs.Calls.{Reply}
use Rattle.bow_machine.specs.Tasks.{Turn, task_of}
use Rattle.bow_machine.specs.Steps.{call_of, step_of}
use Rattle.bow_machine.specs.MemoryIsSound.{MemoryIsSound, is_touched}
use Rattle.bow_machine.specs.MemoryLaws.{CanHaveIt}

-- the block is one that is left to do of a write that waits and passed the tests
pub record IsLeftOf (g : Geometry) (m : Memory) (b : ℕ) : Type 0 where
  pub write : Request
  pub waits : request_of write.ticket m.requests ≡ Some write
  pub extent : Extent
  pub payload : List ℕ
  pub op : write.op ≡ Write extent payload
  pub passed : refusal g m.phase write.op ≡ None
  pub from : extent.first + write.done ≤ b
  pub below : b < extent.first + extent.count

-- a batch that has begun is in hand, and the block is so left to do of the write for which it was formed
pub record IsNextOf (g : Geometry) (m : Memory) (b : ℕ) : Type 0 where
  pub batch : Batch
  pub in_hand : m.hand ≡ Batching batch
  pub begun : 0 < batch.progress.done
  pub left : IsLeftOf g m b
  pub for_it : batch.ticket ≡ left.write.ticket

-- A block becomes saved only so.
abbrev pub SavedIsNext : Type 0
SavedIsNext = (g : Geometry) (m : Memory) (turn : Turn) (reply : Reply) (now : Contents) (b : ℕ) → MemoryIsSound g m
    → CanHaveIt g (call_of g m (task_of g m turn)) reply → b < g.blocks
    → kind_at (step_of g now m (task_of g m turn) reply).memory.kinds b ≡ kinds.Saved
    → (kind_at m.kinds b ≡ kinds.Saved) ⊎ IsNextOf g m b

-- A block becomes changed or saved only so.
abbrev pub TouchedIsLeft : Type 0
TouchedIsLeft = (g : Geometry) (m : Memory) (turn : Turn) (reply : Reply) (now : Contents) (b : ℕ) → MemoryIsSound g m
    → CanHaveIt g (call_of g m (task_of g m turn)) reply → b < g.blocks
    → is_touched (kind_at (step_of g now m (task_of g m turn) reply).memory.kinds b) ≡ true
    → (is_touched (kind_at m.kinds b) ≡ true) ⊎ IsLeftOf g m b

-- the kind of a touched block stays, or what was saved is changed
abbrev pub IsTouchedStill : Kind → Kind → Type 0
IsTouchedStill old new = (new ≡ old) ⊎ ((old ≡ kinds.Saved) × (new ≡ kinds.Changed))

-- A touched block that a waiting write covers stays so, as long as the checkpoint is not given up: it is neither free
-- nor saved anew while that write waits.
abbrev pub CoveredStaysTouched : Type 0
CoveredStaysTouched = (g : Geometry) (m : Memory) (turn : Turn) (reply : Reply) (now : Contents) (b : ℕ)
    → MemoryIsSound g m → CanHaveIt g (call_of g m (task_of g m turn)) reply → b < g.blocks
    → list_any (λ write. holds write b) (open_writes g.blocks m.requests) ≡ true
    → is_touched (kind_at m.kinds b) ≡ true
    → let after = (step_of g now m (task_of g m turn) reply).memory in
    after.phase ≢ Committed → IsTouchedStill (kind_at m.kinds b) (kind_at after.kinds b)

-- a log's sequence is as before, or one more where that log is full
abbrev pub SequenceIs : Geometry → Generation → Generation → Type 0
SequenceIs g log new =
    (new.sequence ≡ log.sequence) ⊎ ((new.sequence ≡ log.sequence + 1) × (length log.entries ≡ room g.block_size))

-- how many entries were made since the prepare, but for those of block 0 and of the full logs
abbrev pub copies_in : Geometry → Generation → ℕ
copies_in g log = log.sequence * (room g.block_size - 1) + (length log.entries - 1)

-- a block becomes saved
abbrev pub SomeIsSaved : Geometry → List Kind → List Kind → Type 0
SomeIsSaved g table new =
    (b : ℕ) × (b < g.blocks) × (kind_at table b ≢ kinds.Saved) × (kind_at new b ≡ kinds.Saved)

-- from one log and its kinds to the next: the sequence; and as many entries, or one more where a block becomes saved
pub record LogGoesOn (g : Geometry) (table new_table : List Kind) (log new : Generation) : Type 0 where
  pub sequence : SequenceIs g log new
  pub copies : (copies_in g new ≡ copies_in g log)
      ⊎ ((copies_in g new ≡ copies_in g log + 1) × SomeIsSaved g table new_table)

-- The sequence rises only where the log is full; and a step makes one entry at most, where a block becomes saved.
abbrev pub LogsGoOn : Type 0
LogsGoOn = (g : Geometry) (m : Memory) (turn : Turn) (reply : Reply) (now : Contents) (log new : Generation)
    → MemoryIsSound g m → CanHaveIt g (call_of g m (task_of g m turn)) reply → m.log ≡ Some log
    → let after = (step_of g now m (task_of g m turn) reply).memory in
    after.log ≡ Some new → LogGoesOn g m.kinds after.kinds log new

-- A step leads to Checkpoint only from there, or from Arming.
abbrev pub CheckpointFollows : Type 0
CheckpointFollows = (g : Geometry) (m : Memory) (turn : Turn) (reply : Reply) (now : Contents) → MemoryIsSound g m
    → CanHaveIt g (call_of g m (task_of g m turn)) reply
    → (step_of g now m (task_of g m turn) reply).memory.phase ≡ Checkpoint
    → (m.phase ≡ Checkpoint) ⊎ (m.phase ≡ Arming)

-- In Arming the log is the first one, and no block is changed or saved; a step from there changes neither the log nor
-- the kinds: so it is when the checkpoint begins.
abbrev pub ArmingIsUntouched : Type 0
ArmingIsUntouched = (g : Geometry) (m : Memory) (turn : Turn) (reply : Reply) (now : Contents) (log : Generation)
    → MemoryIsSound g m → CanHaveIt g (call_of g m (task_of g m turn)) reply → m.phase ≡ Arming → m.log ≡ Some log
    → let after = (step_of g now m (task_of g m turn) reply).memory in
    (log.sequence ≡ 0) × (after.log ≡ m.log) × (after.kinds ≡ m.kinds)
    × ((b : ℕ) → b < g.blocks → (kind_at m.kinds b ≢ kinds.Changed) × (kind_at m.kinds b ≢ kinds.Saved))

-- a write waits
pub record WriteWaits (m : Memory) : Type 0 where
  pub write : Request
  pub waits : request_of write.ticket m.requests ≡ Some write
  pub extent : Extent
  pub payload : List ℕ
  pub op : write.op ≡ Write extent payload

-- A step within the checkpoint changes the log only where a write waits.
abbrev pub LogStays : Type 0
LogStays = (g : Geometry) (m : Memory) (turn : Turn) (reply : Reply) (now : Contents) → MemoryIsSound g m
    → CanHaveIt g (call_of g m (task_of g m turn)) reply → m.phase ≡ Checkpoint
    → let after = (step_of g now m (task_of g m turn) reply).memory in
    after.phase ≡ Checkpoint → (after.log ≡ m.log) ⊎ WriteWaits m
