-- Which journals are legal: for each item, where it may come and what it does to the state.
use Rattle.std.specs.Prelude.{◌≡◌, ◌≢◌, ◌⊎◌, ℕ, zero, suc, ◌+◌, ◌-◌, ◌/◌, ◌<◌, ◌≤◌, ◌&&◌, nat_lt, Bool, false, not, if◌then◌else◌, List, [], ◌∷◌, ◌++◌, Option, None, Some}
use Rattle.std.specs.List.{sum_by, list_any}
use Rattle.bow_units.specs.declared.sizes.Geometry.{Geometry}
use Rattle.bow_units.specs.declared.sizes.Extent.{Extent}
use Rattle.bow_units.specs.declared.requests.Op.{Op}
use Rattle.bow_units.specs.declared.requests.Op.TheVariants as ops
use Rattle.bow_units.specs.declared.requests.Phase.{Phase}
use Rattle.bow_units.specs.declared.requests.Phase.TheVariants.{Trim, Arming, Checkpoint, Deciding, Committed}
use Rattle.bow_units.specs.declared.requests.Outcome.{Outcome}
use Rattle.bow_units.specs.declared.requests.Outcome.TheVariants as outcomes
use Rattle.bow_units.specs.Magics.{HasMagic}
use Rattle.bow_units.specs.Sizes.{IsInside}
use Rattle.bow_log.specs.Generations.{room}
use Rattle.bow_flat.specs.Flat.{Flat, Event, after, Allows, put, block_at, count_below}
use Rattle.bow_flat.specs.Flat.Event.{Writes, Fails, Reads, Discards, Flushes, Arms, Prepares, Decides, Commits}
use Rattle.bow_queue.specs.Extents.{is_on_device}
use Rattle.bow_ranges.specs.Kinds.{holds}
use Rattle.bow_machine.specs.Requests.{is_reserved}
use Rattle.bow_history.specs.declared.items.Item.{Item}
use Rattle.bow_history.specs.declared.items.Item.TheVariants.{Wrote, Got, Answered}

-- What is asked of the device: its sizes, its lanes, the requests of each, and the section in which each request
-- stands. The buffer of a read is apart.
pub record Plan : Type 0 where
  pub sizes : Geometry
  pub lanes : ℕ
  pub request : ℕ → ℕ → Option Op
  pub section : ℕ → ℕ → ℕ

-- the buffers of the reads, by lane and number
abbrev pub Buffers : Type 0
Buffers = ℕ → ℕ → List ℕ

-- How far a journal is: the state; of each lane its next unanswered request and how many blocks of it are done; and
-- the writes that were answered since a prepare was answered Done, or since the beginning.
pub record Place : Type 0 where
  pub flat : Flat
  pub number : ℕ → ℕ
  pub done : ℕ → ℕ
  pub counted : List Op

-- before the first item
abbrev pub beginning : Flat → Place
beginning flat = record { flat = flat; number = λ lane. 0; done = λ lane. 0; counted = [] }

-- requests that change the device are served
abbrev pub IsOpenPhase : Phase → Type 0
IsOpenPhase Trim = Unit {0}
IsOpenPhase Arming = ⊥
IsOpenPhase Checkpoint = Unit {0}
IsOpenPhase Deciding = ⊥
IsOpenPhase Committed = Unit {0}

-- a prepare or a commit was begun and is not known to be whole
abbrev pub IsBetween : Phase → Type 0
IsBetween phase = (phase ≡ Arming) ⊎ (phase ≡ Deciding)

-- a write of block 0 whose payload begins with a magic number
abbrev pub IsReserved : Extent → List ℕ → Type 0
IsReserved e payload = (e.first ≡ 0) × HasMagic payload

-- a write that is on the device and has no reserved magic
abbrev pub IsProper : Geometry → Extent → List ℕ → Type 0
IsProper g e payload = IsInside e g × (IsReserved e payload → ⊥)

-- the request writes this block
abbrev pub writes : Op → ℕ → Bool
writes (ops.Write e payload) b = holds e b
writes (ops.Read e payload) b = false
writes (ops.Discard e) b = false
writes ops.Flush b = false
writes ops.Prepare b = false
writes ops.Commit b = false

-- no other lane is in the midst of a write of this block
abbrev pub IsAlone : Plan → Place → ℕ → ℕ → Type 0
IsAlone plan p lane b = (other : ℕ) → other ≢ lane → 0 < p.done other → (op : Op)
    → plan.request other (p.number other) ≡ Some op → writes op b ≡ false

-- ----------------------------------------------------------------------------------------------------------------
-- How many writes it takes until no block is free.

-- a write counts that is on the device and has no reserved magic
abbrev pub counts : Geometry → Op → Bool
counts g (ops.Write e payload) = is_on_device g.blocks e && not (is_reserved e payload)
counts g (ops.Read e payload) = false
counts g (ops.Discard e) = false
counts g ops.Flush = false
counts g ops.Prepare = false
counts g ops.Commit = false

-- the request alone, if it counts
abbrev pub if_counts : Geometry → Option Op → List Op
if_counts g None = []
if_counts g (Some op) = if counts g op then op ∷ [] else []

-- the writes that count and are the next unanswered request of one of so many lanes
abbrev pub next_writes : Plan → Place → ℕ → List Op
next_writes plan p zero = []
next_writes plan p (suc lane) = if_counts plan.sizes (plan.request lane (p.number lane)) ++ next_writes plan p lane

-- the writes that count
abbrev pub counting : Plan → Place → List Op
counting plan p = next_writes plan p plan.lanes ++ p.counted

-- a block other than 0 that the request writes
abbrev pub writes_above_0 : Op → ℕ → Bool
writes_above_0 op b = nat_lt 0 b && writes op b

-- how many blocks other than 0 it writes, on a device of n blocks
abbrev pub size_in : ℕ → Op → ℕ
size_in n op = count_below (writes_above_0 op) n

-- how many different blocks other than 0 they write
abbrev pub blocks_in : ℕ → List Op → ℕ
blocks_in n some = count_below (λ b. nat_lt 0 b && list_any (λ op. writes op b) some) n

-- no block may be free: so many blocks, and so many full logs, may have been taken
abbrev pub MayBeFull : Plan → Place → Type 0
MayBeFull plan p = p.flat.trimmed - 2 ≤ blocks_in plan.sizes.blocks (counting plan p)
    + sum_by (size_in plan.sizes.blocks) (counting plan p) / (room plan.sizes.block_size - 1)

-- the writes that were answered, after this answer: a prepare's Done begins the count anew
abbrev pub counted_after : Geometry → Op → Outcome → List Op → List Op
counted_after g ops.Prepare outcomes.Done counted = []
counted_after g op outcome counted = if_counts g (Some op) ++ counted

-- ----------------------------------------------------------------------------------------------------------------
-- The rows.

-- from one state to another by an event that may be
abbrev pub By : Plan → Event → Flat → Flat → Type 0
By plan event f h = Allows plan.sizes.blocks event f × (h ≡ after plan.sizes.blocks event f)

-- from one state to another by two
abbrev pub ByBoth : Plan → Event → Event → Flat → Flat → Type 0
ByBoth plan first second f h = (mid : Flat) × By plan first f mid × By plan second mid h

-- A write of which k blocks are done, answered: where each outcome may come, and the state after it. Where the disk
-- failed, the next block may hold what was to be written.
abbrev pub WriteRow : Plan → Place → Extent → List ℕ → Outcome → ℕ → Flat → Type 0
WriteRow plan p e payload outcomes.Done k h = IsProper plan.sizes e payload × (k ≡ e.count) × (h ≡ p.flat)
WriteRow plan p e payload (outcomes.DiskFault n) k h = IsProper plan.sizes e payload × IsOpenPhase p.flat.phase
    × (n ≡ k) × (k < e.count) × By plan (Fails (e.first + k) (block_at plan.sizes.block_size payload k)) p.flat h
WriteRow plan p e payload (outcomes.NoSpace n) k h = IsProper plan.sizes e payload × (p.flat.phase ≡ Checkpoint)
    × (n ≡ k) × (k < e.count) × (e.first + k ≢ 0) × MayBeFull plan p × (h ≡ p.flat)
WriteRow plan p e payload outcomes.OutOfRange k h = (IsInside e plan.sizes → ⊥) × (h ≡ p.flat)
WriteRow plan p e payload outcomes.ReservedMagic k h = IsInside e plan.sizes × IsReserved e payload × (h ≡ p.flat)
WriteRow plan p e payload (outcomes.Unsettled phase) k h = IsProper plan.sizes e payload × (p.flat.phase ≡ phase)
    × IsBetween phase × (h ≡ p.flat)
WriteRow plan p e payload outcome k h = ⊥

-- a read, which changes nothing
abbrev pub ReadRow : Plan → Place → Extent → Outcome → ℕ → Flat → Type 0
ReadRow plan p e outcomes.Data k h = IsInside e plan.sizes × (k ≡ e.count) × (h ≡ p.flat)
ReadRow plan p e (outcomes.DiskFault n) k h = IsInside e plan.sizes × (n ≡ k) × (k < e.count) × (h ≡ p.flat)
ReadRow plan p e outcomes.OutOfRange k h = (IsInside e plan.sizes → ⊥) × (h ≡ p.flat)
ReadRow plan p e outcome k h = ⊥

-- a discard
abbrev pub DiscardRow : Plan → Place → Extent → Outcome → Flat → Type 0
DiscardRow plan p e outcomes.Done h = IsInside e plan.sizes × IsOpenPhase p.flat.phase × By plan (Discards e) p.flat h
DiscardRow plan p e outcomes.OutOfRange h = (IsInside e plan.sizes → ⊥) × (h ≡ p.flat)
DiscardRow plan p e (outcomes.Unsettled phase) h = IsInside e plan.sizes × (p.flat.phase ≡ phase) × IsBetween phase
    × (h ≡ p.flat)
DiscardRow plan p e outcome h = ⊥

-- a flush
abbrev pub FlushRow : Plan → Place → Outcome → Flat → Type 0
FlushRow plan p outcomes.Done h = IsOpenPhase p.flat.phase × By plan Flushes p.flat h
FlushRow plan p (outcomes.DiskFault n) h = (n ≡ 0) × (h ≡ p.flat)
FlushRow plan p (outcomes.Unsettled phase) h = (p.flat.phase ≡ phase) × IsBetween phase × (h ≡ p.flat)
FlushRow plan p outcome h = ⊥

-- A prepare: done, it arms and begins the checkpoint, or only begins it where an earlier one has armed. Failed, it may
-- have armed.
abbrev pub PrepareRow : Plan → Place → Outcome → Flat → Type 0
PrepareRow plan p outcomes.Done h = ((saved : ℕ → List ℕ) × ByBoth plan (Arms saved) Prepares p.flat h)
    ⊎ By plan Prepares p.flat h
PrepareRow plan p (outcomes.DiskFault n) h = (n ≡ 0) × ((p.flat.phase ≡ Trim) ⊎ (p.flat.phase ≡ Arming))
    × ((h ≡ p.flat) ⊎ ((saved : ℕ → List ℕ) × By plan (Arms saved) p.flat h))
PrepareRow plan p (outcomes.NoSpace n) h = (n ≡ 0) × (p.flat.phase ≡ Trim)
    × (count_below p.flat.trim plan.sizes.blocks < 2) × (h ≡ p.flat)
PrepareRow plan p (outcomes.WrongPhase phase) h = (p.flat.phase ≡ phase) × (phase ≢ Trim) × (phase ≢ Arming)
    × (h ≡ p.flat)
PrepareRow plan p outcome h = ⊥

-- A commit: done, it decides and gives the checkpoint up, or where an earlier one has decided flushes and gives it up.
-- Failed, it may have decided.
abbrev pub CommitRow : Plan → Place → Outcome → Flat → Type 0
CommitRow plan p outcomes.Done h = ByBoth plan Decides Commits p.flat h ⊎ ((p.flat.phase ≡ Deciding)
    × ByBoth plan Flushes Commits p.flat h)
CommitRow plan p (outcomes.DiskFault n) h = (n ≡ 0) × ((p.flat.phase ≡ Checkpoint) ⊎ (p.flat.phase ≡ Deciding))
    × ((h ≡ p.flat) ⊎ By plan Decides p.flat h)
CommitRow plan p (outcomes.WrongPhase phase) h = (p.flat.phase ≡ phase) × (phase ≢ Checkpoint) × (phase ≢ Deciding)
    × (h ≡ p.flat)
CommitRow plan p outcome h = ⊥

-- The answers to a request of which k blocks are done, where each may come, and the state after it.
abbrev pub Row : Plan → Place → Op → Outcome → ℕ → Flat → Type 0
Row plan p (ops.Write e payload) outcome k h = WriteRow plan p e payload outcome k h
Row plan p (ops.Read e payload) outcome k h = ReadRow plan p e outcome k h
Row plan p (ops.Discard e) outcome k h = DiscardRow plan p e outcome h
Row plan p ops.Flush outcome k h = FlushRow plan p outcome h
Row plan p ops.Prepare outcome k h = PrepareRow plan p outcome h
Row plan p ops.Commit outcome k h = CommitRow plan p outcome h

-- one more block of the lane's next request is done, by this event
abbrev pub block_done : Plan → ℕ → Event → Place → Place
block_done plan lane event p = record p {
  flat = after plan.sizes.blocks event p.flat;
  done = put p.done lane (suc
      (p.done lane));
}

-- the lane's next request is answered, in this state
abbrev pub answered : Plan → ℕ → Op → Outcome → Flat → Place → Place
answered plan lane op outcome flat p = record {
  flat = flat;
  number = put p.number lane (suc
      (p.number lane));
  done = put p.done lane 0;
  counted = counted_after plan.sizes op outcome p.counted;
}

-- a Wrote of block b, by the request in whose lane it comes
abbrev pub IsWrote : Plan → ℕ → ℕ → Op → Place → Place → Type 0
IsWrote plan lane b (ops.Write e payload) p q = IsProper plan.sizes e payload × IsOpenPhase p.flat.phase
    × (p.done lane < e.count) × (b ≡ e.first + p.done lane) × IsAlone plan p lane b
    × (q ≡ block_done plan lane (Writes b (block_at plan.sizes.block_size payload (p.done lane))) p)
IsWrote plan lane b op p q = ⊥

-- a Got of block b: what stands in the read's buffer for it is what the block may read as
abbrev pub IsGot : Plan → Buffers → ℕ → ℕ → Op → Place → Place → Type 0
IsGot plan buffer lane b (ops.Read e payload) p q = let got = Reads b (block_at plan.sizes.block_size (buffer lane
    (p.number lane)) (p.done lane)) in
    IsInside e plan.sizes × (p.done lane < e.count) × (b ≡ e.first + p.done lane)
    × Allows plan.sizes.blocks got p.flat × (q ≡ block_done plan lane got p)
IsGot plan buffer lane b op p q = ⊥

-- one item, from a place to the next
abbrev pub ItemStep : Plan → Buffers → Item → Place → Place → Type 0
ItemStep plan buffer (Wrote lane n b) p q = (n ≡ p.number lane) × (op : Op) × (plan.request lane n ≡ Some op)
    × IsWrote plan lane b op p q
ItemStep plan buffer (Got lane n b) p q = (n ≡ p.number lane) × (op : Op) × (plan.request lane n ≡ Some op)
    × IsGot plan buffer lane b op p q
ItemStep plan buffer (Answered lane n outcome) p q = (n ≡ p.number lane) × (op : Op) × (plan.request lane n ≡ Some op)
    × (flat : Flat) × Row plan p op outcome (p.done lane) flat × (q ≡ answered plan lane op outcome flat p)

-- these items, in order, lead from the one place to the other
abbrev pub Legal : Plan → Buffers → List Item → Place → Place → Type 0
Legal plan buffer [] p q = q ≡ p
Legal plan buffer (item ∷ items) p q = (mid : Place) × ItemStep plan buffer item p mid × Legal plan buffer items mid q

-- the lane's next request is this
abbrev pub IsNext : Plan → Place → ℕ → Op → Type 0
IsNext plan p lane op = plan.request lane (p.number lane) ≡ Some op

-- What a cut may show beside the state itself: the state after arm, where a prepare is some lane's next request, and
-- the state after decide, where a commit is.
abbrev pub IsMidway : Plan → Place → Flat → Type 0
IsMidway plan p f = (f ≡ p.flat)
    ⊎ (((lane : ℕ) × IsNext plan p lane ops.Prepare × (saved : ℕ → List ℕ) × By plan (Arms saved) p.flat f)
    ⊎ ((lane : ℕ) × IsNext plan p lane ops.Commit × By plan Decides p.flat f))
