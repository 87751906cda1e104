-- The calls on the disk, and what each does to what the disk holds and to what a cut may leave.
use Rattle.std.specs.Prelude.{ℕ, zero, suc, ◌≡◌, List, Option, Some, None, Contains}
use Rattle.bow_units.specs.declared.sizes.Geometry.{Geometry}
use Rattle.bow_disk.specs.Disk.{Content, TimeGoes}
use Rattle.bow_chain.specs.Contents.{Contents}
use Rattle.bow_guard.specs.Cuts.{Candidates, IsFlushed, WriteGiven}

-- a call on the disk: a read of a block, a write of this content to a block, or a flush
pub data Call : Type 0 where
  ReadCall : ℕ → Call
  WriteCall : ℕ → List ℕ → Call
  FlushCall : Call

-- what the disk answers: a read that succeeds gives the block's content
pub data Reply : Type 0 where
  Failed Succeeded : Reply
  Gave : List ℕ → Reply

-- a write was tried: the block holds one of its candidates
pub record WriteTried (block : ℕ) (content : List ℕ) (now new_now : Contents) (may new_may : Candidates) : Type 0 where
  pub given : WriteGiven block content now new_now may new_may
  pub held : Contains (new_may block) (new_now block)

-- what a call does, by the disk's reply: a reply that the call never has is impossible
abbrev pub Does : Geometry → Call → Reply → Contents → Candidates → Contents → Candidates → Type 0
Does g (ReadCall b) (Gave v) now may new_now new_may = (v ≡ now b) × (new_now ≡ now) × (new_may ≡ may)
Does g (ReadCall b) Failed now may new_now new_may = (new_now ≡ now) × (new_may ≡ may)
Does g (ReadCall b) Succeeded now may new_now new_may = ⊥
Does g (WriteCall b v) Succeeded now may new_now new_may = WriteTried b v now new_now may new_may × (new_now b ≡ v)
Does g (WriteCall b v) Failed now may new_now new_may = WriteTried b v now new_now may new_may
Does g (WriteCall b v) (Gave w) now may new_now new_may = ⊥
Does g FlushCall Succeeded now may new_now new_may = (new_now ≡ now) × IsFlushed g now new_may
Does g FlushCall Failed now may new_now new_may = (new_now ≡ now) × (new_may ≡ may)
Does g FlushCall (Gave v) now may new_now new_may = ⊥

-- the same of the one call that a step makes, or of none
abbrev pub DoesIt : Geometry → Option Call → Reply → Contents → Candidates → Contents → Candidates → Type 0
DoesIt g None reply now may new_now new_may = (new_now ≡ now) × (new_may ≡ may)
DoesIt g (Some call) reply now may new_now new_may = Does g call reply now may new_now new_may

-- ----------------------------------------------------------------------------------------------------------------
-- How many calls pass.

-- a call counts as one
abbrev pub calls_in : Option Call → ℕ
calls_in None = 0
calls_in (Some call) = 1

-- so many calls passed on a disk's clock and on its cuts: none, or one
abbrev pub Passes : ℕ → Option Content → ℕ → ℕ → (ℕ → List (List ℕ) → Type 0) → (ℕ → List (List ℕ) → Type 0) → Type 0
Passes zero content before now past since = (now ≡ before) × ((t : ℕ) (c : List (List ℕ)) → since t c → past t c)
Passes (suc n) content before now past since = TimeGoes content before now past since
