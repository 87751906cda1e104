-- What one call, or none, does on a disk.
use Rattle.std.specs.Prelude.{◌≡◌, ◌⊎◌, ℕ, ◌+◌, ◌-◌, ◌^◌, min, max, List, Option, None, Some, Result}
use Rattle.std.specs.Prelude.{Ok, Err}
use Rattle.bow_units.specs.declared.sizes.Geometry.{Geometry}
use Rattle.bow_units.specs.Causes.{Rose}
use Rattle.bow_disk.specs.Disk.{Content, Same, Offered, Written, Flushed, ReadsAs}
use Rattle.bow_machine.specs.Calls.{Call, ReadCall, WriteCall, FlushCall, Reply, Failed, Succeeded, Gave}
pub use Rattle.bow_machine.specs.Calls.{calls_in, Passes}
use Rattle.bow_machine.specs.MemoryLaws.{CanHave}

-- a reply that the one call may have had; where none was made it counts as done
abbrev pub RepliesTo : Geometry → Option Call → Reply → Type 0
RepliesTo g None reply = reply ≡ Succeeded
RepliesTo g (Some call) reply = CanHave g call reply

-- with no call the disk stays as it is
abbrev pub StaysWithout : {D : Type 0} → Option Call → D → D → Type 0
StaysWithout None old new = new ≡ old
StaysWithout (Some call) old new = Unit {0}

-- what a call does to the content of a disk, by its reply: one that it never has is impossible
abbrev pub DoesCall : Call → Reply → Content → Content → Type 0
DoesCall (ReadCall b) (Gave v) c d = Same c d × ReadsAs b v c
DoesCall (ReadCall b) Failed c d = Same c d
DoesCall (ReadCall b) Succeeded c d = ⊥
DoesCall (WriteCall b v) Succeeded c d = Written b v c d
DoesCall (WriteCall b v) Failed c d = Same c d ⊎ (Offered b v c d ⊎ Written b v c d)
DoesCall (WriteCall b v) (Gave w) c d = ⊥
DoesCall FlushCall Succeeded c d = Flushed c d
DoesCall FlushCall Failed c d = Same c d
DoesCall FlushCall (Gave v) c d = ⊥

-- the same of the one call that a step makes, or of none
abbrev pub DoesOne : Option Call → Reply → Content → Content → Type 0
DoesOne None reply c d = Same c d
DoesOne (Some call) reply c d = DoesCall call reply c d

-- a count went on by so many, up to its last value
abbrev pub Counted : ℕ → ℕ → ℕ → Type 0
Counted calls before now = now ≡ max before (min (before + calls) (2 ^ 64 - 1))

-- a call that failed had its cause
abbrev pub HasFault : Option Call → Reply → ℕ → ℕ → Type 0
HasFault (Some call) Failed before now = Rose before now
HasFault call reply before now = Unit {0}

-- what a read replied: with what it put into its buffer
abbrev pub read_reply : {T E : Type 0} → Result T E → List ℕ → Reply
read_reply (Ok done) v = Gave v
read_reply (Err fault) v = Failed

-- what a write or a flush replied
abbrev pub reply_of : {T E : Type 0} → Result T E → Reply
reply_of (Ok done) = Succeeded
reply_of (Err fault) = Failed
