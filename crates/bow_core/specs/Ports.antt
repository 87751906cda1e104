-- A call on a disk that is counted, in all that it tells.
use Rattle.std.specs.Prelude.{◌≡◌, ℕ, ◌≤◌, List, Option, Some}
use Rattle.bow_units.specs.declared.sizes.Geometry.{Geometry}
use Rattle.bow_disk.specs.Disk.{Content, Goes}
use Rattle.bow_machine.specs.Calls.{Call, Reply}
use Rattle.bow_core.specs.Calls.{RepliesTo, StaysWithout, DoesOne, calls_in, Counted, Passes, HasFault}

-- From one disk to another, with how many calls were counted before and after: by this call, or none, and this reply
-- of it. The disk changed by that call alone, its clock and the count went on by it, and a failure came with a fault
-- of the disk.
pub record Makes {D : Type 0} (stated : D → Option Geometry) (content : D → Option Content) (moment : D → ℕ)
    (left : D → ℕ → List (List ℕ) → Type 0) (faults : D → ℕ) (g : Geometry) (call : Option Call) (reply : Reply)
    (old new : D) (before now : ℕ) : Type 0 where
  pub may : RepliesTo g call reply
  pub disk : Goes (DoesOne call reply) (content old) (content new)
  pub time : Passes (calls_in call) (content new) (moment old) (moment new) (left old) (left new)
  pub counted : Counted (calls_in call) before now
  pub sizes : stated new ≡ Some g
  pub later : faults old ≤ faults new
  pub cause : HasFault call reply (faults old) (faults new)
  pub stays : StaysWithout call old new
