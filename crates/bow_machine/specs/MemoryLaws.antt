-- What is proved of the machine over any disk.
use Rattle.std.specs.Prelude.{ℕ, ◌-◌, ◌<◌, ◌≡◌, ◌↔◌, Bool, true, false, not, List, [], ◌∷◌, ◌++◌, length, Option, Some}
use Rattle.std.specs.Prelude.{None, ◌≢◌}
use Rattle.std.specs.List.{AllByRecursion as Each, list_any}
use Rattle.bow_units.specs.declared.sizes.Extent.{Extent}
use Rattle.bow_units.specs.declared.sizes.Geometry.{Geometry}
use Rattle.bow_units.specs.Sizes.{IsValid}
use Rattle.bow_units.specs.declared.requests.Op.TheVariants.{Prepare}
use Rattle.bow_units.specs.declared.requests.Phase.TheVariants.{Trim, Checkpoint}
use Rattle.bow_units.specs.declared.requests.Outcome.TheVariants as outcomes
use Rattle.bow_log.specs.Generations.{Generation}
use Rattle.bow_chain.specs.Contents.{Contents}
use Rattle.bow_copy.specs.Acts.{next_act}
use Rattle.bow_copy.specs.declared.jobs.Act.TheVariants.{WriteLog}
use Rattle.bow_queue.specs.Requests.{open_writes}
use Rattle.bow_queue.specs.declared.tickets.Ticket.{Ticket}
use Rattle.bow_ranges.specs.Kinds.{kind_at, holds, is_free, count_of}
use Rattle.bow_machine.specs.Requests.{Request, request_of}
use Rattle.bow_machine.specs.Memory.{Memory, Batch, Hand, Empty, Batching, Preparing, Committing, reserved}
use Rattle.bow_machine.specs.Calls.{Call, ReadCall, WriteCall, FlushCall, Reply, Failed, Succeeded, Gave}
use Rattle.bow_machine.specs.Tasks.{Turn, Worker, Command, Task, Waits, Answers, WritesBlock, ReadsBlock, FlushesFor}
use Rattle.bow_machine.specs.Tasks.{DiscardsFor, Acts, task_of, head, first_of}
use Rattle.bow_machine.specs.Steps.{Told, Idle, Answered, log_for, kinds_for, kinds_discarded, call_of, step_of}
use Rattle.bow_machine.specs.Ready.{is_ready, is_idle}
use Rattle.bow_machine.specs.Laws.{opened}
use Rattle.bow_machine.specs.MemoryIsSound.{IsAdmissible, LogIsSound, MemoryIsSound, is_touched}

-- ----------------------------------------------------------------------------------------------------------------
-- The invariant.

-- a reply that a call can have: a read that succeeds gives one block
abbrev pub CanHave : Geometry → Call → Reply → Type 0
CanHave g (ReadCall b) (Gave v) = length v ≡ g.block_size
CanHave g (ReadCall b) Failed = Unit {0}
CanHave g (ReadCall b) Succeeded = ⊥
CanHave g (WriteCall b v) (Gave w) = ⊥
CanHave g (WriteCall b v) reply = Unit {0}
CanHave g FlushCall (Gave w) = ⊥
CanHave g FlushCall reply = Unit {0}

-- the same of the one call that a step makes, or of none
abbrev pub CanHaveIt : Geometry → Option Call → Reply → Type 0
CanHaveIt g None reply = Unit {0}
CanHaveIt g (Some call) reply = CanHave g call reply

-- The memory of a device that was opened is sound.
abbrev pub OpeningIsSound : Type 0
OpeningIsSound = (g : Geometry) → IsValid g → MemoryIsSound g (opened g.blocks)

-- So is it after a request was taken in, of a serial number above those that wait, of which there are fewer than 16.
abbrev pub AdmitKeepsSound : Type 0
AdmitKeepsSound = (g : Geometry) (m : Memory) (r : Request) → IsAdmissible g r.op → r.done ≡ 0
    → Each (λ other. other.ticket.serial < r.ticket.serial) m.requests → length m.requests < 16
    → MemoryIsSound g m → MemoryIsSound g (record m { requests = m.requests ++ r ∷ [] })

-- And after each step of any turn, by any reply that its call can have.
abbrev pub StepKeepsSound : Type 0
StepKeepsSound = (g : Geometry) (m : Memory) (turn : Turn) (reply : Reply) (now : Contents) → MemoryIsSound g m
    → CanHaveIt g (call_of g m (task_of g m turn)) reply
    → MemoryIsSound g (step_of g now m (task_of g m turn) reply).memory

-- What a turn acts on, which it may have formed or taken in hand just now, is sound, and something is in hand.
abbrev pub TakenIsSound : Type 0
TakenIsSound = (g : Geometry) (m taken : Memory) (turn : Turn) → MemoryIsSound g m → task_of g m turn ≡ Acts taken
    → MemoryIsSound g taken × (taken.hand ≢ Empty)

-- The log that a batch writes, with the change that precedes the write, is sound over the kinds of that change.
abbrev pub WrittenLogIsSound : Type 0
WrittenLogIsSound = (g : Geometry) (m : Memory) (b : Batch) (log : Generation) → MemoryIsSound g m
    → m.hand ≡ Batching b → m.log ≡ Some log → next_act b.progress ≡ WriteLog
    → LogIsSound g (kinds_for b.progress.job m.kinds) false m.trimmed 0 (log_for b.progress.job b.slots log)

-- ----------------------------------------------------------------------------------------------------------------
-- Readiness, calls and faults.

-- A turn makes a step exactly where the table says that it is ready.
abbrev pub ReadyIsTable : Type 0
ReadyIsTable = (g : Geometry) (m : Memory) (turn : Turn) → MemoryIsSound g m
    → is_idle (task_of g m turn) ≡ not (is_ready g m turn)

-- A turn that is not ready makes no call and changes nothing.
abbrev pub IdleChangesNothing : Type 0
IdleChangesNothing = (g : Geometry) (m : Memory) (turn : Turn) (reply : Reply) (now : Contents) → MemoryIsSound g m
    → is_ready g m turn ≡ false
    → (call_of g m (task_of g m turn) ≡ None)
    × (step_of g now m (task_of g m turn) reply ≡ record { memory = m; told = Idle; events = [] })

-- a call is of a block on the device, and writes one block's length
abbrev pub IsOnDevice : Geometry → Option Call → Type 0
IsOnDevice g None = Unit {0}
IsOnDevice g (Some (ReadCall b)) = b < g.blocks
IsOnDevice g (Some (WriteCall b v)) = (b < g.blocks) × (length v ≡ g.block_size)
IsOnDevice g (Some FlushCall) = Unit {0}

-- Each call is so.
abbrev pub CallsAreOnDevice : Type 0
CallsAreOnDevice = (g : Geometry) (m : Memory) (turn : Turn) → MemoryIsSound g m
    → IsOnDevice g (call_of g m (task_of g m turn))

-- the request for which something is in hand
abbrev pub ticket_of_hand : Hand → Option Ticket
ticket_of_hand Empty = None
ticket_of_hand (Batching b) = Some b.ticket
ticket_of_hand (Preparing t c b act) = Some t
ticket_of_hand (Committing t again act) = Some t

-- the request for which a task makes its call
abbrev pub served_by : Task → Option Ticket
served_by Waits = None
served_by (Answers r outcome) = None
served_by (WritesBlock r b) = Some r.ticket
served_by (ReadsBlock r b) = Some r.ticket
served_by (FlushesFor r) = Some r.ticket
served_by (DiscardsFor r) = None
served_by (Acts taken) = ticket_of_hand taken.hand

-- a step tells of a disk fault
abbrev pub tells_fault : Told → Bool
tells_fault (Answered t op (outcomes.DiskFault done)) = true
tells_fault told = false

-- the request for which a call was made is answered with a fault
pub record IsFaulted (requests : List Request) (served : Option Ticket) (told : Told) : Type 0 where
  pub request : Request
  pub waits : request_of request.ticket requests ≡ Some request
  pub for_it : served ≡ Some request.ticket
  pub answered : told ≡ Answered request.ticket request.op (outcomes.DiskFault request.done)

-- what a step tells, by its call and the reply: a fault exactly where the call failed
abbrev pub FaultIsTold : List Request → Option Ticket → Option Call → Reply → Told → Type 0
FaultIsTold requests served (Some call) Failed told = IsFaulted requests served told
FaultIsTold requests served call reply told = tells_fault told ≡ false

-- A step whose call failed answers the request for which it was made with a fault, and no other step tells of one.
abbrev pub FaultsAreTold : Type 0
FaultsAreTold = (g : Geometry) (m : Memory) (turn : Turn) (reply : Reply) (now : Contents) → MemoryIsSound g m
    → CanHaveIt g (call_of g m (task_of g m turn)) reply
    → FaultIsTold m.requests (served_by (task_of g m turn))
    (call_of g m (task_of g m turn)) reply (step_of g now m (task_of g m turn) reply).told

-- ----------------------------------------------------------------------------------------------------------------
-- Room.

-- With a log in memory, how many blocks are free follows from how many were at the prepare.
abbrev pub RoomIsExact : Type 0
RoomIsExact = (g : Geometry) (m : Memory) (log : Generation) → MemoryIsSound g m → m.log ≡ Some log
    → count_of is_free m.kinds ≡ m.trimmed - 2 - log.sequence - count_of is_touched m.kinds - (reserved m.hand).count

-- the worker has nothing in hand in Checkpoint, this request is its head, its log is clean, and no block is free
pub record HasNoBlock (g : Geometry) (m : Memory) (r : Request) : Type 0 where
  pub phase : m.phase ≡ Checkpoint
  pub hand : m.hand ≡ Empty
  pub is_head : head g m ≡ Some r
  pub clean : m.clean ≡ true
  pub none : count_of is_free m.kinds ≡ 0

-- The worker finds no space for a request exactly so.
abbrev pub NoSpaceIsExact : Type 0
NoSpaceIsExact = (g : Geometry) (m : Memory) (r : Request) → MemoryIsSound g m
    → (task_of g m Worker ≡ Answers r (outcomes.NoSpace r.done)) ↔ HasNoBlock g m r

-- nothing is in hand in Trim, this prepare is the first command, and fewer than two blocks are free
pub record HasNoTwo (m : Memory) (r : Request) : Type 0 where
  pub phase : m.phase ≡ Trim
  pub hand : m.hand ≡ Empty
  pub is_first : first_of m.requests ≡ Some r
  pub is_prepare : r.op ≡ Prepare
  pub few : count_of is_free m.kinds < 2

-- A prepare finds no space exactly so.
abbrev pub PrepareSpaceIsExact : Type 0
PrepareSpaceIsExact = (g : Geometry) (m : Memory) (r : Request) → MemoryIsSound g m
    → (task_of g m Command ≡ Answers r (outcomes.NoSpace 0)) ↔ HasNoTwo m r

-- ----------------------------------------------------------------------------------------------------------------
-- Discards.

-- A discard in Checkpoint leaves each block that a waiting write covers as it is: none of them is given back.
abbrev pub CoveredStays : Type 0
CoveredStays = (g : Geometry) (m : Memory) (e : Extent) (b : ℕ) → MemoryIsSound g m → b < g.blocks
    → list_any (λ write. holds write b) (open_writes g.blocks m.requests) ≡ true
    → kind_at (kinds_discarded g m e Checkpoint) b ≡ kind_at m.kinds b
