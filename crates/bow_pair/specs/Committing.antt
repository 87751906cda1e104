-- One device of several: its flush before the decision, and its commit after it.
use Rattle.std.specs.Prelude.{◌≡◌, ℕ, ◌+◌, ◌<◌, ◌≤◌, ◌^◌, Bool, true, false, [], ◌∷◌, Option, None, Some}
use Rattle.bow_units.specs.declared.sizes.Geometry.{Geometry}
use Rattle.bow_units.specs.declared.requests.Op.TheVariants.{Commit}
use Rattle.bow_units.specs.declared.requests.Outcome.TheVariants.{Done}
use Rattle.bow_units.specs.declared.requests.Phase.TheVariants.{Checkpoint}
use Rattle.bow_queue.specs.declared.tickets.Ticket.{Ticket}
use Rattle.bow_disk.specs.Disk.{Content}
use Rattle.bow_chain.specs.Contents.{contents_of}
use Rattle.bow_flat.specs.Flat.{Flat}
use Rattle.bow_guard.specs.Standing.{Shows}
use Rattle.bow_machine.specs.Ends.{commit_left}
use Rattle.bow_machine.specs.Memory.{Hand, Empty, Committing, Memory}
use Rattle.bow_machine.specs.Requests.{Request}
use Rattle.bow_machine.specs.Steps.{Told, Answered}
use Rattle.bow_core.specs.Forward.{CrashesAre, IsForward}
use Rattle.bow_core.specs.Standing.{StandsIn}
use Rattle.bow_core.specs.Views.{IsOpened, View}

-- An opened device at rest in the checkpoint: no request waits, and so many more can be taken in.
pub record IsAtRest {D : Type 0} (stated : D → Option Geometry) (more : ℕ) (v : View D) : Type 0 where
  pub opened : IsOpened stated v
  pub checkpoint : v.memory.phase ≡ Checkpoint
  pub idle : v.memory.requests ≡ []
  pub places : 1 ≤ v.places
  pub serials : v.admitted + more < 2 ^ 64

-- The device was flushed and nothing was done on it since: it stands for the state, and goes forward to its current
-- contents.
pub record IsFlushedFor {D : Type 0} (content : D → Option Content) (v : View D) (f : Flat) : Type 0 where
  pub stands : StandsIn content v f
  pub forward : IsForward content v f

-- each crash image has the state's current contents
abbrev pub AreCurrent : {D : Type 0} → (D → Option Content) → View D → Flat → Type 0
AreCurrent content v f = CrashesAre (λ image. Shows v.geometry f.current (contents_of image)) (content v.disk)

-- what a step's telling is for the one request that waits: none while it goes on, and else whether it was done
abbrev pub answer_in : Told → Option Bool
answer_in (Answered ticket op Done) = Some true
answer_in (Answered ticket op outcome) = Some false
answer_in told = None

-- so many acts of a commit are left, where this is in hand
abbrev pub HandAt : ℕ → Ticket → Hand → Type 0
HandAt left ticket Empty = left ≡ 4
HandAt left ticket (Committing other again act) = (other ≡ ticket) × (left ≡ commit_left act)
HandAt left ticket hand = ⊥

-- A commit waits alone, and so many of its acts are left.
pub record CommitsIn (left : ℕ) (m : Memory) : Type 0 where
  pub request : Request
  pub waits : m.requests ≡ request ∷ []
  pub asks : request.op ≡ Commit
  pub hand : HandAt left request.ticket m.hand
  pub checkpoint : left ≡ 4 → m.phase ≡ Checkpoint
