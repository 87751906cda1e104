-- The worker's turn, as the code has it.
use Rattle.std.specs.Prelude.{◌≡◌, ℕ, ◌+◌, ◌<◌, ◌≤◌, true, if◌then◌else◌, List, [], length, Some, Result, Ok, Err}
use Rattle.bow_units.specs.declared.sizes.Geometry.{Geometry}
use Rattle.bow_units.specs.declared.sizes.Extent.{Extent}
use Rattle.bow_units.specs.declared.statuses.Kind.{Kind}
use Rattle.bow_units.specs.declared.statuses.Kind.TheVariants as kinds
use Rattle.bow_units.specs.declared.requests.Outcome.TheVariants as outcomes
use Rattle.bow_units.specs.declared.requests.Phase.TheVariants.{Checkpoint}
use Rattle.bow_queue.specs.declared.tickets.Ticket.{Ticket}
use Rattle.bow_copy.specs.Acts.{log_tried}
use Rattle.bow_copy.specs.declared.jobs.After.{After}
use Rattle.bow_copy.specs.declared.jobs.After.TheVariants as afters
use Rattle.bow_copy.specs.declared.jobs.Job.TheVariants as jobs
use Rattle.bow_ranges.specs.Kinds.{kind_at}
use Rattle.bow_machine.specs.Requests.{Request}
use Rattle.bow_machine.specs.Memory.{Memory, Batch, Hand, Empty, Batching}
use Rattle.bow_machine.specs.Calls.{Succeeded}
use Rattle.bow_machine.specs.MemoryIsSound.{MemoryIsSound}
use Rattle.bow_machine.specs.Tasks.{Task, Acts, Answers, head}
use Rattle.bow_machine.specs.Steps.{extent_of, went_on, cleaned, given_up}
use Rattle.bow_queue.specs.Requests.{the_request}
use Rattle.bow_core.specs.declared.tasks.Head.{Head}

-- the batch in hand; where there is none, one that is over
abbrev pub batch_in_hand : Hand → Batch
batch_in_hand (Batching b) = b
batch_in_hand hand = record {
  progress = record { job = jobs.Rewrite; done = 0; failed = true };
  slots = [];
  ticket = record { key = 0; serial = 0 };
}

-- the memory after an act that was done, other than a read: after the last one the log is clean
abbrev pub gone_on : Memory → Batch → After → Memory
gone_on m b afters.Clean = cleaned m
gone_on m b after = record m { hand = Batching (went_on b Succeeded) }

-- the memory after an act that failed: unless writing the log was tried, the picked blocks are free again
abbrev pub let_go : Memory → Batch → Memory
let_go m b = if log_tried b.progress.job (b.progress.done + 1) then record m { hand = Empty } else given_up m
    b.progress.job

-- these blocks of the table were picked, and hold backups
pub record ArePicked (table : List Kind) (e : Extent) : Type 0 where
  pub inside : e.first + e.count ≤ length table
  pub backups : (b : ℕ) → e.first ≤ b → b < e.first + e.count → kind_at table b ≡ kinds.Backup

-- the write that the worker serves in Checkpoint, with nothing in hand: its extent, and how many of its blocks are done
pub record IsServed (g : Geometry) (m : Memory) (served : Head) : Type 0 where
  pub sound : MemoryIsSound g m
  pub empty : m.hand ≡ Empty
  pub phase : m.phase ≡ Checkpoint
  pub is_head : head g m ≡ Some (the_request served.ticket m.requests)
  pub extent : extent_of (the_request served.ticket m.requests).op ≡ served.extent
  pub done : (the_request served.ticket m.requests).done ≡ served.done

-- what the worker's turn does once it has formed a batch for the request, or found no space for it
abbrev pub IsFormed : {T E : Type 0} → Task → Request → Result T E → Memory → Type 0
IsFormed task r (Ok formed) new = task ≡ Acts new
IsFormed task r (Err none) new = task ≡ Answers r (outcomes.NoSpace r.done)

-- a batch is in hand that was formed for the write of this ticket
pub record IsBatching (hand : Hand) (ticket : Ticket) : Type 0 where
  pub held : hand ≡ Batching (batch_in_hand hand)
  pub own : (batch_in_hand hand).ticket ≡ ticket
