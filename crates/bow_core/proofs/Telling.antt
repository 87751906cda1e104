-- What a turn tells that calls the disk, or may.
use Rattle.std.proofs.Common.{ℕ, ◌≡◌, Bool, true, false, List, Option, Some, None}
use Rattle.std.proofs.lemmas.Bool.{false≢true}
use Rattle.bow_units.specs.declared.sizes.Geometry.{Geometry}
use Rattle.bow_units.specs.declared.requests.Outcome.{Outcome}
use Rattle.bow_units.specs.declared.requests.Outcome.TheVariants.{Done, DiskFault}
use Rattle.bow_flat.specs.Flat.{Event}
use Rattle.bow_machine.specs.Requests.{Request, request_of}
use Rattle.bow_machine.specs.Memory.{Memory, Hand, Empty, Batching, Preparing, Committing, ReadsBlock0, WritesCurrent, WritesBackup, FlushesCopies, WritesFirstLog, FlushesFirstLog, FlushesAll, ReadsCurrent, WritesBlock0, FlushesDecision}
use Rattle.bow_machine.specs.Calls.{Reply, Failed, Succeeded, Gave}
use Rattle.bow_queue.specs.declared.tickets.Ticket.{Ticket}
use Rattle.bow_machine.specs.Steps.{Told, Moved, Wrote, Got, Answered, answered_for, act_step, unknown}
use Rattle.bow_machine.specs.Tasks.{Task, Waits, Answers, WritesBlock, ReadsBlock, FlushesFor, DiscardsFor, Acts}
use Rattle.bow_core.specs.Steps.{done_by}

-- the task may call the disk
abbrev pub may_call : Task → Bool
may_call Waits = false
may_call (Answers r outcome) = false
may_call (WritesBlock r b) = true
may_call (ReadsBlock r b) = true
may_call (FlushesFor r) = true
may_call (DiscardsFor r) = false
may_call (Acts acting) = true

-- An act tells that it moved, that a command is done, or of a fault: so it tells what all of these are.
module _ (P : Told → Type 0) (moves : P Moved) (faults : (r : Request) (n : ℕ) → P (Answered r.ticket r.op (DiskFault n))) (ends : (r : Request) → P (Answered r.ticket r.op Done)) where
  answer_tells : (left : Memory) (found : Option Request) (o : Request → Outcome) (happens : Request → List Event) → ((r : Request) → P (Answered r.ticket r.op (o r))) → P (answered_for left found o happens).told
  answer_tells left None o happens each = moves
  answer_tells left (Some r) o happens each = each r

  acts_tell : (g : Geometry) (m : Memory) (hand : Hand) (reply : Reply) → P (act_step g unknown m hand reply).told
  acts_tell g m Empty reply = moves
  acts_tell g m (Batching b) Failed = answer_tells _ (request_of b.ticket m.requests) _ _ (λ r. faults r r.done)
  acts_tell g m (Batching b) Succeeded = moves
  acts_tell g m (Batching b) (Gave v) = moves
  acts_tell g m (Preparing t c b act) Failed = answer_tells _ (request_of t m.requests) _ _ (λ r. faults r 0)
  acts_tell g m (Preparing t c b ReadsBlock0) Succeeded = moves
  acts_tell g m (Preparing t c b ReadsBlock0) (Gave v) = moves
  acts_tell g m (Preparing t c b (WritesCurrent w)) Succeeded = moves
  acts_tell g m (Preparing t c b (WritesCurrent w)) (Gave v) = moves
  acts_tell g m (Preparing t c b (WritesBackup w)) Succeeded = moves
  acts_tell g m (Preparing t c b (WritesBackup w)) (Gave v) = moves
  acts_tell g m (Preparing t c b (FlushesCopies w)) Succeeded = moves
  acts_tell g m (Preparing t c b (FlushesCopies w)) (Gave v) = moves
  acts_tell g m (Preparing t c b WritesFirstLog) Succeeded = moves
  acts_tell g m (Preparing t c b WritesFirstLog) (Gave v) = moves
  acts_tell g m (Preparing t c b FlushesFirstLog) Succeeded = answer_tells _ (request_of t m.requests) _ _ ends
  acts_tell g m (Preparing t c b FlushesFirstLog) (Gave v) = answer_tells _ (request_of t m.requests) _ _ ends
  acts_tell g m (Committing t again act) Failed = answer_tells _ (request_of t m.requests) _ _ (λ r. faults r 0)
  acts_tell g m (Committing t again FlushesAll) Succeeded = moves
  acts_tell g m (Committing t again FlushesAll) (Gave v) = moves
  acts_tell g m (Committing t again ReadsCurrent) Succeeded = moves
  acts_tell g m (Committing t again ReadsCurrent) (Gave v) = moves
  acts_tell g m (Committing t again (WritesBlock0 w)) Succeeded = moves
  acts_tell g m (Committing t again (WritesBlock0 w)) (Gave v) = moves
  acts_tell g m (Committing t again FlushesDecision) Succeeded = answer_tells _ (request_of t m.requests) _ _ ends
  acts_tell g m (Committing t again FlushesDecision) (Gave v) = answer_tells _ (request_of t m.requests) _ _ ends

  -- so does such a task, which may tell besides that it wrote or got a block
  pub calls_tell : (wrote : (t : Ticket) (i : ℕ) → P (Wrote t i)) (got : (t : Ticket) (i : ℕ) → P (Got t i)) (g : Geometry) (m : Memory) (task : Task) (reply : Reply) → may_call task ≡ true → P (done_by g m task reply).told
  calls_tell wrote got g m Waits reply calls = absurd (false≢true calls)
  calls_tell wrote got g m (Answers r o) reply calls = absurd (false≢true calls)
  calls_tell wrote got g m (WritesBlock r b) Failed calls = faults r r.done
  calls_tell wrote got g m (WritesBlock r b) Succeeded calls = wrote r.ticket r.done
  calls_tell wrote got g m (WritesBlock r b) (Gave v) calls = wrote r.ticket r.done
  calls_tell wrote got g m (ReadsBlock r b) Failed calls = faults r r.done
  calls_tell wrote got g m (ReadsBlock r b) Succeeded calls = faults r r.done
  calls_tell wrote got g m (ReadsBlock r b) (Gave v) calls = got r.ticket r.done
  calls_tell wrote got g m (FlushesFor r) Failed calls = faults r 0
  calls_tell wrote got g m (FlushesFor r) Succeeded calls = ends r
  calls_tell wrote got g m (FlushesFor r) (Gave v) calls = ends r
  calls_tell wrote got g m (DiscardsFor r) reply calls = absurd (false≢true calls)
  calls_tell wrote got g m (Acts acting) reply calls = acts_tell g acting acting.hand reply
