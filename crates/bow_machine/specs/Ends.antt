-- That every run ends, and that none is stuck.
use Rattle.std.specs.Prelude.{ℕ, ◌+◌, ◌-◌, ◌*◌, ◌<◌, ◌≤◌, ◌≡◌, ◌≢◌, Bool, true, if◌then◌else◌, []}
use Rattle.std.specs.Prelude.{length}
use Rattle.std.specs.List.{count_by, sum_by}
use Rattle.bow_units.specs.declared.sizes.Geometry.{Geometry}
use Rattle.bow_units.specs.declared.requests.Op.{Op}
use Rattle.bow_units.specs.declared.requests.Op.TheVariants.{Read, Write}
use Rattle.bow_chain.specs.Contents.{Contents}
use Rattle.bow_copy.specs.Acts.{acts}
use Rattle.bow_queue.specs.Requests.{is_command}
use Rattle.bow_ranges.specs.Kinds.{is_free, count_of}
use Rattle.bow_machine.specs.Memory.{Memory, Hand, Empty, Batching, Preparing, Committing, has_command}
use Rattle.bow_machine.specs.Memory.{PrepareAct, ReadsBlock0, WritesCurrent, WritesBackup, FlushesCopies}
use Rattle.bow_machine.specs.Memory.{WritesFirstLog, FlushesFirstLog}
use Rattle.bow_machine.specs.Memory.{CommitAct, FlushesAll, ReadsCurrent, WritesBlock0, FlushesDecision}
use Rattle.bow_machine.specs.Calls.{Reply}
use Rattle.bow_machine.specs.Tasks.{Turn, task_of}
use Rattle.bow_machine.specs.Steps.{call_of, step_of}
use Rattle.bow_machine.specs.Ready.{is_ready}
use Rattle.bow_machine.specs.MemoryIsSound.{MemoryIsSound}
use Rattle.bow_machine.specs.MemoryLaws.{CanHaveIt}

-- how many blocks of a read or a write are left to do
abbrev pub left_of : Op → ℕ → ℕ
left_of (Read e p) done = e.count - done
left_of (Write e p) done = e.count - done
left_of op done = 0

-- how many acts a prepare has left
abbrev pub prepare_left : PrepareAct → ℕ
prepare_left ReadsBlock0 = 6
prepare_left (WritesCurrent v) = 5
prepare_left (WritesBackup v) = 4
prepare_left (FlushesCopies v) = 3
prepare_left WritesFirstLog = 2
prepare_left FlushesFirstLog = 1

-- how many acts a commit has left
abbrev pub commit_left : CommitAct → ℕ
commit_left FlushesAll = 4
commit_left ReadsCurrent = 3
commit_left (WritesBlock0 v) = 2
commit_left FlushesDecision = 1

-- how many acts what is in hand has left; with nothing in hand, a log that is not clean may be written again
abbrev pub acts_left : Hand → Bool → ℕ
acts_left Empty clean = if clean then 0 else 3
acts_left (Batching b) clean = length (acts b.progress.job) - b.progress.done
acts_left (Preparing t c b act) clean = prepare_left act
acts_left (Committing t again act) clean = commit_left act

-- what is left to do
pub record Left : Type 0 where
  -- the requests that wait, 16 at most
  pub requests : ℕ
  -- of these, the commands that are not in hand
  pub commands : ℕ
  -- the free blocks
  pub free : ℕ
  -- the blocks of the reads and writes, 256 at most
  pub blocks : ℕ
  -- the acts of what is in hand, 19 at most
  pub acts : ℕ

-- what is left to do in this memory
abbrev pub left_in : Memory → Left
left_in m = record {
  requests = length m.requests;
  commands = count_by (λ r. is_command r.op) m.requests - (if has_command m.hand then 1 else 0);
  free = count_of is_free m.kinds;
  blocks = sum_by (λ r. left_of r.op r.done) m.requests;
  acts = acts_left m.hand m.clean;
}

-- the five as the digits of one number: of two memories, the first that differs decides
abbrev pub steps_left : Geometry → Memory → ℕ
steps_left g m =
    let left = left_in m in
    (((left.requests * 17 + left.commands) * (g.blocks + 1) + left.free) * 257 + left.blocks) * 20 + left.acts

-- more than that, of any memory of a device of these sizes
abbrev pub most_steps : Geometry → ℕ
most_steps g = 17 * 17 * (g.blocks + 1) * 257 * 20

-- Sound memory has fewer left.
abbrev pub StepsAreFew : Type 0
StepsAreFew = (g : Geometry) (m : Memory) → MemoryIsSound g m → steps_left g m < most_steps g

-- Each step of a turn that is ready leaves fewer, whatever the disk replies.
abbrev pub StepsGoDown : Type 0
StepsGoDown = (g : Geometry) (m : Memory) (turn : Turn) (reply : Reply) (now : Contents) → MemoryIsSound g m
    → CanHaveIt g (call_of g m (task_of g m turn)) reply → is_ready g m turn ≡ true
    → steps_left g (step_of g now m (task_of g m turn) reply).memory < steps_left g m

-- a run of so many steps, each of a turn that is ready, whatever the disk holds and replies
pub record IsRun (g : Geometry) (count : ℕ) (run : ℕ → Memory) (turn : ℕ → Turn) (reply : ℕ → Reply)
    (now : ℕ → Contents) : Type 0 where
  pub begins : MemoryIsSound g (run 0)
  pub ready : (i : ℕ) → i < count → is_ready g (run i) (turn i) ≡ true
  pub can : (i : ℕ) → i < count → CanHaveIt g (call_of g (run i) (task_of g (run i) (turn i))) (reply i)
  pub steps : (i : ℕ) → i < count
      → run (i + 1) ≡ (step_of g (now i) (run i) (task_of g (run i) (turn i)) (reply i)).memory

-- Every run ends: it has no more steps than that.
abbrev pub EveryRunEnds : Type 0
EveryRunEnds = (g : Geometry) (count : ℕ) (run : ℕ → Memory) (turn : ℕ → Turn) (reply : ℕ → Reply) (now : ℕ → Contents)
    → IsRun g count run turn reply now → count ≤ steps_left g (run 0)

-- Where a request waits some turn is ready.
abbrev pub SomeTurnIsReady : Type 0
SomeTurnIsReady = (g : Geometry) (m : Memory) → MemoryIsSound g m → m.requests ≢ []
    → (turn : Turn) × (is_ready g m turn ≡ true)
