-- What lies under the lock, and when it is the history of its callers.
use Rattle.std.specs.Prelude.{◌≡◌, ℕ, ◌+◌, ◌*◌, ◌-◌, ◌^◌, ◌<◌, ◌≤◌, List, [], ◌∷◌, length, map, slice_get, take, Option, Some, filter, ◌==◌, vec_capacity}
use Rattle.bow_units.specs.declared.requests.Op.{Op}
use Rattle.bow_units.specs.declared.sizes.Geometry.{Geometry}
use Rattle.bow_disk.specs.Disk.{Content}
use Rattle.bow_core.specs.Views.{View}
use Rattle.bow_machine.specs.MemoryIsSound.{MemoryIsSound}
use Rattle.bow_history.specs.Cuts.{NoneFails}
use Rattle.bow_history.specs.DiskCuts.{disk_of, HasCuts}
use Rattle.bow_history.specs.Ends.{over_lanes}
use Rattle.bow_history.specs.Journal.{Plan}
use Rattle.bow_history.specs.Promises.{IsSession, state_of}
use Rattle.bow_history.specs.Promises as promised
use Rattle.bow_history.specs.Sessions.{Turned}
use Rattle.bow_history.specs.declared.items.Item.{Item}
use Rattle.bow_session.specs.Leads.{StaysBelow}
use Rattle.bow_session.specs.Runs.{begun_over, core_of}
use Rattle.bow_tags.specs.declared.view.Entry.{Entry}
use Rattle.bow_tags.specs.declared.view.Held.{Held}
use Rattle.bow_tags.specs.declared.view.View.{View as SeatView}
use Rattle.bow_tags.specs.Seats.{lanes_of}
use Rattle.bow_tags.specs.Steps.{GivenBelow}
use Rattle.atomic_table.specs.Seated.{TableId}
use Rattle.bow_receipts.specs.declared.asks.Answer.{Answer}
use Rattle.bow_receipts.specs.declared.asks.Call.{Call}
use Rattle.bow_receipts.specs.declared.hands.Hand.{Hand}
use Rattle.bow_receipts.specs.declared.service.Service.{Service}
use Rattle.bow_receipts.specs.Asking.{Asked, AsksAtLeast, FitsSize, asked_of, blank, given_of, request_of}
use Rattle.bow_receipts.specs.Calls.{AreCalls}
use Rattle.bow_receipts.specs.Copies.{blocks_read}
use Rattle.bow_receipts.specs.Hands.{IsInHand, hand_at, tickets_of}

-- a call, as the tags have it
abbrev pub entry_of : Call → Entry Op Answer
entry_of c = record { lane = c.lane; number = c.number; ask = blank c.op; answer = c.answer }

-- the jobs of one caller
abbrev pub held_of : ℕ → List (Held Op) → List (Held Op)
held_of lane jobs = filter (λ j. j.lane == lane) jobs

-- how many requests of a caller are answered
abbrev pub answered_of : List (Entry Op Answer) → ℕ → ℕ
answered_of given lane = length (given_of lane given)

-- how many it has asked
abbrev pub count_of : Asked → ℕ → ℕ
count_of asked lane = length (asked.of lane)

-- the bytes are the first ones of a buffer
abbrev pub IsFrontOf : List ℕ → List ℕ → Type 0
IsFrontOf bytes buffer = take (length bytes) buffer ≡ bytes

-- each answer has as many bytes as the blocks that were read have, which are none but of a read
abbrev pub HaveBlocksRead : ℕ → List (Entry Op Answer) → Type 0
HaveBlocksRead size given = (i : ℕ) (x : Entry Op Answer) → slice_get given i ≡ Some x
    → length x.answer.bytes ≡ blocks_read x.ask x.answer.outcome * size

-- the device and what was done, as the theory of histories has it, under a plan
abbrev pub view_under : {D : Type 0} → (D → Option Content) → (D → ℕ) → View D → View D → List Turned → List Item
    → List ℕ → Plan → promised.View
view_under content faults first core turns journal moments plan = record {
  plan = plan;
  core = core_of content faults core;
  first = core_of content faults first;
  turns = turns;
  journal = journal;
  moments = moments;
}

-- What was answered and what is in hand are what the session keeps, which is one of the theory.
pub record IsSeated (v : promised.View) (given : List (Entry Op Answer)) (hands : List (Option Hand)) : Type 0 where
  pub session : IsSession v
  pub tickets : (lane : ℕ) → (state_of v).hand lane ≡ tickets_of hands lane
  pub number : (lane : ℕ) → (state_of v).number lane ≡ answered_of given lane
  pub bytes : (i : ℕ) (x : Entry Op Answer) → slice_get given i ≡ Some x
      → IsFrontOf x.answer.bytes ((state_of v).kept x.lane x.number)

-- What holds since the opening over this device: whatever is asked later, the turns are those of a session; what a cut
-- might have left is of that run; and no call failed where the count of faults did not rise.
pub record IsServed {D : Type 0} (content : D → Option Content) (moment : D → ℕ) (left : D → ℕ → List (List ℕ)
    → Type 0) (faults : D → ℕ) (g : Geometry) (lanes : ℕ) (first core : View D) (given : List (Entry Op Answer))
    (jobs : List (Held Op)) (hands : List (Option Hand)) (journal : List Item) : Type 0 where
  pub turns : List Turned
  pub moments : List ℕ
  pub seated : (plan : Plan) → AsksAtLeast g (asked_of lanes given jobs) plan
      → IsSeated (view_under content faults first core turns journal moments plan) given hands
  pub cuts : (plan : Plan) → AsksAtLeast g (asked_of lanes given jobs) plan → (c : Content)
      → content first.disk ≡ Some c
      → HasCuts content moment left first.disk core.disk plan (begun_over first) turns (disk_of c)
  pub fine : (plan : Plan) → AsksAtLeast g (asked_of lanes given jobs) plan
      → StaysBelow (faults first.disk) (faults core.disk) → NoneFails plan (begun_over first) turns

-- The device at the opening: sound memory in which no request waits.
pub record IsBegun {D : Type 0} (g : Geometry) (first : View D) : Type 0 where
  pub sizes : first.geometry ≡ g
  pub sound : MemoryIsSound g first.memory
  pub idle : first.memory.requests ≡ []
  pub early : first.calls ≤ 2 ^ 64 - 1
  pub serials : first.admitted < 2 ^ 63

-- What is asked and answered, by the seat of the server: each caller's answers stand in its order, each once, its job
-- is that of the request in hand; each ask fits; each answer has the blocks that were read; and the calls are those of
-- the journal.
pub record IsKept (g : Geometry) (lanes : ℕ) (allowed : ℕ → ℕ) (seat : SeatView Op Answer)
    (hands : List (Option Hand)) (journal : List Item) (calls : List Call) : Type 0 where
  pub seats : length hands ≡ lanes
  pub speaks : seat.speaks ≡ 0 ∷ []
  pub servers : seat.servers ≡ 1
  pub size : seat.size ≡ g.block_size
  pub in_hand : (lane : ℕ) → IsInHand lane (answered_of seat.given lane) (hand_at hands lane) (held_of lane seat.jobs)
  pub once : (lane : ℕ) → GivenBelow seat lane (answered_of seat.given lane)
  pub numbers : (lane n : ℕ) (x : Entry Op Answer) → slice_get (given_of lane seat.given) n ≡ Some x → x.number ≡ n
  pub fit : (lane n : ℕ) (op : Op) → request_of (asked_of lanes seat.given seat.jobs) lane n ≡ Some op
      → FitsSize g.block_size op
  pub within : (lane : ℕ) → count_of (asked_of lanes seat.given seat.jobs) lane ≤ allowed lane
  pub blocks : HaveBlocksRead g.block_size seat.given
  pub entries : seat.given ≡ map entry_of calls
  pub of_journal : AreCalls journal seat.given
  pub count : length seat.given ≡ over_lanes (answered_of seat.given) lanes

-- What lies under the lock is the history of its callers since the opening.
pub record Serves {D R : Type 0} (stated : D → Option Geometry) (content : D → Option Content) (moment : D → ℕ)
    (left : D → ℕ → List (List ℕ) → Type 0) (faults : D → ℕ) (g : Geometry) (lanes : ℕ) (allowed : ℕ → ℕ)
    (table : TableId) (begins : View D → Type 0) (s : Service D R) : Type 0 where
  pub first : View D
  pub is : begins first
  pub begun : IsBegun g first
  pub sizes : s.core.geometry ≡ g
  pub stated_is : stated s.core.disk ≡ Some g
  pub places : s.core.places ≡ 16
  pub table_is : s.server.table ≡ table
  pub lanes_are : lanes_of table ≡ lanes
  pub few : lanes ≤ 16
  pub kept : IsKept g lanes allowed s.server.view s.hands.items s.journal.items s.calls.items
  pub served : IsServed content moment left faults g lanes first s.core s.server.view.given s.server.view.jobs
      s.hands.items s.journal.items
  pub later : faults first.disk ≤ faults s.core.disk
  pub admitted : s.core.admitted
      ≡ first.admitted + over_lanes (count_of (asked_of lanes s.server.view.given s.server.view.jobs)) lanes
  pub total : over_lanes allowed lanes ≤ 65536
  pub journal_room : 17 * over_lanes allowed lanes ≤ vec_capacity s.journal
  pub calls_room : over_lanes allowed lanes ≤ vec_capacity s.calls
