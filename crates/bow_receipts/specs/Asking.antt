-- A history whose requests come one by one.
use Rattle.std.specs.Prelude.{◌≡◌, ℕ, ◌+◌, ◌-◌, ◌^◌, ◌≤◌, List, [], ◌++◌, length, map, filter, replicate, slice_get, Option, Some, ◌==◌}
use Rattle.std.specs.List.{sum_by}
use Rattle.bow_units.specs.declared.sizes.Geometry.{Geometry}
use Rattle.bow_units.specs.declared.requests.Op.{Op}
use Rattle.bow_units.specs.declared.requests.Op.TheVariants as ops
use Rattle.bow_flat.specs.Flat.{Flat}
use Rattle.bow_machine.specs.MemoryIsSound.{IsAdmissible, MemoryIsSound}
use Rattle.bow_history.specs.Complete.{AreInOrder}
use Rattle.bow_history.specs.Histories.{Disk}
use Rattle.bow_history.specs.Journal.{Plan}
use Rattle.bow_history.specs.Legality.{IsReadyFor}
use Rattle.bow_history.specs.Promises.{Core, View, IsSession, TurnGoes, IsPlayed, faults_in, held, loaded, state_of}
use Rattle.bow_history.specs.Sessions.{Turned}
use Rattle.bow_tags.specs.declared.view.Entry.{Entry}
use Rattle.bow_tags.specs.declared.view.Held.{Held}

-- How many callers there are, and what each has asked so far, in order.
pub record Asked : Type 0 where
  pub callers : ℕ
  pub of : ℕ → List Op

-- request n of a caller, of those that were asked
abbrev pub request_of : Asked → ℕ → ℕ → Option Op
request_of asked caller n = slice_get (asked.of caller) n

-- A plan that asks at least this, of devices of these sizes, in one section.
pub record AsksAtLeast (g : Geometry) (asked : Asked) (plan : Plan) : Type 0 where
  pub sizes : plan.sizes ≡ g
  pub callers : plan.lanes ≡ asked.callers
  pub requests : (caller n : ℕ) (op : Op) → request_of asked caller n ≡ Some op → plan.request caller n ≡ Some op
  pub section : (caller n : ℕ) → plan.section caller n ≡ 0

-- the plan that asks this and no more
abbrev pub plan_of : Geometry → Asked → Plan
plan_of g asked = record {
  sizes = g;
  lanes = asked.callers;
  request = request_of asked;
  section = λ caller n. 0;
}

-- an op as an ask: of a read's payload its length alone
abbrev pub blank : Op → Op
blank (ops.Read e payload) = ops.Read e (replicate (length payload) 0)
blank (ops.Write e payload) = ops.Write e payload
blank (ops.Discard e) = ops.Discard e
blank ops.Flush = ops.Flush
blank ops.Prepare = ops.Prepare
blank ops.Commit = ops.Commit

-- a device of this block size takes the op in
abbrev pub FitsSize : ℕ → Op → Type 0
FitsSize size op = IsAdmissible (record { block_size = size; blocks = 0 }) op

module _ {Q : Type 0} where
  -- of these answered calls those of one caller
  abbrev pub given_of : ℕ → List (Entry Op Q) → List (Entry Op Q)
  given_of caller given = filter (λ x. x.lane == caller) given

  -- what each caller asked: what is answered, and then what is in hand
  abbrev pub asked_of : ℕ → List (Entry Op Q) → List (Held Op) → Asked
  asked_of callers given jobs = record {
    callers = callers;
    of = λ caller. map (λ x. x.ask) (given_of caller given) ++ map (λ j. j.ask) (filter (λ j. j.lane == caller) jobs);
  }

-- a session, seen as one of another plan
abbrev pub under : Plan → View → View
under plan v = record v { plan = plan }

-- Whatever is asked later, this is a session of what is asked.
abbrev pub IsHistory : Geometry → Asked → View → Type 0
IsHistory g asked v = (plan : Plan) → AsksAtLeast g asked plan → IsSession (under plan v)

-- the same callers asked all this, and maybe more
pub record AskedMore (asked more : Asked) : Type 0 where
  pub callers : more.callers ≡ asked.callers
  pub kept : (caller n : ℕ) (op : Op) → request_of asked caller n ≡ Some op → request_of more caller n ≡ Some op

-- Over sound memory in which no request waits a history begins, whatever will be asked.
abbrev pub LoadedIsHistory : Type 0
LoadedIsHistory = (g : Geometry) (asked : Asked) (core : Core) → core.sizes ≡ g → core.calls ≤ 2 ^ 64 - 1
    → MemoryIsSound g core.memory → core.memory.requests ≡ [] → IsHistory g asked (loaded (plan_of g asked) core)

-- It goes on by each turn that is one of a session whatever is asked later, also where more was asked just before it.
abbrev pub TurnsKeepHistory : Type 0
TurnsKeepHistory = (g : Geometry) (asked more : Asked) (old : View) (turn : Turned) (new : View)
    → IsHistory g asked old → AskedMore asked more
    → ((plan : Plan) → AsksAtLeast g more plan → TurnGoes (under plan old) turn (under plan new))
    → IsHistory g more new

-- What was done is legal, with what was asked so far as its requests, where the disk told its content at first, from a
-- state for which the device stood then.
abbrev pub HistoriesAreLegal : Type 0
HistoriesAreLegal = (g : Geometry) (asked : Asked) (v : View) (f : Flat) (d : Disk) → IsHistory g asked v
    → v.first.content ≡ Some d → IsReadyFor (plan_of g asked) v.first.memory d f
    → IsPlayed (under (plan_of g asked) v) f

-- Over any disk each caller's requests are done in the order in which it asked them, each answered once.
abbrev pub HistoriesGoInOrder : Type 0
HistoriesGoInOrder = (g : Geometry) (asked : Asked) (v : View) → IsHistory g asked v
    → MemoryIsSound g v.first.memory → v.first.memory.requests ≡ []
    → AreInOrder (λ caller. 0) v.journal (state_of (under (plan_of g asked) v)).number

-- And the disk's count of faults rose by at least the answers that tell one, or stands at its last value.
abbrev pub HistoriesCountFaults : Type 0
HistoriesCountFaults = (g : Geometry) (asked : Asked) (v : View) → IsHistory g asked v
    → held (v.first.faults + sum_by faults_in v.journal) ≤ v.core.faults
