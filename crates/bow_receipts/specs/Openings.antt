-- Callers before their first calls.
use Rattle.std.specs.Prelude.{◌≡◌, ℕ, ◌<◌, ◌≤◌, List, [], length, slice_index_or, sum, Bool, true, false}
use Rattle.atomic_table.specs.Seated.{TableId}
use Rattle.bow_units.specs.declared.requests.Op.{Op}
use Rattle.bow_tags.specs.Seats.{Sitting, Numbered, IsFirstLane, IsFirstServer, lanes_of}
use Rattle.bow_receipts.specs.declared.asks.Answer.{Answer}
use Rattle.bow_receipts.specs.Passes.{Caller}

-- Callers: the table of their tags, the size of the blocks of which they may ask, and how many calls each may make.
pub record Seated : Type 0 where
  pub table : TableId
  pub size : ℕ
  pub calls : List ℕ

-- how many calls a caller may make
abbrev pub may_of : List ℕ → ℕ → ℕ
may_of calls lane = slice_index_or calls lane 0

-- There are 1 to 16 callers with at most 65,536 calls; each has its seat, and one seat serves them.
pub record AreCallers (table : TableId) (size : ℕ) (lanes servers : List (Sitting Op Answer))
    (calls : List ℕ) : Type 0 where
  pub some : 0 < length calls
  pub few : length calls ≤ 16
  pub total : sum calls ≤ 65536
  pub lanes_are : lanes_of table ≡ length calls
  pub many : length lanes ≡ length calls
  pub each : Numbered (IsFirstLane table 1 size) lanes
  pub one : length servers ≡ 1
  pub serves : Numbered (IsFirstServer table 1 size) servers

-- as many calls as it may make, or none yet
abbrev pub all_or_none : Bool → ℕ → ℕ
all_or_none true n = n
all_or_none false n = 0

abbrev pub opened : Bool → (ℕ → ℕ) → ℕ → ℕ
opened full allowed lane = all_or_none full (allowed lane)

-- the pass of caller i before its first call
abbrev pub IsNewPass : (ℕ → ℕ) → ℕ → Caller → Type 0
IsNewPass allowed i p = p ≡ record { lane = i; made = 0; may = allowed i; got = [] }
