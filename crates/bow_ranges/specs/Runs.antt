-- The runs of a `RangeList`.
use Rattle.std.specs.Prelude.{◌≡◌, ◌≢◌, ℕ, ◌-◌, ◌<◌, ◌≤◌, nat_lt, if◌then◌else◌, List, [], ◌∷◌, ◌++◌, length, take, drop, replicate, Option, Some, None}
use Rattle.bow_units.specs.declared.sizes.Extent.{Extent}
use Rattle.bow_units.specs.declared.statuses.Kind.{Kind}
use Rattle.bow_ranges.specs.Kinds.{is_free}
use Rattle.bow_ranges.specs.declared.runs.Run.{Run}

-- the kinds of the blocks from `at` on, as the runs give them
abbrev pub spread : ℕ → List Run → List Kind
spread at [] = []
spread at (run ∷ runs) = replicate (run.end - at) run.kind ++ spread run.end runs

-- where the runs end
abbrev pub end_of : ℕ → List Run → ℕ
end_of at [] = at
end_of at (run ∷ runs) = end_of run.end runs

-- the kind of the last run
abbrev pub kind_of : Option Kind → List Run → Option Kind
kind_of before [] = before
kind_of before (run ∷ runs) = kind_of (Some run.kind) runs

-- the first run ends above `at`
abbrev pub IsAbove : ℕ → List Run → Type 0
IsAbove at [] = Unit {0}
IsAbove at (run ∷ runs) = at < run.end

-- none is empty, and no two neighbours have one kind: the first begins at `at`, after a run of the kind `before`
abbrev pub IsNormal : ℕ → Option Kind → List Run → Type 0
IsNormal at before [] = Unit {0}
IsNormal at before (run ∷ runs) = (at < run.end) × (before ≢ Some run.kind) × IsNormal run.end (Some run.kind) runs

-- the first run has this kind
abbrev pub BeginsWith : Kind → List Run → Type 0
BeginsWith kind [] = ⊥
BeginsWith kind (run ∷ runs) = run.kind ≡ kind

-- the first `low` runs are those that end at or before `at`
pub record IsCut (runs : List Run) (at low : ℕ) : Type 0 where
  pub within : low ≤ length runs
  pub ends : end_of 0 (take low runs) ≤ at
  pub above : IsAbove at (drop low runs)

-- the runs from `start` on: a first one of this kind that ends at `end` or above, then the rest
pub record IsTail (start end : ℕ) (kind : Kind) (rest tail : List Run) : Type 0 where
  pub normal : (at : ℕ) (before : Option Kind) → at ≤ start → before ≢ Some kind → IsNormal at before tail
  pub spreads : (at : ℕ) → at ≤ start → spread at tail ≡ replicate (end - at) kind ++ spread end rest
  pub ends : (at : ℕ) → end_of at tail ≡ end_of end rest

-- the runs before `start`, which a run of this kind may follow: those of `old`, then one of the kind `left`
pub record IsHead (start : ℕ) (kind left : Kind) (old head : List Run) : Type 0 where
  pub normal : IsNormal 0 None head
  pub last : kind_of None head ≢ Some kind
  pub ends : end_of 0 head ≤ start
  pub spreads : spread 0 head ++ replicate (start - end_of 0 head) kind
      ≡ spread 0 old ++ replicate (start - end_of 0 old) left

-- the runs are `old` with this kind from `start` to before `end`
pub record IsPut (old : List Run) (start end : ℕ) (kind : Kind) (new : List Run) : Type 0 where
  pub normal : IsNormal 0 None new
  pub ends : end_of 0 new ≡ end_of 0 old
  pub spreads : spread 0 new ≡ take start (spread 0 old) ++ replicate (end - start) kind ++ drop end (spread 0 old)

-- the runs of a table: 1 to 1,048,576 blocks, and room for as many runs
pub record IsKept (runs : List Run) (room : ℕ) : Type 0 where
  pub normal : IsNormal 0 None runs
  pub some : 0 < end_of 0 runs
  pub few : end_of 0 runs ≤ 1048576
  pub fits : end_of 0 runs ≤ room

-- the runs of free blocks among these runs, the first of which begins at `at`
abbrev pub free_parts : ℕ → List Run → List Extent
free_parts at [] = []
free_parts at (run ∷ runs) =
    if is_free run.kind then record { first = at; count = run.end - at } ∷ free_parts run.end runs
    else free_parts run.end runs

-- the longer of the longest run so far, if any, and the next one; the first at a tie
abbrev pub longer_of : Option Extent → Extent → Extent
longer_of None next = next
longer_of (Some best) next = if nat_lt best.count next.count then next else best
