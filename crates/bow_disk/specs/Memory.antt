-- A disk in memory: what it keeps, what each call makes of that, and what it says of every moment since it was made.
use Rattle.std.specs.Prelude.{◌≡◌, ◌==◌, ℕ, ◌+◌, ◌-◌, ◌^◌, ◌<◌, ◌≤◌, min, Bool, false, nat_le, nat_lt, if◌then◌else◌, List, [], ◌∷◌, ◌++◌, length, map, fold, slice_set, Option, None, Some}
use Rattle.std.specs.Option.{ForSome}
use Rattle.std.specs.List.{All}
use Rattle.bow_units.specs.Blocks.{IsBlock}
use Rattle.bow_units.specs.declared.sizes.Geometry.{Geometry}
use Rattle.bow_disk.specs.declared.failing.FailMode.{FailMode}
use Rattle.bow_disk.specs.declared.failing.FailMode.TheVariants.{Lost, Kept}
use Rattle.bow_disk.specs.Disk.{Content, IsCrash, offered}

-- a write that had its effect: the number of its call, and of the first later flush that succeeded
pub record Change : Type 0 where
  pub call : ℕ
  pub block : ℕ
  pub value : List ℕ
  pub flushed : Option ℕ

-- what a disk in memory keeps
pub record State : Type 0 where
  pub geometry : Geometry
  -- the image that it was made of, and each write since that had its effect, in order
  pub first : List (List ℕ)
  pub writes : List Change
  -- how many reads, writes and flushes were made, and how many writes with an effect it has room for
  pub calls : ℕ
  pub room : ℕ
  -- the calls listed to fail, in order of listing, the last call that may succeed, and how many calls have failed
  pub failing : List (ℕ × FailMode)
  pub stop : ℕ
  pub faults : ℕ
  -- how many of the next questions for the sizes fail
  pub sizeless : ℕ

-- whether a change was flushed by the end of call k
abbrev pub is_flushed_by : ℕ → Option ℕ → Bool
is_flushed_by k None = false
is_flushed_by k (Some f) = nat_le f k

-- the image after all changes
abbrev pub latest : List (List ℕ) → List Change → List (List ℕ)
latest image [] = image
latest image (w ∷ ws) = latest (slice_set image w.block w.value) ws

-- each block of the image as its one candidate
abbrev pub alone : List (List ℕ) → List (List (List ℕ))
alone image = map (λ x. x ∷ []) image

-- what a change made of the candidates that the end of call k left
abbrev pub change_at : ℕ → List (List (List ℕ)) → Change → List (List (List ℕ))
change_at k cs w =
    if nat_le w.call k then (if is_flushed_by k w.flushed then slice_set cs w.block (w.value ∷ [])
    else offered cs w.block w.value) else cs

-- the candidates that the end of call k left
abbrev pub candidates_at : ℕ → List (List (List ℕ)) → List Change → List (List (List ℕ))
candidates_at k cs [] = cs
candidates_at k cs (w ∷ ws) = candidates_at k (change_at k cs w) ws

-- what it holds, and what a cut may leave of each block
abbrev pub content : State → Content
content s = record { now = latest s.first s.writes; candidates = candidates_at s.calls (alone s.first) s.writes }

-- what a cut between the end of call t and the end of the last call might have left
abbrev pub LeftSince : State → ℕ → List (List ℕ) → Type 0
LeftSince s t image = (k : ℕ) × (t ≤ k) × (k ≤ s.calls) × IsCrash (candidates_at k (alone s.first) s.writes) image

-- a change made by the end of call k, of a block of so many, to so many bytes
pub record IsPast (k blocks size : ℕ) (w : Change) : Type 0 where
  pub call : w.call ≤ k
  pub block : w.block < blocks
  pub flushed : ForSome w.flushed (λ f. f ≤ k)
  pub value : IsBlock size w.value

-- the parts fit together
pub record IsFit (s : State) : Type 0 where
  pub blocks : length s.first ≡ s.geometry.blocks
  pub sized : All (IsBlock s.geometry.block_size) s.first
  pub past : All (IsPast s.calls s.geometry.blocks s.geometry.block_size) s.writes
  pub calls : s.calls < 2 ^ 64
  pub stop : s.stop < 2 ^ 64
  pub faults : s.faults < 2 ^ 64

-- a disk in memory, as contracts see it
pub record Memory : Type 0 where
  pub state : State
  pub fit : IsFit state

-- a disk in memory that was just made of an image
abbrev pub fresh : Geometry → List (List ℕ) → ℕ → State
fresh geometry image room = record {
  geometry = geometry;
  first = image;
  writes = [];
  calls = 0;
  room = room;
  failing = [];
  stop = 2 ^ 64 - 1;
  faults = 0;
  sizeless = 0;
}

-- how call number `call` fails by these listings, where it is listed: the latest listing decides
abbrev pub listed : List (ℕ × FailMode) → ℕ → Option FailMode
listed failing call = fold (λ mode l. if l.0 == call then Some l.1 else mode) None failing

-- how a call fails, after so many: as Lost after the last that may succeed, else as it is listed
abbrev pub failure_after : List (ℕ × FailMode) → ℕ → ℕ → Option FailMode
failure_after failing stop calls = if nat_le stop calls then Some Lost else listed failing (calls + 1)

-- how the next read or flush fails, where it does
abbrev pub failure : State → Option FailMode
failure s = failure_after s.failing s.stop s.calls

-- how the next write fails, where it does: beyond the room as Lost too
abbrev pub write_failure : State → Option FailMode
write_failure s = if nat_le s.room (length s.writes) then Some Lost else failure s

-- one more call was made
abbrev pub counted : State → State
counted s = record s { calls = min (s.calls + 1) (2 ^ 64 - 1) }

-- one more call was made, and failed
abbrev pub faulted : State → State
faulted s = record s { calls = min (s.calls + 1) (2 ^ 64 - 1); faults = min (s.faults + 1) (2 ^ 64 - 1) }

-- the next call writes v to a block
abbrev pub with_write : ℕ → List ℕ → State → State
with_write at v s =
    record s { writes = s.writes ++ record { call = s.calls + 1; block = at; value = v; flushed = None } ∷ [] }

-- a change once call f has flushed
abbrev pub flushed_at : ℕ → Option ℕ → Option ℕ
flushed_at f None = Some f
flushed_at f (Some g) = Some g

-- the change itself then
abbrev pub flush_change : ℕ → Change → Change
flush_change f w = record w { flushed = flushed_at f w.flushed }

-- the next call flushes
abbrev pub with_flush : State → State
with_flush s = record s { writes = map (flush_change (s.calls + 1)) s.writes }

-- what a question for the sizes leaves
abbrev pub asked : State → State
asked s =
    if nat_lt 0 s.sizeless then record s { sizeless = s.sizeless - 1; faults = min (s.faults + 1) (2 ^ 64 - 1) } else s

-- what a read leaves that fails so, or does not fail
abbrev pub read_by : Option FailMode → State → State
read_by None s = counted s
read_by (Some mode) s = faulted s

-- what a write of v leaves that fails so, or does not fail: as Kept it has its effect all the same
abbrev pub written_by : Option FailMode → ℕ → List ℕ → State → State
written_by None at v s = counted (with_write at v s)
written_by (Some Lost) at v s = faulted s
written_by (Some Kept) at v s = faulted (with_write at v s)

-- what a flush leaves that fails so, or does not fail
abbrev pub flushed_by : Option FailMode → State → State
flushed_by None s = counted (with_flush s)
flushed_by (Some mode) s = faulted s
