-- How a disk in memory keeps its writes.
use Rattle.std.specs.Prelude.{◌≡◌, ℕ, ◌*◌, ◌<◌, ◌≤◌, true, is_some, List, [], ◌∷◌, length, take, drop}
use Rattle.std.specs.List.{All}
use Rattle.bow_units.specs.declared.sizes.Geometry.{Geometry}
use Rattle.bow_disk.specs.declared.history.Mark.{Mark}
use Rattle.bow_disk.specs.declared.failing.FailMode.{FailMode}
use Rattle.bow_disk.specs.Memory.{Change, State, latest, flushed_at}
use Rattle.bow_disk.specs.Bytes.{image_of}

-- the sizes of a device, an image, the writes since, and how many there is room for
pub record Past : Type 0 where
  pub geometry : Geometry
  pub first : List (List ℕ)
  pub writes : List Change
  pub room : ℕ

-- the changes that marks and the values beside them tell
abbrev pub changes : ℕ → List Mark → List ℕ → List Change
changes size [] values = []
changes size (m ∷ ms) values =
    record { call = m.call; block = m.block; value = take size values; flushed = m.flushed }
    ∷ changes size ms (drop size values)

-- a mark once call f has flushed
abbrev pub flush_mark : ℕ → Mark → Mark
flush_mark f m = record m { flushed = flushed_at f m.flushed }

-- the bytes, the marks and the values belong together, the first marks, so many, were flushed, and there is memory for
-- the room
pub record IsLaidOut (g : Geometry) (first bytes : List ℕ) (marks : List Mark) (values : List ℕ) (room settled
    marks_capacity values_capacity : ℕ) : Type 0 where
  pub first_len : length first ≡ g.blocks * g.block_size
  pub bytes_len : length bytes ≡ g.blocks * g.block_size
  pub values_len : length values ≡ length marks * g.block_size
  pub now : image_of g bytes ≡ latest (image_of g first) (changes g.block_size marks values)
  pub on : All (λ m. m.block < g.blocks) marks
  pub flushed : All (λ m. is_some m.flushed ≡ true) (take settled marks)
  pub settled_fit : settled ≤ length marks
  pub marks_fit : length marks ≤ room
  pub marks_room : room ≤ marks_capacity
  pub values_room : room * g.block_size ≤ values_capacity

-- the state of a disk in memory, of its parts
abbrev pub state_of : Past → ℕ → List (ℕ × FailMode) → ℕ → ℕ → ℕ → State
state_of past calls failing stop faults sizeless = record {
  geometry = past.geometry;
  first = past.first;
  writes = past.writes;
  calls = calls;
  room = past.room;
  failing = failing;
  stop = stop;
  faults = faults;
  sizeless = sizeless;
}
