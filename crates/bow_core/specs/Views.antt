-- What callers see of a device, and what holds of each.
use Rattle.std.specs.Prelude.{◌≡◌, ℕ, ◌<◌, ◌≤◌, Option, Some}
use Rattle.std.specs.List.{AllByRecursion as Each}
use Rattle.bow_units.specs.declared.sizes.Geometry.{Geometry}
use Rattle.bow_machine.specs.Requests.{Request}
use Rattle.bow_machine.specs.Memory.{Memory}
use Rattle.bow_machine.specs.MemoryIsSound.{MemoryIsSound}
use Rattle.bow_core.specs.Held.{Held}

-- a device: its disk, its sizes and places, the machine's memory, how many requests it admitted, and how many calls
-- it made
pub record View (D : Type 0) : Type 0 where
  pub disk : D
  pub geometry : Geometry
  pub places : ℕ
  pub memory : Memory
  pub admitted : ℕ
  pub calls : ℕ

-- the same, of what the device keeps
abbrev pub view_of : {D : Type 0} → D → Held → ℕ → View D
view_of disk s calls = record {
  disk = disk;
  geometry = s.geometry;
  places = s.places;
  memory = s.memory;
  admitted = s.admitted;
  calls = calls;
}

-- the serial number was given out
abbrev pub IsGivenOut : ℕ → Request → Type 0
IsGivenOut admitted r = r.ticket.serial < admitted

-- A device that was opened: its disk states its sizes, its memory is sound, it has at most 16 places, and each
-- request that waits was admitted.
pub record IsOpened {D : Type 0} (stated : D → Option Geometry) (v : View D) : Type 0 where
  pub sizes : stated v.disk ≡ Some v.geometry
  pub sound : MemoryIsSound v.geometry v.memory
  pub few : v.places ≤ 16
  pub given_out : Each (IsGivenOut v.admitted) v.memory.requests
