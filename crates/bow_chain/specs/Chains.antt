-- A chain in memory, as contracts see it.
use Rattle.std.specs.Prelude.{ℕ, ◌≡◌, ◌+◌, ◌^◌, ◌<◌, ◌≤◌, List, [], ◌∷◌, length, map}
use Rattle.std.specs.List.{AllByRecursion as Each}
use Rattle.bow_units.specs.declared.sizes.Geometry.{Geometry}
use Rattle.bow_units.specs.Sizes.{IsValid}
use Rattle.bow_log.specs.Spelling.{Fields}
use Rattle.bow_log.specs.Generations.{Generation, generation_of}
use Rattle.bow_log.specs.Rules.{IsLog}
use Rattle.bow_chain.specs.Contents.{Contents}
use Rattle.bow_chain.specs.Places.{base}
use Rattle.bow_chain.specs.Tables.{IsTable, Follows}
use Rattle.bow_chain.specs.Sound.{IsSound}
pub use Rattle.bow_log.specs.Generations.{IsEntry}

-- the sizes of the device, and the generations, the newest first
pub record Loaded : Type 0 where
  pub geometry : Geometry
  pub generations : List Generation

-- the generations that these logs are
abbrev pub generations_of : Geometry → List Fields → List Generation
generations_of g logs = map (generation_of g) logs

-- the logs are logs for this device, which is valid
pub record AreLogs (g : Geometry) (logs : List Fields) : Type 0 where
  pub valid : IsValid g
  pub each : Each (IsLog g) logs

-- each log's sequence is the number of logs behind it, where so many more are to come behind the last
abbrev pub AreNumbered : List Fields → ℕ → Type 0
AreNumbered [] left = Unit {0}
AreNumbered (log ∷ older) left = (log.sequence ≡ length older + left) × AreNumbered older left

-- they are the logs of a whole chain, down to the first; their numbers are of 32 bits, so there are no more than that
pub record AreWhole (g : Geometry) (logs : List Fields) : Type 0 where
  pub are_logs : AreLogs g logs
  pub some : 0 < length logs
  pub numbered : AreNumbered logs 0
  pub deep : length logs ≤ 2 ^ 32

-- and the table has where they have put each block
pub record ArePlaced (g : Geometry) (fields : List Fields) (places : List ℕ) : Type 0 where
  pub whole : AreWhole g fields
  pub table : IsTable g places
  pub follows : Follows g (base (generations_of g fields)) places

-- the image is sound with these generations
abbrev pub IsSoundWith : Geometry → Contents → List Generation → Type 0
IsSoundWith g image [] = ⊥
IsSoundWith g image (log ∷ older) = IsSound g image log older
