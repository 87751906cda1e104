-- The guard: whichever log a cut leaves in block 0, the checkpoint is kept behind it.
use Rattle.std.specs.Prelude.{ℕ, ◌≡◌, ◌<◌, ◌⊎◌, Bool, List, ◌∷◌, Some, Contains}
use Rattle.bow_units.specs.declared.sizes.Geometry.{Geometry}
use Rattle.bow_units.specs.declared.statuses.Kind.TheVariants.{Sector0}
use Rattle.bow_log.specs.Generations.{Generation}
use Rattle.bow_chain.specs.Contents.{Contents}
use Rattle.bow_chain.specs.Places.{base}
use Rattle.bow_chain.specs.Sound.{log_in, StandsBehind}
use Rattle.bow_chain.specs.Counting.{AtPlaces, InUse}
use Rattle.bow_guard.specs.Device.{Device, Steady, Safe}

-- Behind this log, wherever it lies itself, each block in use is kept as it was saved, and P holds of each place that
-- counts for that.
pub record KeptBehind (g : Geometry) (P : ℕ → Type 0) (used : ℕ → Bool) (saved image : Contents)
    (log : Generation) (older : List Generation) : Type 0 where
  pub behind : StandsBehind g image log older
  pub places : AtPlaces g used P log older
  pub kept : (x : ℕ) → x < g.blocks → InUse used x → image (base (log ∷ older) x) ≡ saved x

-- Block 0 may hold the log in memory or the last durable one, and nothing else. All is kept behind either: behind the
-- log in memory at steady places, behind the durable one at safe ones.
pub record Guarded (g : Geometry) (used : ℕ → Bool) (saved : Contents) (d : Device) : Type 0 where
  pub log : KeptBehind g (Steady g d) used saved d.now d.log d.older
  pub clean : KeptBehind g (Safe g d) used saved d.now d.clean_log d.clean_older
  pub heads : (v : List ℕ) → Contains (d.may 0) v → (log_in g v ≡ Some d.log) ⊎ (log_in g v ≡ Some d.clean_log)
  pub zeroth : d.kind 0 ≡ Sector0
