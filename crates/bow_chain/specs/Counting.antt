-- The places that count for a chain: where the content that its sums are of lies, where its older logs lie, and where
-- the used blocks are kept.
use Rattle.std.specs.Prelude.{ℕ, ◌<◌, ◌≡◌, ◌⊎◌, Bool, true, List, [], ◌∷◌}
use Rattle.bow_units.specs.declared.sizes.Geometry.{Geometry}
use Rattle.bow_log.specs.Generations.{Backup, Generation}
use Rattle.bow_chain.specs.Places.{pass, base, InDest}

-- a checkpoint has the block's content: it is block 0, or a used one
abbrev pub InUse : (ℕ → Bool) → ℕ → Type 0
InUse used x = (x ≡ 0) ⊎ (used x ≡ true)

-- P holds of each place that counts for the sums of these backups, where `route` leads on from them
abbrev pub AtSums : (ℕ → Type 0) → (ℕ → ℕ) → List Backup → Type 0
AtSums P route [] = Unit {0}
AtSums P route (b ∷ bs) = ((x : ℕ) → InDest b x → P (route (pass bs x))) × AtSums P route bs

-- P holds of each place that counts for these logs: where each lies, and those of its sums
abbrev pub AtLogs : (ℕ → Type 0) → (ℕ → ℕ) → List Generation → Type 0
AtLogs P route [] = Unit {0}
AtLogs P route (log ∷ older) = P (route 0) × AtSums P route log.entries
    × AtLogs P (λ x. route (pass log.entries x)) older

-- P holds of each place that counts for the log in block 0 and its older ones, the newest first: those of its sums,
-- where each older log lies and those of its sums, and the base of each block in use
pub record AtPlaces (g : Geometry) (used : ℕ → Bool) (P : ℕ → Type 0) (log : Generation)
    (older : List Generation) : Type 0 where
  pub sums : AtSums P (λ x. x) log.entries
  pub logs : AtLogs P (pass log.entries) older
  pub bases : (x : ℕ) → x < g.blocks → InUse used x → P (base (log ∷ older) x)
