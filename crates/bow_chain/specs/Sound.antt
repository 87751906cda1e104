-- Sound images: block 0 spells a log, and behind it stands a chain of logs down to the first.
use Rattle.std.specs.Prelude.{ℕ, ◌≡◌, false, List, [], ◌∷◌, length, Option, Some}
use Rattle.bow_units.specs.declared.sizes.Geometry.{Geometry}
use Rattle.bow_crc.specs.Sums.{sum_of}
use Rattle.bow_log.specs.Generations.{Backup, Generation, IsGeneration}
use Rattle.bow_log.specs.Spelled.{generation_in}
use Rattle.bow_chain.specs.Contents.{Contents, run_of}
use Rattle.bow_chain.specs.Places.{pass}

-- the log that a block spells, or none
unfoldable pub log_in : Geometry → List ℕ → Option Generation
log_in g block = generation_in g block

-- the sum of these blocks, the first of which has this number
unfoldable pub sum_at : ℕ → List (List ℕ) → ℕ
sum_at first blocks = sum_of first blocks

-- Each backup states the sum of what its dest held right after it was made. That content lies where the later backups
-- of the same log have put it since, and then where `route` leads.
abbrev pub SumsHold : Contents → (ℕ → ℕ) → List Backup → Type 0
SumsHold image route [] = Unit {0}
SumsHold image route (b ∷ bs) = (sum_at b.source (run_of (λ x. image (route (pass bs x))) b.dest b.count) ≡ b.sum)
    × SumsHold image route bs

-- These logs, the newest first, stand one behind the other where `route` leads: each is spelled where its successor has
-- put block 0, is not under restoration, has as many older ones as its sequence says, and its sums hold.
abbrev pub IsChain : Geometry → Contents → (ℕ → ℕ) → List Generation → Type 0
IsChain g image route [] = Unit {0}
IsChain g image route (log ∷ older) =
    (log_in g (image (route 0)) ≡ Some log) × (log.restoring ≡ false) × (log.sequence ≡ length older)
    × SumsHold image route log.entries × IsChain g image (λ x. route (pass log.entries x)) older

-- what stands behind a log, wherever the log itself is: its own sums hold, and its older logs are a chain
pub record StandsBehind (g : Geometry) (image : Contents) (log : Generation) (older : List Generation) : Type 0 where
  pub valid : IsGeneration g log
  pub sequence : log.sequence ≡ length older
  pub sums : SumsHold image (λ x. x) log.entries
  pub chain : IsChain g image (pass log.entries) older

-- the image is sound, with this log in block 0 and these older ones, the newest first
pub record IsSound (g : Geometry) (image : Contents) (log : Generation) (older : List Generation) : Type 0 where
  pub spelled : log_in g (image 0) ≡ Some log
  pub behind : StandsBehind g image log older
