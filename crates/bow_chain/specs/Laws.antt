-- What follows from the definitions.
use Rattle.std.specs.Prelude.{ℕ, ◌<◌, ◌≤◌, ◌≡◌, ◌≢◌, ◌↔◌, ◌⊎◌, Bool, List, [], ◌∷◌, length}
use Rattle.std.specs.List.{AllByRecursion as Each, AllPairs}
use Rattle.bow_units.specs.declared.sizes.Geometry.{Geometry}
use Rattle.bow_units.specs.Sizes.{IsValid}
use Rattle.bow_units.specs.Blocks.{IsBlock}
use Rattle.bow_log.specs.Generations.{Generation, GenerationFits}
use Rattle.bow_chain.specs.Contents.{Contents}
use Rattle.bow_chain.specs.Places.{pass, base}
use Rattle.bow_chain.specs.Sound.{IsChain, IsSound}
use Rattle.bow_chain.specs.Counting.{AtLogs, AtPlaces, InUse}
use Rattle.bow_chain.specs.Kept.{Keeps, kept}
use Rattle.bow_chain.specs.Faults.{AreAbove, IsFirstFault}
use Rattle.bow_chain.specs.declared.faults.ChainFault.{ChainFault}

-- an image is sound with one chain of logs
abbrev pub OneChain : Type 0
OneChain = (g : Geometry) (image : Contents) (log other : Generation) (older others : List Generation)
    → IsSound g image log older → IsSound g image other others → (log ∷ older) ≡ (other ∷ others)

-- two images hold the same in block 0 and at each place that counts for these logs
pub record AgreeWhereItCounts (g : Geometry) (used : ℕ → Bool) (image other : Contents) (log : Generation)
    (older : List Generation) : Type 0 where
  pub zeroth : other 0 ≡ image 0
  pub places : AtPlaces g used (λ x. other x ≡ image x) log older

-- Where one of two images that agree where it counts is sound, so is the other, with the same logs and so the same
-- places, and it keeps the same of each block in use.
abbrev pub SameWhereItCounts : Type 0
SameWhereItCounts =
    (g : Geometry) (used : ℕ → Bool) (image other : Contents) (log : Generation) (older : List Generation)
    → AgreeWhereItCounts g used image other log older → IsSound g image log older
    → IsSound g other log older
    × ((x : ℕ) → x < g.blocks → InUse used x → kept other (log ∷ older) x ≡ kept image (log ∷ older) x)

-- Two images have the same along two routes at each place that counts for these logs: where these are a chain along the
-- one, they are one along the other.
abbrev pub ChainsMove : Type 0
ChainsMove =
    (g : Geometry) (image other : Contents) (route other_route : ℕ → ℕ) (logs : List Generation)
    → AtLogs (λ x. other (other_route x) ≡ image (route x)) (λ x. x) logs
    → IsChain g image route logs → IsChain g other other_route logs

-- the bases of a sound image's blocks are blocks of the device, and none is block 0
abbrev pub BasesAreOn : Type 0
BasesAreOn = (g : Geometry) (image : Contents) (log : Generation) (older : List Generation) → IsValid g
    → IsSound g image log older → (x : ℕ) → x < g.blocks
    → (0 < base (log ∷ older) x) × (base (log ∷ older) x < g.blocks)

-- with whichever logs an image is sound: it keeps what was saved exactly where the bases of its blocks in use hold that
abbrev pub KeptAtBases : Type 0
KeptAtBases = (g : Geometry) (used : ℕ → Bool) (saved image : Contents) (log : Generation) (older : List Generation)
    → IsSound g image log older
    → Keeps g used saved image
    ↔ ((x : ℕ) → x < g.blocks → InUse used x → kept image (log ∷ older) x ≡ saved x)

-- the numbers of a sound image's logs fit their places, where its blocks are bytes
abbrev pub LogsFit : Type 0
LogsFit = (g : Geometry) (image : Contents) (log : Generation) (older : List Generation) → IsValid g
    → ((b : ℕ) → b < g.blocks → IsBlock g.block_size (image b)) → IsSound g image log older
    → Each GenerationFits (log ∷ older)

-- where each of these logs lies, the newest first, the first of them where `route` leads
abbrev pub log_places : (ℕ → ℕ) → List Generation → List ℕ
log_places route [] = []
log_places route (log ∷ older) = route 0 ∷ log_places (λ x. route (pass log.entries x)) older

-- these logs lie in blocks of their own, so there are at most as many as the device has blocks
pub record HaveOwnBlocks (g : Geometry) (logs : List Generation) : Type 0 where
  pub inside : Each (λ b. b < g.blocks) (log_places (λ x. x) logs)
  pub apart : AllPairs (λ a b. a ≢ b) (log_places (λ x. x) logs)
  pub few : length logs ≤ g.blocks

-- the logs of a sound image lie in blocks of their own
abbrev pub OwnBlocks : Type 0
OwnBlocks = (g : Geometry) (image : Contents) (log : Generation) (older : List Generation) → IsValid g
    → IsSound g image log older → HaveOwnBlocks g (log ∷ older)

-- and so do the logs above a fault
abbrev pub OwnBlocksAbove : Type 0
OwnBlocksAbove = (g : Geometry) (image : Contents) (logs : List Generation) (left : ℕ) → IsValid g
    → AreAbove g image logs left → HaveOwnBlocks g logs

-- an image with a first fault is not sound
abbrev pub FaultyIsNotSound : Type 0
FaultyIsNotSound = (g : Geometry) (image : Contents) (fault : ChainFault) (log : Generation) (older : List Generation)
    → IsFirstFault g image fault → IsSound g image log older → ⊥

-- it has one first fault
abbrev pub OneFault : Type 0
OneFault = (g : Geometry) (image : Contents) (fault other : ChainFault) → IsFirstFault g image fault
    → IsFirstFault g image other → fault ≡ other

-- an image on a valid device is sound or has a first fault; without a magic in block 0 that is that there is no log
abbrev pub SoundOrFaulty : Type 0
SoundOrFaulty = (g : Geometry) (image : Contents) → IsValid g
    → ((log : Generation) × (older : List Generation) × IsSound g image log older)
    ⊎ ((fault : ChainFault) × IsFirstFault g image fault)
