-- A log in memory is spelled, and read back as it is; its sums fit their places.
use Rattle.std.proofs.Common.{ℕ, suc, ◌<◌, ◌≡◌, ◌^◌, List, [], ◌∷◌, Some, arith}
use Rattle.std.proofs.lemmas.Nat.{xor_lt}
use Rattle.bow_units.specs.declared.sizes.Geometry.{Geometry}
use Rattle.bow_units.specs.Sizes.{IsValid}
use Rattle.bow_crc.specs.Sums.{block_sum, sum_of}
use Rattle.bow_crc.proofs.Texts.{crc_lt}
use Rattle.bow_log.specs.Generations.{Generation, IsGeneration, GenerationFits}
use Rattle.bow_log.proofs.InBlocks.{block_takes}
use Rattle.bow_chain.specs.Sound.{log_in, sum_at}
use Rattle.bow_machine.specs.Tasks.{spelling}

-- what is written as the log in memory spells it
pub spelled : (g : Geometry) (log : Generation) → IsValid g → IsGeneration g log → GenerationFits log → log_in g (spelling g log) ≡ Some log
unfolding log_in
spelled g log sizes is fits = block_takes g log sizes is fits

sum_fits : (number : ℕ) (blocks : List (List ℕ)) → sum_of number blocks < 2 ^ 32
sum_fits number [] = omega arith
sum_fits number (block ∷ blocks) = xor_lt 32 (block_sum number block) (sum_of (suc number) blocks) (crc_lt _) (sum_fits (suc number) blocks)

-- each sum of blocks fits
pub sum_small : (first : ℕ) (blocks : List (List ℕ)) → sum_at first blocks < 2 ^ 32
unfolding sum_at
sum_small first blocks = sum_fits first blocks
