-- The bases of a sound image's blocks.
use Rattle.std.proofs.Common.{ℕ, ◌<◌, ◌≡◌, List, [], ◌∷◌, Some, arith, sym, ap, ◌∙◌}
use Rattle.std.specs.List.{AllByRecursion as Each}
use Rattle.bow_units.specs.declared.sizes.Geometry.{Geometry}
use Rattle.bow_units.specs.Sizes.{IsValid}
use Rattle.bow_units.specs.Blocks.{IsBlock}
use Rattle.bow_log.specs.Generations.{Generation, GenerationFits}
use Rattle.bow_log.proofs.InBlocks.{block_fits}
use Rattle.bow_chain.specs.Contents.{Contents}
use Rattle.bow_chain.specs.Places.{pass, base}
use Rattle.bow_chain.specs.Sound.{log_in, IsChain}
use Rattle.bow_chain.specs.Laws.{ChainsMove, BasesAreOn, KeptAtBases, LogsFit}
use Rattle.bow_chain.proofs.Hops.{log_pos, log_inside}
use Rattle.bow_chain.proofs.Moved.{moved}
use Rattle.bow_chain.proofs.Counting.{base_inside, older_ok, same_sound, spelled_ok}

pub chains_move : ChainsMove
chains_move g image other route other_route logs same chain = moved g image other route other_route (λ x. x) logs same chain

pub bases_are_on : BasesAreOn
bases_are_on g image log older valid sound x on =
    let b = sound.behind in (
      log_pos g log (base older x) b.valid,
      log_inside g log (base older x) b.valid (base_inside g older x (older_ok g valid image log older b) on),
    )

pub kept_at_bases : KeptAtBases
kept_at_bases g used saved image log older sound = (
  λ keeps x on is.
      let same = same_sound g image keeps.log log keeps.older older keeps.sound sound in
      ap (λ (logs : List Generation). image (base logs x)) (sym same) ∙ keeps.kept x on is,
  λ kept. record { log = log; older = older; sound = sound; kept = kept },
)

-- what a block spells fits
spelled_fits : (g : Geometry) → IsValid g → (block : List ℕ) (log : Generation) → IsBlock g.block_size block → log_in g block ≡ Some log → GenerationFits log
unfolding log_in
spelled_fits g valid block log bytes is = (block_fits g block log valid bytes is).0

module _ (g : Geometry) (image : Contents) (valid : IsValid g) (bytes : (b : ℕ) → b < g.blocks → IsBlock g.block_size (image b)) where
  chain_fits : (route : ℕ → ℕ) → ((x : ℕ) → x < g.blocks → route x < g.blocks) → (logs : List Generation) → IsChain g image route logs → Each GenerationFits logs
  chain_fits route inside [] chain = tt
  chain_fits route inside (l ∷ ls) chain = (
    spelled_fits g valid (image (route 0)) l (bytes (route 0) (inside 0 (omega (arith, valid.enough)))) chain.0,
    chain_fits (λ x. route (pass l.entries x)) (λ x h. inside (pass l.entries x) (log_inside g l x (spelled_ok g valid (image (route 0)) l chain.0) h)) ls chain.4,
  )

pub logs_fit : LogsFit
logs_fit g image log older valid bytes sound =
    let b = sound.behind in (
      spelled_fits g valid (image 0) log (bytes 0 (omega (arith, valid.enough))) sound.spelled,
      chain_fits g image valid bytes (pass log.entries) (λ x h. log_inside g log x b.valid h) older b.chain,
    )
