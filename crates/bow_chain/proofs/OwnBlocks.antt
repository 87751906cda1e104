-- Logs that pass the tests lie in blocks of their own.
use Rattle.std.proofs.Common.{ℕ, suc, ◌+◌, ◌<◌, ◌≤◌, ◌≡◌, ◌≢◌, List, [], ◌∷◌, length, Some, true, arith, refl, sym, ap, ◌∙◌}
use Rattle.std.specs.List.{AllByRecursion as Each, AllPairs, list_any}
use Rattle.std.proofs.lemmas.Bool.Decides.{Decides-eqb}
use Rattle.std.proofs.lemmas.List.Elements.{All-from_recursion}
use Rattle.std.proofs.lemmas.List.Kept.{AllPairs-cons}
use Rattle.std.proofs.lemmas.Map.Made.{IsDistinct-from_AllPairs}
use Rattle.std.proofs.lemmas.Map.Steps.{length-le_from_distinct_below}
use Rattle.std.specs.Prelude.{◌==◌}
use Rattle.bow_units.specs.declared.sizes.Geometry.{Geometry}
use Rattle.bow_units.specs.Sizes.{IsValid}
use Rattle.bow_log.specs.Generations.{Generation}
use Rattle.bow_chain.specs.Contents.{Contents}
use Rattle.bow_chain.specs.Places.{pass}
use Rattle.bow_chain.specs.Sound.{log_in}
use Rattle.bow_chain.specs.Faults.{PassTests, AreAbove}
use Rattle.bow_chain.specs.Laws.{log_places, HaveOwnBlocks}
use Rattle.bow_chain.proofs.Hops.{log_inside}
use Rattle.bow_chain.proofs.Counting.{some_inj, spelled_ok}

-- this block spells a log with a sequence below n
record SpellsBelow (g : Geometry) (image : Contents) (n b : ℕ) : Type 0 where
  log : Generation
  spelled : log_in g (image b) ≡ Some log
  below : log.sequence < n

module _ (g : Geometry) (image : Contents) where
  below : (depth : ℕ) (route : ℕ → ℕ) (logs : List Generation) (left n : ℕ) → length logs + left ≤ n → PassTests g image depth route logs left → Each (SpellsBelow g image n) (log_places route logs)
  below depth route [] left n few p = tt
  below depth route (l ∷ ls) left n few p = (record { log = l; spelled = (p.0).0; below = omega (arith, p.1) }, below (suc depth) (λ x. route (pass l.entries x)) ls left n (omega arith) p.3)

  -- a block that spells a log of no smaller sequence is none of these
  apart_from : (log : Generation) (b : ℕ) → log_in g (image b) ≡ Some log → (bs : List ℕ) → Each (SpellsBelow g image log.sequence) bs → Each (λ c. b ≢ c) bs
  apart_from log b is [] all = tt
  apart_from log b is (c ∷ cs) all = (
    λ same. let logs : log ≡ (all.0).log = some_inj (sym is ∙ ap (λ x. log_in g (image x)) same ∙ (all.0).spelled) in
        let sequence : log.sequence ≡ ((all.0).log).sequence = ap (λ (l : Generation). l.sequence) logs in
        omega (arith, (all.0).below, sequence),
    apart_from log b is cs all.1,
  )

  pub apart : (depth : ℕ) (route : ℕ → ℕ) (logs : List Generation) (left : ℕ) → PassTests g image depth route logs left → AllPairs (λ a b. a ≢ b) (log_places route logs)
  apart depth route [] left p = λ i j d before within. absurd (omega (arith, within))
  apart depth route (l ∷ ls) left p =
      let rest = log_places (λ x. route (pass l.entries x)) ls in
      let others : Each (SpellsBelow g image l.sequence) rest = below (suc depth) (λ x. route (pass l.entries x)) ls left l.sequence (omega (arith, p.1)) p.3 in
      AllPairs-cons (λ a b. a ≢ b) (route 0) rest (All-from_recursion (λ c. route 0 ≢ c) rest (apart_from l (route 0) (p.0).0 rest others)) (apart (suc depth) (λ x. route (pass l.entries x)) ls left p.3)

  pub inside : IsValid g → (depth : ℕ) (route : ℕ → ℕ) (logs : List Generation) (left : ℕ) → ((x : ℕ) → x < g.blocks → route x < g.blocks) → PassTests g image depth route logs left → Each (λ b. b < g.blocks) (log_places route logs)
  inside valid depth route [] left keeps p = tt
  inside valid depth route (l ∷ ls) left keeps p = (
    keeps 0 (omega (arith, valid.enough)),
    inside valid (suc depth) (λ x. route (pass l.entries x)) ls left (λ x h. keeps (pass l.entries x) (log_inside g l x (spelled_ok g valid (image (route 0)) l (p.0).0) h)) p.3,
  )

places_length : (route : ℕ → ℕ) (logs : List Generation) → length (log_places route logs) ≡ length logs
places_length route [] = refl
places_length route (l ∷ ls) = ap suc (places_length (λ x. route (pass l.entries x)) ls)

among : (n : ℕ) (bs : List ℕ) → Each (λ b. b < n) bs → (q : ℕ) → list_any (λ b. q == b) bs ≡ true → q < n
among n [] all q is = absurd cc
among n (b ∷ bs) all q is = grind (arith, among n bs all.1 q)

pub own_blocks : (g : Geometry) (image : Contents) (logs : List Generation) (left : ℕ) → IsValid g → AreAbove g image logs left → HaveOwnBlocks g logs
own_blocks g image logs left valid p =
    let places = log_places (λ x. x) logs in
    let within = inside g image valid 0 (λ x. x) logs left (λ x h. h) p in
    let pairs = apart g image 0 (λ x. x) logs left p in
    let few : length places ≤ g.blocks = length-le_from_distinct_below places g.blocks (IsDistinct-from_AllPairs Decides-eqb places pairs) (among g.blocks places within) in
    record { inside = within; apart = pairs; few = omega (arith, few, places_length (λ x. x) logs) }
