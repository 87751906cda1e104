-- Logs that pass the tests, and the chain of a sound image.
use Rattle.std.proofs.Common.{ℕ, suc, ◌+◌, ◌<◌, ◌≡◌, ◌&&◌, Bool, true, false, if◌then◌else◌, List, [], ◌∷◌, ◌++◌, length, Option, Some, None, arith, refl, sym, ap, ap₂, ◌∙◌, subst, length-append, add-zero}
use Rattle.std.specs.Prelude.{nat_lt, is_none}
use Rattle.bow_units.specs.declared.sizes.Geometry.{Geometry}
use Rattle.bow_units.specs.Sizes.{IsValid}
use Rattle.bow_log.specs.declared.logs.Magic.TheVariants.{Log as LogMagic, Restoring}
use Rattle.bow_log.specs.declared.faults.LogFault.{LogFault}
use Rattle.bow_log.specs.declared.faults.LogFault.TheVariants.{NoMagic}
use Rattle.bow_log.specs.Generations.{Generation, generation_of, is_restoring}
use Rattle.bow_log.specs.Faults.{fault_of, parts_of, begins_with}
use Rattle.bow_log.proofs.InBlocks.{found}
use Rattle.bow_chain.specs.Contents.{Contents}
use Rattle.bow_chain.specs.Places.{pass, base}
use Rattle.bow_chain.specs.Sound.{log_in, IsChain, IsSound}
use Rattle.bow_chain.specs.Faults.{SpellsAt, PassTests, AreAbove, fields_fault}
use Rattle.bow_chain.proofs.Counting.{some_inj, spelled_ok}

pub base-append : (ls ms : List Generation) (x : ℕ) → base (ls ++ ms) x ≡ base ls (base ms x)
base-append [] ms x = refl
base-append (l ∷ ls) ms x = ap (pass l.entries) (base-append ls ms x)

-- ---- the fields of a log

restoring_is : (b : Bool) → is_restoring (if b then Restoring else LogMagic) ≡ b
restoring_is true = refl
restoring_is false = refl

passes : (deep restoring : Bool) (o : Option LogFault) → o ≡ None → (deep ≡ true → restoring ≡ false) → (if deep && restoring then Some NoMagic else o) ≡ None
passes false restoring o none not = none
passes true false o none not = none
passes true true o none not = let e : true ≡ false = not refl in absurd cc

passed : (deep restoring : Bool) (o : Option LogFault) → (if deep && restoring then Some NoMagic else o) ≡ None → (o ≡ None) × (deep ≡ true → restoring ≡ false)
passed false restoring o none = (none, λ h. let e : false ≡ true = h in absurd cc)
passed true false o none = (none, λ h. refl)
passed true true o none = absurd cc

-- a block that spells a log has no fault in its fields
pub no_fields_fault : (g : Geometry) (depth : ℕ) (block : List ℕ) (log : Generation) → SpellsAt g depth block log → fields_fault g depth block ≡ None
unfolding log_in fields_fault
no_fields_fault g depth block log s =
    let f = found (fault_of g block) (generation_of g (parts_of block)) log s.0 in
    let same : log.restoring ≡ begins_with Restoring block = ap (λ (l : Generation). l.restoring) (sym f.1) ∙ restoring_is (begins_with Restoring block) in
    passes (nat_lt 0 depth) (begins_with Restoring block) (fault_of g block) f.0 (λ deep. sym same ∙ s.1 (grind arith))

-- and a block without one spells a log
pub spells_without_fault : (g : Geometry) (depth : ℕ) (block : List ℕ) → fields_fault g depth block ≡ None → SpellsAt g depth block (generation_of g (parts_of block))
unfolding log_in fields_fault
spells_without_fault g depth block none =
    let p = passed (nat_lt 0 depth) (begins_with Restoring block) (fault_of g block) none in (
      ap (λ (o : Option LogFault). if is_none o then Some (generation_of g (parts_of block)) else None) p.0,
      λ deep. restoring_is (begins_with Restoring block) ∙ p.1 (grind arith),
    )

pub fault_at_0 : (g : Geometry) (block : List ℕ) → fields_fault g 0 block ≡ fault_of g block
unfolding fields_fault
fault_at_0 g block = refl

pub not_both : (g : Geometry) (depth : ℕ) (block : List ℕ) (fault : LogFault) (log : Generation) → fields_fault g depth block ≡ Some fault → SpellsAt g depth block log → ⊥
not_both g depth block fault log is s = let e : Some fault ≡ None = sym is ∙ no_fields_fault g depth block log s in cc

-- ---- logs that pass the tests

module _ (g : Geometry) (image : Contents) where
  -- the first of several logs
  pub tests_front : (depth : ℕ) (route : ℕ → ℕ) (ls ms : List Generation) (left : ℕ) → PassTests g image depth route (ls ++ ms) left → PassTests g image depth route ls (length ms + left)
  tests_front depth route [] ms left p = tt
  tests_front depth route (l ∷ ls) ms left p = (
    p.0,
    let long = length-append ls ms in omega (arith, p.1, long),
    p.2,
    tests_front (suc depth) (λ x. route (pass l.entries x)) ls ms left p.3,
  )

  -- the last ones
  pub tests_back : (depth deeper : ℕ) (route : ℕ → ℕ) (ls ms : List Generation) (left : ℕ) → deeper ≡ depth + length ls → PassTests g image depth route (ls ++ ms) left → PassTests g image deeper (λ x. route (base ls x)) ms left
  tests_back depth deeper route [] ms left is p = let same : depth ≡ deeper = omega (arith, is) in subst (λ d. PassTests g image d route ms left) same p
  tests_back depth deeper route (l ∷ ls) ms left is p = tests_back (suc depth) deeper (λ x. route (pass l.entries x)) ls ms left (omega (arith, is)) p.3

  -- more logs behind them
  pub tests_append : (depth deeper : ℕ) (route : ℕ → ℕ) (ls ms : List Generation) (left : ℕ) → deeper ≡ depth + length ls → PassTests g image depth route ls (length ms + left) → PassTests g image deeper (λ x. route (base ls x)) ms left
      → PassTests g image depth route (ls ++ ms) left
  tests_append depth deeper route [] ms left is p q = let same : deeper ≡ depth = omega (arith, is) in subst (λ d. PassTests g image d route ms left) same q
  tests_append depth deeper route (l ∷ ls) ms left is p q = (
    p.0,
    let long = length-append ls ms in omega (arith, p.1, long),
    p.2,
    tests_append (suc depth) deeper (λ x. route (pass l.entries x)) ls ms left (omega (arith, is)) p.3 q,
  )

  -- an image has the same logs down to a depth
  pub same_tested : (depth : ℕ) (route : ℕ → ℕ) (one two : List Generation) (m n : ℕ) → length one ≡ length two → PassTests g image depth route one m → PassTests g image depth route two n → one ≡ two
  same_tested depth route [] [] m n long p q = refl
  same_tested depth route [] (y ∷ ys) m n long p q = absurd (omega (arith, long))
  same_tested depth route (x ∷ xs) [] m n long p q = absurd (omega (arith, long))
  same_tested depth route (x ∷ xs) (y ∷ ys) m n long p q =
      let same : x ≡ y = some_inj (sym (p.0).0 ∙ (q.0).0) in
      ap₂ ◌∷◌ same (same_tested (suc depth) (λ b. route (pass x.entries b)) xs ys m n (omega (arith, long)) p.3 (subst (λ (l : Generation). PassTests g image (suc depth) (λ b. route (pass l.entries b)) ys n) (sym same) q.3))

  -- and they leave the same number to come
  pub same_left : (depth : ℕ) (route : ℕ → ℕ) (logs : List Generation) (m n : ℕ) → 0 < length logs → PassTests g image depth route logs m → PassTests g image depth route logs n → m ≡ n
  same_left depth route [] m n some p q = absurd (omega (arith, some))
  same_left depth route (l ∷ ls) m n some p q = omega (arith, p.1, q.1)

  -- ---- sound images

  pub chain_from_tests : (depth : ℕ) (route : ℕ → ℕ) (logs : List Generation) → 0 < depth → PassTests g image depth route logs 0 → IsChain g image route logs
  chain_from_tests depth route [] deep p = tt
  chain_from_tests depth route (l ∷ ls) deep p = ((p.0).0, (p.0).1 deep, p.1 ∙ add-zero (length ls), p.2, chain_from_tests (suc depth) (λ x. route (pass l.entries x)) ls (omega arith) p.3)

  pub tests_from_chain : (depth : ℕ) (route : ℕ → ℕ) (logs : List Generation) → IsChain g image route logs → PassTests g image depth route logs 0
  tests_from_chain depth route [] c = tt
  tests_from_chain depth route (l ∷ ls) c = ((c.0, λ deep. c.1), c.2 ∙ sym (add-zero (length ls)), c.3, tests_from_chain (suc depth) (λ x. route (pass l.entries x)) ls c.4)

  -- the chain of a sound image passes the tests, and no log is to come
  pub sound_passes : (log : Generation) (older : List Generation) → IsSound g image log older → AreAbove g image (log ∷ older) 0
  sound_passes log older s = (
    (s.spelled, λ deep. absurd (omega (arith, deep))),
    (s.behind).sequence ∙ sym (add-zero (length older)),
    (s.behind).sums,
    tests_from_chain 1 (pass log.entries) older (s.behind).chain,
  )

  pub passes_sound : IsValid g → (log : Generation) (older : List Generation) → AreAbove g image (log ∷ older) 0 → IsSound g image log older
  passes_sound valid log older p = record {
    spelled = (p.0).0;
    behind = record { valid = spelled_ok g valid (image 0) log (p.0).0; sequence = p.1 ∙ add-zero (length older); sums = p.2; chain = chain_from_tests 1 (pass log.entries) older (omega arith) p.3 };
  }
