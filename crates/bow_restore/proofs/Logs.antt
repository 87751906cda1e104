-- The log of a mark.
use Rattle.std.proofs.Common.{ℕ, zero, suc, ◌+◌, ◌^◌, ◌<◌, ◌≤◌, ◌≡◌, Bool, true, false, if◌then◌else◌, List, [], ◌∷◌, ◌++◌, length, take, map, Some, None, arith, refl, sym, ap, ◌∙◌, subst}
use Rattle.std.specs.Prelude.{IsTrue}
use Rattle.std.specs.List.{AllByRecursion as Each}
use Rattle.std.proofs.lemmas.List.{length-take-le}
use Rattle.bow_units.specs.declared.sizes.Geometry.{Geometry}
use Rattle.bow_log.specs.declared.entries.Entry.{Entry}
use Rattle.bow_log.specs.declared.faults.LogFault.TheVariants.{Entry as BadEntry}
use Rattle.bow_log.specs.declared.logs.Magic.TheVariants.{Restoring}
use Rattle.bow_log.specs.Spelling.{Fields, spell}
use Rattle.bow_log.specs.Generations.{Backup, GenerationFits, backup_of, generation_of}
use Rattle.bow_log.specs.Rules.{IsLog, entry_fault, keeps_rules, is_current}
use Rattle.bow_log.specs.Spelled.{generation_in}
use Rattle.bow_log.proofs.InBlocks.{in_blocks, block_takes}
use Rattle.bow_chain.specs.Sound.{log_in}

-- the first of these keep the rules where all do
by : (g : Geometry) (i n : ℕ) (es : List Entry) (t : Bool) → (entry_fault g (i + 1) es ≡ None → entry_fault g (i + 1) (take n es) ≡ None)
    → (if t then entry_fault g (i + 1) es else Some (BadEntry i)) ≡ None → (if t then entry_fault g (i + 1) (take n es) else Some (BadEntry i)) ≡ None
by g i n es true on h = on h
by g i n es false on h = absurd cc

rules_front : (g : Geometry) (i n : ℕ) (es : List Entry) → entry_fault g i es ≡ None → entry_fault g i (take n es) ≡ None
rules_front g i zero es all = refl
rules_front g i (suc n) [] all = refl
rules_front g i (suc n) (e ∷ es) all = by g i n es (keeps_rules g i e) (rules_front g (i + 1) n es) all

-- the log under restoration, with its first entries
pub cut_is_log : (g : Geometry) (log : Fields) (n block_size sequence sector0 : ℕ) (es : List Entry) → IsLog g log → 0 < n → n ≤ length log.entries
    → block_size ≡ log.block_size → sector0 ≡ log.sector0 → es ≡ take n log.entries
    → IsLog g (record { magic = Restoring; block_size = block_size; sequence = sequence; sector0 = sector0; entries = es })
cut_is_log g log n block_size sequence sector0 es ok above within size sector front =
    let long : length es ≡ n = ap length front ∙ length-take-le n log.entries within in
    record {
      device = ok.device;
      block_size = size ∙ ok.block_size;
      some = omega (arith, long);
      few = omega (arith, long, ok.few);
      sector0 = subst (λ s. IsTrue (is_current g s)) (sym sector) ok.sector0;
      entries = ap (entry_fault g 0) front ∙ rules_front g 0 n log.entries ok.entries;
    }

pub sums_push : (es : List Entry) (e : Entry) → Each (λ (e : Entry). e.sum < 2 ^ 32) es → e.sum < 2 ^ 32 → Each (λ (e : Entry). e.sum < 2 ^ 32) (es ++ e ∷ [])
sums_push [] e all here = (here, tt)
sums_push (x ∷ xs) e all here = (all.0, sums_push xs e all.1 here)

pub sums_in_blocks : (g : Geometry) (es : List Entry) → Each (λ (e : Entry). e.sum < 2 ^ 32) es → Each (λ (b : Backup). b.sum < 2 ^ 32) (map (backup_of g) es)
sums_in_blocks g [] all = tt
sums_in_blocks g (e ∷ es) all = (all.0, sums_in_blocks g es all.1)

-- a log whose numbers fit is what its block spells
pub spelled : (g : Geometry) (log : Fields) → IsLog g log → GenerationFits (generation_of g log) → log_in g (spell log) ≡ Some (generation_of g log)
unfolding log_in
spelled g log ok fits =
    let b = in_blocks g log ok in
    subst (λ (l : Fields). generation_in g (spell l) ≡ Some (generation_of g log)) b.1 (block_takes g (generation_of g log) ok.device b.0 fits)
