-- What a step of a reader gives, over a disk that tells its content.
use Rattle.std.proofs.Common.{ℕ, zero, suc, ◌≡◌, ◌<◌, ◌≤◌, ◌+◌, ◌-◌, ◌++◌, inl, inr, List, [], ◌∷◌, length, length-append, Option, Some, None, arith, refl, sym, ap, ◌∙◌, subst}
use Rattle.std.proofs.lemmas.Bool.{cases_eq}
use Rattle.bow_units.specs.declared.sizes.Geometry.{Geometry}
use Rattle.bow_log.specs.Generations.{Generation, generation_of}
use Rattle.bow_log.specs.Spelling.{Fields}
use Rattle.bow_chain.specs.Places.{pass, base}
use Rattle.bow_chain.proofs.Counting.{some_inj}
use Rattle.bow_past.specs.Agreement.{older_of}
use Rattle.bow_past.specs.Readings.{missing_below, past_log, past_logs, place_by}

-- ----------------------------------------------------------------------------------------------------------------
-- Which log is missing.

-- one step of the search
step_none : (kept : ℕ → Option Fields) (n : ℕ) → kept n ≡ None → missing_below kept (suc n) ≡ Some n
step_none kept n at = rw at refl

step_some : (kept : ℕ → Option Fields) (n : ℕ) (log : Fields) → kept n ≡ Some log → missing_below kept (suc n) ≡ missing_below kept n
step_some kept n log at = rw at refl

-- all logs from above this one on are kept, up to that one
abbrev pub AllKept : (ℕ → Option Fields) → ℕ → ℕ → Type 0
AllKept kept from to = (m : ℕ) → from ≤ m → m < to → (log : Fields) × (kept m ≡ Some log)

all_more : (kept : ℕ → Option Fields) (from n : ℕ) (log : Fields) → kept n ≡ Some log → AllKept kept from n → AllKept kept from (suc n)
all_more kept from n log at all m low high = elim (cases_eq m n) [
  | inl same ↦ (log, ap kept same ∙ at)
  | inr other ↦ all m low (omega (arith, high, other))
]

-- the greatest missing one is below, it is not kept, and all above it are
pub missing_is : (kept : ℕ → Option Fields) (n wanted : ℕ) → missing_below kept n ≡ Some wanted → (wanted < n) × (kept wanted ≡ None) × AllKept kept (suc wanted) n
missing_is kept zero wanted is = absurd (cc is)
missing_is kept (suc n) wanted is = by (kept n) refl (missing_is kept n wanted)
  where
    by : (o : Option Fields) → kept n ≡ o → (missing_below kept n ≡ Some wanted → (wanted < n) × (kept wanted ≡ None) × AllKept kept (suc wanted) n)
        → (wanted < suc n) × (kept wanted ≡ None) × AllKept kept (suc wanted) (suc n)
    by None at below =
        let same : n ≡ wanted = some_inj (sym (step_none kept n at) ∙ is) in
        (omega (arith, same), subst (λ w. kept w ≡ None) same at, λ m above high. absurd (omega (arith, same, above, high)))
    by (Some log) at below =
        let k = below (sym (step_some kept n log at) ∙ is) in
        (omega (arith, k.0), k.1, all_more kept (suc wanted) n log at k.2)

-- and where none is, all are kept
pub none_missing : (kept : ℕ → Option Fields) (n : ℕ) → missing_below kept n ≡ None → AllKept kept 0 n
none_missing kept zero is = λ m low below. absurd (omega (arith, below))
none_missing kept (suc n) is = by (kept n) refl (none_missing kept n)
  where
    by : (o : Option Fields) → kept n ≡ o → (missing_below kept n ≡ None → AllKept kept 0 n) → AllKept kept 0 (suc n)
    by None at below = absurd (cc (sym (step_none kept n at) ∙ is))
    by (Some log) at below = all_more kept 0 n log at (below (sym (step_some kept n log at) ∙ is))

-- ----------------------------------------------------------------------------------------------------------------
-- Places by kept logs.

-- an older log of a sequence below is the same once newer ones stand before it
pub older_more : (log : Generation) (older : List Generation) (n : ℕ) → n < length older → older_of (log ∷ older) n ≡ older_of older n
older_more log older n below = grind arith

pub older_first : (log : Generation) (older : List Generation) → older_of (log ∷ older) (length older) ≡ Some log
older_first log older = grind arith

-- the older ones of a sequence behind these
pub older_behind : (above rest : List Generation) (n : ℕ) → n < length rest → older_of (above ++ rest) n ≡ older_of rest n
older_behind [] rest n below = refl
older_behind (log ∷ above) rest n below =
    older_more log (above ++ rest) n (let l = length-append above rest in omega (arith, l, below)) ∙ older_behind above rest n below

-- the kept logs of these sequences are among these older ones
abbrev pub AmongBelow : Geometry → (ℕ → Option Fields) → List Generation → Type 0
AmongBelow g kept older = (m : ℕ) (log : Fields) → m < length older → kept m ≡ Some log → older_of older m ≡ Some (generation_of g log)

-- where the kept logs from a sequence on lead, if they are among these older ones: where those lead
pub kept_lead : (g : Geometry) (kept : ℕ → Option Fields) (above rest : List Generation) (x : ℕ) → AmongBelow g kept (above ++ rest) → AllKept kept (length rest) (length rest + length above)
    → past_logs g kept (length rest) (length above) x ≡ base above x
kept_lead g kept [] rest x among all = refl
kept_lead g kept (log ∷ above) rest x among all =
    let n = length rest + length above in
    let l : length (above ++ rest) ≡ n = (let e = length-append above rest in omega (arith, e)) in
    let there = all n (omega arith) (omega arith) in
    let first : older_of (log ∷ (above ++ rest)) n ≡ Some log = subst (λ k. older_of (log ∷ (above ++ rest)) k ≡ Some log) l (older_first log (above ++ rest)) in
    let is : Some log ≡ Some (generation_of g there.0) = sym first ∙ among n there.0 (omega (arith, l)) there.1 in
    let rec = kept_lead g kept above rest x (λ m other below at. sym (older_more log (above ++ rest) m below) ∙ among m other (omega (arith, below)) at) (λ m low high. all m low (omega (arith, high))) in
    ap (λ o. past_log g o (past_logs g kept (length rest) (length above) x)) there.1
    ∙ ap (λ (h : Generation). pass h.entries (past_logs g kept (length rest) (length above) x)) (sym (some_inj is))
    ∙ ap (pass log.entries) rec

-- so the place by them, and then by the log in memory, is that by these older ones
pub place_leads : (g : Geometry) (kept : ℕ → Option Fields) (log : Generation) (above rest : List Generation) (x : ℕ) → log.sequence ≡ length (above ++ rest) → AmongBelow g kept (above ++ rest) → AllKept kept (length rest) log.sequence
    → place_by g kept log (length rest) x ≡ base (log ∷ above) x
place_leads g kept log above rest x is among all =
    let l = length-append above rest in
    let many : log.sequence - length rest ≡ length above = omega (arith, is, l) in
    let e : log.sequence ≡ length rest + length above = omega (arith, is, l) in
    ap (λ n. pass log.entries (past_logs g kept (length rest) n x)) many ∙ ap (pass log.entries) (kept_lead g kept above rest x among (λ m low high. all m low (omega (arith, high, e))))

-- a list is its front and what stands behind, where so many stand behind
pub split : (older : List Generation) (n : ℕ) → n < length older → (above : List Generation) × (next : Generation) × (rest : List Generation) × (older ≡ above ++ next ∷ rest) × (length rest ≡ n)
split [] n below = absurd (omega (arith, below))
split (log ∷ older) n below = elim (cases_eq n (length older)) [
  | inl same ↦ ([], log, older, refl, sym same)
  | inr other ↦ let k = split older n (omega (arith, below, other)) in (log ∷ k.0, k.1, k.2, ap (λ (l : List Generation). log ∷ l) k.3, k.4)
]
