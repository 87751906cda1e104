-- What runs tell of their blocks.
use Rattle.std.proofs.Common.{◌≡◌, ◌≢◌, ℕ, zero, suc, ◌+◌, ◌-◌, ◌*◌, ◌<◌, ◌≤◌, Bool, cond, List, ◌∷◌, ◌++◌, length, take, drop, replicate, get_or, Some, None, sym, ap, ◌∙◌, subst, inl, inr, arith, take-append-drop}
use Rattle.std.proofs.lemmas.List.{take_all, length-replicate, get_or-append_right, get_or_append_left, get_or-replicate}
use Rattle.std.proofs.lemmas.List.Sums.{sum_by-append}
use Rattle.std.proofs.lemmas.List.Folds.{sum_by-replicate}
use Rattle.std.proofs.lemmas.Bool.{cases_lt}
use Rattle.std.proofs.Math.Seq.{drop-cons}
use Rattle.bow_units.specs.declared.statuses.Kind.{Kind}
use Rattle.bow_units.specs.declared.statuses.Kind.TheVariants.{Unchanged}
use Rattle.bow_ranges.specs.declared.runs.Run.{Run}
use Rattle.bow_ranges.specs.Kinds.{is_free, kind_at, count_of, IsRunOf}
use Rattle.bow_ranges.specs.Runs.{spread, end_of, kind_of, IsNormal, IsCut, IsKept}
use Rattle.bow_ranges.proofs.RunLists.{spread-append, end_of-append, long, length-spread}
use Rattle.bow_ranges.proofs.RunEdits.{end_at, kind_last, front, back, cut_inside, first_above, kind_before}

kind_within : (old kept : List Run) (z : Run) (more : List Run) (b : ℕ) → old ≡ kept ++ z ∷ more → IsNormal 0 None kept → end_of 0 kept ≤ b → b < z.end → kind_at (spread 0 old) b ≡ z.kind
kind_within old kept z more b e h low high =
    let sizes = length-spread 0 None kept h in
    let here : length (replicate (z.end - end_of 0 kept) z.kind) ≡ z.end - end_of 0 kept = length-replicate (z.end - end_of 0 kept) z.kind in
    ap (λ (l : List Run). kind_at (spread 0 l) b) e ∙ ap (λ (l : List Kind). kind_at l b) (spread-append 0 kept (z ∷ more))
    ∙ get_or-append_right (spread 0 kept) (spread (end_of 0 kept) (z ∷ more)) (end_of 0 kept) b Unchanged (omega (arith, sizes)) low
    ∙ get_or_append_left (replicate (z.end - end_of 0 kept) z.kind) (spread z.end more) Unchanged (b - end_of 0 kept) (omega (arith, here, low, high))
    ∙ get_or-replicate (z.end - end_of 0 kept) (b - end_of 0 kept) z.kind Unchanged (omega (arith, low, high))

parts_at : (old : List Run) (i : ℕ) (d : Run) → i < length old → old ≡ take i old ++ get_or old i d ∷ drop (suc i) old
parts_at old i d inside = sym (take-append-drop i old) ∙ ap (λ (l : List Run). take i old ++ l) (drop-cons old i d inside)

-- the kinds of the blocks of run i
kind_of_run : (old : List Run) (i : ℕ) (d : Run) (b : ℕ) → IsNormal 0 None old → i < length old → end_of 0 (take i old) ≤ b → b < (get_or old i d).end → kind_at (spread 0 old) b ≡ (get_or old i d).kind
kind_of_run old i d b h inside low high = kind_within old (take i old) (get_or old i d) (drop (suc i) old) b (parts_at old i d inside) (front old i h) low high

pub kind_found : (old : List Run) (i : ℕ) (d : Run) (b : ℕ) → IsNormal 0 None old → IsCut old b i → b < end_of 0 old → kind_at (spread 0 old) b ≡ (get_or old i d).kind
kind_found old i d b h cut below =
    let inside = cut_inside old b i cut below in
    kind_of_run old i d b h inside cut.ends (first_above old b i d inside cut.above)

-- where run i ends
pub total_above : (old : List Run) (i : ℕ) (d : Run) → IsNormal 0 None old → i < length old → (get_or old i d).end ≤ end_of 0 old
total_above old i d h inside =
    let rest = long (end_of 0 (take (suc i) old)) (kind_of None (take (suc i) old)) (drop (suc i) old) (back old (suc i) h) in
    let whole : end_of 0 old ≡ end_of (end_of 0 (take (suc i) old)) (drop (suc i) old) = ap (end_of 0) (sym (take-append-drop (suc i) old)) ∙ end_of-append 0 (take (suc i) old) (drop (suc i) old) in
    omega (arith, rest, whole, end_at 0 old i d inside)

run_rises : (old : List Run) (i : ℕ) (d : Run) → IsNormal 0 None old → i < length old → end_of 0 (take i old) < (get_or old i d).end
run_rises old i d h inside = (subst (λ (l : List Run). IsNormal (end_of 0 (take i old)) (kind_of None (take i old)) l) (drop-cons old i d inside) (back old i h)).0

before_run : (old : List Run) (i : ℕ) (d : Run) → IsNormal 0 None old → i < length old → 0 < end_of 0 (take i old) → kind_at (spread 0 old) (end_of 0 (take i old) - 1) ≢ (get_or old i d).kind
before_run old zero d h inside some = absurd (omega (arith, some))
before_run old (suc i) d h inside some =
    let last = end_at 0 old i d (omega (arith, inside)) in
    let rises = run_rises old i d h (omega (arith, inside)) in
    let kind = kind_of_run old i d (end_of 0 (take (suc i) old) - 1) h (omega (arith, inside)) (omega (arith, last, rises)) (omega (arith, last, some)) in
    λ e. kind_before old (suc i) d h inside (kind_last None old i d (omega (arith, inside)) ∙ ap (λ (k : Kind). Some k) (sym kind ∙ e))

after_run : (old : List Run) (i : ℕ) (d : Run) → IsNormal 0 None old → i < length old → (get_or old i d).end < end_of 0 old → kind_at (spread 0 old) (get_or old i d).end ≢ (get_or old i d).kind
after_run old i d h inside more =
    let last = end_at 0 old i d inside in
    let next : suc i < length old = elim (cases_lt (suc i) (length old)) [
      | inl below ↦ below
      | inr past ↦ absurd (let whole : end_of 0 (take (suc i) old) ≡ end_of 0 old = ap (end_of 0) (take_all (suc i) old past) in omega (arith, whole, last, more))
    ] in
    let rises = run_rises old (suc i) d h next in
    let kind = kind_of_run old (suc i) d (get_or old i d).end h next (omega (arith, last)) (omega (arith, last, rises)) in
    λ e. kind_before old (suc i) d h next (kind_last None old i d inside ∙ ap (λ (k : Kind). Some k) (sym e ∙ kind))

pub run_found : (old : List Run) (i : ℕ) (d : Run) (b first count : ℕ) → IsNormal 0 None old → IsCut old b i → b < end_of 0 old → first ≡ end_of 0 (take i old) → count ≡ (get_or old i d).end - first → IsRunOf (spread 0 old) b (record { first = first; count = count })
run_found old i d b first count h cut below is_first is_count =
    let inside = cut_inside old b i cut below in
    let above = first_above old b i d inside cut.above in
    let end : first + count ≡ (get_or old i d).end = omega (arith, is_first, is_count, above, cut.ends) in
    let sizes = length-spread 0 None old h in
    let here = kind_found old i d b h cut below in
    record {
      from = omega (arith, is_first, cut.ends);
      to = omega (arith, end, above);
      inside = omega (arith, end, sizes, total_above old i d h inside);
      alike = λ other low high. kind_of_run old i d other h inside (omega (arith, is_first, low)) (omega (arith, end, high)) ∙ sym here;
      before = λ some e. before_run old i d h inside (omega (arith, is_first, some)) (ap (λ n. kind_at (spread 0 old) (n - 1)) (sym is_first) ∙ e ∙ here);
      after = λ more e. after_run old i d h inside (omega (arith, end, sizes, more)) (ap (kind_at (spread 0 old)) (sym end) ∙ e ∙ here);
    }

-- a table has as many kinds as blocks
pub kept_size : (runs : List Run) (kinds : List Kind) (room : ℕ) → IsKept runs room → spread 0 runs ≡ kinds → length kinds ≡ end_of 0 runs
kept_size runs kinds room kept view = let sizes = length-spread 0 None runs kept.normal in let same : length (spread 0 runs) ≡ length kinds = ap length view in omega (arith, sizes, same)

-- one run further
pub normal_step : (at : ℕ) (runs : List Run) (i : ℕ) (d : Run) → i < length runs → IsNormal at (kind_of None (take i runs)) (drop i runs) → (at < (get_or runs i d).end) × IsNormal (get_or runs i d).end (kind_of None (take (suc i) runs)) (drop (suc i) runs)
normal_step at runs i d inside h =
    let parts = subst (λ (l : List Run). IsNormal at (kind_of None (take i runs)) l) (drop-cons runs i d inside) h in
    (parts.0, subst (λ k. IsNormal (get_or runs i d).end k (drop (suc i) runs)) (sym (kind_last None runs i d inside)) parts.2)

pub count-append : (p : Kind → Bool) (xs ys : List Kind) → count_of p (xs ++ ys) ≡ count_of p xs + count_of p ys
count-append p xs ys = sum_by-append (λ x. cond (p x) 1 0) xs ys

pub count-replicate : (p : Kind → Bool) (n : ℕ) (kind : Kind) → count_of p (replicate n kind) ≡ n * cond (p kind) 1 0
count-replicate p n kind = sum_by-replicate (λ x. cond (p x) 1 0) n kind

pub free_step : (at : ℕ) (runs : List Run) (i : ℕ) (d : Run) → i < length runs → count_of is_free (spread at (drop i runs)) ≡ ((get_or runs i d).end - at) * cond (is_free (get_or runs i d).kind) 1 0 + count_of is_free (spread (get_or runs i d).end (drop (suc i) runs))
free_step at runs i d inside =
    ap (λ (l : List Run). count_of is_free (spread at l)) (drop-cons runs i d inside)
    ∙ count-append is_free (replicate ((get_or runs i d).end - at) (get_or runs i d).kind) (spread (get_or runs i d).end (drop (suc i) runs))
    ∙ ap (λ n. n + count_of is_free (spread (get_or runs i d).end (drop (suc i) runs))) (count-replicate is_free ((get_or runs i d).end - at) (get_or runs i d).kind)
