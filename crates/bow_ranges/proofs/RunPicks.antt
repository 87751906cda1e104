-- Free runs among runs, and what is picked of them.
use Rattle.std.proofs.Common.{◌≡◌, ℕ, zero, suc, ◌+◌, ◌-◌, ◌<◌, ◌≤◌, ◌==◌, nat_lt, nat_le, Bool, true, false, cond, List, [], ◌∷◌, ◌++◌, length, drop, get_or, replicate, Option, Some, None, refl, sym, ap, ◌∙◌, subst, arith}
use Rattle.std.specs.List.{find}
use Rattle.std.proofs.Math.Seq.{drop-cons}
use Rattle.bow_units.specs.declared.sizes.Extent.{Extent}
use Rattle.bow_units.specs.declared.statuses.Kind.{Kind}
use Rattle.bow_units.specs.declared.statuses.Kind.TheVariants.{Free}
use Rattle.bow_ranges.specs.declared.runs.Run.{Run}
use Rattle.bow_ranges.specs.Kinds.{is_free}
use Rattle.bow_ranges.specs.Picks.{joined, free_runs, longer, longest, cut_to}
use Rattle.bow_ranges.specs.Runs.{spread, free_parts, longer_of, IsNormal}

pub free_is : (kind : Kind) → is_free kind ≡ true → kind ≡ Free
free_is kind e = grind (arith, e)

pub not_free : (kind : Kind) → (kind ≡ Free → ⊥) → is_free kind ≡ false
not_free kind other = grind (arith, other)

skipped : (n at : ℕ) (kind : Kind) (kinds : List Kind) → is_free kind ≡ false → free_runs at (replicate n kind ++ kinds) ≡ free_runs (at + n) kinds
skipped zero at kind kinds other = let num : at ≡ at + 0 = omega arith in ap (λ a. free_runs a kinds) num
skipped (suc n) at kind kinds other =
    let num : at + 1 + n ≡ at + suc n = omega arith in
    rw other (skipped n (at + 1) kind kinds other ∙ ap (λ a. free_runs a kinds) num)

-- the first run begins above this block
abbrev pub StartsAbove : ℕ → List Extent → Type 0
StartsAbove block [] = Unit {0}
StartsAbove block (run ∷ runs) = block < run.first

lone : (block : ℕ) (runs : List Extent) → StartsAbove (block + 1) runs → joined block runs ≡ record { first = block; count = 1 } ∷ runs
lone block [] above = refl
lone block (run ∷ runs) above = let apart : (run.first == block + 1) ≡ false = grind arith in rw apart refl

gathered : (n at : ℕ) (kinds : List Kind) → StartsAbove (at + suc n) (free_runs (at + suc n) kinds) → free_runs at (replicate (suc n) Free ++ kinds) ≡ record { first = at; count = suc n } ∷ free_runs (at + suc n) kinds
gathered zero at kinds above = lone at (free_runs (at + 1) kinds) above
gathered (suc n) at kinds above =
    let num : at + 1 + suc n ≡ at + suc (suc n) = omega arith in
    let count : suc n + 1 ≡ suc (suc n) = omega arith in
    let next : (at + 1 == at + 1) ≡ true = grind arith in
    let rest = gathered n (at + 1) kinds (subst (λ a. StartsAbove a (free_runs a kinds)) (sym num) above) in
    ap (joined at) rest ∙ rw next (rw (num, count) refl)

parts_above : (block at : ℕ) (before : Option Kind) (runs : List Run) → block < at → IsNormal at before runs → StartsAbove block (free_parts at runs)
parts_above block at before [] below h = tt
parts_above block at before (run ∷ runs) below h =
    elim (is_free run.kind) as (λ t. StartsAbove block (cond t (record { first = at; count = run.end - at } ∷ free_parts run.end runs) (free_parts run.end runs))) [
      | true ↦ below
      | false ↦ parts_above block run.end (Some run.kind) runs (omega (arith, below, h.0)) h.2
    ]

-- after a free run
parts_apart : (at : ℕ) (runs : List Run) → IsNormal at (Some Free) runs → StartsAbove at (free_parts at runs)
parts_apart at [] h = tt
parts_apart at (run ∷ runs) h =
    let other : is_free run.kind ≡ false = not_free run.kind (λ e. h.1 (ap (λ (k : Kind). Some k) (sym e))) in
    rw other (parts_above at run.end (Some run.kind) runs h.0 h.2)

-- the free runs of the kinds are those of the runs
parts_of : (at : ℕ) (run : Run) (runs : List Run) (t : Bool) → is_free run.kind ≡ t → at < run.end → IsNormal run.end (Some run.kind) runs → free_runs run.end (spread run.end runs) ≡ free_parts run.end runs → free_runs at (spread at (run ∷ runs)) ≡ cond t (record { first = at; count = run.end - at } ∷ free_parts run.end runs) (free_parts run.end runs)
parts_of at run runs true e some h rest =
    let num : run.end - at ≡ suc (run.end - at - 1) = omega arith in
    let end : at + suc (run.end - at - 1) ≡ run.end = omega arith in
    let kind = free_is run.kind e in
    let apart = subst (λ (l : List Extent). StartsAbove run.end l) (sym rest) (parts_apart run.end runs (subst (λ k. IsNormal run.end (Some k) runs) kind h)) in
    ap (λ k. free_runs at (replicate (run.end - at) k ++ spread run.end runs)) kind
    ∙ ap (λ n. free_runs at (replicate n Free ++ spread run.end runs)) num
    ∙ gathered (run.end - at - 1) at (spread run.end runs) (subst (λ a. StartsAbove a (free_runs a (spread run.end runs))) (sym end) apart)
    ∙ rw (end, ← num) (ap (λ (l : List Extent). record { first = at; count = run.end - at } ∷ l) rest)
parts_of at run runs false e some h rest =
    let end : at + (run.end - at) ≡ run.end = omega arith in
    skipped (run.end - at) at run.kind (spread run.end runs) e ∙ rw end rest

pub parts_are : (at : ℕ) (before : Option Kind) (runs : List Run) → IsNormal at before runs → free_runs at (spread at runs) ≡ free_parts at runs
parts_are at before [] h = refl
parts_are at before (run ∷ runs) h = parts_of at run runs (is_free run.kind) refl h.0 h.2 (parts_are run.end (Some run.kind) runs h.2)

-- the longest so far, and what is to come
abbrev pub merged : Option Extent → Option Extent → Option Extent
merged None rest = rest
merged (Some best) rest = Some (longer best rest)

-- what is picked, where the runs so far were too short
abbrev pub found_in : ℕ → Option Extent → List Extent → Option Extent
found_in want best parts = cut_to want (find (λ run. nat_le want run.count) parts) (merged best (longest parts))

pub fits : (want : ℕ) (best : Option Extent) (part : Extent) (parts : List Extent) → want ≤ part.count → found_in want best (part ∷ parts) ≡ Some (record { first = part.first; count = want })
fits want best part parts enough = let yes : nat_le want part.count ≡ true = grind arith in rw yes refl

longer_twice : (a e : Extent) (rest : Option Extent) → longer a (Some (longer e rest)) ≡ longer (cond (nat_lt a.count e.count) e a) rest
longer_twice a e None = refl
longer_twice a e (Some b) = grind arith

pub goes_by : (want : ℕ) (best : Option Extent) (part : Extent) (parts : List Extent) → part.count < want → found_in want best (part ∷ parts) ≡ found_in want (Some (longer_of best part)) parts
goes_by want None part parts short = let small : nat_le want part.count ≡ false = grind arith in rw small refl
goes_by want (Some a) part parts short = let small : nat_le want part.count ≡ false = grind arith in rw small (ap (λ l. cut_to want (find (λ run. nat_le want run.count) parts) (Some l)) (longer_twice a part (longest parts)))

pub free_step_parts : (at : ℕ) (runs : List Run) (i : ℕ) (d : Run) → i < length runs → is_free (get_or runs i d).kind ≡ true → free_parts at (drop i runs) ≡ record { first = at; count = (get_or runs i d).end - at } ∷ free_parts (get_or runs i d).end (drop (suc i) runs)
free_step_parts at runs i d inside e = ap (free_parts at) (drop-cons runs i d inside) ∙ rw e refl

pub other_step_parts : (at : ℕ) (runs : List Run) (i : ℕ) (d : Run) → i < length runs → is_free (get_or runs i d).kind ≡ false → free_parts at (drop i runs) ≡ free_parts (get_or runs i d).end (drop (suc i) runs)
other_step_parts at runs i d inside e = ap (free_parts at) (drop-cons runs i d inside) ∙ rw e refl
