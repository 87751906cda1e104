-- What is picked, for any list of kinds.
use Rattle.std.proofs.Common.{◌≡◌, ◌≢◌, ◌⊎◌, ℕ, suc, ◌+◌, ◌-◌, ◌<◌, ◌≤◌, ◌==◌, nat_lt, nat_le, Bool, true, false, cond, List, [], ◌∷◌, ◌++◌, length, take, replicate, get_or, Option, Some, None, refl, sym, ap, ◌∙◌, subst, inl, inr, arith}
use Rattle.std.proofs.lemmas.Bool.{cases_lt}
use Rattle.std.specs.Prelude.{MatchOption}
use Rattle.std.specs.List.{find}
use Rattle.bow_units.specs.declared.sizes.Extent.{Extent}
use Rattle.bow_units.specs.declared.statuses.Kind.{Kind}
use Rattle.bow_units.specs.declared.statuses.Kind.TheVariants.{Sector0, Current, Unchanged, Free, Changed, Backup, Saved}
use Rattle.bow_ranges.specs.declared.runs.Run.{Run}
use Rattle.bow_ranges.specs.Kinds.{is_free, count_of}
use Rattle.bow_ranges.specs.Picks.{longer, longest, cut_to, picked_of, picked, IsPicked}
use Rattle.bow_ranges.specs.Runs.{spread, end_of, free_parts, IsNormal, IsCut}
use Rattle.bow_ranges.proofs.RunLists.{some_injective}
use Rattle.std.proofs.Math.Seq.{drop-cons}
use Rattle.bow_ranges.proofs.RunReads.{run_found, kind_found, total_above, count-append, count-replicate}
use Rattle.bow_ranges.proofs.RunPicks.{parts_are, free_is}

number_of : Kind → ℕ
number_of Sector0 = 0
number_of Current = 1
number_of Unchanged = 2
number_of Free = 3
number_of Changed = 4
number_of Backup = 5
number_of Saved = 6

kind_numbered : ℕ → Kind
kind_numbered n = cond (n == 0) Sector0 (cond (n == 1) Current (cond (n == 2) Unchanged (cond (n == 3) Free (cond (n == 4) Changed (cond (n == 5) Backup Saved)))))

same_number : (kind : Kind) → kind_numbered (number_of kind) ≡ kind
unfolding number_of kind_numbered
same_number Sector0 = refl
same_number Current = refl
same_number Unchanged = refl
same_number Free = refl
same_number Changed = refl
same_number Backup = refl
same_number Saved = refl

-- two kinds are the same or not
same_or_not : (a b : Kind) → (a ≡ b) ⊎ (a ≢ b)
same_or_not a b = elim (cases_lt (number_of a) (number_of b)) [
  | inl below ↦ inr (λ e. let n = ap number_of e in absurd (omega (arith, n, below)))
  | inr above ↦ elim (cases_lt (number_of b) (number_of a)) [
    | inl below ↦ inr (λ e. let n = ap number_of e in absurd (omega (arith, n, below)))
    | inr level ↦ inl (let n : number_of a ≡ number_of b = omega (arith, above, level) in sym (same_number a) ∙ ap kind_numbered n ∙ same_number b)
  ]
]

-- each list of kinds is that of some runs
record IsSpread (at : ℕ) (kinds : List Kind) : Type 0 where
  runs : List Run
  spreads : spread at runs ≡ kinds
  normal : IsNormal at None runs

none_some : (kind : Kind) → None ≢ Some kind
none_some kind = λ e. cc

with_one : (at : ℕ) (kind : Kind) (kinds : List Kind) (runs : List Run) → spread (at + 1) runs ≡ kinds → IsNormal (at + 1) None runs → IsSpread at (kind ∷ kinds)
with_one at kind kinds [] e h =
    let one : at + 1 - at ≡ 1 = omega arith in
    record { runs = record { end = at + 1; kind = kind } ∷ []; spreads = rw one (ap (λ (l : List Kind). kind ∷ l) e); normal = (omega arith, none_some kind, tt) }
with_one at kind kinds (run ∷ runs) e h = elim (same_or_not kind run.kind) [
  | inl same ↦
      let num : run.end - at ≡ suc (run.end - (at + 1)) = omega (arith, h.0) in
      record { runs = run ∷ runs; spreads = rw (num, sym same) (ap (λ (l : List Kind). kind ∷ l) (ap (λ k. replicate (run.end - (at + 1)) k ++ spread run.end runs) same ∙ e)); normal = (omega (arith, h.0), h.1, h.2) }
  | inr other ↦
      let one : at + 1 - at ≡ 1 = omega arith in
      record { runs = record { end = at + 1; kind = kind } ∷ run ∷ runs; spreads = rw one (ap (λ (l : List Kind). kind ∷ l) e); normal = (omega arith, none_some kind, (h.0, λ same. other (some_injective same), h.2)) }
]

runs_for : (at : ℕ) (kinds : List Kind) → IsSpread at kinds
runs_for at [] = record { runs = []; spreads = refl; normal = tt }
runs_for at (kind ∷ kinds) = let rest = runs_for (at + 1) kinds in with_one at kind kinds rest.runs rest.spreads rest.normal

-- of each of the extents
abbrev Every : (Extent → Type 0) → List Extent → Type 0
Every P [] = Unit {0}
Every P (x ∷ xs) = P x × Every P xs

every_mapped : (P Q : Extent → Type 0) (xs : List Extent) → ((x : Extent) → P x → Q x) → Every P xs → Every Q xs
every_mapped P Q [] f h = tt
every_mapped P Q (x ∷ xs) f h = (f x h.0, every_mapped P Q xs f h.1)

-- the extent is one of the runs, a free one
record IsPart (at : ℕ) (d : Run) (runs : List Run) (e : Extent) : Type 0 where
  place : ℕ
  inside : place < length runs
  first : e.first ≡ end_of at (take place runs)
  end : e.first + e.count ≡ (get_or runs place d).end
  some : 0 < e.count
  free : is_free (get_or runs place d).kind ≡ true

later : (at : ℕ) (d run : Run) (runs : List Run) (e : Extent) → IsPart run.end d runs e → IsPart at d (run ∷ runs) e
later at d run runs e h = record { place = suc h.place; inside = omega (arith, h.inside); first = h.first; end = h.end; some = h.some; free = h.free }

parts_one : (at : ℕ) (d run : Run) (runs : List Run) (t : Bool) → is_free run.kind ≡ t → at < run.end → Every (IsPart run.end d runs) (free_parts run.end runs)
    → Every (IsPart at d (run ∷ runs)) (cond t (record { first = at; count = run.end - at } ∷ free_parts run.end runs) (free_parts run.end runs))
parts_one at d run runs true e some rest = (record { place = 0; inside = omega arith; first = refl; end = omega (arith, some); some = omega (arith, some); free = e }, every_mapped (IsPart run.end d runs) (IsPart at d (run ∷ runs)) (free_parts run.end runs) (later at d run runs) rest)
parts_one at d run runs false e some rest = every_mapped (IsPart run.end d runs) (IsPart at d (run ∷ runs)) (free_parts run.end runs) (later at d run runs) rest

each_part : (at : ℕ) (before : Option Kind) (d : Run) (runs : List Run) → IsNormal at before runs → Every (IsPart at d runs) (free_parts at runs)
each_part at before d [] h = tt
each_part at before d (run ∷ runs) h = parts_one at d run runs (is_free run.kind) refl h.0 (each_part run.end (Some run.kind) d runs h.2)

part_is_run : (runs : List Run) (d : Run) (want : ℕ) (part : Extent) (count : ℕ) → IsNormal 0 None runs → IsPart 0 d runs part → 0 < count → count ≤ want → count ≤ part.count → IsPicked (spread 0 runs) want (record { first = part.first; count = count })
part_is_run runs d want part count h p some most within =
    let cut : IsCut runs part.first p.place = record { within = omega (arith, p.inside); ends = omega (arith, p.first); above = rw (drop-cons runs p.place d p.inside) (omega (arith, p.end, p.some)) } in
    let below : part.first < end_of 0 runs = omega (arith, p.end, p.some, total_above runs p.place d h p.inside) in
    record {
      some = some;
      most = most;
      free = kind_found runs p.place d part.first h cut below ∙ free_is (get_or runs p.place d).kind p.free;
      run = part;
      is_run = run_found runs p.place d part.first part.first part.count h cut below p.first (omega (arith, p.end));
      first = refl;
      within = within;
    }

-- of the longest of some extents
longest_of : (P : Extent → Type 0) (x : Extent) (xs : List Extent) → Every P (x ∷ xs) → (y : Extent) × (longest (x ∷ xs) ≡ Some y) × P y
longest_of P x [] h = (x, refl, h.0)
longest_of P x (z ∷ zs) h =
    let rest = longest_of P z zs h.1 in
    elim (nat_lt x.count rest.0.count) as (λ t. nat_lt x.count rest.0.count ≡ t → (y : Extent) × (longest (x ∷ z ∷ zs) ≡ Some y) × P y) [
      | true ↦ λ e. (rest.0, ap (λ o. Some (longer x o)) rest.1 ∙ rw e refl, rest.2)
      | false ↦ λ e. (x, ap (λ o. Some (longer x o)) rest.1 ∙ rw e refl, h.0)
    ] refl

-- the first extent that has as many blocks, if any
found_or_short : (P : Extent → Type 0) (want : ℕ) (xs : List Extent) → Every P xs
    → ((x : Extent) × (find (λ run. nat_le want run.count) xs ≡ Some x) × P x × (want ≤ x.count)) ⊎ ((find (λ run. nat_le want run.count) xs ≡ None) × Every (λ x. P x × (x.count < want)) xs)
found_or_short P want [] h = inr (refl, tt)
found_or_short P want (x ∷ xs) h = elim (cases_lt x.count want) [
  | inr enough ↦ inl (let fits : nat_le want x.count ≡ true = grind arith in (x, rw fits refl, h.0, enough))
  | inl short ↦ let small : nat_le want x.count ≡ false = grind arith in
      elim (found_or_short P want xs h.1) [
        | inl (y, e, p, enough) ↦ inl (y, rw small e, p, enough)
        | inr (none, each) ↦ inr (rw small none, ((h.0, short), each))
      ]
]

-- no free run, no free block
none_one : (at : ℕ) (run : Run) (runs : List Run) (t : Bool) → is_free run.kind ≡ t → at < run.end → (free_parts run.end runs ≡ [] → count_of is_free (spread run.end runs) ≡ 0)
    → cond t (record { first = at; count = run.end - at } ∷ free_parts run.end runs) (free_parts run.end runs) ≡ [] → count_of is_free (spread at (run ∷ runs)) ≡ 0
none_one at run runs true f some rest e = absurd (let n = ap length e in omega (arith, n))
none_one at run runs false f some rest e =
    let whole = count-append is_free (replicate (run.end - at) run.kind) (spread run.end runs) in
    let here = rw f at (count-replicate is_free (run.end - at) run.kind) in
    omega (arith, rest e, whole, here)

none_free : (at : ℕ) (before : Option Kind) (runs : List Run) → IsNormal at before runs → free_parts at runs ≡ [] → count_of is_free (spread at runs) ≡ 0
none_free at before [] h e = refl
none_free at before (run ∷ runs) h e = none_one at run runs (is_free run.kind) refl h.0 (none_free run.end (Some run.kind) runs h.2) e

picked_along : (runs : List Run) (d : Run) (want : ℕ) (parts : List Extent) → IsNormal 0 None runs → 1 ≤ want → free_parts 0 runs ≡ parts → Every (IsPart 0 d runs) parts → MatchOption (picked_of parts want) (count_of is_free (spread 0 runs) ≡ 0) (IsPicked (spread 0 runs) want)
picked_along runs d want [] h some e each = none_free 0 None runs h e
picked_along runs d want (part ∷ parts) h some e each = elim (found_or_short (IsPart 0 d runs) want (part ∷ parts) each) [
  | inl (x, found, p, enough) ↦ rw found (part_is_run runs d want x want h p (omega (arith, some)) (omega arith) enough)
  | inr (none, short) ↦
      let best = longest_of (λ x. IsPart 0 d runs x × (x.count < want)) part parts short in
      let answer : picked_of (part ∷ parts) want ≡ Some best.0 = ap (λ (f : Option Extent). cut_to want f (longest (part ∷ parts))) none ∙ best.1 in
      subst (λ (a : Option Extent). MatchOption a (count_of is_free (spread 0 runs) ≡ 0) (IsPicked (spread 0 runs) want)) (sym answer) (part_is_run runs d want best.0 best.0.count h best.2.0 best.2.0.some (omega (arith, best.2.1)) (omega arith))
]

pub picked_is : (kinds : List Kind) (want : ℕ) → 1 ≤ want → MatchOption (picked kinds want) (count_of is_free kinds ≡ 0) (IsPicked kinds want)
picked_is kinds want some =
    let table = runs_for 0 kinds in
    let d : Run = record { end = 0; kind = Sector0 } in
    let along = picked_along table.runs d want (free_parts 0 table.runs) table.normal some refl (each_part 0 None d table.runs table.normal) in
    let known = subst (λ l. MatchOption (picked_of l want) (count_of is_free (spread 0 table.runs) ≡ 0) (IsPicked (spread 0 table.runs) want)) (sym (parts_are 0 None table.runs table.normal)) along in
    subst (λ k. MatchOption (picked k want) (count_of is_free k ≡ 0) (IsPicked k want)) table.spreads known
