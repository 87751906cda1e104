-- Lists of kinds after a change.
use Rattle.std.proofs.Common.{◌≡◌, ◌≢◌, ◌⊎◌, ℕ, zero, suc, ◌+◌, ◌-◌, ◌*◌, ◌<◌, ◌≤◌, Bool, true, false, not, ◌&&◌, ◌||◌, cond, List, [], ◌∷◌, ◌++◌, length, map, take, drop, replicate, get_or, refl, sym, ap, ◌∙◌, inl, inr, arith, take-append-drop, length-append, length-take, length-drop}
use Rattle.std.proofs.lemmas.List.{length-take-le, length-replicate, length-map, get_or-append_right, get_or_append_left, get_or-replicate, get_or-take, get_or-drop, get_or_default, get_or-map, same_lists}
use Rattle.std.proofs.lemmas.List.{drop-drop}
use Rattle.std.proofs.lemmas.List.Sums.{sum_by-append}
use Rattle.std.proofs.lemmas.List.Folds.{sum_by-replicate}
use Rattle.std.proofs.lemmas.List.FromFn.{length-enumerate_from, get_or-enumerate_from}
use Rattle.std.proofs.lemmas.Bool.{cases_lt, false≢true}
use Rattle.std.specs.List.{list_any, enumerate_from}
use Rattle.bow_units.specs.declared.sizes.Extent.{Extent}
use Rattle.bow_units.specs.declared.statuses.Kind.{Kind}
use Rattle.bow_units.specs.declared.statuses.Kind.TheVariants.{Sector0, Current, Unchanged, Free, Changed, Backup, Saved}
use Rattle.bow_ranges.specs.Kinds.{is_changed, kind_at, holds, count_of, part, with_kind, kind_reclaimed, reclaimed}

not_changed : (kind : Kind) → (kind ≡ Changed → ⊥) → is_changed kind ≡ false
not_changed Changed other = absurd (other refl)
not_changed Sector0 other = refl
not_changed Current other = refl
not_changed Unchanged other = refl
not_changed Free other = refl
not_changed Backup other = refl
not_changed Saved other = refl

same_kinds : (xs ys : List Kind) → length xs ≡ length ys → ((b : ℕ) → b < length xs → kind_at xs b ≡ kind_at ys b) → xs ≡ ys
same_kinds xs ys sizes each = same_lists xs ys sizes (λ b d inside. get_or_default xs b d Unchanged inside ∙ each b inside ∙ get_or_default ys b Unchanged d (omega (arith, sizes, inside)))

pub length-with_kind : (kinds : List Kind) (e : Extent) (kind : Kind) → e.first + e.count ≤ length kinds → length (with_kind kinds e kind) ≡ length kinds
length-with_kind kinds e kind inside = simp (length-append, length-replicate, length-drop, length-take) (omega arith)

changed_part : (kinds : List Kind) (e : Extent) (kind : Kind) → e.first + e.count ≤ length kinds → length (take e.first kinds ++ replicate e.count kind) ≡ e.first + e.count
changed_part kinds e kind inside = omega (arith, length-append (take e.first kinds) (replicate e.count kind), length-take-le e.first kinds (omega arith), length-replicate e.count kind)

pub kind_below : (kinds : List Kind) (e : Extent) (kind : Kind) (b : ℕ) → e.first + e.count ≤ length kinds → b < e.first → kind_at (with_kind kinds e kind) b ≡ kind_at kinds b
kind_below kinds e kind b inside low =
    get_or_append_left (take e.first kinds ++ replicate e.count kind) (drop (e.first + e.count) kinds) Unchanged b (omega (arith, changed_part kinds e kind inside, low))
    ∙ get_or_append_left (take e.first kinds) (replicate e.count kind) Unchanged b (omega (arith, length-take-le e.first kinds (omega arith), low))
    ∙ get_or-take e.first kinds b Unchanged low

pub kind_inside : (kinds : List Kind) (e : Extent) (kind : Kind) (b : ℕ) → e.first + e.count ≤ length kinds → e.first ≤ b → b < e.first + e.count → kind_at (with_kind kinds e kind) b ≡ kind
kind_inside kinds e kind b inside low high =
    get_or_append_left (take e.first kinds ++ replicate e.count kind) (drop (e.first + e.count) kinds) Unchanged b (omega (arith, changed_part kinds e kind inside, high))
    ∙ get_or-append_right (take e.first kinds) (replicate e.count kind) e.first b Unchanged (length-take-le e.first kinds (omega arith)) low
    ∙ get_or-replicate e.count (b - e.first) kind Unchanged (omega arith)

pub kind_above : (kinds : List Kind) (e : Extent) (kind : Kind) (b : ℕ) → e.first + e.count ≤ length kinds → e.first + e.count ≤ b → kind_at (with_kind kinds e kind) b ≡ kind_at kinds b
kind_above kinds e kind b inside high =
    let num : e.first + e.count + (b - (e.first + e.count)) ≡ b = omega arith in
    get_or-append_right (take e.first kinds ++ replicate e.count kind) (drop (e.first + e.count) kinds) (e.first + e.count) b Unchanged (changed_part kinds e kind inside) high
    ∙ get_or-drop (e.first + e.count) kinds (b - (e.first + e.count)) Unchanged
    ∙ ap (kind_at kinds) num

pub length-reclaimed : (kinds : List Kind) (e : Extent) (but : List Extent) → length (reclaimed kinds e but) ≡ length kinds
length-reclaimed kinds e but = simp (length-map, length-enumerate_from)

pub kind_at-reclaimed : (kinds : List Kind) (e : Extent) (but : List Extent) (b : ℕ) → b < length kinds → kind_at (reclaimed kinds e but) b ≡ kind_reclaimed e but b (kind_at kinds b)
kind_at-reclaimed kinds e but b inside =
    let num : 0 + b ≡ b = omega arith in
    get_or-map (λ (p : ℕ × Kind). kind_reclaimed e but p.0 p.1) (enumerate_from 0 kinds) b (0, Unchanged) Unchanged (omega (arith, length-enumerate_from 0 kinds, inside))
    ∙ ap (λ (p : ℕ × Kind). kind_reclaimed e but p.0 p.1) (get_or-enumerate_from 0 kinds b (0, Unchanged) inside)
    ∙ ap (λ n. kind_reclaimed e but n (kind_at kinds b)) num

-- some extent holds the block
abbrev pub held : List Extent → ℕ → Bool
held but b = list_any (λ other. holds other b) but

abbrev pub extent_of : ℕ → ℕ → Extent
extent_of first count = record { first = first; count = count }

same_holding : (x y : Extent) (but : List Extent) (b : ℕ) (kind : Kind) → holds x b ≡ holds y b → kind_reclaimed x but b kind ≡ kind_reclaimed y but b kind
same_holding x y but b kind e = ap (λ h. cond (is_changed kind && (h && not (held but b))) Free kind) e

not_held : (x : Extent) (but : List Extent) (b : ℕ) (kind : Kind) → holds x b ≡ false → kind_reclaimed x but b kind ≡ kind
not_held x but b kind e = rw e (elim (is_changed kind) as (λ t. cond (t && (false && not (held but b))) Free kind ≡ kind) [ true ↦ refl | false ↦ refl ])

spared : (x : Extent) (but : List Extent) (b : ℕ) (kind : Kind) → held but b ≡ true → kind_reclaimed x but b kind ≡ kind
spared x but b kind e = rw e (elim (is_changed kind) as (λ t. cond (t && (holds x b && false)) Free kind ≡ kind) [ true ↦ elim (holds x b) as (λ h. cond (true && (h && false)) Free kind ≡ kind) [ true ↦ refl | false ↦ refl ] | false ↦ refl ])

other_kind : (x : Extent) (but : List Extent) (b : ℕ) (kind : Kind) → is_changed kind ≡ false → kind_reclaimed x but b kind ≡ kind
other_kind x but b kind e = rw e refl

freed : (x : Extent) (but : List Extent) (b : ℕ) (kind : Kind) → is_changed kind ≡ true → holds x b ≡ true → held but b ≡ false → kind_reclaimed x but b kind ≡ Free
freed x but b kind changed here free = rw (changed, here, free) refl

pub reclaimed_none : (kinds : List Kind) (first n : ℕ) (but : List Extent) → n ≡ 0 → kinds ≡ reclaimed kinds (extent_of first n) but
reclaimed_none kinds first n but none = same_kinds kinds (reclaimed kinds (extent_of first n) but) (sym (length-reclaimed kinds (extent_of first n) but)) (λ b inside.
    let out : holds (extent_of first n) b ≡ false = grind arith in
    sym (kind_at-reclaimed kinds (extent_of first n) but b inside ∙ not_held (extent_of first n) but b (kind_at kinds b) out))

-- one piece further: outside it nothing changes
further : (kinds new : List Kind) (but : List Extent) (first n more : ℕ) → length new ≡ length kinds
    → ((b : ℕ) → b < length kinds → (b < first + n) ⊎ (more ≤ b) → kind_at new b ≡ kind_at (reclaimed kinds (extent_of first n) but) b)
    → ((b : ℕ) → b < length kinds → first + n ≤ b → b < more → kind_at new b ≡ kind_reclaimed (extent_of first (more - first)) but b (kind_at kinds b))
    → first + n ≤ more → new ≡ reclaimed kinds (extent_of first (more - first)) but
further kinds new but first n more sizes outside here order =
    same_kinds new (reclaimed kinds (extent_of first (more - first)) but) (sizes ∙ sym (length-reclaimed kinds (extent_of first (more - first)) but)) (λ b within.
    let inside : b < length kinds = omega (arith, sizes, within) in
    let at = kind_at-reclaimed kinds (extent_of first (more - first)) but b inside in
    elim (cases_lt b (first + n)) [
      | inl low ↦
          let same : holds (extent_of first n) b ≡ holds (extent_of first (more - first)) b = grind arith in
          outside b inside (inl low) ∙ kind_at-reclaimed kinds (extent_of first n) but b inside ∙ same_holding (extent_of first n) (extent_of first (more - first)) but b (kind_at kinds b) same ∙ sym at
      | inr high ↦ elim (cases_lt b more) [
        | inl mid ↦ here b inside high mid ∙ sym at
        | inr past ↦
            let same : holds (extent_of first n) b ≡ holds (extent_of first (more - first)) b = grind arith in
            outside b inside (inr past) ∙ kind_at-reclaimed kinds (extent_of first n) but b inside ∙ same_holding (extent_of first n) (extent_of first (more - first)) but b (kind_at kinds b) same ∙ sym at
      ]
    ])

-- what the piece had before
untouched : (kinds : List Kind) (but : List Extent) (first n b : ℕ) → b < length kinds → first + n ≤ b → kind_at (reclaimed kinds (extent_of first n) but) b ≡ kind_at kinds b
untouched kinds but first n b inside high =
    let out : holds (extent_of first n) b ≡ false = grind arith in
    kind_at-reclaimed kinds (extent_of first n) but b inside ∙ not_held (extent_of first n) but b (kind_at kinds b) out

pub spared_step : (kinds now : List Kind) (but : List Extent) (first n more : ℕ) → now ≡ reclaimed kinds (extent_of first n) but → first + n ≤ more → ((b : ℕ) → first + n ≤ b → b < more → held but b ≡ true) → now ≡ reclaimed kinds (extent_of first (more - first)) but
spared_step kinds now but first n more e order all =
    further kinds now but first n more (ap length e ∙ length-reclaimed kinds (extent_of first n) but) (λ b inside out. ap (λ (l : List Kind). kind_at l b) e)
    (λ b inside low high. ap (λ (l : List Kind). kind_at l b) e ∙ untouched kinds but first n b inside low ∙ sym (spared (extent_of first (more - first)) but b (kind_at kinds b) (all b low high))) order

pub other_step : (kinds now : List Kind) (but : List Extent) (first n more : ℕ) → now ≡ reclaimed kinds (extent_of first n) but → first + n ≤ more → ((b : ℕ) → first + n ≤ b → b < more → kind_at now b ≢ Changed) → now ≡ reclaimed kinds (extent_of first (more - first)) but
other_step kinds now but first n more e order all =
    further kinds now but first n more (ap length e ∙ length-reclaimed kinds (extent_of first n) but) (λ b inside out. ap (λ (l : List Kind). kind_at l b) e)
    (λ b inside low high.
    let was = ap (λ (l : List Kind). kind_at l b) e ∙ untouched kinds but first n b inside low in
    was ∙ sym (other_kind (extent_of first (more - first)) but b (kind_at kinds b) (not_changed (kind_at kinds b) (λ c. all b low high (was ∙ c))))) order

pub freed_step : (kinds now new : List Kind) (but : List Extent) (first n more : ℕ) → now ≡ reclaimed kinds (extent_of first n) but → first + n ≤ more → more ≤ length now
    → ((b : ℕ) → first + n ≤ b → b < more → kind_at now b ≡ Changed) → ((b : ℕ) → first + n ≤ b → b < more → held but b ≡ false)
    → new ≡ with_kind now (extent_of (first + n) (more - (first + n))) Free → new ≡ reclaimed kinds (extent_of first (more - first)) but
freed_step kinds now new but first n more e order inside_now all none is_new =
    let fits : first + n + (more - (first + n)) ≤ length now = omega arith in
    let sizes = ap length e ∙ length-reclaimed kinds (extent_of first n) but in
    further kinds new but first n more (ap length is_new ∙ length-with_kind now (extent_of (first + n) (more - (first + n))) Free fits ∙ sizes)
    (λ b inside out. ap (λ (l : List Kind). kind_at l b) is_new ∙ elim out [
      | inl low ↦ kind_below now (extent_of (first + n) (more - (first + n))) Free b fits low
      | inr past ↦ kind_above now (extent_of (first + n) (more - (first + n))) Free b fits (omega arith)
    ] ∙ ap (λ (l : List Kind). kind_at l b) e)
    (λ b inside low high.
    let was = ap (λ (l : List Kind). kind_at l b) e ∙ untouched kinds but first n b inside low in
    let here : holds (extent_of first (more - first)) b ≡ true = grind arith in
    ap (λ (l : List Kind). kind_at l b) is_new ∙ kind_inside now (extent_of (first + n) (more - (first + n))) Free b fits low (omega arith)
    ∙ sym (freed (extent_of first (more - first)) but b (kind_at kinds b) (ap is_changed (sym was ∙ all b low high)) here (none b low high))) order

-- extents so far and one more
neither : (a b : Bool) → (a || b) ≡ false → (a ≡ false) × (b ≡ false)
neither true b e = absurd (false≢true (sym e))
neither false b e = (refl, e)

pub none_more : (but : List Extent) (i b : ℕ) (d : Extent) → i < length but → held (take i but) b ≡ false → holds (get_or but i d) b ≡ false → held (take (suc i) but) b ≡ false
none_more [] i b d h none no_more = absurd (omega arith)
none_more (x ∷ but) zero b d h none no_more = rw no_more refl
none_more (x ∷ but) (suc i) b d h none no_more = let parts = neither (holds x b) (held (take i but) b) none in rw parts.0 (none_more but i b d (omega arith) parts.1 no_more)

pub one_holds : (but : List Extent) (i b : ℕ) (d : Extent) → i < length but → holds (get_or but i d) b ≡ true → held but b ≡ true
one_holds [] i b d h yes_here = absurd (omega arith)
one_holds (x ∷ but) zero b d h yes_here = rw yes_here refl
one_holds (x ∷ but) (suc i) b d h yes_here = rw (one_holds but i b d (omega arith) yes_here) (elim (holds x b) as (λ t. (t || true) ≡ true) [ true ↦ refl | false ↦ refl ])

-- counts
count-append : (sort : Kind → Bool) (xs ys : List Kind) → count_of sort (xs ++ ys) ≡ count_of sort xs + count_of sort ys
count-append sort xs ys = sum_by-append (λ x. cond (sort x) 1 0) xs ys

pub count-with_kind : (kinds : List Kind) (e : Extent) (kind : Kind) (sort : Kind → Bool) → e.first + e.count ≤ length kinds → count_of sort (with_kind kinds e kind) + count_of sort (part kinds e) ≡ count_of sort kinds + e.count * cond (sort kind) 1 0
count-with_kind kinds e kind sort inside =
    let whole : count_of sort (take e.first kinds) + count_of sort (drop e.first kinds) ≡ count_of sort kinds = sym (count-append sort (take e.first kinds) (drop e.first kinds)) ∙ ap (count_of sort) (take-append-drop e.first kinds) in
    let rest : count_of sort (part kinds e) + count_of sort (drop (e.first + e.count) kinds) ≡ count_of sort (drop e.first kinds) =
    ap (λ (l : List Kind). count_of sort (part kinds e) + count_of sort l) (sym (drop-drop e.count e.first kinds)) ∙ sym (count-append sort (part kinds e) (drop e.count (drop e.first kinds))) ∙ ap (count_of sort) (take-append-drop e.count (drop e.first kinds)) in
    let new = count-append sort (take e.first kinds ++ replicate e.count kind) (drop (e.first + e.count) kinds) in
    let front = count-append sort (take e.first kinds) (replicate e.count kind) in
    let filled : count_of sort (replicate e.count kind) ≡ e.count * cond (sort kind) 1 0 = sum_by-replicate (λ x. cond (sort x) 1 0) e.count kind in
    omega (arith, whole, rest, new, front, filled)

is_it : (kind : Kind) → is_changed kind ≡ true → kind ≡ Changed
is_it kind e = grind (arith, e)

sort_kept : (sort : Kind → Bool) (t : Bool) (kind : Kind) → (t ≡ true → kind ≡ Changed) → sort Free ≡ sort Changed → sort (cond t Free kind) ≡ sort kind
sort_kept sort true kind changed same = same ∙ ap sort (sym (changed refl))
sort_kept sort false kind changed same = refl

first_true : (a b : Bool) → (a && b) ≡ true → a ≡ true
first_true true b e = refl
first_true false b e = e

reclaimed_from : (e : Extent) (but : List Extent) (sort : Kind → Bool) (n : ℕ) (kinds : List Kind) → sort Free ≡ sort Changed → count_of sort (map (λ (p : ℕ × Kind). kind_reclaimed e but p.0 p.1) (enumerate_from n kinds)) ≡ count_of sort kinds
reclaimed_from e but sort n [] same = refl
reclaimed_from e but sort n (kind ∷ kinds) same =
    let here : sort (kind_reclaimed e but n kind) ≡ sort kind = sort_kept sort (is_changed kind && (holds e n && not (held but n))) kind (λ t. is_it kind (first_true (is_changed kind) (holds e n && not (held but n)) t)) same in
    let rest = reclaimed_from e but sort (n + 1) kinds same in
    let single : Bool → ℕ = λ t. 0 + cond t 1 0 in
    omega (
      arith,
      rest,
      ap single here,
      count-append sort (kind_reclaimed e but n kind ∷ []) (map (λ (p : ℕ × Kind). kind_reclaimed e but p.0 p.1) (enumerate_from (n + 1) kinds)),
      count-append sort (kind ∷ []) kinds,
    )

pub count-reclaimed : (kinds : List Kind) (e : Extent) (but : List Extent) (sort : Kind → Bool) → sort Free ≡ sort Changed → count_of sort (reclaimed kinds e but) ≡ count_of sort kinds
count-reclaimed kinds e but sort same = reclaimed_from e but sort 0 kinds same
