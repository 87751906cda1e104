-- The table of kinds after each change of it: the kind of each block, the counts, and what stays a table.
use Rattle.std.proofs.Common.{ℕ, zero, suc, ◌+◌, ◌*◌, ◌<◌, ◌≤◌, ◌≡◌, ◌≢◌, ◌⊎◌, Bool, true, false, cond, ◌||◌, List, [], ◌∷◌, length, map, take, drop, arith, refl, sym, ap, ◌∙◌, inl, inr}
use Rattle.std.proofs.lemmas.Bool.{cases_lt}
use Rattle.std.proofs.lemmas.List.{length-map}
use Rattle.std.proofs.Math.Seq.{drop-cons}
use Rattle.std.specs.List.{list_any}
use Rattle.bow_units.specs.declared.sizes.Extent.{Extent}
use Rattle.bow_units.specs.declared.sizes.Geometry.{Geometry}
use Rattle.bow_units.specs.declared.statuses.Kind.{Kind}
use Rattle.bow_units.specs.declared.statuses.Kind.TheVariants.{Sector0, Current, Unchanged, Free, Changed, Backup, Saved}
use Rattle.bow_guard.specs.Device.{unsaved}
use Rattle.bow_ranges.specs.Kinds.{is_free, kind_at, holds, count_of, part, with_kind, kind_reclaimed, reclaimed}
use Rattle.bow_ranges.proofs.KindLists.{kind_below, kind_inside, kind_above, length-with_kind, length-reclaimed, kind_at-reclaimed, count-with_kind, count-reclaimed}
use Rattle.bow_ranges.proofs.RunReads.{count-append}
use Rattle.bow_machine.specs.Steps.{one_block}
use Rattle.bow_machine.specs.MemoryIsSound.{IsTable, is_touched}

-- ----------------------------------------------------------------------------------------------------------------
-- The kind of a block.

-- a block is of the extent, or is not
pub holds_cases : (e : Extent) (b : ℕ)
    → ((e.first ≤ b) × (b < e.first + e.count) × (holds e b ≡ true)) ⊎ (((b < e.first) ⊎ (e.first + e.count ≤ b)) × (holds e b ≡ false))
holds_cases e b = elim (cases_lt b e.first) [
  | inl low ↦ inr (inl low, grind arith)
  | inr above ↦ elim (cases_lt b (e.first + e.count)) [ inl below ↦ inl (above, below, grind arith) | inr past ↦ inr (inr past, grind arith) ]
]

pub length_with : (table : List Kind) (e : Extent) (kind : Kind) → e.first + e.count ≤ length table → length (with_kind table e kind) ≡ length table
length_with table e kind fits = length-with_kind table e kind fits

pub kind_in : (table : List Kind) (e : Extent) (kind : Kind) (b : ℕ) → e.first + e.count ≤ length table → e.first ≤ b → b < e.first + e.count
    → kind_at (with_kind table e kind) b ≡ kind
kind_in table e kind b fits low high = kind_inside table e kind b fits low high

pub kind_out : (table : List Kind) (e : Extent) (kind : Kind) (b : ℕ) → e.first + e.count ≤ length table → (b < e.first) ⊎ (e.first + e.count ≤ b)
    → kind_at (with_kind table e kind) b ≡ kind_at table b
kind_out table e kind b fits (inl low) = kind_below table e kind b fits low
kind_out table e kind b fits (inr high) = kind_above table e kind b fits high

-- inside or outside, by the test
pub kind_with : (table : List Kind) (e : Extent) (kind : Kind) (b : ℕ) → e.first + e.count ≤ length table
    → kind_at (with_kind table e kind) b ≡ cond (holds e b) kind (kind_at table b)
kind_with table e kind b fits = elim (holds_cases e b) [
  | inl (low, high, is) ↦ rw is (kind_in table e kind b fits low high)
  | inr (out, is) ↦ rw is (kind_out table e kind b fits out)
]

-- of one block
pub kind_one : (table : List Kind) (b : ℕ) (kind : Kind) → b < length table → kind_at (with_kind table (one_block b) kind) b ≡ kind
kind_one table b kind inside = kind_in table (one_block b) kind b (omega arith) (omega arith) (omega arith)

pub kind_other : (table : List Kind) (b : ℕ) (kind : Kind) (x : ℕ) → b < length table → x ≢ b → kind_at (with_kind table (one_block b) kind) x ≡ kind_at table x
kind_other table b kind x inside ne = elim (cases_lt x b) [
  | inl low ↦ kind_out table (one_block b) kind x (omega arith) (inl low)
  | inr high ↦ kind_out table (one_block b) kind x (omega arith) (inr (omega (arith, high, ne)))
]

-- what was saved is changed
pub kind_unsaved : (table : List Kind) (b : ℕ) → kind_at (map unsaved table) b ≡ unsaved (kind_at table b)
kind_unsaved [] b = refl
kind_unsaved (kind ∷ table) zero = refl
kind_unsaved (kind ∷ table) (suc b) = kind_unsaved table b

pub length_unsaved : (table : List Kind) → length (map unsaved table) ≡ length table
length_unsaved table = length-map table unsaved

-- a changed block of the extent that no other one of `but` holds is free again, and each other block is as it was
pub kind_freed : (table : List Kind) (e : Extent) (but : List Extent) (b : ℕ) → b < length table
    → ((kind_at table b ≡ Changed) × (holds e b ≡ true) × (list_any (λ other. holds other b) but ≡ false) × (kind_at (reclaimed table e but) b ≡ Free)) ⊎ (kind_at (reclaimed table e but) b ≡ kind_at table b)
kind_freed table e but b inside = go (kind_at table b) refl (holds e b) refl (list_any (λ other. holds other b) but) refl
  where
    at : kind_at (reclaimed table e but) b ≡ kind_reclaimed e but b (kind_at table b)
    at = kind_at-reclaimed table e but b inside

    go : (k : Kind) → kind_at table b ≡ k → (h : Bool) → holds e b ≡ h → (a : Bool) → list_any (λ other. holds other b) but ≡ a
        → ((kind_at table b ≡ Changed) × (holds e b ≡ true) × (list_any (λ other. holds other b) but ≡ false) × (kind_at (reclaimed table e but) b ≡ Free)) ⊎ (kind_at (reclaimed table e but) b ≡ kind_at table b)
    go Changed k true h false a = inl (k, h, a, at ∙ rw (k, h, a) refl)
    go Changed k true h true a = inr (at ∙ rw (k, h, a) refl)
    go Changed k false h other a = inr (at ∙ rw (k, h) refl)
    go Sector0 k x h other a = inr (at ∙ rw k refl)
    go Current k x h other a = inr (at ∙ rw k refl)
    go Unchanged k x h other a = inr (at ∙ rw k refl)
    go Free k x h other a = inr (at ∙ rw k refl)
    go Backup k x h other a = inr (at ∙ rw k refl)
    go Saved k x h other a = inr (at ∙ rw k refl)

-- ----------------------------------------------------------------------------------------------------------------
-- The counts.

pub count_with : (table : List Kind) (e : Extent) (kind : Kind) (sort : Kind → Bool) → e.first + e.count ≤ length table
    → count_of sort (with_kind table e kind) + count_of sort (part table e) ≡ count_of sort table + e.count * cond (sort kind) 1 0
count_with table e kind sort fits = count-with_kind table e kind sort fits

-- the extent's blocks all are of this sort, or none is
pub count_part : (table : List Kind) (first n : ℕ) (sort : Kind → Bool) (is : Bool) → first + n ≤ length table
    → ((j : ℕ) → j < n → sort (kind_at table (first + j)) ≡ is) → count_of sort (part table (record { first = first; count = n })) ≡ n * cond is 1 0
count_part table first zero sort is fits each = omega arith
count_part table first (suc n) sort is fits each =
    let next : suc first + n ≡ first + suc n = omega arith in
    let here : first + 0 ≡ first = omega arith in
    let rest : count_of sort (take n (drop (suc first) table)) ≡ n * cond is 1 0 = count_part table (suc first) n sort is (omega (arith, fits)) (λ j below. let e : suc first + j ≡ first + suc j = omega arith in ap (λ i. sort (kind_at table i)) e ∙ each (suc j) (omega arith)) in
    let split : part table (record { first = first; count = suc n }) ≡ kind_at table first ∷ take n (drop (suc first) table) = rw (drop-cons table first Unchanged (omega (arith, fits))) refl in
    let one : count_of sort (kind_at table first ∷ take n (drop (suc first) table)) ≡ count_of sort (kind_at table first ∷ []) + count_of sort (take n (drop (suc first) table)) = count-append sort (kind_at table first ∷ []) (take n (drop (suc first) table)) in
    let single : Bool → ℕ = λ t. 0 + cond t 1 0 in
    let head : count_of sort (kind_at table first ∷ []) ≡ 0 + cond is 1 0 = ap single (ap (λ i. sort (kind_at table i)) (sym here) ∙ each 0 (omega arith)) in
    ap (count_of sort) split ∙ one ∙ omega (arith, rest, head)

-- one block of another kind: the count is one more or less, or as it was
pub count_one : (table : List Kind) (b : ℕ) (kind : Kind) (sort : Kind → Bool) → b < length table
    → count_of sort (with_kind table (one_block b) kind) + cond (sort (kind_at table b)) 1 0 ≡ count_of sort table + cond (sort kind) 1 0
count_one table b kind sort inside =
    let here : b + 0 ≡ b = omega arith in
    let all = count_with table (one_block b) kind sort (omega (arith, inside)) in
    let was = count_part table b 1 sort (sort (kind_at table b)) (omega (arith, inside)) (λ j below. let z : b + j ≡ b = omega arith in ap (λ i. sort (kind_at table i)) z) in
    omega (arith, all, was)

pub count_freed : (table : List Kind) (e : Extent) (but : List Extent) (sort : Kind → Bool) → sort Free ≡ sort Changed
    → count_of sort (reclaimed table e but) ≡ count_of sort table
count_freed table e but sort same = count-reclaimed table e but sort same

-- a sort that has both what is saved and what is changed, or neither
pub count_unsaved : (table : List Kind) (sort : Kind → Bool) → sort Saved ≡ sort Changed → count_of sort (map unsaved table) ≡ count_of sort table
count_unsaved [] sort same = refl
count_unsaved (kind ∷ table) sort same =
    let single : Bool → ℕ = λ t. 0 + cond t 1 0 in
    let rest = count_unsaved table sort same in
    omega (arith, rest, ap single (unsaved_sort kind), count-append sort (unsaved kind ∷ []) (map unsaved table), count-append sort (kind ∷ []) table)
  where
    unsaved_sort : (k : Kind) → sort (unsaved k) ≡ sort k
    unsaved_sort Saved = sym same
    unsaved_sort Sector0 = refl
    unsaved_sort Current = refl
    unsaved_sort Unchanged = refl
    unsaved_sort Free = refl
    unsaved_sort Changed = refl
    unsaved_sort Backup = refl

-- no kind is both free and touched
pub count_either : (table : List Kind) → count_of is_free table + count_of is_touched table ≡ count_of (λ k. is_free k || is_touched k) table
count_either [] = refl
count_either (kind ∷ table) =
    let rest = count_either table in
    omega (arith, rest, one kind, count-append is_free (kind ∷ []) table, count-append is_touched (kind ∷ []) table, count-append (λ k. is_free k || is_touched k) (kind ∷ []) table)
  where
    one : (k : Kind) → count_of is_free (k ∷ []) + count_of is_touched (k ∷ []) ≡ count_of (λ k. is_free k || is_touched k) (k ∷ [])
    one Free = refl
    one Changed = refl
    one Saved = refl
    one Sector0 = refl
    one Current = refl
    one Unchanged = refl
    one Backup = refl

-- what is free, and what was touched, after the two changes that move between them
pub free_and_touched_freed : (table : List Kind) (e : Extent) (but : List Extent)
    → count_of is_free (reclaimed table e but) + count_of is_touched (reclaimed table e but) ≡ count_of is_free table + count_of is_touched table
free_and_touched_freed table e but = count_either (reclaimed table e but) ∙ count_freed table e but (λ k. is_free k || is_touched k) refl ∙ sym (count_either table)

-- ----------------------------------------------------------------------------------------------------------------
-- What stays a table.

module _ (g : Geometry) where
  pub table_with : (table : List Kind) (e : Extent) (kind : Kind) → kind ≢ Sector0 → e.first + e.count ≤ g.blocks → (0 < e.first) ⊎ (e.count ≡ 0)
      → IsTable g table → IsTable g (with_kind table e kind)
  table_with table e kind not_0 inside above t = record {
    size = length_with table e kind fits ∙ t.size;
    zeroth = kind_out table e kind 0 fits out ∙ t.zeroth;
    only_0 = λ b on is. elim (holds_cases e b) [
      | inl (low, high, held) ↦ absurd (not_0 (sym (kind_in table e kind b fits low high) ∙ is))
      | inr (other, held) ↦ t.only_0 b on (sym (kind_out table e kind b fits other) ∙ is)
    ];
  }
    where
      fits : e.first + e.count ≤ length table
      fits = omega (arith, inside, t.size)

      out : (0 < e.first) ⊎ (e.first + e.count ≤ 0)
      out = elim above [ inl some ↦ inl some | inr none ↦ elim (cases_lt 0 e.first) [ inl some ↦ inl some | inr none_below ↦ inr (omega arith) ] ]

  pub table_unsaved : (table : List Kind) → IsTable g table → IsTable g (map unsaved table)
  table_unsaved table t = record {
    size = length_unsaved table ∙ t.size;
    zeroth = kind_unsaved table 0 ∙ ap unsaved t.zeroth;
    only_0 = λ b on is. t.only_0 b on (was (kind_at table b) (sym (kind_unsaved table b) ∙ is));
  }
    where
      was : (k : Kind) → unsaved k ≡ Sector0 → k ≡ Sector0
      was Sector0 e = e
      was Current e = e
      was Unchanged e = e
      was Free e = e
      was Changed e = e
      was Backup e = e
      was Saved e = absurd (grind arith)

  pub table_freed : (table : List Kind) (e : Extent) (but : List Extent) → 0 < g.blocks → IsTable g table → IsTable g (reclaimed table e but)
  table_freed table e but some t = record {
    size = length-reclaimed table e but ∙ t.size;
    zeroth = elim (kind_freed table e but 0 (omega (arith, t.size))) [ inl (was, held, free, is) ↦ absurd (let n : Sector0 ≡ Changed = sym t.zeroth ∙ was in grind arith) | inr same ↦ same ∙ t.zeroth ];
    only_0 = λ b on is. elim (kind_freed table e but b (omega (arith, t.size))) [ inl (was, held, free, now) ↦ absurd (let n : Free ≡ Sector0 = sym now ∙ is in grind arith) | inr same ↦ t.only_0 b on (sym same ∙ is) ];
  }
