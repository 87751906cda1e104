-- How many blocks are free in Trim, and what a prepare takes of them.
use Rattle.std.proofs.Common.{ℕ, zero, suc, ◌+◌, ◌<◌, ◌≤◌, ◌≡◌, ◌≢◌, Bool, true, false, cond, List, [], ◌∷◌, length, arith, refl, sym, ap, ◌∙◌, inl, inr}
use Rattle.std.proofs.lemmas.List.Sums.{count_by-le-length}
use Rattle.bow_units.specs.declared.sizes.Geometry.{Geometry}
use Rattle.bow_units.specs.declared.statuses.Kind.{Kind}
use Rattle.bow_units.specs.declared.statuses.Kind.TheVariants.{Current, Free, Backup}
use Rattle.bow_flat.specs.Flat.{count_from, count_below}
use Rattle.bow_ranges.specs.Kinds.{is_free, kind_at, count_of, with_kind}
use Rattle.bow_ranges.proofs.RunReads.{count-append}
use Rattle.bow_machine.specs.Steps.{one_block}
use Rattle.bow_machine.specs.MemoryIsSound.{IsTable, is_touched}
use Rattle.bow_machine.proofs.Held.{IsTrimmed}
use Rattle.bow_machine.proofs.SoundLists.{count_cons}
use Rattle.bow_machine.proofs.Tables.{length_with, kind_one, kind_other, count_one}

count_same : (trim : ℕ → Bool) (table : List Kind) (first : ℕ) → ((i : ℕ) → i < length table → trim (first + i) ≡ is_free (kind_at table i)) → count_from trim first (length table) ≡ count_of is_free table
count_same trim [] first same = refl
count_same trim (kind ∷ table) first same =
    let here : first + 0 ≡ first = omega arith in
    let rest = count_same trim table (suc first) (λ i below. let e : suc first + i ≡ first + suc i = omega arith in ap trim e ∙ same (suc i) (omega arith)) in
    let single : Bool → ℕ = λ t. 0 + cond t 1 0 in
    let head : 0 + cond (trim first) 1 0 ≡ 0 + cond (is_free kind) 1 0 = ap single (ap trim (sym here) ∙ same 0 (omega arith)) in
    omega (arith, rest, head, count-append is_free (kind ∷ []) table)

-- none of this sort
pub count_none : (sort : Kind → Bool) (table : List Kind) → ((i : ℕ) → i < length table → sort (kind_at table i) ≡ false) → count_of sort table ≡ 0
count_none sort [] none = refl
count_none sort (kind ∷ table) none =
    let rest = count_none sort table (λ i below. none (suc i) (omega arith)) in
    let single : Bool → ℕ = λ t. 0 + cond t 1 0 in
    let head : 0 + cond (sort kind) 1 0 ≡ 0 = ap single (none 0 (omega arith)) in
    omega (arith, rest, head, count-append sort (kind ∷ []) table)

-- where none is counted, none is there
pub none_counted : (sort : Kind → Bool) (table : List Kind) (b : ℕ) → count_of sort table ≡ 0 → b < length table → sort (kind_at table b) ≡ false
none_counted sort [] b none below = absurd (omega arith)
none_counted sort (k ∷ ks) zero none below = here (sort k) (sym (count_cons sort k ks) ∙ none)
  where
    here : (t : Bool) → cond t 1 0 + count_of sort ks ≡ 0 → t ≡ false
    here true some = absurd (omega arith)
    here false some = refl
none_counted sort (k ∷ ks) (suc b) none below = none_counted sort ks b (let all = count_cons sort k ks in omega (arith, all, none)) (omega arith)

pub count_most : (sort : Kind → Bool) (table : List Kind) → count_of sort table ≤ length table
count_most sort table = count_by-le-length sort table

module _ (g : Geometry) (table : List Kind) (trim : ℕ → Bool) (is : IsTable g table) (trimmed : IsTrimmed g table trim) where
  -- in Trim the discarded blocks are those that are free
  pub count_trimmed : trim 0 ≡ false → count_below trim g.blocks ≡ count_of is_free table
  count_trimmed zeroth = ap (count_below trim) (sym is.size) ∙ count_same trim table 0 same
    where
      same : (i : ℕ) → i < length table → trim (0 + i) ≡ is_free (kind_at table i)
      same zero below = zeroth ∙ sym (ap is_free is.zeroth)
      same (suc i) below =
          let e : 0 + suc i ≡ suc i = omega arith in
          ap trim e ∙ elim (trimmed (suc i) (omega arith) (omega (arith, is.size, below))) [ inl free ↦ free.0 ∙ sym (ap is_free free.1) | inr used ↦ used.0 ∙ sym (ap is_free used.1) ]

  -- and none is touched
  pub none_touched : count_of is_touched table ≡ 0
  none_touched = count_none is_touched table none
    where
      none : (i : ℕ) → i < length table → is_touched (kind_at table i) ≡ false
      none zero below = ap is_touched is.zeroth
      none (suc i) below = elim (trimmed (suc i) (omega arith) (omega (arith, is.size, below))) [ inl free ↦ ap is_touched free.1 | inr used ↦ ap is_touched used.1 ]

-- a prepare takes two free blocks, for the current block 0 and for its backup
abbrev pub two_taken : List Kind → ℕ → ℕ → List Kind
two_taken table c b = with_kind (with_kind table (one_block c) Current) (one_block b) Backup

module _ (table : List Kind) (c b : ℕ) (c_inside : c < length table) (b_inside : b < length table) (apart : c ≢ b) (c_free : kind_at table c ≡ Free) (b_free : kind_at table b ≡ Free) where
  abbrev one_taken : List Kind
  one_taken = with_kind table (one_block c) Current

  one_long : length one_taken ≡ length table
  one_long = length_with table (one_block c) Current (omega (arith, c_inside))

  still_free : kind_at one_taken b ≡ Free
  still_free = kind_other table c Current b c_inside (λ e. apart (sym e)) ∙ b_free

  pub free_two : count_of is_free (two_taken table c b) + 2 ≡ count_of is_free table
  free_two =
      let first = count_one table c Current is_free c_inside in
      let second = count_one one_taken b Backup is_free (omega (arith, one_long, b_inside)) in
      let one : Kind → ℕ = λ k. cond (is_free k) 1 0 in
      omega (arith, first, second, ap one c_free, ap one still_free)

  pub touched_two : count_of is_touched (two_taken table c b) ≡ count_of is_touched table
  touched_two =
      let first = count_one table c Current is_touched c_inside in
      let second = count_one one_taken b Backup is_touched (omega (arith, one_long, b_inside)) in
      let one : Kind → ℕ = λ k. cond (is_touched k) 1 0 in
      omega (arith, first, second, ap one c_free, ap one still_free)

  pub taken_c : kind_at (two_taken table c b) c ≡ Current
  taken_c = kind_other one_taken b Backup c (omega (arith, one_long, b_inside)) apart ∙ kind_one table c Current c_inside

  pub taken_b : kind_at (two_taken table c b) b ≡ Backup
  taken_b = kind_one one_taken b Backup (omega (arith, one_long, b_inside))

  pub taken_other : (x : ℕ) → x ≢ c → x ≢ b → kind_at (two_taken table c b) x ≡ kind_at table x
  taken_other x not_c not_b = kind_other one_taken b Backup x (omega (arith, one_long, b_inside)) not_b ∙ kind_other table c Current x c_inside not_c
