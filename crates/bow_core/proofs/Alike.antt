-- How many blocks are alike, from one on.
use Rattle.std.proofs.Common.{ℕ, zero, suc, ◌+◌, ◌-◌, ◌≡◌, ◌≢◌, ◌<◌, ◌≤◌, min, true, false, List, length, refl, sym, ap, ◌∙◌, arith, inl, inr}
use Rattle.std.proofs.lemmas.Bool.{cases_Bool, false≢true}
use Rattle.bow_units.specs.declared.sizes.Extent.{Extent}
use Rattle.bow_units.specs.declared.statuses.Kind.{Kind}
use Rattle.bow_units.specs.declared.statuses.Kind.TheVariants.{Sector0, Current, Unchanged, Free, Changed, Backup, Saved}
use Rattle.bow_ranges.specs.Kinds.{kind_at, IsRunOf}
use Rattle.bow_machine.specs.Tasks.{is_source, alike_from}

source_same : (kind other : Kind) → is_source kind other ≡ true → other ≡ kind
source_same Unchanged Unchanged is = refl
source_same Backup Backup is = refl
source_same Unchanged Backup is = absurd (false≢true is)
source_same Unchanged Sector0 is = absurd (false≢true is)
source_same Unchanged Current is = absurd (false≢true is)
source_same Unchanged Free is = absurd (false≢true is)
source_same Unchanged Changed is = absurd (false≢true is)
source_same Unchanged Saved is = absurd (false≢true is)
source_same Backup Unchanged is = absurd (false≢true is)
source_same Backup Sector0 is = absurd (false≢true is)
source_same Backup Current is = absurd (false≢true is)
source_same Backup Free is = absurd (false≢true is)
source_same Backup Changed is = absurd (false≢true is)
source_same Backup Saved is = absurd (false≢true is)
source_same Sector0 other is = absurd (false≢true is)
source_same Current other is = absurd (false≢true is)
source_same Free other is = absurd (false≢true is)
source_same Changed other is = absurd (false≢true is)
source_same Saved other is = absurd (false≢true is)

alike_is : (table : List Kind) (kind : Kind) (most first k : ℕ) → is_source kind kind ≡ true → ((j : ℕ) → j < k → kind_at table (first + j) ≡ kind) → (k < most → kind_at table (first + k) ≢ kind)
    → min k most ≡ alike_from table kind first most
alike_is table kind zero first k source alike other = omega arith
alike_is table kind (suc most) first zero source alike other =
    let here : first + 0 ≡ first = omega arith in
    let unlike : is_source kind (kind_at table first) ≡ false = elim (cases_Bool (is_source kind (kind_at table first))) [
      | inl same ↦ absurd (other (omega arith) (ap (kind_at table) here ∙ source_same kind (kind_at table first) same))
      | inr differs ↦ differs
    ] in
    rw unlike (omega arith)
alike_is table kind (suc most) first (suc k) source alike other =
    let here : first + 0 ≡ first = omega arith in
    let like : is_source kind (kind_at table first) ≡ true = ap (is_source kind) (ap (kind_at table) (sym here) ∙ alike 0 (omega arith)) ∙ source in
    let rest : min k most ≡ alike_from table kind (suc first) most = alike_is table kind most (suc first) k source (λ j below. ap (kind_at table) (omega arith) ∙ alike (suc j) (omega (arith, below)))
    (λ below same. other (omega (arith, below)) (ap (kind_at table) (omega arith) ∙ same)) in
    rw like (let one : min (suc k) (suc most) ≡ suc (min k most) = omega arith in one ∙ ap suc rest)

pub run_alike : (table : List Kind) (first most : ℕ) (run : Extent) → IsRunOf table first run → first + most ≤ length table → is_source (kind_at table first) (kind_at table first) ≡ true
    → min (run.first + run.count - first) most ≡ alike_from table (kind_at table first) first most
run_alike table first most run is inside source = alike_is table (kind_at table first) most first (run.first + run.count - first) source
    (λ j below. is.alike (first + j) (omega (arith, is.from)) (omega (arith, below, is.to)))
    (λ below same. let there : first + (run.first + run.count - first) ≡ run.first + run.count = omega (arith, is.to) in is.after (omega (arith, below, inside, is.to)) (ap (kind_at table) (sym there) ∙ same))
