-- A table of which one block was taken, and given back.
use Rattle.std.proofs.Common.{ℕ, ◌+◌, ◌≡◌, ◌<◌, ◌≤◌, List, length, Option, Some, refl, sym, ap, ◌∙◌, arith, inl, inr, Bool, true, false, cond, None}
use Rattle.std.specs.Prelude.{nat_lt}
use Rattle.bow_units.specs.declared.sizes.Geometry.{Geometry}
use Rattle.bow_units.specs.declared.sizes.Extent.{Extent}
use Rattle.bow_units.specs.declared.statuses.Kind.{Kind}
use Rattle.bow_units.specs.declared.statuses.Kind.TheVariants.{Free, Backup}
use Rattle.bow_ranges.specs.Kinds.{kind_at, with_kind, is_free, count_of}
use Rattle.bow_ranges.specs.Picks.{picked}
use Rattle.bow_units.specs.declared.requests.Op.TheVariants.{Prepare}
use Rattle.bow_units.specs.declared.requests.Phase.TheVariants.{Trim}
use Rattle.bow_units.specs.declared.requests.Outcome.TheVariants as outcomes
use Rattle.bow_machine.specs.Requests.{Request}
use Rattle.bow_machine.specs.Memory.{Memory, Preparing, ReadsBlock0}
use Rattle.bow_machine.specs.Tasks.{Acts, Answers, taken, prepare_on, without_picked}
use Rattle.bow_core.specs.Commands.{two_picked, both_first}
use Rattle.bow_machine.specs.MemoryIsSound.{IsTable}
use Rattle.bow_machine.proofs.Tables.{length_with, kind_in, kind_out, holds_cases}
use Rattle.bow_machine.proofs.Commands.{picked_free}
use Rattle.bow_core.proofs.Saved.{same_kinds}

-- a free block that was taken and given back is as it was
pub given_back : (table : List Kind) (e : Extent) → e.count ≡ 1 → e.first < length table → kind_at table e.first ≡ Free → with_kind (with_kind table e Backup) e Free ≡ table
given_back table e one inside free = same_kinds (with_kind (with_kind table e Backup) e Free) table (again ∙ long) each
  where
    fits : e.first + e.count ≤ length table
    fits = omega (arith, one, inside)

    long : length (with_kind table e Backup) ≡ length table
    long = length_with table e Backup fits

    fits_again : e.first + e.count ≤ length (with_kind table e Backup)
    fits_again = omega (arith, fits, long)

    again : length (with_kind (with_kind table e Backup) e Free) ≡ length (with_kind table e Backup)
    again = length_with (with_kind table e Backup) e Free fits_again

    each : (b : ℕ) → b < length (with_kind (with_kind table e Backup) e Free) → kind_at (with_kind (with_kind table e Backup) e Free) b ≡ kind_at table b
    each b within = elim (holds_cases e b) [
      | inl in_it ↦ let here : e.first ≡ b = omega (arith, in_it.0, in_it.1, one) in kind_in (with_kind table e Backup) e Free b fits_again in_it.0 in_it.1 ∙ sym free ∙ ap (kind_at table) here
      | inr out ↦ kind_out (with_kind table e Backup) e Free b fits_again out.0 ∙ kind_out table e Backup b fits out.0
    ]

-- what is picked in a table is one free block of it
module _ (g : Geometry) (m : Memory) (table : List Kind) (same : table ≡ m.kinds) (sound : IsTable g m.kinds) (e : Extent) (is : picked table 1 ≡ Some e) where
  one : (kind_at m.kinds e.first ≡ Free) × (e.first < g.blocks) × (e.count ≡ 1)
  one = picked_free g m e sound (ap (λ l. picked l 1) (sym same) ∙ is)

  long : length table ≡ g.blocks
  long = ap (λ l. length l) same ∙ sound.size

  pub pick_inside : e.first + e.count ≤ length table
  pick_inside = omega (arith, one.1, one.2, long)

  pub pick_back : with_kind (with_kind table e Backup) e Free ≡ table
  pick_back = given_back table e one.2 (omega (arith, one.1, long)) (ap (λ l. kind_at l e.first) same ∙ one.0)

-- a prepare in Trim, by what was picked
module _ (m : Memory) (r : Request) where
  on_two : (few : Bool) (one other : Option Extent) (c b : ℕ) → cond few None (both_first one other) ≡ Some (c, b) → cond few (Answers r (outcomes.NoSpace 0)) (prepare_on m r one other) ≡ Acts (record m { hand = Preparing r.ticket c b ReadsBlock0 })
  on_two true one other c b is = absurd (cc is)
  on_two false None other c b is = absurd (cc is)
  on_two false (Some e) None c b is = absurd (cc is)
  on_two false (Some e) (Some f) c b is =
      let same : (e.first, f.first) ≡ (c, b) = cc is in
      ap (λ (p : ℕ × ℕ). Acts (record m { hand = Preparing r.ticket p.0 p.1 ReadsBlock0 })) same

  on_none : (few : Bool) (one other : Option Extent) → cond few None (both_first one other) ≡ None → cond few (Answers r (outcomes.NoSpace 0)) (prepare_on m r one other) ≡ Answers r (outcomes.NoSpace 0)
  on_none true one other is = refl
  on_none false None other is = refl
  on_none false (Some e) None is = refl
  on_none false (Some e) (Some f) is = absurd (cc is)

  pub two_taken : (c b : ℕ) → two_picked m.kinds ≡ Some (c, b) → taken m r Prepare Trim ≡ Acts (record m { hand = Preparing r.ticket c b ReadsBlock0 })
  two_taken c b is = on_two (nat_lt (count_of is_free m.kinds) 2) (picked m.kinds 1) (picked (without_picked m.kinds (picked m.kinds 1)) 1) c b is

  pub none_taken : two_picked m.kinds ≡ None → taken m r Prepare Trim ≡ Answers r (outcomes.NoSpace 0)
  none_taken is = on_none (nat_lt (count_of is_free m.kinds) 2) (picked m.kinds 1) (picked (without_picked m.kinds (picked m.kinds 1)) 1) is
