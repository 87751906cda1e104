-- What is picked in a table is a run of free blocks of it.
use Rattle.std.proofs.Common.{ℕ, ◌+◌, ◌-◌, ◌≡◌, ◌≤◌, List, length, Option, Some, refl, sym, ap, ◌∙◌, arith, subst}
use Rattle.std.specs.Prelude.{MatchOption}
use Rattle.bow_units.specs.declared.sizes.Geometry.{Geometry}
use Rattle.bow_units.specs.declared.sizes.Extent.{Extent}
use Rattle.bow_units.specs.declared.statuses.Kind.{Kind}
use Rattle.bow_units.specs.declared.statuses.Kind.TheVariants.{Backup}
use Rattle.bow_ranges.specs.Kinds.{kind_at, with_kind, is_free, count_of}
use Rattle.bow_ranges.specs.Picks.{picked, IsPicked}
use Rattle.bow_ranges.proofs.PickLaws.{picked_is}
use Rattle.bow_machine.specs.MemoryIsSound.{IsTable}
use Rattle.bow_machine.proofs.FormedHeads.{IsFreeRun, free_run}
use Rattle.bow_core.specs.Inside.{is_saved, SavedIs}
use Rattle.bow_core.proofs.Saved.{saved_to}

some_picked : (kinds : List Kind) (want : ℕ) (o : Option Extent) (e : Extent) → o ≡ Some e → MatchOption o (count_of is_free kinds ≡ 0) (IsPicked kinds want) → IsPicked kinds want e
some_picked kinds want o e is match = subst (λ x. MatchOption x (count_of is_free kinds ≡ 0) (IsPicked kinds want)) is match

pub picked_one : (kinds : List Kind) (want : ℕ) (e : Extent) → 1 ≤ want → picked kinds want ≡ Some e → IsPicked kinds want e
picked_one kinds want e some is = some_picked kinds want (picked kinds want) e is (picked_is kinds want some)

module _ (g : Geometry) (kinds table : List Kind) (same : table ≡ kinds) (sound : IsTable g kinds) (want : ℕ) (some : 1 ≤ want) (e : Extent) (is : picked table want ≡ Some e) where
  pub run : IsFreeRun g kinds e
  run = free_run g kinds want e sound.size (picked_one kinds want e some (ap (λ l. picked l want) (sym same) ∙ is))

  pub taken_inside : e.first + e.count ≤ length table
  taken_inside = omega (arith, run.inside, ap (λ l. length l) same, sound.size)

  pub taken_saved : (new : List Kind) (saved : Extent) → new ≡ with_kind table e Backup → SavedIs table saved → SavedIs new saved
  taken_saved new saved set kept = saved_to table new e saved Backup set taken_inside
      (λ b low high. let there : e.first + (b - e.first) ≡ b = omega (arith, low) in ap (λ l. is_saved (kind_at l b)) same ∙ ap (λ x. is_saved (kind_at kinds x)) (sym there) ∙ ap is_saved (run.free (b - e.first) (omega (arith, low, high)))) refl kept
