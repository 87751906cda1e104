-- The first log, over the kinds that a prepare leaves: two free blocks of Trim are taken, for the current block 0 and for
-- its backup.
use Rattle.std.proofs.Common.{ℕ, zero, suc, ◌+◌, ◌<◌, ◌≡◌, ◌⊎◌, false, List, [], ◌∷◌, length, arith, refl, sym, ap, ◌∙◌, inl, inr}
use Rattle.std.proofs.lemmas.Bool.{cases_eq}
use Rattle.bow_units.specs.declared.sizes.Geometry.{Geometry}
use Rattle.bow_units.specs.Sizes.{IsValid}
use Rattle.bow_units.specs.declared.statuses.Kind.{Kind}
use Rattle.bow_units.specs.declared.statuses.Kind.TheVariants as kinds
use Rattle.bow_log.proofs.Clean.{sized}
use Rattle.bow_ranges.specs.Kinds.{kind_at, with_kind, is_free, count_of}
use Rattle.bow_machine.specs.Memory.{Memory}
use Rattle.bow_machine.specs.Steps.{one_block, first_log}
use Rattle.bow_machine.specs.MemoryIsSound.{IsTable}
use Rattle.bow_machine.specs.MemoryIsSound.{is_touched, PicksHeld}
use Rattle.bow_machine.specs.MemoryIsSound.{LogIsSound}
use Rattle.bow_machine.proofs.Counts.{count_none, count_most, two_taken, free_two, touched_two, taken_c, taken_b, taken_other}
use Rattle.bow_machine.proofs.Spelled.{sum_small}
use Rattle.bow_machine.proofs.Tables.{table_with}
use Rattle.bow_machine.proofs.SoundLogs.{above_0}

module _ (g : Geometry) (m : Memory) (c b : ℕ) (sizes : IsValid g) (is_table : IsTable g m.kinds)
    (trimmed : (x : ℕ) → 0 < x → x < g.blocks → (kind_at m.kinds x ≡ kinds.Free) ⊎ (kind_at m.kinds x ≡ kinds.Unchanged)) (p : PicksHeld g m c b) where
  abbrev new : List Kind
  new = two_taken m.kinds c b

  c_long : c < length m.kinds
  c_long = omega (arith, p.c_inside, is_table.size)

  b_long : b < length m.kinds
  b_long = omega (arith, p.b_inside, is_table.size)

  pub c_above : 0 < c
  c_above = above_0 m.kinds c is_table.zeroth (λ e. let clash : kinds.Free ≡ kinds.Sector0 = sym p.c_free ∙ e in absurd (grind arith))

  pub b_above : 0 < b
  b_above = above_0 m.kinds b is_table.zeroth (λ e. let clash : kinds.Free ≡ kinds.Sector0 = sym p.b_free ∙ e in absurd (grind arith))

  pub free : count_of is_free new + 2 ≡ count_of is_free m.kinds
  free = free_two m.kinds c b c_long b_long p.apart p.c_free p.b_free

  pub untouched : count_of is_touched m.kinds ≡ 0
  untouched = count_none is_touched m.kinds each
    where
      each : (i : ℕ) → i < length m.kinds → is_touched (kind_at m.kinds i) ≡ false
      each zero below = ap is_touched is_table.zeroth
      each (suc i) below = elim (trimmed (suc i) (omega arith) (omega (arith, below, is_table.size))) [ inl free ↦ ap is_touched free | inr used ↦ ap is_touched used ]

  pub still_untouched : count_of is_touched new ≡ 0
  still_untouched = touched_two m.kinds c b c_long b_long p.apart p.c_free p.b_free ∙ untouched

  only : (x : ℕ) → x < g.blocks → kind_at new x ≡ kinds.Current → x ≡ c
  only x on current = elim (cases_eq x c) [
    | inl here ↦ here
    | inr not_c ↦ elim (cases_eq x b) [
      | inl at_b ↦ absurd (let clash : kinds.Backup ≡ kinds.Current = sym (taken_b m.kinds c b c_long b_long p.apart p.c_free p.b_free) ∙ ap (kind_at new) (sym at_b) ∙ current in grind arith)
      | inr not_b ↦
          let was : kind_at m.kinds x ≡ kinds.Current = sym (taken_other m.kinds c b c_long b_long p.apart p.c_free p.b_free x not_c not_b) ∙ current in
          elim (cases_eq x 0) [
            | inl zeroth ↦ absurd (let clash : kinds.Sector0 ≡ kinds.Current = sym is_table.zeroth ∙ ap (kind_at m.kinds) (sym zeroth) ∙ was in grind arith)
            | inr above ↦ elim (trimmed x (omega (arith, above)) on) [
              | inl free ↦ absurd (let clash : kinds.Free ≡ kinds.Current = sym free ∙ was in grind arith)
              | inr used ↦ absurd (let clash : kinds.Unchanged ≡ kinds.Current = sym used ∙ was in grind arith)
            ]
          ]
    ]
  ]

  pub armed_log : (v : List ℕ) → LogIsSound g new false (count_of is_free m.kinds) 0 (first_log c b v)
  armed_log v = record {
    own = refl;
    generation = record {
      few = omega (arith, (sized g.block_size sizes.size).least);
      current_not_0 = c_above;
      current_inside = p.c_inside;
      each = (record { some = omega arith; source_inside = omega (arith, sizes.enough); dest_inside = omega (arith, p.b_inside); apart = inl (omega (arith, b_above)); dest_not_0 = b_above }, tt);
      start = (refl, refl, tt);
    };
    fits = record { sequence = omega arith; sums = (sum_small 0 (v ∷ []), tt) };
    current = taken_c m.kinds c b c_long b_long p.apart p.c_free p.b_free;
    only_current = only;
    none_saved = λ clean. absurd (grind arith);
    room = omega (arith, free, still_untouched);
    bounded = omega (arith, count_most is_free m.kinds, is_table.size);
  }

  pub armed_table : IsTable g new
  armed_table = table_with g (with_kind m.kinds (one_block c) kinds.Current) (one_block b) kinds.Backup (λ e. absurd (grind arith)) (omega (arith, p.b_inside)) (inl b_above)
      (table_with g m.kinds (one_block c) kinds.Current (λ e. absurd (grind arith)) (omega (arith, p.c_inside)) (inl c_above) is_table)
