-- The log in memory just before it is written.
use Rattle.std.proofs.Common.{ℕ, zero, suc, ◌+◌, ◌*◌, ◌≡◌, ◌<◌, ◌≤◌, min, false, true, List, length, Some, sym, ap, ◌∙◌, subst, arith, inl, inr}
use Rattle.std.specs.Option.{option_map}
use Rattle.std.proofs.lemmas.List.{length-map}
use Rattle.bow_units.specs.declared.sizes.Geometry.{Geometry}
use Rattle.bow_units.specs.declared.sizes.Extent.{Extent}
use Rattle.bow_units.specs.declared.statuses.Kind.{Kind}
use Rattle.bow_units.specs.declared.statuses.Kind.TheVariants.{Backup, Current, Saved, Sector0}
use Rattle.bow_log.specs.Generations.{Generation, IsBackup, backup_of, generation_of, room, with_backup}
use Rattle.bow_log.specs.Spelling.{Fields}
use Rattle.bow_copy.specs.Acts.{next_act}
use Rattle.bow_copy.specs.declared.jobs.Act.TheVariants.{WriteLog}
use Rattle.bow_copy.specs.declared.jobs.Job.TheVariants.{Link, Copy, Move}
use Rattle.bow_ranges.specs.Kinds.{kind_at, with_kind}
use Rattle.bow_machine.specs.Memory.{Memory, Batch, Batching}
use Rattle.bow_machine.specs.MemoryIsSound.{MemoryIsSound, JobIsReady}
use Rattle.bow_machine.specs.Steps.{log_for, kinds_for, copy_entry}
use Rattle.bow_machine.proofs.BatchActs.{lead, lead_copy}
use Rattle.bow_machine.proofs.SoundBatches.{InHand, in_hand_of}
use Rattle.bow_machine.proofs.Tables.{length_with, kind_in, kind_out, holds_cases}
use Rattle.bow_core.specs.Held.{slots_in}
use Rattle.bow_core.specs.Inside.{is_saved, SavedIs}
use Rattle.bow_core.proofs.ActRows.{log_stage}
use Rattle.bow_core.proofs.Saved.{saved_now, not_saved}

module _ (g : Geometry) (m : Memory) (b : Batch) (s : MemoryIsSound g m) (held : m.hand ≡ Batching b) (at : next_act b.progress ≡ WriteLog) where
  abbrev pub i : InHand g m b
  i = in_hand_of g m b held s

  pub stands_at : b.progress.done ≡ lead b.progress.job
  stands_at = log_stage g m b s held at

  ready : JobIsReady g m.kinds m.clean (i.log) b.progress.job b.progress.done b.slots
  ready = i.held.before (omega (arith, stands_at))

  -- the log in memory after the change, of one that keeps it
  module _ (l new : Fields) (view : Some (generation_of g l) ≡ m.log) where
    own : generation_of g l ≡ i.log
    own = let e : Some (generation_of g l) ≡ Some (i.log) = view ∙ i.some in cc e

    pub copy_log : (source dest count : ℕ) (slots : List (List ℕ)) → b.progress.job ≡ Copy source dest count → slots ≡ b.slots → generation_of g new ≡ with_backup (generation_of g l) (copy_entry source dest count slots)
        → Some (generation_of g new) ≡ option_map (log_for b.progress.job b.slots) m.log
    copy_log source dest count slots job same is =
        let added = is ∙ ap (λ x. with_backup x (copy_entry source dest count slots)) own ∙ ap (λ v. with_backup i.log (copy_entry source dest count v)) same ∙ sym (ap (λ j. log_for j b.slots i.log) job) in
        ap (λ x. Some x) added ∙ sym (ap (option_map (log_for b.progress.job b.slots)) i.some)

    -- a copy is made where the log has room
    pub copy_room : (source dest count : ℕ) → b.progress.job ≡ Copy source dest count → length l.entries < room g.block_size
    copy_room source dest count job =
        let r = subst (λ j. JobIsReady g m.kinds m.clean (i.log) j b.progress.done b.slots) job ready in
        let same = ap (λ (x : Generation). length x.entries) own in
        omega (arith, (r.0).not_full, same, length-map l.entries (backup_of g))

  -- a block of a kind that block 0 never has
  above_0 : (x : ℕ) → (kind_at m.kinds x ≡ Sector0 → ⊥) → 0 < x
  above_0 zero other = absurd (other s.table.zeroth)
  above_0 (suc x) other = omega arith

  backup_above : (x : ℕ) → kind_at m.kinds x ≡ Backup → 0 < x
  backup_above x is = above_0 x (λ zeroth. absurd (grind (arith, is, zeroth)))

  -- the backups that are noted
  pub copy_backup : (source dest count : ℕ) (slots : List (List ℕ)) → b.progress.job ≡ Copy source dest count → IsBackup g (copy_entry source dest count slots)
  copy_backup source dest count slots job =
      let r = subst (λ j. JobIsReady g m.kinds m.clean (i.log) j b.progress.done b.slots) job ready in
      let none : dest + 0 ≡ dest = omega arith in
      record {
        some = (r.0).some;
        source_inside = (r.0).source_inside;
        dest_inside = (r.0).dest_inside;
        apart = (r.0).apart;
        dest_not_0 = backup_above dest (ap (kind_at m.kinds) (sym none) ∙ (r.0).dests 0 (omega (arith, (r.0).some)));
      }

  pub link_backup : (dest : ℕ) (slots : List (List ℕ)) → b.progress.job ≡ Link dest → IsBackup g (copy_entry 0 dest 1 slots)
  link_backup dest slots job =
      let r = subst (λ j. JobIsReady g m.kinds m.clean (i.log) j b.progress.done b.slots) job ready in
      let above = backup_above dest (r.0).kind in
      record {
        some = omega arith;
        source_inside = omega (arith, (r.0).inside);
        dest_inside = omega (arith, (r.0).inside);
        apart = inl (omega (arith, above));
        dest_not_0 = above;
      }

  -- nothing is saved before
  none_saved : m.clean ≡ true → (x : ℕ) → x < length m.kinds → is_saved (kind_at m.kinds x) ≡ false
  none_saved clean x on = not_saved (kind_at m.kinds x) (i.kept.none_saved clean x (omega (arith, on, s.table.size)))

  pub copy_inside : (source dest count : ℕ) → b.progress.job ≡ Copy source dest count → (1 ≤ count) × (count ≤ 8) × (source + count ≤ g.blocks) × (dest + count ≤ g.blocks)
  copy_inside source dest count job =
      let r = subst (λ j. JobIsReady g m.kinds m.clean (i.log) j b.progress.done b.slots) job ready in
      ((r.0).some, (r.0).few, (r.0).source_inside, (r.0).dest_inside)

  -- how many slots were read
  pub copy_slots : (source dest count : ℕ) → b.progress.job ≡ Copy source dest count → slots_in b.progress.job b.progress.done ≡ count
  copy_slots source dest count job =
      let far : b.progress.done ≡ 2 * count + 1 = stands_at ∙ ap lead job ∙ lead_copy source dest count in
      let all : min b.progress.done count ≡ count = omega (arith, far) in
      ap (λ j. slots_in j b.progress.done) job ∙ all

  -- what is saved then
  pub copy_saved : (source dest count : ℕ) → b.progress.job ≡ Copy source dest count → (table new : List Kind) (e : Extent) → table ≡ m.kinds → e.first ≡ source → e.count ≡ count → new ≡ with_kind table e Saved
      → SavedIs new e × (new ≡ kinds_for b.progress.job m.kinds)
  copy_saved source dest count job table new e same first count_is set =
      let r = subst (λ j. JobIsReady g m.kinds m.clean (i.log) j b.progress.done b.slots) job ready in
      let fits : e.first + e.count ≤ length table = omega (arith, first, count_is, (r.0).source_inside, ap (λ l. length l) same, s.table.size) in (
        saved_now table new e set fits (λ x on. ap (λ l. is_saved (kind_at l x)) same ∙ none_saved r.1 x (omega (arith, on, ap (λ l. length l) same))),
        set ∙ ap (λ l. with_kind l e Saved) same ∙ ap (λ n. with_kind m.kinds (record { first = n; count = e.count }) Saved) first ∙ ap (λ n. with_kind m.kinds (record { first = source; count = n }) Saved) count_is
            ∙ sym (ap (λ j. kinds_for j m.kinds) job),
      )

  pub move_saved : (from to : ℕ) → b.progress.job ≡ Move from to → (table mid new : List Kind) (one e : Extent) → table ≡ m.kinds → one.first ≡ to → one.count ≡ 1 → e.first ≡ from → e.count ≡ 1
      → mid ≡ with_kind table one Current → new ≡ with_kind mid e Saved → SavedIs new e × (new ≡ kinds_for b.progress.job m.kinds)
  move_saved from to job table mid new one e same at_to one_to at_from one_from set set_too =
      let r = subst (λ j. JobIsReady g m.kinds m.clean (i.log) j b.progress.done b.slots) job ready in
      let size : length table ≡ g.blocks = ap (λ l. length l) same ∙ s.table.size in
      let fits : one.first + one.count ≤ length table = omega (arith, at_to, one_to, (r.0).inside, size) in
      let long : length mid ≡ length table = ap (λ l. length l) set ∙ length_with table one Current fits in
      let fits_too : e.first + e.count ≤ length mid = omega (arith, at_from, one_from, (r.0).from_current, i.kept.generation.current_inside, size, long) in (
        saved_now mid new e set_too fits_too (λ x on. still r.1 size fits set x (omega (arith, on, long))),
        set_too ∙ ap (λ l. with_kind l e Saved) set ∙ ap (λ l. with_kind (with_kind l one Current) e Saved) same
            ∙ ap (λ n. with_kind (with_kind m.kinds (record { first = n; count = one.count }) Current) e Saved) at_to ∙ ap (λ n. with_kind (with_kind m.kinds (record { first = to; count = n }) Current) e Saved) one_to
            ∙ ap (λ n. with_kind (with_kind m.kinds (record { first = to; count = 1 }) Current) (record { first = n; count = e.count }) Saved) at_from
            ∙ ap (λ n. with_kind (with_kind m.kinds (record { first = to; count = 1 }) Current) (record { first = from; count = n }) Saved) one_from
            ∙ sym (ap (λ j. kinds_for j m.kinds) job),
      )
    where
      still : m.clean ≡ true → length table ≡ g.blocks → one.first + one.count ≤ length table → mid ≡ with_kind table one Current → (x : ℕ) → x < length table → is_saved (kind_at mid x) ≡ false
      still clean size fits set x on = elim (holds_cases one x) [
        | inl in_it ↦ ap (λ l. is_saved (kind_at l x)) set ∙ ap is_saved (kind_in table one Current x fits in_it.0 in_it.1)
        | inr out ↦ ap (λ l. is_saved (kind_at l x)) set ∙ ap is_saved (kind_out table one Current x fits out.0) ∙ ap (λ l. is_saved (kind_at l x)) same ∙ none_saved clean x (omega (arith, on, size, s.table.size))
      ]
