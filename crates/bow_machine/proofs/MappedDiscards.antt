-- A discard keeps what the machine stands for.
use Rattle.std.proofs.Common.{ℕ, ◌+◌, ◌-◌, ◌<◌, ◌≤◌, ◌≡◌, ◌≢◌, ◌⊎◌, ◌==◌, ◌||◌, nat_lt, Bool, true, false, cond, List, length, Option, Some, None, arith, refl, sym, ap, ◌∙◌, subst, subst₂, inl, inr}
use Rattle.std.proofs.lemmas.Bool.{cases_eq}
use Rattle.bow_units.specs.declared.sizes.Extent.{Extent}
use Rattle.bow_units.specs.declared.sizes.Geometry.{Geometry}
use Rattle.bow_units.specs.declared.requests.Phase.{Phase}
use Rattle.bow_units.specs.declared.requests.Phase.TheVariants.{Trim, Arming, Checkpoint, Deciding, Committed}
use Rattle.bow_units.specs.declared.statuses.Kind.{Kind}
use Rattle.bow_units.specs.declared.statuses.Kind.TheVariants.{Sector0, Unchanged, Free, Changed}
use Rattle.bow_log.specs.Generations.{Generation}
use Rattle.bow_chain.specs.Contents.{Contents}
use Rattle.bow_flat.specs.Flat.{Flat, discards, trim_discarded, after}
use Rattle.bow_flat.specs.Flat.Event.{Discards}
use Rattle.bow_flat.proofs.Valid.{stays_valid}
use Rattle.bow_guard.specs.Cuts.{Candidates}
use Rattle.bow_guard.specs.Guard.{Guarded}
use Rattle.bow_guard.proofs.Device.{KeepsSafe, kinds_changed}
use Rattle.bow_guard.proofs.PhaseActs.{pending_discarded}
use Rattle.bow_queue.specs.Requests.{open_writes}
use Rattle.bow_ranges.specs.Kinds.{kind_at, holds, reclaimed, is_free, count_of}
use Rattle.bow_machine.proofs.Known.{may_dropped}
use Rattle.bow_machine.specs.Memory.{Memory, has_command, place_of}
use Rattle.bow_machine.specs.Steps.{above_0, kinds_discarded}
use Rattle.bow_machine.specs.MemoryIsSound.{IsTable, is_touched}
use Rattle.bow_machine.proofs.Held.{device_of, IsTrimmed, IsKept, Kept, IsHidden, Room, HandHeld, IsHeld}
use Rattle.bow_machine.proofs.Tables.{kind_with, kind_freed, free_and_touched_freed, table_with, table_freed}
use Rattle.bow_machine.proofs.Mapped.{OpenChange, kept_open, hand_open, hand_empty}
use Rattle.bow_machine.proofs.MappedTests.{for_inside}

none_dropped : (t : Bool) (c : Option (List (List ℕ))) → c ≡ None → cond t None c ≡ None
none_dropped true c none = refl
none_dropped false c none = none

dropped : (t : Bool) (c : Option (List (List ℕ))) → t ≡ true → cond t None c ≡ None
dropped true c is = refl
dropped false c is = absurd (grind arith)

-- the extent without block 0
pub above_cases : (e : Extent) → ((e.first ≡ 0) × (above_0 e ≡ record { first = 1; count = e.count - 1 })) ⊎ ((e.first ≢ 0) × (above_0 e ≡ e))
above_cases e = elim (cases_eq e.first 0) [
  | inl z ↦ inl (z, let is : (e.first == 0) ≡ true = grind arith in rw is refl)
  | inr ne ↦ inr (ne, let is : (e.first == 0) ≡ false = grind arith in rw is refl)
]

abbrev extent : ℕ → ℕ → Extent
extent first count = record { first = first; count = count }

pub above_fits : (g : Geometry) (e : Extent) → 8 ≤ g.blocks → e.first + e.count ≤ g.blocks
    → (0 < (above_0 e).first) × ((above_0 e).first + (above_0 e).count ≤ g.blocks)
above_fits g e enough inside = elim (above_cases e) [
  | inl (z, is) ↦ subst (λ x. (0 < x.first) × (x.first + x.count ≤ g.blocks)) (sym is) (omega arith, omega (arith, z))
  | inr (ne, is) ↦ subst (λ x. (0 < x.first) × (x.first + x.count ≤ g.blocks)) (sym is) (omega (arith, ne), inside)
]

above_holds : (e : Extent) (b : ℕ) → holds (above_0 e) b ≡ discards e b
above_holds e b = elim (above_cases e) [
  | inl (z, is) ↦ ap (λ x. holds x b) is ∙ from_1 e b z
  | inr (ne, is) ↦ ap (λ x. holds x b) is ∙ whole e b ne
]
  where
    from_1 : (e : Extent) (b : ℕ) → e.first ≡ 0 → holds (extent 1 (e.count - 1)) b ≡ discards e b
    from_1 e b z = grind arith

    whole : (e : Extent) (b : ℕ) → e.first ≢ 0 → holds e b ≡ discards e b
    whole e b ne = grind arith

positive : (x : ℕ) → x ≢ 0 → nat_lt 0 x ≡ true
positive x ne = grind arith

module _ (g : Geometry) (m : Memory) (now : Contents) (may : Candidates) (f : Flat) (s : IsHeld g m now may f) (e : Extent)
    (inside : e.first + e.count ≤ g.blocks) (command : has_command m.hand ≡ false) (settled : (m.phase ≢ Arming) × (m.phase ≢ Deciding)) where
  abbrev new : List Kind
  new = kinds_discarded g m e m.phase

  abbrev n : Memory
  n = record m { kinds = new }

  abbrev flat_discarded : Flat
  flat_discarded = after g.blocks (Discards e) f

  abbrev but : List Extent
  but = open_writes g.blocks m.requests

  in_phase : (p : Phase) → m.phase ≡ p → new ≡ kinds_discarded g m e p
  in_phase p is = ap (kinds_discarded g m e) is

  discard_standing : IsTable g new → Kept g n now may flat_discarded m.phase m.log → HandHeld g n m.hand now may m.log → IsHeld g n now may flat_discarded
  discard_standing table kept hand = record {
    memory = record { sizes = s.memory.sizes; table = table; requests = s.memory.requests; tickets = s.memory.tickets };
    state = stays_valid g.blocks (Discards e) f s.state tt (λ is. settled.0 (sym s.phases ∙ is), λ is. settled.1 (sym s.phases ∙ is));
    phases = s.phases;
    held = s.held;
    shown = λ x on. may_dropped (discards e x) (f.current x) (now (place_of m x)) (s.shown x on);
    kept = kept;
    in_hand = hand;
  }

  empty : m.phase ≢ Checkpoint → HandHeld g n m.hand now may m.log
  empty other = subst (λ hand. HandHeld g n hand now may m.log) (sym (hand_empty g m m.hand now may m.log command other s.in_hand)) tt

  -- in Trim
  fits : (above_0 e).first + (above_0 e).count ≤ length m.kinds
  fits = let parts = above_fits g e (s.memory.sizes).enough inside in omega (arith, parts.1, (s.memory.table).size)

  table_trimmed : m.phase ≡ Trim → IsTable g new
  table_trimmed is = let parts = above_fits g e (s.memory.sizes).enough inside in subst (IsTable g) (sym (in_phase Trim is)) (table_with g m.kinds (above_0 e) Free (λ x. grind arith) parts.1 (inl parts.0) s.memory.table)

  trimmed_more : m.phase ≡ Trim → IsTrimmed g m.kinds f.trim → IsTrimmed g new (trim_discarded f.phase f.trim e)
  trimmed_more is t x above on = subst₂ (λ (a : Bool) (k : Kind). ((a ≡ true) × (k ≡ Free)) ⊎ ((a ≡ false) × (k ≡ Unchanged))) (sym trim) (sym kind) (go (discards e x) (f.trim x) (kind_at m.kinds x) (t x above on))
    where
      trim : trim_discarded f.phase f.trim e x ≡ (f.trim x || discards e x)
      trim = ap (λ (p : Phase). trim_discarded p f.trim e x) (s.phases ∙ is)

      kind : kind_at new x ≡ cond (discards e x) Free (kind_at m.kinds x)
      kind = ap (λ (t : List Kind). kind_at t x) (in_phase Trim is) ∙ kind_with m.kinds (above_0 e) Free x fits ∙ ap (λ h. cond h Free (kind_at m.kinds x)) (above_holds e x)

      go : (d t : Bool) (k : Kind) → ((t ≡ true) × (k ≡ Free)) ⊎ ((t ≡ false) × (k ≡ Unchanged))
          → (((t || d) ≡ true) × (cond d Free k ≡ Free)) ⊎ (((t || d) ≡ false) × (cond d Free k ≡ Unchanged))
      go true true k h = inl (refl, refl)
      go true false k h = inl (refl, refl)
      go false true k (inl h) = inl (refl, h.1)
      go false true k (inr h) = absurd (let z = h.0 in grind arith)
      go false false k (inl h) = absurd (let z = h.0 in grind arith)
      go false false k (inr h) = inr (refl, h.1)

  -- in Checkpoint
  module _ (is : m.phase ≡ Checkpoint) where
    kinds_are : new ≡ reclaimed m.kinds e but
    kinds_are = in_phase Checkpoint is

    freed_or_same : (x : ℕ) → x < g.blocks → ((kind_at m.kinds x ≡ Changed) × (holds e x ≡ true) × (kind_at new x ≡ Free)) ⊎ (kind_at new x ≡ kind_at m.kinds x)
    freed_or_same x on = elim (kind_freed m.kinds e but x (omega (arith, on, (s.memory.table).size))) [
      | inl (was, held, out, free) ↦ inl (was, held, ap (λ (t : List Kind). kind_at t x) kinds_are ∙ free)
      | inr same ↦ inr (ap (λ (t : List Kind). kind_at t x) kinds_are ∙ same)
    ]

    change : OpenChange g m.kinds new
    change x on = elim (freed_or_same x on) [ inl (was, held, free) ↦ inr (inl was, inr free) | inr same ↦ inl same ]

    table_freed_now : IsTable g new
    table_freed_now = subst (IsTable g) (sym kinds_are) (table_freed g m.kinds e but (omega (arith, (s.memory.sizes).enough)) s.memory.table)

    module _ (log : Generation) (k : IsKept g m now may f Checkpoint log) where
      new_room : Room n log
      new_room = let sum = free_and_touched_freed m.kinds e but in let free = ap (count_of is_free) kinds_are in let touched = ap (count_of is_touched) kinds_are in omega (arith, k.sound.room, sum, free, touched)

      guarded : (older : List Generation) (clean_log : Generation) (clean_older : List Generation)
          → Guarded g f.used f.saved (device_of m log older clean_log clean_older now may)
          → Guarded g f.used f.saved (device_of n log older clean_log clean_older now may)
      guarded older clean_log clean_older = kinds_changed g f.used f.saved (device_of m log older clean_log clean_older now may) (device_of n log older clean_log clean_older now may) (λ x. refl) (λ x. refl) (record { log = refl; older = refl; clean_log = refl; clean_older = refl })
          (λ x safe. (same x safe.firm.on_device safe.kind, refl)) table_freed_now.zeroth
        where
          safe_changed : (y : Kind) → KeepsSafe y → y ≡ Changed → ⊥
          safe_changed y h c = grind arith

          same : (x : ℕ) → x < g.blocks → KeepsSafe (kind_at m.kinds x) → kind_at new x ≡ kind_at m.kinds x
          same x on safe = elim (freed_or_same x on) [ inl (was, held, free) ↦ absurd (safe_changed (kind_at m.kinds x) safe was) | inr equal ↦ equal ]

      hidden : (x : ℕ) → x < g.blocks → IsHidden (kind_at new x)
          → (cond (discards e x) None (f.current x) ≡ None) × (cond (discards e x) None (f.pending x) ≡ None)
      hidden x on is_hidden = elim (freed_or_same x on) [
        | inl (was, held, free) ↦ let gone = discarded x was held in (dropped (discards e x) (f.current x) gone, dropped (discards e x) (f.pending x) gone)
        | inr same ↦ let old = k.hidden x on (subst IsHidden same is_hidden) in (none_dropped (discards e x) (f.current x) old.0, none_dropped (discards e x) (f.pending x) old.1)
      ]
        where
          above : (x : ℕ) → kind_at m.kinds x ≡ Changed → x ≢ 0
          above x was z = absurd (let y : Sector0 ≡ Changed = sym (s.memory.table).zeroth ∙ ap (kind_at m.kinds) (sym z) ∙ was in grind arith)

          discarded : (x : ℕ) → kind_at m.kinds x ≡ Changed → holds e x ≡ true → discards e x ≡ true
          discarded x was held = rw (positive x (above x was), held) refl

      log_discarded : IsKept g n now may flat_discarded Checkpoint log
      log_discarded = kept_open g m n now now may may f flat_discarded log change refl new_room k.trimmed refl guarded hidden k

      hand_discarded : m.log ≡ Some log → HandHeld g n m.hand now may m.log
      hand_discarded some = subst (λ l. HandHeld g n m.hand now may l) (sym some) (hand_open g m n log now now may may change refl (record { copies = λ x on kind. refl; zeroth = refl; moved = λ moves. refl; durable = λ x on kind one. one }) k.sound.generation.current_inside m.hand refl command refl (λ h w at. (w.waits, for_inside g m h.ticket w)) (subst (λ l. HandHeld g m m.hand now may l) some s.in_hand))

  pub standing_discarded : IsHeld g n now may flat_discarded
  standing_discarded = go m.phase refl m.log refl s.kept
    where
      go : (p : Phase) → m.phase ≡ p → (l : Option Generation) → m.log ≡ l → Kept g m now may f p l → IsHeld g n now may flat_discarded
      go Trim is None none k = discard_standing (table_trimmed is) (subst₂ (λ p l. Kept g n now may flat_discarded p l) (sym is) (sym none) (pending_discarded g f g.blocks e may k.0, trimmed_more is k.1)) (empty (λ e. absurd (let z : Trim ≡ Checkpoint = sym is ∙ e in grind arith)))
      go Trim is (Some log) some k = absurd k
      go Arming is l log k = absurd (settled.0 is)
      go Checkpoint is None none k = absurd k
      go Checkpoint is (Some log) some k = discard_standing (table_freed_now is) (subst₂ (λ p l. Kept g n now may flat_discarded p l) (sym is) (sym some) (log_discarded is log k)) (hand_discarded is log k some)
      go Deciding is l log k = absurd (settled.1 is)
      go Committed is None none k = discard_standing (subst (IsTable g) (sym (in_phase Committed is)) s.memory.table) (subst₂ (λ p l. Kept g n now may flat_discarded p l) (sym is) (sym none) (pending_discarded g f g.blocks e may k.0, λ x above on. ap (λ (t : List Kind). kind_at t x) (in_phase Committed is) ∙ k.1 x above on)) (empty (λ e. absurd (let z : Committed ≡ Checkpoint = sym is ∙ e in grind arith)))
      go Committed is (Some log) some k = absurd k
