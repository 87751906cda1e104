-- A read, and a flush, keep what the machine stands for.
use Rattle.std.proofs.Common.{ℕ, ◌<◌, ◌≡◌, ◌≢◌, false, List, Option, Some, None, arith, refl, sym, ap, ◌∙◌, subst, subst₂, inl, inr, Contains}
use Rattle.std.proofs.lemmas.Bool.{cases_eq}
use Rattle.bow_units.specs.declared.sizes.Geometry.{Geometry}
use Rattle.bow_units.specs.declared.requests.Phase.{Phase}
use Rattle.bow_units.specs.declared.requests.Phase.TheVariants.{Trim, Arming, Checkpoint, Deciding, Committed}
use Rattle.bow_log.specs.Generations.{Generation}
use Rattle.bow_chain.specs.Contents.{Contents}
use Rattle.bow_flat.specs.Flat.{Flat, May, narrowed, after}
use Rattle.bow_flat.specs.Flat.Event.{Reads, Flushes}
use Rattle.bow_flat.proofs.Valid.{stays_valid}
use Rattle.bow_guard.specs.Cuts.{Candidates, IsFlushed}
use Rattle.bow_guard.specs.Device.{Device}
use Rattle.bow_guard.specs.Phases.{Leaves}
use Rattle.bow_guard.proofs.Device.{flushed}
use Rattle.bow_guard.proofs.Phases.{may_read}
use Rattle.bow_guard.proofs.PhaseActs.{arming_read, deciding_read, pending_flushed}
use Rattle.bow_machine.proofs.Known.{narrowed_none}
use Rattle.bow_machine.specs.Memory.{Memory, has_command, place_of, place_with}
use Rattle.bow_machine.proofs.Held.{device_of, IsKept, Kept, HandHeld, IsHeld}
use Rattle.bow_machine.proofs.Mapped.{open_change_same, kept_open, hand_open, hand_empty}
use Rattle.bow_machine.proofs.MappedTests.{for_inside}
use Rattle.bow_machine.proofs.MappedWrites.{not_0, put_here, put_there}

module _ (g : Geometry) (m : Memory) (now : Contents) (may : Candidates) (f : Flat) (s : IsHeld g m now may f) where
  -- A block of the device is read at its place.
  module _ (b : ℕ) (on : b < g.blocks) where
    abbrev seen : List ℕ
    seen = now (place_of m b)

    abbrev flat_read : Flat
    flat_read = after g.blocks (Reads b seen) f

    leaves_read : (phase : Phase) (log : Generation) → m.log ≡ Some log → (d : Device) → d.now ≡ now → Leaves g phase f (now log.current) d
        → Leaves g phase flat_read (now log.current) d
    leaves_read Trim log some d same l = l
    leaves_read Arming log some d same l = arming_read g f g.blocks b seen d l
    leaves_read Checkpoint log some d same l = l
    leaves_read Deciding log some d same l = deciding_read g f g.blocks b seen (now log.current) d
        (λ zeroth. ap (λ x. now (place_of m x)) zeroth ∙ ap (λ l. now (place_with l 0)) some)
        (λ above. ap (λ l. now (place_with l b)) some ∙ own above ∙ ap (λ n. n b) (sym same)) l
      where
        own : 0 < b → now (place_with (Some log) b) ≡ now b
        own above = rw (not_0 b (λ z. omega (arith, z, above))) refl
    leaves_read Committed log some d same l = l

    log_read : (phase : Phase) (log : Generation) → m.log ≡ Some log → IsKept g m now may f phase log → IsKept g m now may flat_read phase log
    log_read phase log some k = record {
      older = k.older;
      clean_log = k.clean_log;
      clean_older = k.clean_older;
      leaves = leaves_read phase log some (device_of m log k.older k.clean_log k.clean_older now may) refl k.leaves;
      clean = k.clean;
      arming = k.arming;
      sound = k.sound;
      hidden = λ x inside hidden. let none = k.hidden x inside hidden in (
        elim (cases_eq x b) [
          | inl same ↦ put_here f.current b (narrowed (f.current b) seen) x same ∙ narrowed_none (f.current b) seen (ap f.current (sym same) ∙ none.0)
          | inr ne ↦ put_there f.current b (narrowed (f.current b) seen) x ne ∙ none.0
        ],
        none.1,
      );
      trimmed = k.trimmed;
    }

    kept_read : (phase : Phase) (log : Option Generation) → m.log ≡ log → Kept g m now may f phase log → Kept g m now may flat_read phase log
    kept_read Trim None is k = k
    kept_read Trim (Some log) is k = absurd k
    kept_read Arming None is k = absurd k
    kept_read Arming (Some log) is k = log_read Arming log is k
    kept_read Checkpoint None is k = absurd k
    kept_read Checkpoint (Some log) is k = log_read Checkpoint log is k
    kept_read Deciding None is k = absurd k
    kept_read Deciding (Some log) is k = log_read Deciding log is k
    kept_read Committed None is k = k
    kept_read Committed (Some log) is k = absurd k

    pub standing_read : IsHeld g m now may flat_read
    standing_read = record {
      memory = s.memory;
      state = stays_valid g.blocks (Reads b seen) f s.state (s.shown b on) tt;
      phases = s.phases;
      held = s.held;
      shown = λ x inside. may_read f.current b x seen (now (place_of m x)) (λ same. ap (λ y. now (place_of m y)) (sym same)) (s.shown x inside);
      kept = kept_read m.phase m.log refl s.kept;
      in_hand = s.in_hand;
    }

  -- A flush that is done, with no command in hand.
  module _ (new_may : Candidates) (command : has_command m.hand ≡ false) (settled : (m.phase ≢ Arming) × (m.phase ≢ Deciding))
      (all : IsFlushed g now new_may) where
    abbrev flat_flushed : Flat
    flat_flushed = after g.blocks Flushes f

    some : 0 < g.blocks
    some = omega (arith, (s.memory.sizes).enough)

    flush_standing : Kept g m now new_may flat_flushed m.phase m.log → HandHeld g m m.hand now new_may m.log → IsHeld g m now new_may flat_flushed
    flush_standing kept hand = record {
      memory = s.memory;
      state = stays_valid g.blocks Flushes f s.state tt tt;
      phases = s.phases;
      held = λ x inside. subst (λ vs. Contains vs (now x)) (sym (all x inside)) (0, omega arith, refl);
      shown = s.shown;
      kept = kept;
      in_hand = hand;
    }

    pending : m.log ≡ None → (x : ℕ) → x < g.blocks → (v : List ℕ) → Contains (new_may x) v → May (f.current x) v
    pending none = pending_flushed g f g.blocks now new_may (λ x inside. subst (May (f.current x)) (ap (λ l. now (place_with l x)) none) (s.shown x inside)) all

    empty : m.phase ≢ Checkpoint → HandHeld g m m.hand now new_may m.log
    empty other = subst (λ hand. HandHeld g m hand now new_may m.log) (sym (hand_empty g m m.hand now may m.log command other s.in_hand)) tt

    log_flushed : (log : Generation) → IsKept g m now may f Checkpoint log → IsKept g m now new_may flat_flushed Checkpoint log
    log_flushed log k = kept_open g m m now now may new_may f flat_flushed log (open_change_same g m.kinds) refl k.sound.room k.trimmed refl
        (λ older clean_log clean_older. flushed g f.used f.saved (device_of m log older clean_log clean_older now may) (device_of m log older clean_log clean_older now new_may) (λ x. refl) all (s.held 0 some) (record { log = refl; older = refl; clean_log = refl; clean_older = refl }) (λ x. refl) (λ x. refl))
        (λ x inside hidden. let none = (k.hidden x inside hidden).0 in (none, none)) k

    hand_flushed : (log : Generation) → m.log ≡ Some log → log.current < g.blocks → HandHeld g m m.hand now new_may m.log
    hand_flushed log is inside = subst (λ l. HandHeld g m m.hand now new_may l) (sym is) (hand_open g m m log now now may new_may (open_change_same g m.kinds) refl (record { copies = λ x on kind. refl; zeroth = refl; moved = λ moves. refl; durable = λ x on kind one. all x on }) inside m.hand refl command refl (λ h w at. (w.waits, for_inside g m h.ticket w)) (subst (λ l. HandHeld g m m.hand now may l) is s.in_hand))

    pub standing_flushed : IsHeld g m now new_may flat_flushed
    standing_flushed = go m.phase refl m.log refl s.kept
      where
        go : (p : Phase) → m.phase ≡ p → (l : Option Generation) → m.log ≡ l → Kept g m now may f p l → IsHeld g m now new_may flat_flushed
        go Trim is None none k = flush_standing (subst₂ (λ p l. Kept g m now new_may flat_flushed p l) (sym is) (sym none) (pending none, k.1)) (empty (λ e. absurd (let n : Trim ≡ Checkpoint = sym is ∙ e in grind arith)))
        go Trim is (Some log) some k = absurd k
        go Arming is l log k = absurd (settled.0 is)
        go Checkpoint is None none k = absurd k
        go Checkpoint is (Some log) some k = flush_standing (subst₂ (λ p l. Kept g m now new_may flat_flushed p l) (sym is) (sym some) (log_flushed log k)) (hand_flushed log some k.sound.generation.current_inside)
        go Deciding is l log k = absurd (settled.1 is)
        go Committed is None none k = flush_standing (subst₂ (λ p l. Kept g m now new_may flat_flushed p l) (sym is) (sym none) (pending none, k.1)) (empty (λ e. absurd (let n : Committed ≡ Checkpoint = sym is ∙ e in grind arith)))
        go Committed is (Some log) some k = absurd k
