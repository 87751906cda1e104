-- What each act of a commit does to what the machine stands for, with nothing said of what is in hand.
use Rattle.std.proofs.Common.{ℕ, zero, suc, ◌-◌, ◌<◌, ◌≡◌, ◌≢◌, Bool, true, false, List, length, Option, Some, None, arith, refl, sym, ap, ◌∙◌, subst, subst₂, inl, Contains}
use Rattle.bow_units.specs.declared.sizes.Geometry.{Geometry}
use Rattle.bow_units.specs.declared.sizes.Extent.{Extent}
use Rattle.bow_units.specs.declared.requests.Phase.TheVariants.{Checkpoint, Deciding, Committed}
use Rattle.bow_units.specs.declared.statuses.Kind.TheVariants as kinds
use Rattle.bow_log.specs.Generations.{Generation, IsGeneration}
use Rattle.bow_chain.specs.Contents.{Contents}
use Rattle.bow_flat.specs.Flat.{Flat, May, after}
use Rattle.bow_flat.specs.Flat.Event.{Flushes, Decides, Commits}
use Rattle.bow_flat.specs.Valid.{IsState}
use Rattle.bow_flat.proofs.Valid.{stays_valid}
use Rattle.bow_guard.specs.Cuts.{Candidates, IsFlushed}
use Rattle.bow_guard.specs.Guard.{Guarded}
use Rattle.bow_guard.specs.Phases.{IsPending, IsDeciding}
use Rattle.bow_guard.proofs.Device.{flushed}
use Rattle.bow_guard.proofs.Phases.{may_plain}
use Rattle.bow_guard.proofs.PhaseActs.{deciding_written, deciding_again, deciding_flushed, committed_flushed, committed_again}
use Rattle.bow_machine.specs.Memory.{Memory, Empty, place_with, place_of}
use Rattle.bow_machine.specs.Calls.{WriteTried}
use Rattle.bow_machine.specs.Steps.{released}
use Rattle.bow_machine.specs.MemoryIsSound.{FoundIn}
use Rattle.bow_machine.proofs.Held.{device_of, IsKept, Kept, IsHeld}
use Rattle.bow_machine.proofs.Tables.{table_with, kind_in}
use Rattle.bow_machine.proofs.Hands.{emptied, kept_over}
use Rattle.bow_machine.proofs.Prepared.{place_above, place_not_0, written_0}

module _ (g : Geometry) where
  -- what is kept in Checkpoint
  pub checkpoint_facts : (m : Memory) (now : Contents) (may : Candidates) (f : Flat) (log : Option Generation) → Kept g m now may f Checkpoint log → (l : Generation) × (log ≡ Some l) × IsKept g m now may f Checkpoint l
  checkpoint_facts m now may f None k = absurd k
  checkpoint_facts m now may f (Some log) k = (log, refl, k)

  -- and in Deciding
  pub deciding_facts : (m : Memory) (now : Contents) (may : Candidates) (f : Flat) (log : Option Generation) → Kept g m now may f Deciding log → (l : Generation) × (log ≡ Some l) × IsKept g m now may f Deciding l
  deciding_facts m now may f None k = absurd k
  deciding_facts m now may f (Some log) k = (log, refl, k)

  module _ (m : Memory) (now : Contents) (may : Candidates) (f : Flat) (k : IsHeld g (emptied m) now may f) where
    in_checkpoint : m.phase ≡ Checkpoint → (l : Generation) × (m.log ≡ Some l) × IsKept g (emptied m) now may f Checkpoint l
    in_checkpoint is = checkpoint_facts (emptied m) now may f m.log (subst (λ p. Kept g (emptied m) now may f p m.log) is k.kept)

    in_deciding : m.phase ≡ Deciding → (l : Generation) × (m.log ≡ Some l) × IsKept g (emptied m) now may f Deciding l
    in_deciding is = deciding_facts (emptied m) now may f m.log (subst (λ p. Kept g (emptied m) now may f p m.log) is k.kept)

    first_block : 0 < g.blocks
    first_block = omega (arith, k.memory.sizes.enough)

    -- a flush that is done, with no event
    flushed_kept : (new_may : Candidates) → IsFlushed g now new_may → Kept g (emptied m) now new_may f m.phase m.log → IsHeld g (emptied m) now new_may f
    flushed_kept new_may is kept = record {
      memory = k.memory;
      state = k.state;
      phases = k.phases;
      held = λ x inside. subst (λ vs. Contains vs (now x)) (sym (is x inside)) (0, omega arith, refl);
      shown = k.shown;
      kept = kept;
      in_hand = tt;
    }

    pub checkpoint_flushed : (new_may : Candidates) → m.phase ≡ Checkpoint → IsFlushed g now new_may → IsHeld g (emptied m) now new_may f
    checkpoint_flushed new_may is all = flushed_kept new_may all (subst₂ (λ p l. Kept g (emptied m) now new_may f p l) (sym is) (sym a.1) (kept_over g (emptied m) a.0 now now may new_may f f Checkpoint Checkpoint m.phase (λ x. x) (λ b none. none) refl a.2 guarded))
      where
        a : (l : Generation) × (m.log ≡ Some l) × IsKept g (emptied m) now may f Checkpoint l
        a = in_checkpoint is

        guarded : Guarded g f.used f.saved (device_of (emptied m) a.0 a.2.older a.2.clean_log a.2.clean_older now new_may)
        guarded = flushed g f.used f.saved (device_of (emptied m) a.0 a.2.older a.2.clean_log a.2.clean_older now may) (device_of (emptied m) a.0 a.2.older a.2.clean_log a.2.clean_older now new_may)
            (λ x. refl) all (k.held 0 first_block) (record { log = refl; older = refl; clean_log = refl; clean_older = refl }) (λ x. refl) (λ x. refl) a.2.leaves

    pub deciding_all_flushed : (new_may : Candidates) → m.phase ≡ Deciding → IsFlushed g now new_may → IsHeld g (emptied m) now new_may f
    deciding_all_flushed new_may is all = flushed_kept new_may all (subst₂ (λ p l. Kept g (emptied m) now new_may f p l) (sym is) (sym a.1) (kept_over g (emptied m) a.0 now now may new_may f f Deciding Deciding m.phase (λ x. x) (λ b none. none) refl a.2 deciding))
      where
        a : (l : Generation) × (m.log ≡ Some l) × IsKept g (emptied m) now may f Deciding l
        a = in_deciding is

        deciding : IsDeciding g f (now a.0.current) (device_of (emptied m) a.0 a.2.older a.2.clean_log a.2.clean_older now new_may)
        deciding = deciding_flushed g f (device_of (emptied m) a.0 a.2.older a.2.clean_log a.2.clean_older now may) new_may (now a.0.current) all (k.held 0 first_block) a.2.leaves

  module _ (m : Memory) (now new_now : Contents) (may new_may : Candidates) (f : Flat) (content : List ℕ) (k : IsHeld g (emptied m) now may f)
      (read : content ≡ now (place_of m 0)) (tried : WriteTried 0 content now new_now may new_may) where
    -- what the current block 0 holds, before and after
    same_current : (log : Generation) → IsGeneration g log → new_now log.current ≡ now log.current
    same_current log is = tried.given.others_now log.current (λ e. omega (arith, e, is.current_not_0))

    read_current : (log : Generation) → m.log ≡ Some log → content ≡ now log.current
    read_current log same = read ∙ ap (λ l. now (place_with l 0)) same

    -- it still holds it
    pub same_place : (again : Bool) → FoundIn m again → new_now (place_of m 0) ≡ now (place_of m 0)
    same_place false is = let a = in_checkpoint m now may f k is in tried.given.others_now (place_of m 0) (subst (λ l. place_with l 0 ≢ 0) (sym a.1) (place_not_0 g a.0 a.2.leaves.log.behind.valid 0))
    same_place true is = let a = in_deciding m now may f k is in tried.given.others_now (place_of m 0) (subst (λ l. place_with l 0 ≢ 0) (sym a.1) (place_not_0 g a.0 a.2.leaves.log.behind.valid 0))

    -- the deciding write, done or failed
    pub decided : m.phase ≡ Checkpoint → IsFlushed g now may → IsHeld g (record m { phase = Deciding; hand = Empty }) new_now new_may (after g.blocks Decides f)
    decided is all =
        written_0 g m now new_now may new_may f k content Deciding (after g.blocks Decides f) log tried valid a.1 (stays_valid g.blocks Decides f k.state (k.phases ∙ is) tt) refl refl
        (kept_over g (emptied m) log now new_now may new_may f (after g.blocks Decides f) Checkpoint Deciding Deciding (λ x. absurd (grind arith)) (λ b none. (none.0, none.0)) refl a.2 leaves)
      where
        a : (l : Generation) × (m.log ≡ Some l) × IsKept g (emptied m) now may f Checkpoint l
        a = in_checkpoint m now may f k is

        log : Generation
        log = a.0

        valid : IsGeneration g log
        valid = a.2.leaves.log.behind.valid

        current_0 : May (f.current 0) content
        current_0 = subst (May (f.current 0)) (sym read) (k.shown 0 (first_block m now may f k))

        leaves : IsDeciding g (after g.blocks Decides f) (new_now log.current) (device_of (emptied m) log a.2.older a.2.clean_log a.2.clean_older new_now new_may)
        leaves = subst (λ v. IsDeciding g (after g.blocks Decides f) v (device_of (emptied m) log a.2.older a.2.clean_log a.2.clean_older new_now new_may)) (read_current log a.1 ∙ sym (same_current log valid))
            (deciding_written g f g.blocks (device_of (emptied m) log a.2.older a.2.clean_log a.2.clean_older now may) new_now new_may content a.2.leaves all tried.given (may_plain (f.current 0) content k.state.current_0 current_0) current_0
            (λ x above inside. subst (λ y. May (f.current x) (now y)) (place_above m.log x above) (k.shown x inside)))

    -- it is made once more
    pub decided_again : m.phase ≡ Deciding → IsHeld g (record m { phase = Deciding; hand = Empty }) new_now new_may f
    decided_again is =
        written_0 g m now new_now may new_may f k content Deciding f log tried valid a.1 k.state (k.phases ∙ is) refl
        (kept_over g (emptied m) log now new_now may new_may f f Deciding Deciding Deciding (λ x. x) (λ b none. none) refl a.2 leaves)
      where
        a : (l : Generation) × (m.log ≡ Some l) × IsKept g (emptied m) now may f Deciding l
        a = in_deciding m now may f k is

        log : Generation
        log = a.0

        valid : IsGeneration g log
        valid = a.2.leaves.log.behind.valid

        leaves : IsDeciding g f (new_now log.current) (device_of (emptied m) log a.2.older a.2.clean_log a.2.clean_older new_now new_may)
        leaves = subst (λ v. IsDeciding g f v (device_of (emptied m) log a.2.older a.2.clean_log a.2.clean_older new_now new_may)) (read_current log a.1 ∙ sym (same_current log valid))
            (deciding_again g f (device_of (emptied m) log a.2.older a.2.clean_log a.2.clean_older now may) new_now new_may content tried.given
            (subst (λ v. IsDeciding g f v (device_of (emptied m) log a.2.older a.2.clean_log a.2.clean_older now may)) (sym (read_current log a.1)) a.2.leaves))

  module _ (m : Memory) (now : Contents) (may new_may : Candidates) (f : Flat) (k : IsHeld g (emptied m) now may f) (is : m.phase ≡ Deciding) (wrote : now 0 ≡ now (place_of m 0)) (all : IsFlushed g now new_may) where
    a : (l : Generation) × (m.log ≡ Some l) × IsKept g (emptied m) now may f Deciding l
    a = in_deciding m now may f k is

    wrote_current : now 0 ≡ now a.0.current
    wrote_current = wrote ∙ ap (λ l. now (place_with l 0)) a.1

    abbrev above : Extent
    above = record { first = 1; count = length m.kinds - 1 }

    -- the checkpoint is given up
    let_go : (h : Flat) → h.phase ≡ Committed → IsState h → h.current ≡ f.current → IsPending g h new_may → IsHeld g (released m) now new_may h
    let_go h phase state current pending = record {
      memory = record { sizes = k.memory.sizes; table = table_with g m.kinds above kinds.Unchanged (λ e. absurd (grind arith)) (omega (arith, k.memory.table.size, k.memory.sizes.enough)) (inl (omega arith)) k.memory.table; requests = k.memory.requests; tickets = k.memory.tickets };
      state = state;
      phases = phase;
      held = λ x inside. subst (λ vs. Contains vs (now x)) (sym (all x inside)) (0, omega arith, refl);
      shown = λ x inside. subst (λ (c : ℕ → Option (List (List ℕ))). May (c x) (now x)) (sym current) (show x inside);
      kept = (pending, λ x some inside. kind_in m.kinds above kinds.Unchanged x (omega (arith, k.memory.table.size, k.memory.sizes.enough)) (omega arith) (omega (arith, k.memory.table.size)));
      in_hand = tt;
    }
      where
        show : (x : ℕ) → x < g.blocks → May (f.current x) (now x)
        show zero inside = subst (May (f.current 0)) (sym wrote) (k.shown 0 inside)
        show (suc x) inside = subst (λ y. May (f.current (suc x)) (now y)) (place_above m.log (suc x) (omega arith)) (k.shown (suc x) inside)

    pub released_stands : IsHeld g (released m) now new_may (after g.blocks Commits f)
    released_stands = let_go (after g.blocks Commits f) refl (stays_valid g.blocks Commits f k.state (k.phases ∙ is) tt) refl
        (committed_flushed g f g.blocks (device_of (emptied m) a.0 a.2.older a.2.clean_log a.2.clean_older now may) (now a.0.current) new_may k.state a.2.leaves wrote_current all)

    -- and one that was made again is flushed, too
    pub released_again : IsHeld g (released m) now new_may (after g.blocks Commits (after g.blocks Flushes f))
    released_again = let_go (after g.blocks Commits (after g.blocks Flushes f)) refl (stays_valid g.blocks Commits (after g.blocks Flushes f) (stays_valid g.blocks Flushes f k.state tt tt) (k.phases ∙ is) tt) refl
        (committed_again g f g.blocks (device_of (emptied m) a.0 a.2.older a.2.clean_log a.2.clean_older now may) (now a.0.current) new_may a.2.leaves wrote_current all)
