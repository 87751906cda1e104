-- Once all was flushed, and no call has failed, whatever a cut leaves can be given up forward.
use Rattle.std.proofs.Common.{ℕ, ◌<◌, ◌≡◌, ◌≢◌, Bool, true, false, List, [], ◌∷◌, Option, Some, None, arith, refl, sym, ap, ◌∙◌, subst, inl, inr, Contains}
use Rattle.bow_units.specs.declared.sizes.Geometry.{Geometry}
use Rattle.bow_units.specs.declared.requests.Phase.TheVariants.{Arming, Checkpoint, Deciding}
use Rattle.bow_log.specs.Generations.{Generation}
use Rattle.bow_chain.specs.Contents.{Contents}
use Rattle.bow_chain.specs.Sound.{log_in}
use Rattle.bow_chain.proofs.Counting.{some_inj}
use Rattle.bow_flat.specs.Flat.{Flat, May, after}
use Rattle.bow_flat.specs.Flat.Event.{Flushes}
use Rattle.bow_guard.specs.Cuts.{Candidates, IsFlushed}
use Rattle.bow_guard.proofs.Device.{one_of}
use Rattle.bow_machine.specs.Memory.{Memory, CommitAct, FlushesAll, ReadsCurrent, WritesBlock0, FlushesDecision, place_with}
use Rattle.bow_machine.specs.MemoryIsSound.{FoundIn}
use Rattle.bow_machine.proofs.Held.{Kept, CommitHeld, HandHeld, IsHeld}
use Rattle.bow_machine.specs.Standing.{IsStanding}
use Rattle.bow_machine.proofs.Joined.{held as whole}
use Rattle.bow_machine.specs.Ahead.{Shows0, BeginsLog, IsLed}
use Rattle.bow_machine.specs.Orders.{DecidingStaysLed}
use Rattle.bow_machine.specs.Forward.{HasFlushed, CommitHasFlushed, FlushedIsAhead}
use Rattle.bow_machine.proofs.Hands.{kept_over}
use Rattle.bow_machine.proofs.Cuts.{machine_cut}
use Rattle.bow_machine.proofs.Orders.{flushed_stands, deciding_is_flushed}
use Rattle.bow_machine.proofs.Ahead.{led_is_ahead}

module _ (g : Geometry) (m : Memory) (now : Contents) (may : Candidates) (f : Flat) where
  -- In Checkpoint too a machine that stands for a state stands for it flushed.
  checkpoint_flushed : (log : Option Generation) → Kept g m now may f Checkpoint log → Kept g m now may (after g.blocks Flushes f) Checkpoint log
  checkpoint_flushed None k = absurd k
  checkpoint_flushed (Some log) k = kept_over g m log now now may may f (after g.blocks Flushes f) Checkpoint Checkpoint m.phase (λ is. is) (λ b none. (none.0, none.0)) refl k k.leaves

  checkpoint_holds : IsHeld g m now may f → m.phase ≡ Checkpoint → Kept g m now may (after g.blocks Flushes f) m.phase m.log
  checkpoint_holds s is =
      subst (λ p. Kept g m now may (after g.blocks Flushes f) p m.log) (sym is)
      (checkpoint_flushed m.log (subst (λ p. Kept g m now may f p m.log) is s.kept))

  checkpoint_stands : IsStanding g m now may f → m.phase ≡ Checkpoint → IsStanding g m now may (after g.blocks Flushes f)
  checkpoint_stands s is = flushed_stands g m now may f s (checkpoint_holds (whole g m now may f s) is)

  -- with one candidate for each block but 0, the machine is led for the state flushed
  module _ (s : IsHeld g m now may f) (led : IsLed g m now may f) (log : Generation) (some : m.log ≡ Some log) (above : 0 < log.current) (inside : log.current < g.blocks)
      (one : (b : ℕ) → 0 < b → b < g.blocks → may b ≡ now b ∷ []) where
    reads : (b : ℕ) → b < g.blocks → May (f.current b) (now (place_with (Some log) b))
    reads b on = subst (λ l. May (f.current b) (now (place_with l b))) some (s.shown b on)

    own : (b : ℕ) → 0 < b → place_with (Some log) b ≡ b
    own b up = grind arith

    only : (b : ℕ) → 0 < b → b < g.blocks → (v : List ℕ) → Contains (may b) v → v ≡ now b
    only b up on v has = one_of (now b) v (subst (λ vs. Contains vs v) (one b up on) has)

    shows_current : Shows0 may f.current log.current
    shows_current v has = subst (May (f.current 0)) (sym (only log.current above inside v has)) (reads 0 (omega (arith, s.memory.sizes.enough)))

    led_flushed : ((v : List ℕ) (head : Generation) → Contains (may 0) v → BeginsLog m.phase v → log_in g v ≡ Some head → log ≡ head) → (m.phase ≡ Arming → ⊥) → IsLed g m now may (after g.blocks Flushes f)
    led_flushed heads not_arming = record {
      others = λ b up on v has. subst (May (f.current b)) (ap now (own b up) ∙ sym (only b up on v has)) (reads b on);
      heads = λ v head has begins spells.
          let old = led.heads v head has begins spells in
          (old.0, subst (λ (l : Generation). Shows0 may f.current l.current) (heads v head has begins spells) shows_current);
      current = λ l is. let same : log ≡ l = some_inj (sym some ∙ is) in subst (λ (l : Generation). Shows0 may f.current l.current) same shows_current;
      arming = λ is l is_log. absurd (not_arming is);
      led = led.led;
      deciding = led.deciding;
    }

  some_zero : IsHeld g m now may f → IsFlushed g now may → (v : List ℕ) → Contains (may 0) v → v ≡ now 0
  some_zero s flushed v has = one_of (now 0) v (subst (λ vs. Contains vs v) (flushed 0 (omega (arith, s.memory.sizes.enough))) has)

  in_checkpoint : IsHeld g m now may f → IsLed g m now may f → m.phase ≡ Checkpoint → IsFlushed g now may → (log : Option Generation) → m.log ≡ log → Kept g m now may f Checkpoint log → IsLed g m now may (after g.blocks Flushes f)
  in_checkpoint s led is flushed None some k = absurd k
  in_checkpoint s led is flushed (Some log) some k =
      let valid = k.leaves.log.behind.valid in
      led_flushed s led log some valid.current_not_0 k.sound.generation.current_inside (λ b up on. flushed b on)
      (λ v head has begins spells.
      let here : log_in g (now 0) ≡ Some log = led.led is log some in
      some_inj (sym here ∙ ap (log_in g) (sym (some_zero s flushed v has)) ∙ spells))
      (λ arming. absurd (let clash : Checkpoint ≡ Arming = sym is ∙ arming in grind arith))

  in_deciding : IsHeld g m now may f → IsLed g m now may f → m.phase ≡ Deciding → (log : Option Generation) → m.log ≡ log → Kept g m now may f Deciding log → IsLed g m now may (after g.blocks Flushes f)
  in_deciding s led is None some k = absurd k
  in_deciding s led is (Some log) some k =
      let valid = k.leaves.log.behind.valid in
      led_flushed s led log some valid.current_not_0 k.sound.generation.current_inside (λ b up on. k.leaves.one b up on)
      (λ v head has begins spells. elim begins [
        | inl at ↦ absurd (let clash : Deciding ≡ Checkpoint = sym is ∙ at in grind arith)
        | inr magic ↦ some_inj (sym some ∙ led.deciding is v head has magic spells)
      ])
      (λ arming. absurd (let clash : Deciding ≡ Arming = sym is ∙ arming in grind arith))

  found : (again : Bool) → FoundIn m again → IsFlushed g now may → HasFlushed g m now may
  found true is flushed = inl is
  found false is flushed = inr (is, flushed)

  has_flushed : (again : Bool) (act : CommitAct) → CommitHeld g m again act now may → act ≢ FlushesAll → HasFlushed g m now may
  has_flushed again FlushesAll h past = absurd (past refl)
  has_flushed again ReadsCurrent h past = found again h.0 h.1
  has_flushed again (WritesBlock0 v) h past = found again h.0 h.1
  has_flushed again FlushesDecision h past = inl h.0

pub deciding_stays_led : DecidingStaysLed
deciding_stays_led g m now may f s is led =
    let h = whole g m now may f s in
    in_deciding g m now may f h led is m.log refl (subst (λ p. Kept g m now may f p m.log) is h.kept)

pub commit_has_flushed : CommitHasFlushed
commit_has_flushed g m now may f t again act s is past = has_flushed g m now may f again act (subst (λ h. HandHeld g m h now may m.log) is (whole g m now may f s).in_hand).0 past

pub flushed_is_ahead : FlushedIsAhead
flushed_is_ahead g m now may f image s led past cut =
    let h = whole g m now may f s in
    elim past [
      | inl is ↦
          let stands = deciding_is_flushed g m now may f s is in
          let forward = deciding_stays_led g m now may f s is led in
          (machine_cut g m now may (after g.blocks Flushes f) image stands cut, led_is_ahead g m now may (after g.blocks Flushes f) stands forward image cut)
      | inr (is, flushed) ↦
          let stands = checkpoint_stands g m now may f s is in
          let forward = in_checkpoint g m now may f h led is flushed m.log refl (subst (λ p. Kept g m now may f p m.log) is h.kept) in
          (machine_cut g m now may (after g.blocks Flushes f) image stands cut, led_is_ahead g m now may (after g.blocks Flushes f) stands forward image cut)
    ]
