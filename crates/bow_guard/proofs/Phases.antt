-- Whatever a cut leaves stands for the flat state, in every phase.
use Rattle.std.proofs.Common.{ℕ, zero, suc, ◌<◌, ◌≡◌, ◌≢◌, Bool, true, not, List, [], ◌∷◌, Option, Some, None, arith, refl, sym, ap, ◌∙◌, subst, ◌⊎◌, inl, inr, Contains}
use Rattle.std.proofs.lemmas.Bool.{cases_eq}
use Rattle.bow_units.specs.declared.sizes.Geometry.{Geometry}
use Rattle.bow_units.specs.declared.requests.Phase.{Phase}
use Rattle.bow_units.specs.declared.requests.Phase.TheVariants.{Trim, Arming, Checkpoint, Deciding, Committed}
use Rattle.bow_flat.specs.Flat.{Flat, May, is_any, narrowed, put}
use Rattle.bow_flat.specs.Valid.{IsPlainList, IsWithin, HasCheckpoint, IsState}
use Rattle.bow_chain.specs.Contents.{Contents}
use Rattle.bow_chain.specs.Sound.{log_in}
use Rattle.bow_chain.specs.Kept.{IsPlain, Keeps, Holds}
use Rattle.bow_chain.specs.Counting.{InUse}
use Rattle.bow_guard.specs.Cuts.{Candidates, IsCut}
use Rattle.bow_guard.specs.Device.{Device, Steady, Safe}
use Rattle.bow_guard.specs.Standing.{Shows, StandsInPhase, StandsFor, HasCheckpointIn}
use Rattle.bow_guard.specs.Phases.{IsPending, IsArming, IsDeciding, Leaves}
use Rattle.bow_guard.proofs.Device.{one_of, some_block, firm_cut, guarded_cut}

pub may_plain : (c : Option (List (List ℕ))) (v : List ℕ) → IsPlainList c → May c v → IsPlain v
may_plain None v h a = absurd h
may_plain (Some cs) v h a = h v a

pub may_within : (c p : Option (List (List ℕ))) (v : List ℕ) → IsWithin c p → May c v → May p v
may_within c None v w a = tt
may_within None (Some ps) v w a = absurd w
may_within (Some cs) (Some ps) v w a = w v a

-- what a block may be of which only one content is known
may_one : (c : Option (List (List ℕ))) (v s : List ℕ) → (not (is_any c) ≡ true → (v ≡ s) × (c ≡ Some (s ∷ []))) → May c v
may_one None v s h = tt
may_one (Some cs) v s h = subst (λ c. May c v) (sym (h refl).1) (subst (λ w. Contains (s ∷ []) w) (sym (h refl).0) (0, omega arith, refl))

may_narrowed : (c : Option (List (List ℕ))) (v : List ℕ) → May (narrowed c v) v
may_narrowed None v = tt
may_narrowed (Some cs) v = (0, omega arith, refl)

put_same : {A : Type 0} (f : ℕ → A) (b : ℕ) (v : A) → put f b v b ≡ v
put_same f b v = grind arith

put_other : {A : Type 0} (f : ℕ → A) (b : ℕ) (v : A) (x : ℕ) → x ≢ b → put f b v x ≡ f x
put_other f b v x ne = grind arith

-- what reads as it should still does once a block was read
pub may_read : (current : ℕ → Option (List (List ℕ))) (b x : ℕ) (v w : List ℕ) → (x ≡ b → v ≡ w) → May (current x) w → May (put current b (narrowed (current b) v) x) w
may_read current b x v w here may = elim (cases_eq x b) [
  | inl is ↦ subst (λ u. May u w) (sym (ap (put current b (narrowed (current b) v)) is ∙ put_same current b (narrowed (current b) v))) (subst (λ u. May (narrowed (current b) v) u) (here is) (may_narrowed (current b) v))
  | inr ne ↦ subst (λ u. May u w) (sym (put_other current b (narrowed (current b) v) x ne)) may
]

pub used_above : (used : ℕ → Bool) (b : ℕ) → InUse used (suc b) → used (suc b) ≡ true
used_above used b (inl is) = absurd cc
used_above used b (inr is) = is

module _ (g : Geometry) where
  pending_cut : (f : Flat) (may : Candidates) (image : Contents) → 0 < g.blocks → IsState f → IsPending g f may → IsCut g may image → Shows g f.pending image
  pending_cut f may image some valid leaves cut = record {
    plain = may_plain (f.pending 0) (image 0) valid.pending_0 (leaves 0 some (image 0) (cut 0 some));
    each = λ b on. leaves b on (image b) (cut b on);
  }

  module _ (f : Flat) (valid : IsState f) (is : f.phase ≡ Arming) where
    -- block 0 is used
    used_in : (b : ℕ) → InUse f.used b → f.used b ≡ true
    used_in b (inl zeroth) = ap f.used zeroth ∙ valid.used_0 (subst (λ p. HasCheckpoint p) (sym is) tt)
    used_in b (inr used) = used

    -- in arming what is pending is what was saved
    saved_pending : (image : Contents) → ((b : ℕ) → b < g.blocks → InUse f.used b → image b ≡ f.saved b) → (b : ℕ) → b < g.blocks → May (f.pending b) (image b)
    saved_pending image same b on = subst (λ c. May c (image b)) (sym (valid.arming_pending is b)) (may_one (f.current b) (image b) (f.saved b) (λ e. let u = valid.arming_used is b ∙ e in (same b on (inr u), valid.arming_saved is b u)))

    pending_saved : (image : Contents) → ((b : ℕ) → b < g.blocks → May (f.pending b) (image b)) → (b : ℕ) → b < g.blocks → InUse f.used b → image b ≡ f.saved b
    pending_saved image may b on u = one_of (f.saved b) (image b) (subst (λ c. May c (image b)) (valid.arming_pending is b ∙ valid.arming_saved is b (used_in b u)) (may b on))

  arming_cut : (f : Flat) (d : Device) (image : Contents) → IsState f → f.phase ≡ Arming → IsArming g f d → IsCut g d.may image → Shows g f.pending image ⊎ Keeps g f.used f.saved image
  arming_cut f d image valid is a cut =
      let some = some_block g d.log a.log.behind.valid in
      elim (a.heads (image 0) (cut 0 some)) [
        | inr log ↦ inr (firm_cut g f.used f.saved (Steady g d) d image d.log [] (λ x s. s.firm) cut log a.log)
        | inl same ↦ inl (record {
          plain = subst IsPlain (sym same) (valid.plain_saved (subst (λ p. HasCheckpoint p) (sym is) tt));
          each = saved_pending f valid is image (in_place same);
        })
      ]
    where
      in_place : image 0 ≡ f.saved 0 → (b : ℕ) → b < g.blocks → InUse f.used b → image b ≡ f.saved b
      in_place same zero on u = same
      in_place same (suc b) on u = one_of (f.saved (suc b)) (image (suc b)) (subst (λ vs. Contains vs (image (suc b))) (a.in_place (suc b) (omega arith) on (used_above f.used b u)) (cut (suc b) on))

  deciding_cut : (f : Flat) (d : Device) (image : Contents) (content : List ℕ) → IsDeciding g f content d → IsCut g d.may image → Keeps g f.used f.saved image ⊎ Shows g f.current image
  deciding_cut f d image content a cut = elim (a.heads (image 0) (cut 0 (some_block g d.log a.log.behind.valid))) [
    | inl same ↦ inr (record { plain = subst IsPlain (sym same) a.plain; each = each same })
    | inr logs ↦ inl (keeps logs)
  ]
    where
      keeps : (log_in g (image 0) ≡ Some d.log) ⊎ (log_in g (image 0) ≡ Some d.clean_log) → Keeps g f.used f.saved image
      keeps (inl log) = firm_cut g f.used f.saved (Steady g d) d image d.log d.older (λ x s. s.firm) cut log a.log
      keeps (inr log) = firm_cut g f.used f.saved (Safe g d) d image d.clean_log d.clean_older (λ x s. s.firm) cut log a.clean

      each : image 0 ≡ content → (b : ℕ) → b < g.blocks → May (f.current b) (image b)
      each same zero on = subst (May (f.current 0)) (sym same) a.current_0
      each same (suc b) on = subst (May (f.current (suc b))) (sym (one_of (d.now (suc b)) (image (suc b)) (subst (λ vs. Contains vs (image (suc b))) (a.one (suc b) (omega arith) on) (cut (suc b) on)))) (a.current (suc b) (omega arith) on)

  -- Each crash image stands for the flat state.
  pub cut_stands : (f : Flat) (d : Device) (image : Contents) (content : List ℕ) → 0 < g.blocks → IsState f → Leaves g f.phase f content d → IsCut g d.may image → StandsFor g f image
  cut_stands f d image content some valid leaves cut = go f.phase refl leaves
    where
      go : (p : Phase) → f.phase ≡ p → Leaves g p f content d → StandsInPhase g p f image
      go Trim is l = pending_cut f d.may image some valid l cut
      go Arming is l = arming_cut f d image valid is l cut
      go Checkpoint is l = guarded_cut g f.used f.saved d image l cut
      go Deciding is l = deciding_cut f d image content l cut
      go Committed is l = pending_cut f d.may image some valid l cut

  -- An image that stands before the decision holds the checkpoint, and block 0 was saved without a magic.
  pub together : (f : Flat) (image : Contents) → IsState f → HasCheckpointIn g f.phase f image → Holds g f.used f.saved image × IsPlain (f.saved 0)
  together f image valid has = go f.phase refl has
    where
      plain : HasCheckpoint f.phase → IsPlain (f.saved 0)
      plain h = valid.plain_saved h

      go : (p : Phase) → f.phase ≡ p → HasCheckpointIn g p f image → Holds g f.used f.saved image × IsPlain (f.saved 0)
      go Trim is h = absurd h
      go Arming is (inl shows) = (inr (pending_saved f valid is image shows.each), plain (subst (λ p. HasCheckpoint p) (sym is) tt))
      go Arming is (inr keeps) = (inl keeps, plain (subst (λ p. HasCheckpoint p) (sym is) tt))
      go Checkpoint is h = (inl h, plain (subst (λ p. HasCheckpoint p) (sym is) tt))
      go Deciding is h = (inl h, plain (subst (λ p. HasCheckpoint p) (sym is) tt))
      go Committed is h = absurd h
