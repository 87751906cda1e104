-- Settling one device: what the answers of a restoration, and of giving up, say of it.
use Rattle.std.proofs.Common.{◌≡◌, ◌⊎◌, inl, inr, ⊎_elim, ℕ, ◌≤◌, Bool, true, false, List, Option, Some, None, Result, Ok, Err, refl, sym, subst, arith}
use Rattle.std.specs.Prelude.{IfOk, IfErr}
use Rattle.bow_units.specs.declared.sizes.Geometry.{Geometry}
use Rattle.bow_units.specs.Blocks.{IsBlock}
use Rattle.bow_units.specs.Sizes.{IsValid}
use Rattle.bow_disk.specs.Disk.{Content, IsCrash, IsImage}
use Rattle.bow_disk.specs.Moments.{AddsCuts, Tells}
use Rattle.bow_disk.proofs.Moments.{tells_map}
use Rattle.bow_chain.specs.Contents.{contents_of}
use Rattle.bow_restore.specs.Answers.{IsCaused}
use Rattle.bow_restore.specs.Forwarding.{HasReason, LeftAtForward, LeftForward, TellsForward}
use Rattle.bow_restore.specs.Replaying.{IsFlushed}
use Rattle.bow_restore.specs.declared.answers.Restored.{Restored}
use Rattle.bow_restore.specs.declared.answers.Restored.TheVariants as restored
use Rattle.bow_restore.specs.declared.answers.Forwarded.{Forwarded}
use Rattle.bow_restore.specs.declared.answers.Forwarded.TheVariants as forwarded
use Rattle.vold_commands.specs.Boot.{Backs, IsToldAs, PutsBack, StaysFlushed}
use Rattle.vold_commands.specs.declared.boots.BootFault.{BootFault}
use Rattle.vold_commands.specs.declared.boots.BootFault.TheVariants as vold
use Rattle.bow_pair.specs.Boots.{WholeBy}
use Rattle.bow_pair.specs.Joint.{IsCutOf}
use Rattle.bow_pair.specs.Settling.{IsRefused, IsSettled, TellsLogged}
use Rattle.bow_pair.specs.Told.{IsForwardAnswer, IsRestoreAnswer}
use Rattle.bow_pair.specs.declared.boots.PairBootFault.{PairBootFault}
use Rattle.bow_pair.proofs.Headers.{header_magic}

-- what a restoration's answer is for a boot of one device
pub vold_told : Restored → Result Bool BootFault
vold_told restored.Nothing = Ok false
vold_told (restored.Done entries marks) = Ok true
vold_told (restored.Stopped writes) = Ok true
vold_told (restored.BadChain fault) = Err (vold.BadChain fault)
vold_told restored.DiskFault = Err vold.DiskFault
vold_told restored.NoMemory = Err vold.NoMemory

pub vold_told_is : (answer : Restored) → IsToldAs answer (vold_told answer)
unfolding vold_told
vold_told_is restored.Nothing = refl
vold_told_is (restored.Done entries marks) = refl
vold_told_is (restored.Stopped writes) = refl
vold_told_is (restored.BadChain fault) = refl
vold_told_is restored.DiskFault = refl
vold_told_is restored.NoMemory = refl

module _ {T : Type 0} (content : T → Option Content) (old new : T) where
  -- what a cut may leave after a call might have been left before it, or is added by the call
  pub left_after : (moment : T → ℕ) (since : T → ℕ → List (List ℕ) → Type 0) (P : List (List ℕ) → Type 0) (c : Content)
      → ((d : Content) → content new ≡ Some d → (t : ℕ) (image : List (List ℕ)) → t ≤ moment new → IsCrash d.candidates image → since new t image)
      → ((t : ℕ) (image : List (List ℕ)) → moment old ≤ t → since old t image → IsCrash c.candidates image)
      → AddsCuts moment since P old new → (image : List (List ℕ)) → IsCutOf content new image → IsCrash c.candidates image ⊎ P image
  left_after moment since P c counts only adds image (d, at, crash) =
      let later = adds.time in
      ⊎_elim (λ past. inl (only (moment old) image (omega arith) past)) (λ on. inr on) (adds.only (moment old) image (omega arith) (counts d at (moment old) image (omega (arith, later)) crash))

  module _ (g : Geometry) (device : ℕ) (faults : T → ℕ) where
    -- ---- restored

    back_settled : (c : Content) (logged : Bool) → Tells content (PutsBack g logged c) new → Tells content (λ now. IsFlushed now × WholeBy false g c.now now.now) new
    back_settled c true t = tells_map content (PutsBack g true c) (λ now. IsFlushed now × WholeBy false g c.now now.now) new (λ d at h. (h.2, inl (h.0, h.1))) t
    back_settled c false t = tells_map content (PutsBack g false c) (λ now. IsFlushed now × WholeBy false g c.now now.now) new (λ d at h. (h.1.1, inr (h.0, h.1.0))) t

    pub restored_settled : (answer : Restored) (r : Result Bool PairBootFault) → IsRestoreAnswer device answer r → IsCaused None (faults old) (faults new) answer → ((c : Content) → content old ≡ Some c → Backs g content new c (vold_told answer))
        → IfOk r (λ logged. IsSettled content false g old new)
    unfolding vold_told
    restored_settled restored.Nothing r is cause back = subst (λ (x : Result Bool PairBootFault). IfOk x (λ logged. IsSettled content false g old new)) (sym is) (λ c told. back_settled c false (back c told))
    restored_settled (restored.Done entries marks) r is cause back = subst (λ (x : Result Bool PairBootFault). IfOk x (λ logged. IsSettled content false g old new)) (sym is) (λ c told. back_settled c true (back c told))
    restored_settled (restored.Stopped writes) r is cause back = absurd (cc cause)
    restored_settled (restored.BadChain fault) r is cause back = subst (λ (x : Result Bool PairBootFault). IfOk x (λ logged. IsSettled content false g old new)) (sym is) tt
    restored_settled restored.DiskFault r is cause back = subst (λ (x : Result Bool PairBootFault). IfOk x (λ logged. IsSettled content false g old new)) (sym is) tt
    restored_settled restored.NoMemory r is cause back = subst (λ (x : Result Bool PairBootFault). IfOk x (λ logged. IsSettled content false g old new)) (sym is) tt

    pub restored_logged : (answer : Restored) (r : Result Bool PairBootFault) → IsRestoreAnswer device answer r → IsCaused None (faults old) (faults new) answer → ((c : Content) → content old ≡ Some c → Backs g content new c (vold_told answer))
        → IfOk r (TellsLogged content old)
    unfolding vold_told
    restored_logged restored.Nothing r is cause back = subst (λ (x : Result Bool PairBootFault). IfOk x (TellsLogged content old)) (sym is) (λ c told. let t = back c told in (t.holds).0)
    restored_logged (restored.Done entries marks) r is cause back = subst (λ (x : Result Bool PairBootFault). IfOk x (TellsLogged content old)) (sym is) (λ c told. let t = back c told in (t.holds).0)
    restored_logged (restored.Stopped writes) r is cause back = absurd (cc cause)
    restored_logged (restored.BadChain fault) r is cause back = subst (λ (x : Result Bool PairBootFault). IfOk x (TellsLogged content old)) (sym is) tt
    restored_logged restored.DiskFault r is cause back = subst (λ (x : Result Bool PairBootFault). IfOk x (TellsLogged content old)) (sym is) tt
    restored_logged restored.NoMemory r is cause back = subst (λ (x : Result Bool PairBootFault). IfOk x (TellsLogged content old)) (sym is) tt

    abbrev Refused : Bool → Result Bool PairBootFault → Type 0
    Refused committed r = IfErr r (IsRefused content faults committed device g old new)

    pub restored_refused : (answer : Restored) (r : Result Bool PairBootFault) → IsRestoreAnswer device answer r → IsCaused None (faults old) (faults new) answer → ((c : Content) → content old ≡ Some c → Backs g content new c (vold_told answer))
        → IfErr r (IsRefused content faults false device g old new)
    unfolding vold_told
    restored_refused restored.Nothing r is cause back = subst (Refused false) (sym is) tt
    restored_refused (restored.Done entries marks) r is cause back = subst (Refused false) (sym is) tt
    restored_refused (restored.Stopped writes) r is cause back = absurd (cc cause)
    restored_refused (restored.BadChain fault) r is cause back = subst (Refused false) (sym is) (refl, refl, cause, λ c told. back c told)
    restored_refused restored.DiskFault r is cause back = subst (Refused false) (sym is) cause
    restored_refused restored.NoMemory r is cause back = subst (Refused false) (sym is) (λ c told. tells_map content (StaysFlushed c) (λ now. now.now ≡ c.now) new (λ d at h. h.0) (back c told))

    -- ---- given up

    module _ (valid : IsValid g) (whole : (c : Content) → content old ≡ Some c → IsBlock g.block_size (contents_of c.now 0)) (image : (d : Content) → content new ≡ Some d → IsImage g.block_size g.blocks d.now) where
      given_settled : (c : Content) → content old ≡ Some c → TellsForward g (contents_of c.now) forwarded.Done → Tells content (LeftForward g forwarded.Done c) new → Tells content (λ now. IsFlushed now × WholeBy true g c.now now.now) new
      given_settled c is told t = tells_map content (LeftForward g forwarded.Done c) (λ now. IsFlushed now × WholeBy true g c.now now.now) new
          (λ d at h. (h.1, inl (header_magic g (contents_of c.now 0) valid (whole c is) told.0, record { image = image d at; header = told.0; plain = told.1; now = h.0 }))) t

      pub forwarded_settled : (answer : Forwarded) (r : Result Bool PairBootFault) → IsForwardAnswer device answer r → ((c : Content) → content old ≡ Some c → TellsForward g (contents_of c.now) answer)
          → ((c : Content) → content old ≡ Some c → LeftAtForward g content new c answer) → IfOk r (λ logged. IsSettled content true g old new)
      forwarded_settled forwarded.Nothing r is tells left = subst (λ (x : Result Bool PairBootFault). IfOk x (λ logged. IsSettled content true g old new)) (sym is)
          (λ c told. tells_map content (LeftForward g forwarded.Nothing c) (λ now. IsFlushed now × WholeBy true g c.now now.now) new (λ d at h. (h.1, inr (tells c told, h.0))) (left c told))
      forwarded_settled forwarded.Done r is tells left = subst (λ (x : Result Bool PairBootFault). IfOk x (λ logged. IsSettled content true g old new)) (sym is) (λ c told. given_settled c told (tells c told) (left c told))
      forwarded_settled (forwarded.BadHeader fault) r is tells left = subst (λ (x : Result Bool PairBootFault). IfOk x (λ logged. IsSettled content true g old new)) (sym is) tt
      forwarded_settled forwarded.Reserved r is tells left = subst (λ (x : Result Bool PairBootFault). IfOk x (λ logged. IsSettled content true g old new)) (sym is) tt
      forwarded_settled forwarded.DiskFault r is tells left = subst (λ (x : Result Bool PairBootFault). IfOk x (λ logged. IsSettled content true g old new)) (sym is) tt
      forwarded_settled forwarded.NoMemory r is tells left = subst (λ (x : Result Bool PairBootFault). IfOk x (λ logged. IsSettled content true g old new)) (sym is) tt

      pub forwarded_logged : (answer : Forwarded) (r : Result Bool PairBootFault) → IsForwardAnswer device answer r → ((c : Content) → content old ≡ Some c → TellsForward g (contents_of c.now) answer) → IfOk r (TellsLogged content old)
      forwarded_logged forwarded.Nothing r is tells = subst (λ (x : Result Bool PairBootFault). IfOk x (TellsLogged content old)) (sym is) (λ c told. tells c told)
      forwarded_logged forwarded.Done r is tells = subst (λ (x : Result Bool PairBootFault). IfOk x (TellsLogged content old)) (sym is) (λ c told. header_magic g (contents_of c.now 0) valid (whole c told) (tells c told).0)
      forwarded_logged (forwarded.BadHeader fault) r is tells = subst (λ (x : Result Bool PairBootFault). IfOk x (TellsLogged content old)) (sym is) tt
      forwarded_logged forwarded.Reserved r is tells = subst (λ (x : Result Bool PairBootFault). IfOk x (TellsLogged content old)) (sym is) tt
      forwarded_logged forwarded.DiskFault r is tells = subst (λ (x : Result Bool PairBootFault). IfOk x (TellsLogged content old)) (sym is) tt
      forwarded_logged forwarded.NoMemory r is tells = subst (λ (x : Result Bool PairBootFault). IfOk x (TellsLogged content old)) (sym is) tt

    pub forwarded_refused : (answer : Forwarded) (r : Result Bool PairBootFault) → IsForwardAnswer device answer r → HasReason (faults old) (faults new) answer → ((c : Content) → content old ≡ Some c → TellsForward g (contents_of c.now) answer)
        → ((c : Content) → content old ≡ Some c → LeftAtForward g content new c answer) → IfErr r (IsRefused content faults true device g old new)
    forwarded_refused forwarded.Nothing r is reason tells left = subst (Refused true) (sym is) tt
    forwarded_refused forwarded.Done r is reason tells left = subst (Refused true) (sym is) tt
    forwarded_refused (forwarded.BadHeader fault) r is reason tells left = subst (Refused true) (sym is) (refl, refl, reason, λ c told. ((tells c told).0, (tells c told).1, left c told))
    forwarded_refused forwarded.Reserved r is reason tells left = subst (Refused true) (sym is) (refl, refl, λ c told. ((tells c told).0, (tells c told).1, left c told))
    forwarded_refused forwarded.DiskFault r is reason tells left = subst (Refused true) (sym is) reason
    forwarded_refused forwarded.NoMemory r is reason tells left = subst (Refused true) (sym is) (λ c told. left c told)
