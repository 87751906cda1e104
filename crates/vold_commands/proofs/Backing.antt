-- What the restoration in a boot comes to.
use Rattle.std.proofs.Common.{◌≡◌, ◌⊎◌, inl, inr, ⊎_elim, ℕ, zero, suc, ◌<◌, Bool, true, false, List, [], ◌∷◌, Option, None, Some, Result, Ok, Err, refl, sym, ap, ◌∙◌, subst, arith}
use Rattle.std.specs.Prelude.{take, ◌-◌, ◌≤◌, IfOk, IfSome}
use Rattle.std.proofs.lemmas.Bool.{cases_eq}
use Rattle.bow_units.specs.declared.sizes.Geometry.{Geometry}
use Rattle.bow_units.specs.Sizes.{IsValid}
use Rattle.bow_units.specs.Magics.{HasMagic, log_magic, restoring_magic}
use Rattle.bow_log.specs.Generations.{Generation}
use Rattle.bow_disk.specs.Disk.{Content, IsCrash, IsImage}
use Rattle.bow_restore.proofs.Backs.{plain_unsound}
use Rattle.bow_chain.specs.Contents.{Contents, contents_of}
use Rattle.bow_chain.specs.Sound.{IsSound}
use Rattle.bow_chain.specs.Kept.{IsPlain}
use Rattle.bow_chain.specs.Faults.{IsFirstFault}
use Rattle.bow_chain.specs.declared.faults.ChainFault.{ChainFault}
use Rattle.bow_chain.proofs.Decided.{sound_or_faulty}
use Rattle.bow_restore.specs.Rewinds.{PassesOn}
use Rattle.bow_restore.specs.Replaying.{IsFlushed}
use Rattle.bow_disk.specs.Moments.{Tells as HoldsOf}
use Rattle.bow_restore.specs.Answers.{IsCaused, TellsHead, TellsSound, TellsFault, LeftBy, Untouched, IsBack, EndsBack}
use Rattle.bow_restore.specs.declared.answers.Restored.{Restored}
use Rattle.bow_restore.specs.declared.answers.Restored.TheVariants as restored
use Rattle.bow_disk.proofs.Moments.{tells_map}
use Rattle.vold_meta.specs.Keeper.{Goes}
use Rattle.vold_meta.specs.Attempts.{most_attempts, text_of, Tells, IsBad}
use Rattle.vold_meta.specs.declared.attempts.AttemptFault.TheVariants as attempt
use Rattle.vold_commands.specs.Attempts.{marked, Took, Runs, IsOfStep}
use Rattle.vold_commands.specs.Boots.{IsLogged, CutBoot}
use Rattle.vold_commands.specs.Boot.{IsToldAs, Whole, StaysFlushed, PutsBack, Backs, IsBackCaused, EndsBy, KeepsBy, IsBootAnswer, KeepsMarked, BootLeaves, BootIsCut}
use Rattle.vold_commands.specs.declared.boots.Booted.{Booted}
use Rattle.vold_commands.specs.declared.boots.BootFault.{BootFault}
use Rattle.vold_commands.specs.declared.boots.BootFault.TheVariants.{KeeperFault, BadAttempts, BadChain, DiskFault, NoMemory}
use Rattle.vold_commands.proofs.Ways.{BackOf, to_end, cut_at_entry, cut_in_mark, cut_in_restoration, cut_in_removal}

-- whether two lists are the same
same_list : (a b : List ℕ) → (a ≡ b) ⊎ (a ≡ b → ⊥)
same_list [] [] = inl refl
same_list [] (y ∷ b) = inr (λ e. cc e)
same_list (x ∷ a) [] = inr (λ e. cc e)
same_list (x ∷ a) (y ∷ b) = elim (cases_eq x y) [
  | inr other ↦ inr (λ e. other (cc e))
  | inl here ↦ elim (same_list a b) [ inl more ↦ inl (cc (here, more)) | inr less ↦ inr (λ e. less (cc e)) ]
]

-- a block begins with a magic or does not
pub magic_or_plain : (block : List ℕ) → HasMagic block ⊎ (HasMagic block → ⊥)
magic_or_plain block = elim (same_list (take 4 block) log_magic) [
  | inl one ↦ inl (inl one)
  | inr not_one ↦ elim (same_list (take 4 block) restoring_magic) [
    | inl two ↦ inl (inr two)
    | inr not_two ↦ inr (λ has. ⊎_elim not_one not_two has)
  ]
]

-- what a restoration's cause is for a boot
pub back_caused : (before now : ℕ) (answer : Restored) (r : Result Bool BootFault) → IsToldAs answer r → IsCaused None before now answer → IsBackCaused before now r
back_caused before now restored.Nothing r is cause = subst (IsBackCaused before now) (sym is) tt
back_caused before now (restored.Done entries marks) r is cause = subst (IsBackCaused before now) (sym is) tt
back_caused before now (restored.Stopped writes) r is cause = absurd (cc cause)
back_caused before now (restored.BadChain fault) r is cause = subst (IsBackCaused before now) (sym is) cause
back_caused before now restored.DiskFault r is cause = subst (IsBackCaused before now) (sym is) cause
back_caused before now restored.NoMemory r is cause = subst (IsBackCaused before now) (sym is) tt

module _ {T : Type 0} (g : Geometry) (content : T → Option Content) (disk : T) where
  -- where the checkpoint is back
  pub in_place : (used : ℕ → Bool) (saved : Contents) (answer : Restored) (before now : ℕ) (r : Result Bool BootFault) → IsToldAs answer r → IsCaused None before now answer → EndsBack g used saved content disk answer
      → IfOk r (λ _. HoldsOf content (IsBack g used saved) disk)
  in_place used saved restored.Nothing before now r is cause back = subst (λ (x : Result Bool BootFault). IfOk x (λ _. HoldsOf content (IsBack g used saved) disk)) (sym is) back
  in_place used saved (restored.Done entries marks) before now r is cause back = subst (λ (x : Result Bool BootFault). IfOk x (λ _. HoldsOf content (IsBack g used saved) disk)) (sym is) back
  in_place used saved (restored.Stopped writes) before now r is cause back = absurd (cc cause)
  in_place used saved (restored.BadChain fault) before now r is cause back = subst (λ (x : Result Bool BootFault). IfOk x (λ _. HoldsOf content (IsBack g used saved) disk)) (sym is) tt
  in_place used saved restored.DiskFault before now r is cause back = subst (λ (x : Result Bool BootFault). IfOk x (λ _. HoldsOf content (IsBack g used saved) disk)) (sym is) tt
  in_place used saved restored.NoMemory before now r is cause back = subst (λ (x : Result Bool BootFault). IfOk x (λ _. HoldsOf content (IsBack g used saved) disk)) (sym is) tt

  module _ (c : Content) where
    -- what stands after the restoration, by its answer
    pub backs : IsValid g → (answer : Restored) (before now : ℕ) (r : Result Bool BootFault) → IsToldAs answer r → IsCaused None before now answer → TellsHead (contents_of c.now 0) answer
        → ((log : Generation) (older : List Generation) → IsSound g (contents_of c.now) log older → TellsSound None (log ∷ older) answer)
        → ((first : ChainFault) → IsFirstFault g (contents_of c.now) first → TellsFault first answer)
        → ((log : Generation) (older : List Generation) → IsSound g (contents_of c.now) log older → LeftBy g (log ∷ older) content disk c answer)
        → ((first : ChainFault) → IsFirstFault g (contents_of c.now) first → HoldsOf content (Untouched answer c) disk)
        → (IsPlain (contents_of c.now 0) → HoldsOf content (Untouched answer c) disk)
        → ((new : Content) → content disk ≡ Some new → IsImage g.block_size g.blocks new.now)
        → ((new : Content) → content disk ≡ Some new → IsCrash c.candidates new.now ⊎ PassesOn g c.now new.now)
        → Backs g content disk c r
    backs valid restored.Nothing before now r is cause head sound fault left untouched plain image crash =
        subst (Backs g content disk c) (sym is) (tells_map content (Untouched restored.Nothing c) (PutsBack g false c) disk (λ d at h. (head, h)) (plain head))
    backs valid (restored.Done entries marks) before now r is cause head sound fault left untouched plain image crash =
        subst (Backs g content disk c) (sym is) (elim (sound_or_faulty g (contents_of c.now) valid) [
          | inr bad ↦ absurd (fault bad.0 bad.1)
          | inl good ↦
              let l = left good.0 good.1 good.2 in
              record { told = l.told; is = l.is; holds = (head, record { log = good.0; older = good.1; sound = good.2; image = image l.told l.is; now = (l.holds).now }, (l.holds).flushed) }
        ])
    backs valid (restored.Stopped writes) before now r is cause head sound fault left untouched plain image crash = absurd (cc cause)
    backs valid (restored.BadChain refused) before now r is cause head sound fault left untouched plain image crash =
        subst (Backs g content disk c) (sym is) (elim (sound_or_faulty g (contents_of c.now) valid) [
          | inl good ↦ absurd (sound good.0 good.1 good.2)
          | inr bad ↦ (head, subst (IsFirstFault g (contents_of c.now)) (sym (fault bad.0 bad.1)) bad.1, untouched bad.0 bad.1)
        ])
    backs valid restored.DiskFault before now r is cause head sound fault left untouched plain image crash = subst (Backs g content disk c) (sym is) crash
    backs valid restored.NoMemory before now r is cause head sound fault left untouched plain image crash =
        subst (Backs g content disk c) (sym is) (elim (sound_or_faulty g (contents_of c.now) valid) [
          | inl good ↦ left good.0 good.1 good.2
          | inr bad ↦ untouched bad.0 bad.1
        ])

told : (a c : Option (List ℕ)) → Some a ≡ Some c → a ≡ c
told a c is = cc is

-- a mark that was answered so
pub marks_kept : (k0 k1 : Option (Option (List ℕ))) (m0 m1 : ℕ) (p0 p1 : ℕ → Option (List ℕ) → Type 0) (m : Option ℕ) (k : Option (List ℕ)) → k0 ≡ Some k → Goes (Runs marked (Ok m) m0 m1 p0 p1) k0 k1
    → (a : Option ℕ) × Tells k a × (m ≡ marked a) × (k1 ≡ Some (text_of m))
marks_kept None k1 m0 m1 p0 p1 m k is runs = absurd (cc is)
marks_kept (Some old) None m0 m1 p0 p1 m k is runs = absurd runs
marks_kept (Some old) (Some new) m0 m1 p0 p1 m k is runs =
    let took = runs.took in
    (took.0, subst (λ (x : Option (List ℕ)). Tells x took.0) (told old k is) took.1, took.2, ap (λ (x : Option (List ℕ)). Some x) (took.3).text)

-- a bad text
pub bad_kept : (k0 k1 : Option (Option (List ℕ))) (m0 m1 : ℕ) (p0 p1 : ℕ → Option (List ℕ) → Type 0) (k : Option (List ℕ)) → k0 ≡ Some k → Goes (Runs marked (Err attempt.BadAttempts) m0 m1 p0 p1) k0 k1 → IsBad k × (k1 ≡ Some k)
bad_kept None k1 m0 m1 p0 p1 k is runs = absurd (cc is)
bad_kept (Some old) None m0 m1 p0 p1 k is runs = absurd runs
bad_kept (Some old) (Some new) m0 m1 p0 p1 k is runs =
    (subst IsBad (told old k is) (runs.took).0, ap (λ (x : Option (List ℕ)). Some x) ((runs.took).1 ∙ told old k is))

-- a mark that failed is a boot that was cut in it
pub fault_kept : (whole cut : List (List ℕ) → List (List ℕ) → Type 0) (i : List (List ℕ)) (k0 k1 : Option (Option (List ℕ))) (m0 m1 : ℕ) (p0 p1 : ℕ → Option (List ℕ) → Type 0) (k : Option (List ℕ)) → k0 ≡ Some k
    → Goes (Runs marked (Err attempt.KeeperFault) m0 m1 p0 p1) k0 k1 → (l : Option (List ℕ)) × (k1 ≡ Some l) × CutBoot whole cut i k i l
fault_kept whole cut i None k1 m0 m1 p0 p1 k is runs = absurd (cc is)
fault_kept whole cut i (Some old) None m0 m1 p0 p1 k is runs = absurd runs
fault_kept whole cut i (Some old) (Some new) m0 m1 p0 p1 k is runs =
    subst (λ (x : Option (List ℕ)). (l : Option (List ℕ)) × (Some new ≡ Some l) × CutBoot whole cut i x i l) (told old k is) (new, refl, cuts runs.took)
  where
    cuts : Took marked (Err attempt.KeeperFault) old new runs.calls → CutBoot whole cut i old i new
    cuts (inl first) = cut_at_entry whole cut i old new first.0
    cuts (inr second) = cut_in_mark whole cut i old new second.0 second.1 second.3

-- an end fails only in the removal
no_other : (m : Option ℕ) (logged : Bool) (fault : BootFault) → EndsBy m logged (Err fault) → (fault ≡ KeeperFault → ⊥) → ⊥
no_other None true fault by other = absurd (cc by)
no_other None false fault by other = absurd (cc by)
no_other (Some zero) logged fault (inl by) other = absurd (cc by)
no_other (Some zero) logged fault (inr by) other = other (cc by)
no_other (Some (suc m)) logged fault by other = absurd (cc by)

zeroth : (m : Option ℕ) (logged : Bool) (fault : BootFault) → EndsBy m logged (Err fault) → m ≡ Some 0
zeroth None true fault by = absurd (cc by)
zeroth None false fault by = absurd (cc by)
zeroth (Some zero) logged fault by = refl
zeroth (Some (suc m)) logged fault by = absurd (cc by)

removed : (m : Option ℕ) (logged : Bool) (fault : BootFault) {l new : Option (List ℕ)} → EndsBy m logged (Err fault) → KeepsBy m (Err fault) l new → (new ≡ l) ⊎ (new ≡ None)
removed None logged fault by keeps = inl keeps
removed (Some zero) logged fault by keeps = keeps
removed (Some (suc m)) logged fault by keeps = inl keeps

pub same_content : (c d : Content) → Some c ≡ Some d → c ≡ d
same_content c d is = cc is

module _ {U : Type 0} (kept : U → Option (Option (List ℕ))) (keeper : U) where
  -- a text that is told before and after a step
  pub steps : (step : Option (List ℕ) → Option (List ℕ) → Type 0) (k1 : Option (Option (List ℕ))) (l : Option (List ℕ)) → k1 ≡ Some l → Goes step k1 (kept keeper) → (new : Option (List ℕ)) × (kept keeper ≡ Some new) × step l new
  steps step k1 l is goes = go k1 (kept keeper) refl is goes
    where
      go : (o p : Option (Option (List ℕ))) → kept keeper ≡ p → o ≡ Some l → Goes step o p → (new : Option (List ℕ)) × (kept keeper ≡ Some new) × step l new
      go None p at some goes = absurd (cc some)
      go (Some o) None at some goes = absurd goes
      go (Some o) (Some p) at some goes = (p, at, subst (λ (x : Option (List ℕ)). step x p) (told o l some) goes)

module _ {T U : Type 0} (g : Geometry) (content : T → Option Content) (kept : U → Option (Option (List ℕ))) (disk : T) (keeper : U) (c : Content) (k : Option (List ℕ)) where
  -- the restoration did not end well
  pub fault_leaves : (fault : BootFault) → Backs g content disk c (Err fault) → KeepsMarked kept keeper k → BootLeaves g content kept disk keeper c k (Err fault)
  fault_leaves KeeperFault back keeps = tt
  fault_leaves BadAttempts back keeps = absurd back
  fault_leaves (BadChain refused) back keeps = (back.0, back.1, back.2, keeps)
  fault_leaves DiskFault back keeps = keeps
  fault_leaves NoMemory back keeps = (back, keeps)

  stays_cut : HoldsOf content (StaysFlushed c) disk → (new : Content) → content disk ≡ Some new → new.now ≡ c.now
  stays_cut held new is = ap (λ (x : Content). x.now) (same_content new held.told (sym is ∙ held.is)) ∙ (held.holds).0

  fault_image : IsValid g → IsImage g.block_size g.blocks c.now → IsCrash c.candidates c.now → (fault : BootFault) → Backs g content disk c (Err fault) → (new : Content) → content disk ≡ Some new
      → (i : List (List ℕ)) × IsCrash c.candidates i × ((new.now ≡ i) ⊎ (IsLogged i × PassesOn g i new.now))
  fault_image valid whole crash KeeperFault back new is = absurd back
  fault_image valid whole crash BadAttempts back new is = absurd back
  fault_image valid whole crash (BadChain refused) back new is = (c.now, crash, inl (stays_cut back.2 new is))
  fault_image valid whole crash DiskFault back new is = elim (back new is) [
    | inl left ↦ (new.now, left, inl refl)
    | inr passes ↦ elim (magic_or_plain (contents_of c.now 0)) [ inl logged ↦ (c.now, crash, inr (logged, passes)) | inr plain ↦ (c.now, crash, inl (passes.unsound (plain_unsound g valid c.now whole plain))) ]
  ]
  fault_image valid whole crash NoMemory back new is = (c.now, crash, inl (stays_cut back new is))

  pub fault_cuts : IsValid g → IsImage g.block_size g.blocks c.now → IsCrash c.candidates c.now → (fault : BootFault) → Backs g content disk c (Err fault) → KeepsMarked kept keeper k → BootIsCut g content kept disk keeper c k (Err fault)
  fault_cuts valid whole crash fault back keeps = (
    text_of (marked keeps.0),
    keeps.2,
    λ new is.
        let i = fault_image valid whole crash fault back new is in
        (i.0, i.1, cut_in_restoration (Whole g) (PassesOn g) i.0 new.now k (text_of (marked keeps.0)) keeps.0 (marked keeps.0) keeps.1 refl refl i.2),
  )

  back_of : (logged : Bool) (new : Content) → PutsBack g logged c new → BackOf (Whole g) logged c.now new.now
  back_of true new puts = (puts.0, puts.1)
  back_of false new puts = (puts.0, (puts.1).0)

  flushes : (logged : Bool) (new : Content) → PutsBack g logged c new → IsFlushed new
  flushes true new puts = puts.2
  flushes false new puts = (puts.1).1

  -- the restoration ended well, and so did the boot, or the removal failed
  pub end_leaves : (a m : Option ℕ) (logged : Bool) (r : Result Booted BootFault) (l new : Option (List ℕ)) → Tells k a → m ≡ marked a → l ≡ text_of m → HoldsOf content (PutsBack g logged c) disk → EndsBy m logged r
      → KeepsBy m r l new → kept keeper ≡ Some new → BootLeaves g content kept disk keeper c k r
  end_leaves a m logged (Ok answer) l new tells is text back by keeps at = (
    new,
    at,
    record {
      told = back.told;
      is = back.is;
      holds = (flushes logged back.told back.holds, to_end (Whole g) c.now (back.told).now k l new a m logged answer tells is text (back_of logged back.told back.holds) by keeps);
    },
  )
  end_leaves a m logged (Err KeeperFault) l new tells is text back by keeps at = tt
  end_leaves a m logged (Err BadAttempts) l new tells is text back by keeps at = absurd (no_other m logged BadAttempts by (λ e. cc e))
  end_leaves a m logged (Err (BadChain refused)) l new tells is text back by keeps at = absurd (no_other m logged (BadChain refused) by (λ e. cc e))
  end_leaves a m logged (Err DiskFault) l new tells is text back by keeps at = absurd (no_other m logged DiskFault by (λ e. cc e))
  end_leaves a m logged (Err NoMemory) l new tells is text back by keeps at = absurd (no_other m logged NoMemory by (λ e. cc e))

  -- a removal that failed is a boot that was cut in it
  pub end_cuts : IsCrash c.candidates c.now → (a m : Option ℕ) (logged : Bool) (r : Result Booted BootFault) (l new : Option (List ℕ)) → Tells k a → m ≡ marked a → l ≡ text_of m → HoldsOf content (PutsBack g logged c) disk → EndsBy m logged r
      → KeepsBy m r l new → kept keeper ≡ Some new → BootIsCut g content kept disk keeper c k r
  end_cuts crash a m logged (Ok answer) l new tells is text back by keeps at = tt
  end_cuts crash a m logged (Err fault) l new tells is text back by keeps at = (
    new,
    at,
    λ d told_d.
        let same = same_content d back.told (sym told_d ∙ back.is) in (
          c.now,
          crash,
          subst (λ (x : Content). CutBoot (Whole g) (PassesOn g) c.now k x.now new) (sym same)
              (cut_in_removal (Whole g) (PassesOn g) c.now (back.told).now k l new a m logged tells is text (zeroth m logged fault by) (back_of logged back.told back.holds) (removed m logged fault by keeps)),
        ),
  )

-- a fact that holds in any case holds where the boot ended well
pub ends_in_place : {P : Type 0} (r : Result Booted BootFault) → P → IfOk r (λ _. P)
ends_in_place (Ok answer) p = p
ends_in_place (Err fault) p = tt

few_left : (m : ℕ) (attempts : Option ℕ) → IfSome attempts (λ n. n ≤ most_attempts) → Some (suc m) ≡ marked attempts → (0 < suc m) × (suc m < most_attempts)
few_left m None small is = absurd (cc is)
few_left m (Some n) small is = let lower : suc m ≡ n - 1 = cc is in (omega arith, omega (arith, lower, small))

-- the answer is one that the marked attempts may give
pub boot_answers : (m : Option ℕ) (logged : Bool) (r : Result Booted BootFault) → IsOfStep marked m → EndsBy m logged r → IfOk r IsBootAnswer
boot_answers None true r of by = subst (λ (x : Result Booted BootFault). IfOk x IsBootAnswer) (sym by) tt
boot_answers None false r of by = subst (λ (x : Result Booted BootFault). IfOk x IsBootAnswer) (sym by) tt
boot_answers (Some zero) logged r of (inl by) = subst (λ (x : Result Booted BootFault). IfOk x IsBootAnswer) (sym by) tt
boot_answers (Some zero) logged r of (inr by) = subst (λ (x : Result Booted BootFault). IfOk x IsBootAnswer) (sym by) tt
boot_answers (Some (suc m)) logged r of by = subst (λ (x : Result Booted BootFault). IfOk x IsBootAnswer) (sym by) (few_left m of.0 of.1 of.2)
