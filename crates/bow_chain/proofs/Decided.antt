-- An image is sound, or has a first fault.
use Rattle.std.proofs.Common.{ℕ, zero, suc, ◌≡◌, ◌≢◌, ◌⊎◌, inl, inr, List, [], ◌∷◌, ◌++◌, length, Option, Some, None, arith, refl, sym, ap, ◌∙◌, subst}
use Rattle.std.proofs.lemmas.Bool.{cases_eq}
use Rattle.bow_units.specs.declared.sizes.Geometry.{Geometry}
use Rattle.bow_units.specs.Sizes.{IsValid}
use Rattle.bow_log.specs.declared.faults.LogFault.{LogFault}
use Rattle.bow_log.specs.declared.faults.LogFault.TheVariants as logs
use Rattle.bow_log.specs.Generations.{Generation, generation_of}
use Rattle.bow_log.specs.Faults.{fault_of, parts_of}
use Rattle.bow_chain.specs.Contents.{Contents}
use Rattle.bow_chain.specs.Places.{base}
use Rattle.bow_chain.specs.Sound.{SumsHold, IsSound}
use Rattle.bow_chain.specs.Faults.{SpellsAt, AreAbove, fields_fault, IsFaultBehind, IsFirstFault}
use Rattle.bow_chain.specs.declared.faults.ChainFault.{ChainFault}
use Rattle.bow_chain.specs.declared.faults.ChainFault.TheVariants.{NoLog, BadLog, BadSequence, BadSum}
use Rattle.bow_chain.proofs.Tested.{spells_without_fault, fault_at_0, tests_append, passes_sound}
use Rattle.bow_chain.proofs.Firsts.{sums_or_bad}

-- a fault of the fields is that block 0 has no magic, or another
no_magic_or : (depth : ℕ) (fault : LogFault) → ((depth ≡ 0) × (fault ≡ logs.NoMagic)) ⊎ (depth ≡ 0 → fault ≢ logs.NoMagic)
no_magic_or zero logs.NoMagic = inl (refl, refl)
no_magic_or (suc depth) logs.NoMagic = inr (λ at. absurd (omega (arith, at)))
no_magic_or depth logs.Version = inr (λ at is. cc)
no_magic_or depth logs.HeaderSize = inr (λ at is. cc)
no_magic_or depth logs.BlockSize = inr (λ at is. cc)
no_magic_or depth logs.Count = inr (λ at is. cc)
no_magic_or depth logs.Tail = inr (λ at is. cc)
no_magic_or depth logs.Sector0 = inr (λ at is. cc)
no_magic_or depth (logs.Entry i) = inr (λ at is. cc)

module _ (g : Geometry) (image : Contents) where
  Faulty : List Generation → ℕ → Type 0
  Faulty above left = (fault : ChainFault) × IsFaultBehind g image above left fault

  base_of_none : (ls : List Generation) → length ls ≡ 0 → base ls 0 ≡ 0
  base_of_none [] none = refl
  base_of_none (l ∷ ls) none = absurd (omega (arith, none))

  -- the log behind these passes the test of its fields, or does not
  log_or_fault : (above : List Generation) (left : ℕ) → ((log : Generation) × SpellsAt g (length above) (image (base above 0)) log) ⊎ Faulty above left
  unfolding Faulty
  log_or_fault above left = on (fields_fault g (length above) (image (base above 0))) refl
    where
      on : (o : Option LogFault) → fields_fault g (length above) (image (base above 0)) ≡ o → ((log : Generation) × SpellsAt g (length above) (image (base above 0)) log) ⊎ ((fault : ChainFault) × IsFaultBehind g image above left fault)
      on None is = inl (generation_of g (parts_of (image (base above 0))), spells_without_fault g (length above) (image (base above 0)) is)
      on (Some fault) is = elim (no_magic_or (length above) fault) [
        | inl none ↦
            let at_0 : fields_fault g 0 (image (base above 0)) ≡ Some fault = subst (λ d. fields_fault g d (image (base above 0)) ≡ Some fault) none.0 is in
            inr (NoLog, record { none_above = none.0; first = ap (λ x. fault_of g (image x)) (sym (base_of_none above none.0)) ∙ sym (fault_at_0 g (image (base above 0))) ∙ at_0 ∙ ap Some none.1 })
        | inr begins ↦ inr (BadLog (length above) fault, record { at_depth = refl; first = is; begins = begins })
      ]

  -- so do its sums
  sums_or_fault : (above : List Generation) (log : Generation) → SpellsAt g (length above) (image (base above 0)) log → SumsHold image (base above) log.entries ⊎ Faulty above log.sequence
  unfolding Faulty
  sums_or_fault above log s = elim (sums_or_bad image (base above) log.entries) [
    | inl hold ↦ inl hold
    | inr bad ↦ inr (BadSum (length above) bad.0 bad.1 bad.2, record { log = log; behind = record { at_depth = refl; spelled = s }; sequence = refl; sum = bad.3 })
  ]

  Decided : Type 0
  Decided = ((log : Generation) × (older : List Generation) × IsSound g image log older) ⊎ ((fault : ChainFault) × IsFirstFault g image fault)

  decided_on : IsValid g → (left : ℕ) (log : Generation) (older : List Generation) → AreAbove g image (log ∷ older) left → Decided
  unfolding Decided Faulty
  decided_on valid zero log older p = inl (log, older, passes_sound g image valid log older p)
  decided_on valid (suc left) log older p = elim (log_or_fault (log ∷ older) left) [
    | inr bad ↦ inr (bad.0, record { above = log ∷ older; left = left; tested = p; here = bad.1 })
    | inl next ↦ elim (cases_eq (next.0).sequence left) [
      | inr wrong ↦ inr (
        BadSequence (length (log ∷ older)) (next.0).sequence left,
        record { above = log ∷ older; left = left; tested = p; here = record { log = next.0; behind = record { at_depth = refl; spelled = next.1 }; deeper = omega arith; found_is = refl; wanted_is = refl; wrong = wrong } },
      )
      | inl same ↦ elim (sums_or_fault (log ∷ older) next.0 next.1) [
        | inr bad ↦ inr (bad.0, record { above = log ∷ older; left = left; tested = p; here = subst (λ n. IsFaultBehind g image (log ∷ older) n bad.0) same bad.1 })
        | inl hold ↦
            decided_on valid left log (older ++ next.0 ∷ [])
            (tests_append g image 0 (length (log ∷ older)) (λ x. x) (log ∷ older) (next.0 ∷ []) left (omega arith) (subst (λ n. AreAbove g image (log ∷ older) n) (omega arith) p) (next.1, omega (arith, same), hold, tt))
      ]
    ]
  ]

  pub sound_or_faulty : IsValid g → ((log : Generation) × (older : List Generation) × IsSound g image log older) ⊎ ((fault : ChainFault) × IsFirstFault g image fault)
  unfolding Decided Faulty
  sound_or_faulty valid = elim (log_or_fault [] 0) [
    | inr bad ↦ inr (bad.0, record { above = []; left = 0; tested = tt; here = bad.1 })
    | inl first ↦ elim (sums_or_fault [] first.0 first.1) [
      | inr bad ↦ inr (bad.0, record { above = []; left = (first.0).sequence; tested = tt; here = bad.1 })
      | inl hold ↦ decided_on valid (first.0).sequence first.0 [] (first.1, omega arith, hold, tt)
    ]
  ]
