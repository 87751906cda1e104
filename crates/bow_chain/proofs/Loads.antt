-- What a loading has tested so far, and what it tells.
use Rattle.std.specs.Prelude.{Result, Ok, Err, MatchResult}
use Rattle.std.proofs.Common.{ℕ, suc, ◌<◌, ◌≤◌, ◌≡◌, ◌≢◌, ◌⊎◌, inl, inr, List, [], ◌∷◌, ◌++◌, length, arith, refl, sym, ◌∙◌, subst}
use Rattle.bow_units.specs.declared.sizes.Geometry.{Geometry}
use Rattle.bow_units.specs.Sizes.{IsValid}
use Rattle.bow_units.specs.Magics.{HasMagic}
use Rattle.bow_log.specs.declared.faults.LogFault.TheVariants.{NoMagic}
use Rattle.bow_log.specs.Generations.{Generation}
use Rattle.bow_chain.specs.Contents.{Contents}
use Rattle.bow_chain.specs.Places.{base}
use Rattle.bow_chain.specs.Sound.{SumsHold, IsSound}
use Rattle.bow_chain.specs.Chains.{IsSoundWith}
use Rattle.bow_chain.specs.Faults.{SpellsAt, AreAbove, IsBehind, IsFirstFault}
use Rattle.bow_chain.specs.Answers.{IsOutside, TellsBehind, TellsFirst, TellsSum, TellsMagic}
use Rattle.bow_chain.specs.declared.faults.ChainFault.{ChainFault}
use Rattle.bow_chain.specs.declared.faults.ChainFault.TheVariants.{NoLog, BadLog, BadSequence, BadSum, DiskFault, NoMemory}
use Rattle.bow_chain.proofs.Counting.{same_sound}
use Rattle.bow_chain.proofs.Tested.{not_both, fault_at_0, tests_append, sound_passes, passes_sound}
use Rattle.bow_chain.proofs.Firsts.{faulty_is_not_sound, one_fault}
use Rattle.bow_chain.proofs.OwnBlocks.{own_blocks}

module _ (g : Geometry) (image : Contents) (above : List Generation) where
  pub tells_first : (left : ℕ) (fault : ChainFault) → AreAbove g image above (suc left) → TellsBehind g image above left fault → TellsFirst g image fault
  tells_first left fault tested (inl here) = inl (record { above = above; left = left; tested = tested; here = here })
  tells_first left fault tested (inr out) = inr out

  module _ (depth : ℕ) (log : Generation) (behind : IsBehind g image above depth log) where
    pub tells_sum : AreAbove g image above (suc log.sequence) → (fault : ChainFault) → TellsSum image (base above) log.entries depth fault → TellsFirst g image fault
    tells_sum tested NoLog t = absurd t
    tells_sum tested (BadLog at fault) t = absurd t
    tells_sum tested (BadSequence at found wanted) t = absurd t
    tells_sum tested (BadSum at index found stated) t =
        inl (record { above = above; left = log.sequence; tested = tested; here = record { log = log; behind = subst (λ d. IsBehind g image above d log) (sym t.0) behind; sequence = refl; sum = t.1 } })
    tells_sum tested DiskFault t = inr tt
    tells_sum tested NoMemory t = inr tt

    pub wrong_sequence : (wanted : ℕ) → 0 < depth → AreAbove g image above (suc wanted) → log.sequence ≢ wanted → TellsFirst g image (BadSequence depth log.sequence wanted)
    wrong_sequence wanted deeper tested wrong = inl (record { above = above; left = wanted; tested = tested; here = record { log = log; behind = behind; deeper = deeper; found_is = refl; wanted_is = refl; wrong = wrong } })

    pub one_more : (wanted : ℕ) → AreAbove g image above (suc wanted) → log.sequence ≡ wanted → SumsHold image (base above) log.entries → AreAbove g image (above ++ log ∷ []) wanted
    one_more wanted tested is hold =
        tests_append g image 0 depth (λ x. x) above (log ∷ []) wanted (let at = behind.at_depth in omega (arith, at)) (subst (AreAbove g image above) (omega arith) tested) (behind.spelled, omega (arith, is), hold, tt)

-- a fault behind a log in block 0 is not that there is none
pub tells_magic : (g : Geometry) (image : Contents) (log : Generation) → SpellsAt g 0 (image 0) log → HasMagic (image 0) → (fault : ChainFault) → TellsFirst g image fault → TellsMagic (image 0) fault
tells_magic g image log spelled magic NoLog (inl f) = absurd (not_both g 0 (image 0) NoMagic log (fault_at_0 g (image 0) ∙ (f.here).first) spelled)
tells_magic g image log spelled magic NoLog (inr out) = absurd out
tells_magic g image log spelled magic (BadLog at fault) t = magic
tells_magic g image log spelled magic (BadSequence at found wanted) t = magic
tells_magic g image log spelled magic (BadSum at index found stated) t = magic
tells_magic g image log spelled magic DiskFault t = tt
tells_magic g image log spelled magic NoMemory t = tt

pub match_errs : {T E : Type 0} (r : Result T E) (P : T → Type 0) (Q R : E → Type 0) → ((e : E) → Q e → R e) → MatchResult r P Q → MatchResult r P R
match_errs (Ok x) P Q R f m = m
match_errs (Err e) P Q R f m = f e m

-- logs that pass the tests, none of which is to come
pub sound_with : (g : Geometry) (image : Contents) → IsValid g → (logs : List Generation) → 0 < length logs → AreAbove g image logs 0 → IsSoundWith g image logs
sound_with g image valid [] some tested = absurd (omega (arith, some))
sound_with g image valid (log ∷ older) some tested = passes_sound g image valid log older tested

-- and they are as the image has them
pub one_with : (g : Geometry) (image : Contents) (log : Generation) (older logs : List Generation) → IsSoundWith g image logs → IsSound g image log older → logs ≡ log ∷ older
one_with g image log older [] with sound = absurd with
one_with g image log older (other ∷ others) with sound = same_sound g image other log others older with sound

pub few_with : (g : Geometry) (image : Contents) → IsValid g → (logs : List Generation) → IsSoundWith g image logs → length logs ≤ g.blocks
few_with g image valid [] with = absurd with
few_with g image valid (log ∷ older) with = (own_blocks g image (log ∷ older) 0 valid (sound_passes g image log older with)).few

pub not_sound_with : (g : Geometry) (image : Contents) (fault : ChainFault) (logs : List Generation) → IsSoundWith g image logs → IsFirstFault g image fault → ⊥
not_sound_with g image fault [] with f = absurd with
not_sound_with g image fault (log ∷ older) with f = faulty_is_not_sound g image fault log older f with

-- of a sound image no fault is told
pub sound_outside : (g : Geometry) (image : Contents) (fault : ChainFault) (log : Generation) (older : List Generation) → TellsFirst g image fault → IsSound g image log older → IsOutside fault
sound_outside g image fault log older (inl f) sound = absurd (faulty_is_not_sound g image fault log older f sound)
sound_outside g image fault log older (inr out) sound = out

-- of any other the first one
pub same_first : (g : Geometry) (image : Contents) (fault first : ChainFault) → TellsFirst g image fault → IsFirstFault g image first → (fault ≡ first) ⊎ IsOutside fault
same_first g image fault first (inl f) is = inl (one_fault g image fault first f is)
same_first g image fault first (inr out) is = inr out
