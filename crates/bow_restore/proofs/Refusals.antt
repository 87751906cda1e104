-- What is answered where there is no sound chain, and that a cut of a replay passes on what the image keeps.
use Rattle.std.proofs.Common.{ℕ, ◌≡◌, List, [], ◌∷◌, sym, subst, ◌⊎◌, inl, inr}
use Rattle.bow_units.specs.declared.sizes.Geometry.{Geometry}
use Rattle.bow_log.specs.Generations.{Generation}
use Rattle.bow_chain.specs.Contents.{Contents, contents_of}
use Rattle.bow_chain.specs.Sound.{IsSound}
use Rattle.bow_chain.specs.Kept.{kept, Holds}
use Rattle.bow_chain.specs.Chains.{IsSoundWith}
use Rattle.bow_chain.specs.Answers.{IsOutside}
use Rattle.bow_chain.specs.declared.faults.ChainFault.{ChainFault}
use Rattle.bow_chain.specs.declared.faults.ChainFault.TheVariants.{NoLog, BadLog, BadSequence, BadSum, DiskFault as ChainDiskFault, NoMemory as ChainNoMemory}
use Rattle.bow_restore.specs.Rewinds.{every, PassesOn}
use Rattle.bow_restore.specs.Answers.{TellsFault, IsRefusal}
use Rattle.bow_restore.specs.declared.answers.Restored.{Restored}
use Rattle.bow_restore.specs.declared.answers.Restored.TheVariants.{Nothing, BadChain, DiskFault, NoMemory}

refused : (first : ChainFault) (a b : Restored) → a ≡ b → TellsFault first b → TellsFault first a
refused first a b is tells = subst (TellsFault first) (sym is) tells

pub refusal_tells : (fault first : ChainFault) (answer : Restored) → IsRefusal fault answer → (fault ≡ first) ⊎ IsOutside fault → TellsFault first answer
refusal_tells NoLog first answer is (inl same) = refused first answer Nothing is (sym same)
refusal_tells NoLog first answer is (inr out) = absurd out
refusal_tells (BadLog d f) first answer is (inl same) = refused first answer (BadChain (BadLog d f)) is same
refusal_tells (BadLog d f) first answer is (inr out) = absurd out
refusal_tells (BadSequence d f w) first answer is (inl same) = refused first answer (BadChain (BadSequence d f w)) is same
refusal_tells (BadSequence d f w) first answer is (inr out) = absurd out
refusal_tells (BadSum d i f s) first answer is (inl same) = refused first answer (BadChain (BadSum d i f s)) is same
refusal_tells (BadSum d i f s) first answer is (inr out) = absurd out
refusal_tells ChainDiskFault first answer is either = refused first answer DiskFault is tt
refusal_tells ChainNoMemory first answer is either = refused first answer NoMemory is tt

sound_of : (g : Geometry) (image : Contents) (logs : List Generation) → IsSoundWith g image logs → ((log : Generation) (older : List Generation) → IsSound g image log older → ⊥) → ⊥
sound_of g image [] is none = is
sound_of g image (log ∷ older) is none = none log older is

-- what holds the checkpoint of a sound image passes it on
pub passes_on : (g : Geometry) (image other : List (List ℕ)) (logs : List Generation) → IsSoundWith g (contents_of image) logs
    → ((log : Generation) (older : List Generation) → IsSound g (contents_of image) log older → logs ≡ log ∷ older) → Holds g every (kept (contents_of image) logs) (contents_of other) → PassesOn g image other
passes_on g image other logs is one holds = record {
  sound = λ log older sound. subst (λ (ls : List Generation). Holds g every (kept (contents_of image) ls) (contents_of other)) (one log older sound) holds;
  unsound = λ none. absurd (sound_of g (contents_of image) logs is none);
}
