-- The laws.
use Rattle.std.proofs.Common.{ℕ, ◌+◌, ◌<◌, ◌≡◌, ◌∙◌, IsTrue, List, [], ◌∷◌, take, arith, refl, sym, ap, subst, inl}
use Rattle.std.proofs.lemmas.Bool.Decides.{nat_tests}
use Rattle.std.proofs.Math.Seq.{take-length}
use native.Mathlib.Decide.{dec_le}
use Rattle.bow_units.specs.declared.sizes.Geometry.{Geometry}
use Rattle.bow_log.specs.Generations.{Backup, Generation}
use Rattle.bow_chain.specs.Contents.{contents_of}
use Rattle.bow_chain.specs.Places.{InSource, InDest}
use Rattle.bow_chain.specs.Sound.{IsSound}
use Rattle.bow_chain.specs.Kept.{kept, Holds}
use Rattle.bow_chain.proofs.Counting.{older_ok}
use Rattle.bow_restore.specs.Marks.{meets}
use Rattle.bow_restore.specs.Copies.{Copy, chain_copies, copied}
use Rattle.bow_restore.specs.Rewinds.{every, PassesOn, Reruns}
use Rattle.bow_restore.specs.Laws.{RerunsPassOn, RerunsHold, ReplayKeeps, MeetsIsExact}
use Rattle.bow_restore.proofs.Copied.{copied_chain, length-chain}
use Rattle.bow_restore.proofs.Backs.{passed_holds}

-- an image passes itself on
pub passes_self : (g : Geometry) (image : List (List ℕ)) → PassesOn g image image
passes_self g image = record { sound = λ log older s. inl (record { log = log; older = older; sound = s; kept = λ x on u. refl }); unsound = λ none. refl }

pub reruns_hold : RerunsHold
reruns_hold g used saved image last [] valid whole plain holds is = subst (λ (l : List (List ℕ)). Holds g used saved (contents_of l)) (sym is) holds
reruns_hold g used saved image last (next ∷ more) valid whole plain holds runs = reruns_hold g used saved next last more valid runs.1 plain (passed_holds g valid used saved plain image next whole runs.0 holds) runs.2

unchanged : (g : Geometry) (P : List (List ℕ) → Type 0) → ((image next : List (List ℕ)) → P image → PassesOn g image next → next ≡ image) → (image last : List (List ℕ)) (between : List (List (List ℕ))) → P image → Reruns g image between last → last ≡ image
unchanged g P same image last [] is runs = runs
unchanged g P same image last (next ∷ more) is runs = let e = same image next is runs.0 in unchanged g P same next last more (subst P (sym e) is) runs.2 ∙ e

pub reruns_pass_on : RerunsPassOn
reruns_pass_on g image last between valid whole plain runs = record {
  sound = λ log older s. reruns_hold g every (kept (contents_of image) (log ∷ older)) image last between valid whole (plain log older s) (inl (record { log = log; older = older; sound = s; kept = λ x on u. refl })) runs;
  unsound = λ none. unchanged g (λ i. (log : Generation) (older : List Generation) → IsSound g (contents_of i) log older → ⊥) (λ i next is on. on.unsound is) image last between none runs;
}

pub replay_keeps : ReplayKeeps
replay_keeps g image [] x valid sound = absurd sound
replay_keeps g image (log ∷ older) x valid sound =
    ap (λ (cs : List Copy). copied cs image x) (ap (λ n. take n (chain_copies (log ∷ older))) (sym (length-chain (log ∷ older))) ∙ take-length (chain_copies (log ∷ older)))
    ∙ copied_chain g (log ∷ older) image x ((sound.behind).valid, older_ok g valid image log older sound.behind)

meets_means : (b other : Backup) → IsTrue (meets b other) → (b.source < other.dest + other.count) × (other.dest < b.source + b.count)
meets_means b other is = (grind (arith, nat_tests), grind (arith, nat_tests))

pub meets_is_exact : MeetsIsExact
meets_is_exact g b other ok that = (λ is. there (meets_means b other is), λ w. back w.0 w.1 w.2)
  where
    there : (b.source < other.dest + other.count) × (other.dest < b.source + b.count) → (x : ℕ) × InSource b x × InDest other x
    there h = elim (dec_le b.source other.dest) [
      | yes le ↦ (other.dest, record { above = le; below = h.1 }, record { above = omega arith; below = omega (arith, that.some) })
      | no more ↦ (b.source, record { above = omega arith; below = omega (arith, ok.some) }, record { above = omega (arith, more); below = h.0 })
    ]

    back : (x : ℕ) → InSource b x → InDest other x → IsTrue (meets b other)
    back x s d = grind (arith, nat_tests)
