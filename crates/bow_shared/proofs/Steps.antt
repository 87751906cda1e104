-- What a step keeps.
use Rattle.std.proofs.Common.{◌≡◌, ◌∙◌, ap, arith, subst, ℕ, ◌+◌, List, [], ◌∷◌, ◌++◌, length, length-append, append_assoc, Option, sym}
use Rattle.bow_units.specs.declared.sizes.Geometry.{Geometry}
use Rattle.bow_disk.specs.Disk.{Content}
use Rattle.bow_core.specs.Views.{View}
use Rattle.bow_script.specs.declared.scripts.Line.{Line}
use Rattle.bow_session.specs.Leads.{WasLoaded}
use Rattle.bow_session.specs.Sessions.{Run}
use Rattle.bow_history.specs.Promises.{held}
use Rattle.bow_history.specs.Sessions.{Turned}
use Rattle.bow_session.specs.Cuts.{GoesOn}
use Rattle.bow_session.specs.Runs.{IsRun}
use Rattle.bow_shared.specs.Desks.{GoesOnFrom, IsCounted}

-- a step goes on from where the run began
pub step_goes_on : {D : Type 0} (stated : D → Option Geometry) (content : D → Option Content) (moment : D → ℕ)
    (left : D → ℕ → List (List ℕ) → Type 0) (faults : D → ℕ) (loaded : View D → Type 0)
    (script : List (List (List Line))) (sizes : Geometry) (old new : Run D)
    → ((first : View D) → WasLoaded stated content moment left faults first old
    → WasLoaded stated content moment left faults first new)
    → new.script ≡ old.script → new.core.geometry ≡ old.core.geometry
    → GoesOnFrom stated content moment left faults loaded script sizes old
    → GoesOnFrom stated content moment left faults loaded script sizes new
step_goes_on stated content moment left faults loaded script sizes old new keeps same fits h = record {
  run = λ first l. keeps first (h.run first l);
  same = same ∙ h.same;
  fits = fits ∙ h.fits;
}

-- one more in a count that stays at its last value
held_more : (steps n : ℕ) → steps ≡ held n → held (steps + 1) ≡ held (n + 1)
held_more steps n e = omega arith

-- a step is counted
pub step_is_counted : {D : Type 0} (stated : D → Option Geometry) (content : D → Option Content) (moment : D → ℕ)
    (left : D → ℕ → List (List ℕ) → Type 0) (faults : D → ℕ) (begun : View D → List Turned → Type 0) (steps next : ℕ)
    (old new : Run D)
    → ((first : View D) (turns : List Turned) → IsRun stated content faults first turns old
    → (turn : Turned) × GoesOn stated content moment left faults first turns (turn ∷ []) old new)
    → next ≡ held (steps + 1) → IsCounted stated content faults begun steps old
    → IsCounted stated content faults begun next new
step_is_counted {D = D} stated content moment left faults begun steps next old new goes is h first turns b =
    let k = h first turns b in
    let step = goes first (turns ++ k.0) k.2 in
    let l : length (k.0 ++ step.0 ∷ []) ≡ length k.0 + 1 = length-append k.0 (step.0 ∷ []) in (
      k.0 ++ step.0 ∷ [],
      is ∙ (held_more steps (length k.0) k.1 ∙ ap held (sym l)),
      subst (λ (ts : List Turned). IsRun stated content faults first ts new) (append_assoc turns k.0 (step.0 ∷ [])) step.1.run,
    )
