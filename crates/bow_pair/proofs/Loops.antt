-- One call after the other on each of several things, up to the first of which it fails.
use Rattle.std.proofs.Common.{◌≡◌, ℕ, ◌+◌, ◌<◌, ◌≤◌, List, Some, length, get_or, set, refl, sym, ap, ◌∙◌, subst, arith}
use Rattle.std.specs.Prelude.{slice_get}
use native.Mathlib.Decide.{ℕ_discrete}
use Rattle.std.proofs.lemmas.Option.{slice_get-get_or, slice_get_within}
use Rattle.bow_units.specs.Causes.{Rose}
use Rattle.bow_core.specs.Views.{View}
use Rattle.bow_pair.specs.Deciding.{EachPair, FailsAt}
use Rattle.bow_pair.proofs.Stages.{put_else, put_here, some_is}

module _ {V : Type 0} (Kept Done : V → V → Type 0) (first : List V) where
  pub record SoFar (now : List V) (n : ℕ) : Type 0 where
    pub kept : EachPair Kept first now
    pub done : (k : ℕ) (v w : V) → k < n → slice_get first k ≡ Some v → slice_get now k ≡ Some w → Done v w
    pub rest : (k : ℕ) → n ≤ k → slice_get now k ≡ slice_get first k

  pub begins : ((k : ℕ) (v : V) → slice_get first k ≡ Some v → Kept v v) → SoFar first 0
  begins all = record {
    kept = λ k v w was is. subst (Kept v) (some_is v w (sym was ∙ is)) (all k v was);
    done = λ k v w below was is. absurd (omega arith);
    rest = λ k from. refl;
  }

  -- the next one, as the lists have it
  pub next : (now : List V) (n : ℕ) (x : V) → SoFar now n → length now ≡ length first → n < length first → slice_get first n ≡ Some (get_or now n x)
  next now n x so long on = sym (so.rest n (omega arith)) ∙ slice_get-get_or now n x (omega arith)

  module _ (now : List V) (n : ℕ) (x w : V) (so : SoFar now n) (long : length now ≡ length first) (test : n < length first) (kept_here : Kept (get_or now n x) w) where
    abbrev v : V
    v = get_or now n x

    on : n < length now
    on = omega (arith, long, test)

    pub was : slice_get first n ≡ Some v
    was = next now n x so long test

    kept_put : EachPair Kept first (set now n w)
    kept_put k a b at is = elim (ℕ_discrete k n) [
      | no other ↦ so.kept k a b at (sym (put_else now n k w other) ∙ is)
      | yes same ↦
          let one : v ≡ a = some_is v a (sym was ∙ ap (slice_get first) (sym same) ∙ at) in
          let two : w ≡ b = some_is w b (sym (put_here now n w on) ∙ ap (slice_get (set now n w)) (sym same) ∙ is) in
          subst (Kept a) two (subst (λ (y : V). Kept y w) one kept_here)
    ]

    pub kept_then : EachPair Kept first (set now n w)
    kept_then = kept_put

    pub behind_then : (k : ℕ) → n < k → slice_get (set now n w) k ≡ slice_get first k
    behind_then k above = put_else now n k w (λ same. omega arith) ∙ so.rest k (omega arith)

    pub here_then : slice_get (set now n w) n ≡ Some w
    here_then = put_here now n w on

    pub more : Done v w → SoFar (set now n w) (n + 1)
    more done_here = record {
      kept = kept_put;
      done = λ k a b below at is. elim (ℕ_discrete k n) [
        | no other ↦ so.done k a b (omega arith) at (sym (put_else now n k w other) ∙ is)
        | yes same ↦
            let one : v ≡ a = some_is v a (sym was ∙ ap (slice_get first) (sym same) ∙ at) in
            let two : w ≡ b = some_is w b (sym (put_here now n w on) ∙ ap (slice_get (set now n w)) (sym same) ∙ is) in
            subst (Done a) two (subst (λ (y : V). Done y w) one done_here)
      ];
      rest = λ k from. put_else now n k w (λ same. omega arith) ∙ so.rest k (omega arith);
    }

  pub all_done : (now : List V) (n : ℕ) → SoFar now n → length first ≤ n → EachPair Done first now
  all_done now n so far k v w was is = so.done k v w (let low = slice_get_within first k v was in omega (arith, low)) was is

-- it stops at the first that fails
pub stops : {D : Type 0} (faults : D → ℕ) (Kept Done : View D → View D → Type 0) (first now : List (View D)) (n : ℕ) (x w : View D) → SoFar Kept Done first now n → length now ≡ length first → n < length first
    → Kept (get_or now n x) w → Rose (faults (get_or now n x).disk) (faults w.disk) → FailsAt faults n first (set now n w)
stops faults Kept Done first now n x w so long test kept rose = record {
  on = test;
  rose = (get_or now n x, w, was Kept Done first now n x w so long test kept, here_then Kept Done first now n x w so long test kept, rose);
  behind = behind_then Kept Done first now n x w so long test kept;
}
