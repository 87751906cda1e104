-- An image that has, at another route's places, what one has at the places that count is sound as it is.
use Rattle.std.proofs.Common.{ℕ, zero, suc, ◌+◌, ◌<◌, ◌≤◌, ◌≡◌, List, [], ◌∷◌, arith, refl, ap, ap₂, ◌∙◌}
use Rattle.bow_units.specs.declared.sizes.Geometry.{Geometry}
use Rattle.bow_log.specs.Generations.{Backup, Generation}
use Rattle.bow_chain.specs.Contents.{Contents, run_of}
use Rattle.bow_chain.specs.Places.{pass}
use Rattle.bow_chain.specs.Sound.{log_in, sum_at, SumsHold, IsChain}
use Rattle.bow_chain.specs.Counting.{AtSums, AtLogs}

-- equal contents make equal lists
pub run_same : (f h : Contents) (first n : ℕ) → ((x : ℕ) → first ≤ x → x < first + n → f x ≡ h x) → run_of f first n ≡ run_of h first n
run_same f h first zero same = refl
run_same f h first (suc n) same = ap₂ ◌∷◌ (same first (omega arith) (omega arith)) (run_same f h (suc first) n (λ x a b. same x (omega arith) (omega arith)))

pub sums_moved : (image other : Contents) (route other_route step : ℕ → ℕ) (es : List Backup) → AtSums (λ x. other (other_route x) ≡ image (route x)) step es → SumsHold image (λ x. route (step x)) es → SumsHold other (λ x. other_route (step x)) es
sums_moved image other route other_route step [] same sums = tt
sums_moved image other route other_route step (e ∷ es) same sums = (
  ap (sum_at e.source) (run_same _ _ e.dest e.count (λ x a b. same.0 x (record { above = a; below = b }))) ∙ sums.0,
  sums_moved image other route other_route step es same.1 sums.1,
)

pub moved : (g : Geometry) (image other : Contents) (route other_route step : ℕ → ℕ) (logs : List Generation) → AtLogs (λ x. other (other_route x) ≡ image (route x)) step logs → IsChain g image (λ x. route (step x)) logs → IsChain g other (λ x. other_route (step x)) logs
moved g image other route other_route step [] same chain = tt
moved g image other route other_route step (log ∷ older) same chain = (
  ap (log_in g) same.0 ∙ chain.0,
  chain.1,
  chain.2,
  sums_moved image other route other_route step log.entries same.1 chain.3,
  moved g image other route other_route (λ x. step (pass log.entries x)) older same.2 chain.4,
)
