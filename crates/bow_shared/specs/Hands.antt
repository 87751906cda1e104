-- The jobs in hand.
use Rattle.std.specs.Prelude.{◌≡◌, ℕ, List}
use mathlib.Core.Option.{some}
use lib.ListN.{get_elem?}
use Rattle.bow_tags.specs.declared.view.Held.{Held}
use Rattle.bow_tags.specs.declared.job.Job.{Job}
use Rattle.bow_tags.specs.Steps.{held}

-- the jobs that a server has, each of which its seat holds, at most one of a lane
pub record InHand {P : Type 0} (kept : List (Held P)) (jobs : List Job) : Type 0 where
  pub each : (i : ℕ) (j : Job) → get_elem? jobs i ≡ some j
      → (k : ℕ) × (a : P) × (get_elem? kept k ≡ some (held j.lane j.number a))
  pub apart : (i k : ℕ) (a b : Job) → get_elem? jobs i ≡ some a → get_elem? jobs k ≡ some b → a.lane ≡ b.lane → i ≡ k
