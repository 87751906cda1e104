-- The first session of which something does not hold.
use Rattle.std.proofs.Common.{◌≡◌, ℕ, ◌+◌, List, Some, sym, ap, ◌∙◌, subst, arith}
use Rattle.std.specs.Prelude.{slice_get}
use native.Mathlib.Decide.{ℕ_discrete}
use Rattle.bow_session.specs.Parts.{Account}
use Rattle.bow_pair.specs.Playing.{EachBelow, IsFirstNot}
use Rattle.bow_pair.proofs.Stages.{some_is}

module _ (P : Account → Type 0) (accounts : List Account) (n : ℕ) (a : Account) (is : slice_get accounts n ≡ Some a) (below : EachBelow P accounts n) where
  pub first_not : (P a → ⊥) → IsFirstNot P accounts n
  first_not fails = record { before = below; account = a; account_is = is; fails = fails }

  pub one_more_holds : P a → EachBelow P accounts (n + 1)
  one_more_holds holds k b low at = elim (ℕ_discrete k n) [
    | no other ↦ below k b (omega (arith, low, other)) at
    | yes same ↦ subst P (some_is a b (sym is ∙ ap (slice_get accounts) (sym same) ∙ at)) holds
  ]
