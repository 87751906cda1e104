-- What is known of a block, narrowed or dropped.
use Rattle.std.proofs.Common.{◌≡◌, ℕ, Bool, true, false, cond, List, Option, Some, None, arith, refl}
use Rattle.bow_flat.specs.Flat.{May, narrowed}

pub may_dropped : (t : Bool) (c : Option (List (List ℕ))) (v : List ℕ) → May c v → May (cond t None c) v
may_dropped true c v h = tt
may_dropped false c v h = h

pub may_narrowed : (c : Option (List (List ℕ))) (v : List ℕ) → May (narrowed c v) v
may_narrowed None v = tt
may_narrowed (Some cs) v = (0, omega arith, refl)

pub narrowed_none : (c : Option (List (List ℕ))) (v : List ℕ) → c ≡ None → narrowed c v ≡ None
narrowed_none None v is = refl
narrowed_none (Some cs) v is = absurd (grind arith)
