-- The number that digits spell.
use Rattle.std.specs.Prelude.{ℕ, ◌+◌, ◌*◌, ◌-◌, List, [], ◌∷◌}

-- the number that digits spell, read after those of n
abbrev pub value_of : ℕ → List ℕ → ℕ
value_of n [] = n
value_of n (digit ∷ digits) = value_of (10 * n + (digit - 48)) digits
