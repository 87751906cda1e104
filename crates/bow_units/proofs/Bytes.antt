-- Lists of bytes, by each of their places.
use Rattle.std.proofs.Common.{ℕ, zero, suc, ◌<◌, List, [], ◌∷◌, get_or, arith}
use Rattle.std.proofs.lemmas.Grind.{get_or_default_zero}
use Rattle.std.proofs.lemmas.List.Elements.{All-head, All-tail}
use Rattle.bow_units.specs.Blocks.{AreBytes}

-- what is a byte at each place is a list of bytes
pub bytes_from : (bytes : List ℕ) → ((k : ℕ) → get_or bytes k 0 < 256) → AreBytes bytes
bytes_from bytes small k d within = rw (get_or_default_zero bytes k d within) (small k)

-- and a list of bytes is one at each place
pub byte_at : (bytes : List ℕ) → AreBytes bytes → (k : ℕ) → get_or bytes k 0 < 256
byte_at [] p k = omega arith
byte_at (b ∷ bytes) p zero = All-head (λ b. b < 256) b bytes p
byte_at (b ∷ bytes) p (suc k) = byte_at bytes (All-tail (λ b. b < 256) b bytes p) k
