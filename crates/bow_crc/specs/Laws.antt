-- What follows from the definitions.
use Rattle.std.specs.Prelude.{ℕ, ◌<◌, ◌≡◌, ◌≢◌, List, ◌∷◌, ◌++◌, length}
use Rattle.std.specs.List.{AllByRecursion as Each, concat}
use Rattle.bow_crc.specs.Crc.{register, crc_of}
use Rattle.bow_crc.specs.Sums.{sum_of, blocks_of}

-- each number is a byte's
abbrev pub AreBytes : List ℕ → Type 0
AreBytes bytes = Each (λ byte. byte < 256) bytes

-- the register after two texts is the one after their joining
abbrev pub Joins : Type 0
Joins = (r : ℕ) (xs ys : List ℕ) → register r (xs ++ ys) ≡ register (register r xs) ys

-- another byte in one place, as one with a flipped bit, makes another checksum
abbrev pub ByteTells : Type 0
ByteTells = (front : List ℕ) (a b : ℕ) (back : List ℕ) → AreBytes front → a < 256 → b < 256 → AreBytes back → a ≢ b
    → crc_of (front ++ (a ∷ back)) ≢ crc_of (front ++ (b ∷ back))

-- another byte in one place of one block makes another sum
abbrev pub BlockTells : Type 0
BlockTells =
    (number : ℕ) (before after : List (List ℕ)) (front : List ℕ) (a b : ℕ) (back : List ℕ) → AreBytes front → a < 256
    → b < 256 → AreBytes back → a ≢ b
    → sum_of number (before ++ ((front ++ (a ∷ back)) ∷ after))
    ≢ sum_of number (before ++ ((front ++ (b ∷ back)) ∷ after))

-- joined blocks are cut into the same blocks
abbrev pub CutsJoined : Type 0
CutsJoined = (size : ℕ) (blocks : List (List ℕ)) → 0 < size → Each (λ block. length block ≡ size) blocks
    → blocks_of size (concat blocks) ≡ blocks
