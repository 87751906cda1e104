-- The two numbers with which block 0 begins while it holds a log.
use Rattle.std.specs.Prelude.{◌≡◌, ◌⊎◌, ℕ, List, [], ◌∷◌, take}

-- the first bytes of a log
abbrev pub log_magic : List ℕ
log_magic = 0x42 ∷ 0x4f ∷ 0x57 ∷ 0 ∷ []

-- the first bytes of a log under restoration
abbrev pub restoring_magic : List ℕ
restoring_magic = 0x57 ∷ 0x4f ∷ 0x42 ∷ 0 ∷ []

-- these bytes begin with one of the two
abbrev pub HasMagic : List ℕ → Type 0
HasMagic bytes = (take 4 bytes ≡ log_magic) ⊎ (take 4 bytes ≡ restoring_magic)

-- a plain block begins with neither
abbrev pub IsPlain : List ℕ → Type 0
IsPlain bytes = HasMagic bytes → ⊥
