-- When a replay makes a mark.
use Rattle.std.specs.Prelude.{ℕ, ◌+◌, ◌&&◌, ◌||◌, Bool, false, nat_lt, if◌then◌else◌, List, [], ◌∷◌, length}
use Rattle.std.specs.List.{AllByRecursion as Each}
use Rattle.bow_log.specs.Generations.{Backup, Generation}
use Rattle.bow_chain.specs.Places.{InSource, InDest}

-- a block of the source of the first was a dest of the second
abbrev pub meets : Backup → Backup → Bool
meets b other = nat_lt b.source (other.dest + other.count) && nat_lt other.dest (b.source + b.count)

-- a block of its source was a dest of one of these
abbrev pub overlaps : Backup → List Backup → Bool
overlaps b [] = false
overlaps b (other ∷ others) = meets b other || overlaps b others

-- Of backups of one log that were replayed, the last first: those that were replayed since the last mark. A mark is
-- made exactly before one that overlaps these.
abbrev pub since_mark : List Backup → List Backup
since_mark [] = []
since_mark (b ∷ bs) = if overlaps b (since_mark bs) then b ∷ [] else b ∷ since_mark bs

-- and how many marks were made
abbrev pub marks_in : List Backup → ℕ
marks_in [] = 0
marks_in (b ∷ bs) = if overlaps b (since_mark bs) then marks_in bs + 1 else marks_in bs

-- how many marks the replay of a chain makes
abbrev pub marks_of : List Generation → ℕ
marks_of [] = 0
marks_of (log ∷ older) = marks_in log.entries + marks_of older

-- how many entries a chain has
abbrev pub entries_of : List Generation → ℕ
entries_of [] = 0
entries_of (log ∷ older) = length log.entries + entries_of older

-- no source of one of these is a dest of a later one
abbrev pub AreClear : List Backup → Type 0
AreClear [] = Unit {0}
AreClear (b ∷ bs) = Each (λ other. (x : ℕ) → InSource b x → InDest other x → ⊥) bs × AreClear bs

-- the block is in the source of none of these
abbrev pub IsNoSource : List Backup → ℕ → Type 0
IsNoSource bs x = Each (λ b. InSource b x → ⊥) bs
