-- Which candidate of each block a cut takes.
use Rattle.std.specs.Prelude.{ℕ, ◌+◌, ◌-◌, ◌%◌, nat_lt, if◌then◌else◌, List, [], ◌∷◌, length, slice_index_or}
use Rattle.bow_units.specs.Draws.{next_number, drawn_value}
use Rattle.bow_disk.specs.declared.cuts.Pick.{Pick}
use Rattle.bow_disk.specs.declared.cuts.Pick.TheVariants.{Oldest, Newest, Seeded}

-- which of a block's candidates is taken
abbrev pub choice : Pick → ℕ → ℕ
choice Oldest count = 0
choice Newest count = count - 1
choice (Seeded number) count = if nat_lt 1 count then drawn_value (next_number number) % count else 0

-- how the next block is picked: only a block with more than one candidate draws
abbrev pub after_choice : Pick → ℕ → Pick
after_choice Oldest count = Oldest
after_choice Newest count = Newest
after_choice (Seeded number) count = Seeded (if nat_lt 1 count then next_number number else number)

-- the candidate that is taken of these
abbrev pub picked_candidate : Pick → List (List ℕ) → List ℕ
picked_candidate pick c = slice_index_or c (choice pick (length c)) []

-- the image that a cut leaves: of each block, from the first on, the candidate that is taken
abbrev pub picked : Pick → List (List (List ℕ)) → List (List ℕ)
picked pick [] = []
picked pick (c ∷ cs) = picked_candidate pick c ∷ picked (after_choice pick (length c)) cs

-- which candidate of each block is taken, by the number of its last one
abbrev pub choices : Pick → List ℕ → List ℕ
choices pick [] = []
choices pick (last ∷ lasts) = choice pick (last + 1) ∷ choices (after_choice pick (last + 1)) lasts
